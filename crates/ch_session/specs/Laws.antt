-- Words for what holds of every legal history.
use Rattle.std.specs.Prelude.{◌≡◌, ◌≢◌, ℕ, ◌<◌, ◌≤◌, Bool, true, false, List, [], ◌∷◌, ◌++◌, eqb, length, filter, Some, None}
use Rattle.std.specs.List.{list_any}
use Rattle.ch_session.specs.declared.event.Event.{Event}
use Rattle.ch_session.specs.declared.event.Event.TheVariants.{Fetch, Report, Claim, Good, Refused, Leave}
use Rattle.ch_session.specs.History.{Theme, names_claim, names_claim_by, is_held_by}
use Rattle.ch_session.specs.Growth.{by}

-- no trial is claimed twice
abbrev pub ClaimedOnce : List Event → Type 0
ClaimedOnce h = (t : ℕ) → length (filter (names_claim t) h) ≤ 1

-- and none by two builders
abbrev pub OneClaimant : List Event → Type 0
OneClaimant h = (t a b : ℕ) → list_any (names_claim_by a t) h ≡ true → list_any (names_claim_by b t) h ≡ true → a ≡ b

-- no client holds two trials
abbrev pub OneLease : Theme → List Event → Type 0
OneLease th h = (c t u : ℕ) → is_held_by th h c t ≡ true → is_held_by th h c u ≡ true → t ≡ u

-- no event is of this seat
abbrev pub NoneBy : ℕ → List Event → Type 0
NoneBy n [] = Unit {0}
NoneBy n (e ∷ es) = (by e ≢ n) × NoneBy n es

-- the last event of this seat
abbrev pub IsLastBy : ℕ → Event → List Event → Type 0
IsLastBy n e h = (before : List Event) × (filter (λ d. eqb (by d) n) h ≡ before ++ e ∷ [])

-- the trials that events name are below n
abbrev pub NamesBelow : ℕ → Event → Type 0
NamesBelow n (Fetch c None v) = Unit {0}
NamesBelow n (Fetch c (Some u) v) = u < n
NamesBelow n (Report c u j x l) = u < n
NamesBelow n (Claim b u) = u < n
NamesBelow n (Good b u) = u < n
NamesBelow n (Refused b u r) = u < n
NamesBelow n (Leave c u) = u < n

abbrev pub AllBelow : ℕ → List Event → Type 0
AllBelow n [] = Unit {0}
AllBelow n (e ∷ es) = NamesBelow n e × AllBelow n es

abbrev pub is_claim : Event → Bool
is_claim (Claim b t) = true
is_claim (Fetch c t v) = false
is_claim (Report c t j x l) = false
is_claim (Good b t) = false
is_claim (Refused b t r) = false
is_claim (Leave c t) = false
