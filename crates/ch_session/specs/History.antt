-- What a session's history says, and which histories are legal.
use Rattle.std.specs.Prelude.{◌≡◌, ℕ, zero, suc, ◌+◌, ◌-◌, eqb, nat_lt, Bool, true, false, not, ◌&&◌, ◌||◌, List, [], ◌∷◌, ◌++◌, length, filter, slice_index_or, Option, Some, None, is_some, if◌then◌else◌}
use Rattle.std.specs.List.{list_any}
use Rattle.ch_grid.specs.declared.param.Param.{Param}
use Rattle.ch_nest.specs.LoopNest.{LoopNest}
use Rattle.ch_rank.specs.declared.outcome.Outcome.{Outcome}
use Rattle.ch_rank.specs.declared.outcome.Outcome.TheVariants.{Cost}
use Rattle.ch_rank.specs.declared.outcome.Outcome.TheVariants as outcomes
use Rattle.ch_rank.specs.declared.outcome.Costed.{Costed}
use Rattle.ch_rank.specs.Search.{Game, point_at}
use Rattle.ch_rank.specs.Ranks.{versions, last_of}
use Rattle.ch_rank.specs.Entries.{Searched, played, known, measured, least_from, completed, are_legal}
use Rattle.ch_script.specs.Recipes.{RecipeParts}
use Rattle.ch_session.specs.declared.event.Event.{Event}
use Rattle.ch_session.specs.declared.event.Event.TheVariants.{Fetch, Report, Claim, Good, Refused, Leave}
use Rattle.ch_session.specs.Making.{Making}

-- a refused point is above every cost
abbrev pub top : Outcome
top = outcomes.Refused

-- ---- entries and news

abbrev pub entry_of : Event → List Costed
entry_of (Fetch c t v) = []
entry_of (Report c t j x l) = record { trial = t; outcome = Cost x } ∷ []
entry_of (Claim b t) = []
entry_of (Good b t) = []
entry_of (Refused b t r) = record { trial = t; outcome = top } ∷ []
entry_of (Leave c t) = []

abbrev pub entries : List Event → List Costed
entries [] = []
entries (e ∷ es) = entry_of e ++ entries es

-- the trial that the event completes, with its outcome: a report completes it where no measurement is left
abbrev pub completing : List Event → Event → List Costed
completing before (Fetch c t v) = []
completing before (Report c t j x l) = if eqb l 0 then record { trial = t; outcome = least_from top (measured (entries before ++ record { trial = t; outcome = Cost x } ∷ []) t) } ∷ [] else []
completing before (Claim b t) = []
completing before (Good b t) = []
completing before (Refused b t r) = record { trial = t; outcome = top } ∷ []
completing before (Leave c t) = []

abbrev pub completing_after : List Event → List Event → List Costed
completing_after before [] = []
completing_after before (e ∷ es) = completing before e ++ completing_after (before ++ e ∷ []) es

-- good builds, leaves, and reports that leave their trial pending
abbrev pub counts : Event → Bool
counts (Fetch c t v) = false
counts (Report c t j x l) = not (eqb l 0)
counts (Claim b t) = false
counts (Good b t) = true
counts (Refused b t r) = false
counts (Leave c t) = true

abbrev pub news : List Event → ℕ
news h = length (filter counts h) + length (versions (completing_after [] h))

-- ---- what events say of a trial

abbrev pub names_claim : ℕ → Event → Bool
names_claim t (Claim b u) = eqb u t
names_claim t (Fetch c u v) = false
names_claim t (Report c u j x l) = false
names_claim t (Good b u) = false
names_claim t (Refused b u r) = false
names_claim t (Leave c u) = false

abbrev pub names_claim_by : ℕ → ℕ → Event → Bool
names_claim_by a t (Claim b u) = eqb u t && eqb b a
names_claim_by a t (Fetch c u v) = false
names_claim_by a t (Report c u j x l) = false
names_claim_by a t (Good b u) = false
names_claim_by a t (Refused b u r) = false
names_claim_by a t (Leave c u) = false

abbrev pub names_good : ℕ → Event → Bool
names_good t (Good b u) = eqb u t
names_good t (Fetch c u v) = false
names_good t (Report c u j x l) = false
names_good t (Claim b u) = false
names_good t (Refused b u r) = false
names_good t (Leave c u) = false

-- a good or refused build
abbrev pub names_end : ℕ → Event → Bool
names_end t (Good b u) = eqb u t
names_end t (Refused b u r) = eqb u t
names_end t (Fetch c u v) = false
names_end t (Report c u j x l) = false
names_end t (Claim b u) = false
names_end t (Leave c u) = false

-- who holds the trial, by the last fetch, report or leave that names it
abbrev pub holder_after : ℕ → Option ℕ → Event → Option ℕ
holder_after t o (Fetch c None v) = o
holder_after t o (Fetch c (Some u) v) = if eqb u t then Some c else o
holder_after t o (Report c u j x l) = if eqb u t then None else o
holder_after t o (Leave c u) = if eqb u t then None else o
holder_after t o (Claim b u) = o
holder_after t o (Good b u) = o
holder_after t o (Refused b u r) = o

abbrev pub holder_from : ℕ → Option ℕ → List Event → Option ℕ
holder_from t o [] = o
holder_from t o (e ∷ es) = holder_from t (holder_after t o e) es

-- ---- trials of a session with this theme after this history

pub record Theme : Type 0 where
  pub nest : LoopNest
  pub recipe : RecipeParts
  pub grid : List Param
  pub repeat : ℕ

-- the least number below n, from t on, that passes the test
abbrev pub least : (ℕ → Bool) → ℕ → ℕ → Option ℕ
least p zero t = None
least p (suc n) t = if p t then Some t else least p n (suc t)

abbrev pub or_else : Option ℕ → Option ℕ → Option ℕ
or_else (Some t) o = Some t
or_else None o = o

abbrev pub is_client : ℕ → Option ℕ → Bool
is_client c None = false
is_client c (Some d) = eqb d c

abbrev pub same_option : Option ℕ → Option ℕ → Bool
same_option None None = true
same_option None (Some b) = false
same_option (Some a) None = false
same_option (Some a) (Some b) = eqb a b

abbrev pub searched : Theme → List Event → Searched
searched th h = record { grid = th.grid; repeat = th.repeat; entries = entries h; spare = 0 }

abbrev pub game : Theme → List Event → Game
game th h = played (searched th h)

abbrev pub trials : Theme → List Event → ℕ
trials th h = length (game th h).points

module _ (th : Theme) (h : List Event) where
  abbrev pub is_pending : ℕ → Bool
  is_pending t = nat_lt t (trials th h) && not (is_some (known th.repeat (entries h) t))

  abbrev pub is_open : ℕ → Bool
  is_open t = is_pending t && not (list_any (names_claim t) h)

  abbrev pub is_claimed_by : ℕ → ℕ → Bool
  is_claimed_by b t = list_any (names_claim_by b t) h && not (list_any (names_end t) h)

  abbrev pub is_built : ℕ → Bool
  is_built t = list_any (names_good t) h && is_pending t

  abbrev pub is_held_by : ℕ → ℕ → Bool
  is_held_by c t = is_built t && is_client c (holder_from t None h)

  abbrev pub is_free : ℕ → Bool
  is_free t = is_built t && not (is_some (holder_from t None h))

  abbrev pub first_trial : (ℕ → Bool) → Option ℕ
  first_trial p = least p (trials th h) 0

  abbrev pub claim_gives : Option ℕ
  claim_gives = first_trial is_open

  abbrev pub holds : ℕ → Option ℕ
  holds c = first_trial (is_held_by c)

  -- the trial that a fetch gives, or none for the current version
  abbrev pub fetch_gives : ℕ → Option ℕ
  fetch_gives c = or_else (holds c) (first_trial is_free)

  abbrev pub version_now : ℕ
  version_now = length (versions (completed th.repeat (entries h)))

  -- how many measurements are missing after one more
  abbrev pub left_after : ℕ → ℕ
  left_after t = th.repeat - (length (measured (entries h) t) + 1)

  -- the event may follow this history
  abbrev pub may_follow : Event → Bool
  may_follow (Fetch c t v) = same_option t (fetch_gives c) && eqb v (if is_some t then 0 else version_now)
  may_follow (Report c t j x l) = is_held_by c t && eqb l (left_after t)
  may_follow (Claim b t) = same_option (Some t) claim_gives
  may_follow (Good b t) = is_claimed_by b t
  may_follow (Refused b t r) = is_claimed_by b t
  may_follow (Leave c t) = is_held_by c t

-- each event is one that may follow those before it
abbrev pub follow : Theme → List Event → List Event → Bool
follow th before [] = true
follow th before (e ∷ es) = may_follow th before e && follow th (before ++ e ∷ []) es

-- and the entries are legal in the search
abbrev pub is_legal : Theme → List Event → Bool
is_legal th h = follow th [] h && are_legal th.grid th.repeat (entries h)
