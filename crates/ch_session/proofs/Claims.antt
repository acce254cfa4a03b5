-- A legal history has no more claims than the grid has points.
use Rattle.std.proofs.Common.{◌≡◌, ℕ, suc, ◌+◌, ◌*◌, ◌<◌, ◌≤◌, Bool, true, false, cond, eqb, List, [], ◌∷◌, ◌++◌, length, Some, None, refl, sym, ap, subst, arith}
use Rattle.std.specs.Prelude.{filter}
use Rattle.std.specs.List.{All}
use Rattle.std.proofs.lemmas.List.Elements.{All-cons, All-nil}
use Rattle.ch_grid.specs.Grid.{sizes}
use Rattle.ch_grid.specs.Points.{count}
use Rattle.ch_rank.specs.declared.outcome.Outcome.{Outcome}
use Rattle.ch_rank.specs.declared.outcome.Costed.{Costed}
use Rattle.ch_rank.specs.Entries.{measured}
use Rattle.ch_rank.proofs.Measuring.{few_from}
use Rattle.ch_session.specs.declared.event.Event.{Event}
use Rattle.ch_session.specs.declared.event.Event.TheVariants.{Fetch, Report, Claim, Good, Refused, Leave}
use Rattle.ch_session.specs.History.{top, Theme, names_claim, is_legal}
use Rattle.ch_session.specs.Laws.{AllBelow, is_claim}
use Rattle.ch_session.proofs.Legal.{claimed_once, trials_below}

-- the claims as entries, so that those of a trial are counted as its entries are
abbrev claims_of : List Event → List Costed
claims_of [] = []
claims_of (Claim b t ∷ h) = record { trial = t; outcome = top } ∷ claims_of h
claims_of (Fetch c t v ∷ h) = claims_of h
claims_of (Report c t j x l ∷ h) = claims_of h
claims_of (Good b t ∷ h) = claims_of h
claims_of (Refused b t r ∷ h) = claims_of h
claims_of (Leave c t ∷ h) = claims_of h

as_many : (h : List Event) → length (filter is_claim h) ≡ length (claims_of h)
as_many [] = refl
as_many (Claim b t ∷ h) = ap (λ (n : ℕ). suc n) (as_many h)
as_many (Fetch c t v ∷ h) = as_many h
as_many (Report c t j x l ∷ h) = as_many h
as_many (Good b t ∷ h) = as_many h
as_many (Refused b t r ∷ h) = as_many h
as_many (Leave c t ∷ h) = as_many h

claim_case : (b : Bool) (e : Event) (o : Outcome) (xs : List Event) (ys : List Outcome) → length ys ≡ length xs → length (cond b (o ∷ ys) ys) ≡ length (cond b (e ∷ xs) xs)
claim_case true e o xs ys h = ap (λ (n : ℕ). suc n) h
claim_case false e o xs ys h = h

of_trial : (h : List Event) (t : ℕ) → length (measured (claims_of h) t) ≡ length (filter (names_claim t) h)
of_trial [] t = refl
of_trial (Claim b u ∷ h) t = claim_case (eqb u t) (Claim b u) top (filter (names_claim t) h) (measured (claims_of h) t) (of_trial h t)
of_trial (Fetch c u v ∷ h) t = of_trial h t
of_trial (Report c u j x l ∷ h) t = of_trial h t
of_trial (Good b u ∷ h) t = of_trial h t
of_trial (Refused b u r ∷ h) t = of_trial h t
of_trial (Leave c u ∷ h) t = of_trial h t

all_below : (n : ℕ) (h : List Event) → AllBelow n h → All (λ e. e.trial < n) (claims_of h)
all_below n [] a = All-nil (λ (e : Costed). e.trial < n)
all_below n (Claim b t ∷ h) a = All-cons (λ (e : Costed). e.trial < n) (record { trial = t; outcome = top }) (claims_of h) a.0 (all_below n h a.1)
all_below n (Fetch c t v ∷ h) a = all_below n h a.1
all_below n (Report c t j x l ∷ h) a = all_below n h a.1
all_below n (Good b t ∷ h) a = all_below n h a.1
all_below n (Refused b t r ∷ h) a = all_below n h a.1
all_below n (Leave c t ∷ h) a = all_below n h a.1

pub claims_few : (th : Theme) (h : List Event) → is_legal th h ≡ true → length (filter is_claim h) ≤ count (sizes th.grid)
claims_few th h l =
    let n : ℕ = count (sizes th.grid) in
    let f = few_from 1 n (claims_of h) (all_below n h (trials_below th h l)) (λ t. let o = claimed_once th h l t in omega (arith, o, of_trial h t)) in
    omega (arith, f, as_many h)
