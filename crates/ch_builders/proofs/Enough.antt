-- A builder's events are no more than twice the points of the grid.
use Rattle.std.proofs.Common.{◌≡◌, ℕ, suc, ◌+◌, ◌*◌, ◌<◌, ◌≤◌, Bool, true, false, cond, eqb, List, [], ◌∷◌, ◌++◌, length, length-append, Option, Some, None, refl, sym, ap, ◌∙◌, subst, arith}
use Rattle.std.specs.Prelude.{filter}
use Rattle.ch_builders.specs.Work.{turns_of}
use Rattle.ch_book.specs.Books.{owns, left_of}
use Rattle.ch_book.specs.declared.seat.Seat.{Seat}
use Rattle.ch_conduct.specs.Conduct.{build_event, refusal_at, Builds}
use Rattle.ch_conduct.specs.Meaning.{Judge}
use Rattle.ch_conduct.specs.Places.{events_by}
use Rattle.ch_grid.specs.Grid.{sizes}
use Rattle.ch_grid.specs.Points.{count}
use Rattle.ch_script.specs.declared.refusal.Refusal.{Refusal}
use Rattle.ch_session.proofs.Claims.{claims_few}
use Rattle.ch_session.specs.Growth.{by}
use Rattle.ch_session.specs.History.{Theme, is_legal}
use Rattle.ch_session.specs.Laws.{is_claim}
use Rattle.ch_session.specs.declared.event.Event.{Event}
use Rattle.ch_session.specs.declared.event.Event.TheVariants.{Fetch, Report, Claim, Good, Refused, Leave}
use Rattle.ch_session.specs.declared.session.Session.{Session}
use Rattle.ch_turn.specs.Holdings.{own_entries}
use Rattle.ch_turn.specs.declared.listed.Listed.{Ghosts}

no_claim : (b t : ℕ) (r : Option Refusal) → is_claim (build_event b t r) ≡ false
no_claim b t None = refl
no_claim b t (Some r) = refl

module _ (th : Theme) (judge : Judge) (b : ℕ) where
  -- one half of them are claims
  pairs : (h xs : List Event) → Builds th judge b h xs → length xs ≡ 2 * length (filter is_claim xs)
  pairs h [] d = refl
  pairs h (Claim a t ∷ []) d = absurd d
  pairs h (Claim a t ∷ x ∷ xs) d =
      let rest : length xs ≡ 2 * length (filter is_claim xs) = pairs h xs d.2 in
      let other : is_claim x ≡ false = ap is_claim d.1 ∙ no_claim b t (refusal_at th judge h t) in
      let counted : length (filter is_claim (Claim a t ∷ x ∷ xs)) ≡ suc (length (filter is_claim xs)) = ap (λ (v : Bool). suc (length (cond v (x ∷ filter is_claim xs) (filter is_claim xs)))) other in
      let long : length (Claim a t ∷ x ∷ xs) ≡ suc (suc (length xs)) = refl in
      omega (arith, rest, counted, long)
  pairs h (Fetch c u v ∷ xs) d = absurd d
  pairs h (Report c u j x l ∷ xs) d = absurd d
  pairs h (Good c u ∷ xs) d = absurd d
  pairs h (Refused c u x ∷ xs) d = absurd d
  pairs h (Leave c u ∷ xs) d = absurd d

more : (q : Bool) (e : Event) (xs ys : List Event) → length xs ≤ length ys → length (cond q (e ∷ xs) xs) ≤ length (cond q (e ∷ ys) ys)
more true e xs ys l = omega (arith, l)
more false e xs ys l = l

less : (q : Bool) (e : Event) (xs ys : List Event) → length xs ≤ length ys → length xs ≤ length (cond q (e ∷ ys) ys)
less true e xs ys l = omega (arith, l)
less false e xs ys l = l

fewer : (n : ℕ) (h : List Event) → length (filter is_claim (events_by n h)) ≤ length (filter is_claim h)
fewer n [] = omega arith
fewer n (e ∷ h) = at (eqb (by e) n) (fewer n h)
  where
    at : (p : Bool) → length (filter is_claim (events_by n h)) ≤ length (filter is_claim h) →
        length (filter is_claim (cond p (e ∷ events_by n h) (events_by n h))) ≤ length (cond (is_claim e) (e ∷ filter is_claim h) (filter is_claim h))
    at true l = more (is_claim e) e (filter is_claim (events_by n h)) (filter is_claim h) l
    at false l = less (is_claim e) e (filter is_claim (events_by n h)) (filter is_claim h) l

pub enough : (th : Theme) (judge : Judge) (b : ℕ) (h own : List Event) → is_legal th h ≡ true → events_by b h ≡ own → Builds th judge b h own → length own ≤ 2 * count (sizes th.grid)
enough th judge b h own legal is d =
    let double : length own ≡ 2 * length (filter is_claim own) = pairs th judge b h own d in
    let few : length (filter is_claim h) ≤ count (sizes th.grid) = claims_few th h legal in
    let part : length (filter is_claim own) ≤ length (filter is_claim h) = subst (λ (v : List Event). length (filter is_claim v) ≤ length (filter is_claim h)) is (fewer b h) in
    omega (arith, double, few, part)

-- a claim and a build take two turns, and are two events
module _ {V : Type 0} {G : Ghosts (Session V) Event} where
  pub turns_kept : (n : ℕ) (s y z : Seat V G) (e f : Event) → own_entries n (owns y) ≡ own_entries n (owns s) ++ e ∷ [] → own_entries n (owns z) ≡ own_entries n (owns y) ++ f ∷ [] →
      left_of y + 1 ≡ left_of s → left_of y ≤ left_of z + 1 → turns_of n s ≤ turns_of n z
  turns_kept n s y z e f p q l k =
      let one : length (own_entries n (owns y)) ≡ length (own_entries n (owns s)) + 1 = ap length p ∙ length-append (own_entries n (owns s)) (e ∷ []) in
      let two : length (own_entries n (owns z)) ≡ length (own_entries n (owns y)) + 1 = ap length q ∙ length-append (own_entries n (owns y)) (f ∷ []) in
      omega (arith, one, two, l, k)
