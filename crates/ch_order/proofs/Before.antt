-- In a list in the order of its vectors, to stand before is to have the lesser vector.
use Rattle.std.proofs.Common.{◌≡◌, sym, subst, true, false, not, ◌||◌, List, [], ◌∷◌, map, inl, inr}
use Rattle.std.proofs.lemmas.Bool.{and_from, and_parts, or_left, or_right, or_cases, both_ways, not-true, not_from_false, false_from_ne_true}
use Rattle.std.specs.Ordering.{int_cmp}
use Rattle.std.specs.declared.cmp.Ordering.TheVariants.{Less}
use Rattle.std.specs.Cmp.Lexicographic.{slice_cmp}
use Rattle.ch_timed.specs.Order.{is_before}
use Rattle.ch_timed.specs.Members.{In}
use Rattle.ch_timed.specs.declared.element.Element.{Element}
use Rattle.ch_timed.specs.Timed.{step, same_step, same_identity, identities_differ}
use Rattle.ch_timed.proofs.Orders.{IsAscending, at_each, not_both, not_itself}
use Rattle.ch_order.proofs.Steps.{same_identity_self}
use Rattle.ch_order.proofs.Kept.{one_identity, new_apart}

abbrev Ascends : List Element → Type 0
Ascends = IsAscending (λ e. e.vector)

abbrev IsEarlier : Element → Element → Type 0
IsEarlier e f = slice_cmp int_cmp e.vector f.vector ≡ Less

apart_by : (list : List Element) (a b : Element) → identities_differ list ≡ true → In a list → In b list → IsEarlier b a → same_identity b.identity a.identity ≡ false
apart_by list a b d i j l = false_from_ne_true _ (λ s. not_itself (λ e. e.vector) b (subst (λ z. IsEarlier b z) (sym (one_identity list b a d j i s)) l))

pub before_from : (list : List Element) (a b : Element) → Ascends list → identities_differ list ≡ true → In a list → In b list → IsEarlier b a
    → is_before same_step (step b) (step a) (map step list) ≡ true
before_from [] a b s d i j l = absurd i
before_from (x ∷ xs) a b s d i (inl k) l =
    and_from _ _ (not_from_false _ (subst (λ z. same_identity z.identity a.identity ≡ false) (sym k) (apart_by (x ∷ xs) a b d i (inl k) l)))
    (or_left _ _ (subst (λ z. same_identity x.identity z.identity ≡ true) k (same_identity_self x.identity)))
before_from (x ∷ xs) a b s d (inl k) (inr j) l = absurd (not_both (λ e. e.vector) b a l (subst (λ z. IsEarlier z b) k (at_each _ xs s.0 b j)))
before_from (x ∷ xs) a b s d (inr i) (inr j) l =
    let p = and_parts _ _ d in
    and_from _ _ (not_from_false _ (new_apart x.identity xs a p.0 i)) (or_right _ _ (before_from xs a b s.1 p.1 i j l))

pub from_before : (list : List Element) (a b : Element) → Ascends list → identities_differ list ≡ true → In a list → In b list
    → is_before same_step (step b) (step a) (map step list) ≡ true → IsEarlier b a
from_before [] a b s d i j t = absurd i
from_before (x ∷ xs) a b s d (inl k) j t =
    absurd (both_ways _ (not-true _ (and_parts _ _ t).0) (subst (λ z. same_identity x.identity z.identity ≡ true) k (same_identity_self x.identity)))
from_before (x ∷ xs) a b s d (inr i) (inl k) t = subst (λ z. IsEarlier z a) k (at_each _ xs s.0 a i)
from_before (x ∷ xs) a b s d (inr i) (inr j) t =
    let p = and_parts _ _ d in
    elim (or_cases (same_identity x.identity b.identity) (is_before same_step (step b) (step a) (map step xs)) (and_parts (not (same_identity x.identity a.identity)) (same_identity x.identity b.identity || is_before same_step (step b) (step a) (map step xs)) t).1) as (λ _. IsEarlier b a) [
      | inl e ↦ absurd (both_ways _ (new_apart x.identity xs b p.0 j) e)
      | inr r ↦ from_before xs a b s.1 p.1 i j r
    ]
