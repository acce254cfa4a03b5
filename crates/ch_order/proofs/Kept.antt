-- A change of vectors alone keeps the identities distinct, and the steps.
use Rattle.std.proofs.Common.{◌≡◌, refl, sym, ap, ◌∙◌, subst, true, false, None, List, [], ◌∷◌, map, inl, inr}
use Rattle.std.proofs.lemmas.Bool.{and_from, and_parts, both_ways, not-true, not_from_false, false_from_ne_true}
use Rattle.std.specs.Ordering.{int_cmp}
use Rattle.std.specs.declared.cmp.Ordering.TheVariants.{Less}
use Rattle.std.specs.Cmp.Lexicographic.{slice_cmp}
use Rattle.ch_order.specs.Legal.{AreAmong, IsLegal}
use Rattle.ch_timed.specs.Conflict.{reversed}
use Rattle.ch_timed.specs.Members.{In}
use Rattle.ch_timed.specs.declared.element.Identity.{Identity}
use Rattle.ch_timed.specs.declared.element.Element.{Element}
use Rattle.ch_timed.specs.Timed.{step, same_identity, is_new, identities_differ}
use Rattle.ch_timed.proofs.Orders.{IsAscending, at_each, not_itself, map_in, in_map}
use Rattle.ch_order.proofs.Steps.{same_turned}

abbrev Ascends : List Element → Type 0
Ascends = IsAscending (λ e. e.vector)

new_in : (i : Identity) (xs : List Element) → ((y : Element) → In y xs → same_identity i y.identity ≡ false) → is_new i xs ≡ true
new_in i [] h = refl
new_in i (x ∷ xs) h = and_from _ _ (not_from_false _ (h x (inl refl))) (new_in i xs (λ y j. h y (inr j)))

pub differ_from : (list : List Element) → Ascends list → ((e f : Element) → In e list → In f list → same_identity e.identity f.identity ≡ true → e ≡ f) → identities_differ list ≡ true
differ_from [] a h = refl
differ_from (x ∷ xs) a h =
    and_from _ _ (new_in x.identity xs (λ y j. false_from_ne_true _ (λ s.
    let e : x ≡ y = h x y (inl refl) (inr j) s in
    not_itself (λ z. z.vector) x (subst (λ z. slice_cmp int_cmp x.vector z.vector ≡ Less) (sym e) (at_each _ xs a.0 y j)))))
    (differ_from xs a.1 (λ e f i j. h e f (inr i) (inr j)))

pub new_apart : (i : Identity) (xs : List Element) (y : Element) → is_new i xs ≡ true → In y xs → same_identity i y.identity ≡ false
new_apart i [] y h j = absurd j
new_apart i (x ∷ xs) y h (inl k) = subst (λ z. same_identity i z.identity ≡ false) k (not-true _ (and_parts _ _ h).0)
new_apart i (x ∷ xs) y h (inr j) = new_apart i xs y (and_parts _ _ h).1 j

pub one_identity : (list : List Element) (e f : Element) → identities_differ list ≡ true → In e list → In f list → same_identity e.identity f.identity ≡ true → e ≡ f
one_identity [] e f h i j s = absurd i
one_identity (x ∷ xs) e f h (inl k) (inl l) s = sym k ∙ l
one_identity (x ∷ xs) e f h (inl k) (inr j) s = absurd (both_ways _ (new_apart x.identity xs f (and_parts _ _ h).0 j) (subst (λ z. same_identity z.identity f.identity ≡ true) (sym k) s))
one_identity (x ∷ xs) e f h (inr i) (inl l) s =
    absurd (both_ways _ (same_turned x.identity e.identity (new_apart x.identity xs e (and_parts _ _ h).0 i)) (subst (λ z. same_identity e.identity z.identity ≡ true) (sym l) s))
one_identity (x ∷ xs) e f h (inr i) (inr j) s = one_identity xs e f (and_parts _ _ h).1 i j s

-- new has the images of the members of old
module _ (old new : List Element) (g : Element → Element) (up : Ascends new) (differ : identities_differ old ≡ true)
    (keeps : (e : Element) → step (g e) ≡ step e) (there : (e : Element) → In e old → In (g e) new) (back : (f : Element) → In f new → (e : Element) × (In e old × (g e ≡ f))) where
  identity_of : (e f : Element) → g e ≡ f → f.identity ≡ e.identity
  identity_of e f h = ap (λ z. z.identity) (sym h) ∙ ap (λ s. s.identity) (keeps e)

  pub differ_kept : identities_differ new ≡ true
  differ_kept = differ_from new up (λ e f i j s.
      let a = back e i in
      let b = back f j in
      let t : same_identity a.0.identity b.0.identity ≡ true =
      subst (λ z. same_identity z b.0.identity ≡ true) (identity_of a.0 e a.1.1) (subst (λ z. same_identity e.identity z ≡ true) (identity_of b.0 f b.1.1) s) in
      sym a.1.1 ∙ ap g (one_identity old a.0 b.0 differ a.1.0 b.1.0 t) ∙ b.1.1)

  pub steps_kept : AreAmong old new
  steps_kept s i =
      let e = in_map step old s i in
      subst (λ z. In z (map step new)) (keeps e.0 ∙ e.1.1) (map_in step new (g e.0) (there e.0 e.1.0))

  pub no_others : AreAmong new old
  no_others s i =
      let f = in_map step new s i in
      let e = back f.0 f.1.0 in
      subst (λ z. In z (map step old)) (sym (keeps e.0) ∙ ap step e.1.1 ∙ f.1.1) (map_in step old e.0 e.1.0)

  -- so the new list is legal where no pair is reversed
  pub kept_legal : reversed old new ≡ None → IsLegal old new
  kept_legal h = record { old_once = differ; new_once = differ_kept; kept = steps_kept; no_others = no_others; in_turn = h }
