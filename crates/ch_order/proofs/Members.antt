-- Two lists of distinct steps with the same members are the same steps in some order.
use Rattle.std.proofs.Common.{◌≡◌, refl, sym, subst, Bool, true, false, Option, List, [], ◌∷◌, ◌⊎◌, inl, inr}
use Rattle.std.proofs.lemmas.Bool.{cases_Bool, both_ways}
use Rattle.ch_timed.specs.Order.{without}
use Rattle.ch_order.proofs.Law as law
use Rattle.ch_timed.specs.Members.{Each, In}

at_each : {X : Type 0} (P : X → Type 0) (xs : List X) (x : X) → Each P xs → In x xs → P x
at_each P [] x h i = absurd i
at_each P (y ∷ ys) x h (inl e) = subst P e h.0
at_each P (y ∷ ys) x h (inr i) = at_each P ys x h.1 i

module _ (E C S : Type 0) (same : E → E → Bool) (conflict : E → E → Option C) (exec : E → S → S)
    (same_self : (x : E) → same x x ≡ true) (turned : (x y : E) → same x y ≡ false → same y x ≡ false) where
  abbrev IsDistinct : List E → Type 0
  IsDistinct = law.IsDistinct E C S same conflict exec

  abbrev Finds : E → List E → Type 0
  Finds = law.Finds E C S same conflict exec

  without_at : (a x : E) (xs : List E) → same x a ≡ true → without same a (x ∷ xs) ≡ xs
  without_at a x xs h = rw h refl

  without_past : (a x : E) (xs : List E) → same x a ≡ false → without same a (x ∷ xs) ≡ x ∷ without same a xs
  without_past a x xs h = rw h refl

  -- the list has no other step of an identity that it has
  only : (x a : E) (xs : List E) → Each (λ b. same b x ≡ false) xs → In a xs → same x a ≡ true → ⊥
  only x a xs d i h = both_ways _ (turned a x (at_each (λ b. same b x ≡ false) xs a d i)) h

  finds : (a : E) (new : List E) → IsDistinct new → In a new → Finds a new
  finds a [] d i = i
  finds a (x ∷ xs) d (inl e) = (λ t. e, λ f. absurd (both_ways _ f (subst (λ z. same z a ≡ true) (sym e) (same_self a))))
  finds a (x ∷ xs) d (inr i) = (λ t. absurd (only x a xs d.0 i t), λ f. finds a xs d.1 i)

  each_without : (P : E → Type 0) (a : E) (new : List E) → Each P new → Each P (without same a new)
  each_without P a [] h = tt
  each_without P a (x ∷ xs) h = elim (cases_Bool (same x a)) [
    | inl e ↦ rw (without_at a x xs e) h.1
    | inr e ↦ rw (without_past a x xs e) (h.0, each_without P a xs h.1)
  ]

  distinct_without : (a : E) (new : List E) → IsDistinct new → IsDistinct (without same a new)
  distinct_without a [] d = tt
  distinct_without a (x ∷ xs) d = elim (cases_Bool (same x a)) [
    | inl e ↦ rw (without_at a x xs e) d.1
    | inr e ↦ rw (without_past a x xs e) (each_without (λ b. same b x ≡ false) a xs d.0, distinct_without a xs d.1)
  ]

  in_without : (a b : E) (new : List E) → same b a ≡ false → In b new → In b (without same a new)
  in_without a b [] n i = i
  in_without a b (x ∷ xs) n i = elim (cases_Bool (same x a)) as (λ _. In b (without same a (x ∷ xs))) [
    | inl e ↦ rw (without_at a x xs e) (elim i as (λ _. In b xs) [
      | inl k ↦ absurd (both_ways _ n (subst (λ z. same z a ≡ true) k e))
      | inr j ↦ j
    ])
    | inr e ↦ rw (without_past a x xs e) (elim i as (λ _. (x ≡ b) ⊎ In b (without same a xs)) [
      | inl k ↦ inl k
      | inr j ↦ inr (in_without a b xs n j)
    ])
  ]

  from_without : (a b : E) (new : List E) → IsDistinct new → In a new → In b (without same a new) → In b new × (same b a ≡ false)
  from_without a b [] d i j = absurd j
  from_without a b (x ∷ xs) d i j = elim (cases_Bool (same x a)) as (λ _. In b (x ∷ xs) × (same b a ≡ false)) [
    | inl e ↦
        let k : In b xs = subst (In b) (without_at a x xs e) j in
        let here : x ≡ a = elim i as (λ _. x ≡ a) [ inl s ↦ s | inr m ↦ absurd (only x a xs d.0 m e) ] in
        (inr k, subst (λ z. same b z ≡ false) here (at_each (λ c. same c x ≡ false) xs b d.0 k))
    | inr e ↦
        let k : In b (x ∷ without same a xs) = subst (In b) (without_past a x xs e) j in
        elim k as (λ _. In b (x ∷ xs) × (same b a ≡ false)) [
          | inl s ↦ (inl s, subst (λ z. same z a ≡ false) s e)
          | inr m ↦
              let i2 : In a xs = elim i as (λ _. In a xs) [ inl s ↦ absurd (both_ways _ e (subst (λ z. same x z ≡ true) s (same_self x))) | inr t ↦ t ] in
              let r = from_without a b xs d.1 i2 m in (inr r.0, r.1)
        ]
  ]

  nothing : (xs : List E) → ((a : E) → In a xs → ⊥) → xs ≡ []
  nothing [] h = refl
  nothing (x ∷ xs) h = absurd (h x (inl refl))

  pub has_same : (old new : List E) → IsDistinct old → IsDistinct new → ((a : E) → In a old → In a new) → ((a : E) → In a new → In a old)
      → law.HasSame E C S same conflict exec old new
  has_same [] new d e f g = nothing new g
  has_same (a ∷ rest) new d e f g =
      let i = f a (inl refl) in (
        finds a new e i,
        has_same rest (without same a new) d.1 (distinct_without a new e)
            (λ b j. in_without a b new (at_each (λ c. same c a ≡ false) rest b d.0 j) (f b (inr j)))
            (λ b j. let r = from_without a b new e i j in
            elim (g b r.0) as (λ _. In b rest) [
              | inl s ↦ absurd (both_ways _ r.1 (subst (λ z. same z a ≡ true) s (same_self a)))
              | inr m ↦ m
            ]),
      )
