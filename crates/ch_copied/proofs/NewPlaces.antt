-- Places of the new vectors, and which of them begin others.
use Rattle.std.proofs.Common.{◌≡◌, refl, sym, ap, ap₂, ◌∙◌, subst, suc, ℤ, pos, ◌<ℤ◌, Bool, true, false, if◌then◌else◌, List, [], ◌∷◌, ◌++◌, length, take, ◌⊎◌, inl, inr, arith}
use Rattle.std.proofs.lemmas.Int.{ints}
use Rattle.std.proofs.lemmas.Bool.{cases_Bool, or_left, or_right, and_from, not_from_false}
use Rattle.std.specs.Ordering.{int_cmp, int_eq, MatchOrdering}
use Rattle.std.specs.declared.cmp.Ordering.{Ordering}
use Rattle.std.specs.declared.cmp.Ordering.TheVariants.{Less, Equal, Greater}
use Rattle.std.specs.Cmp.{int_ranked}
use Rattle.ch_timed.specs.Timed.{is_vector}
use Rattle.ch_timed.specs.Vectors.{places, begins_with}
use Rattle.ch_timed.proofs.Prefixes.{apart}
use Rattle.ch_copied.specs.Copied.{alone, placed, replaced}
use Rattle.ch_copied.proofs.Lists.{parts_same, not_empty}
use Rattle.ch_copied.proofs.Runs.{fronted, is_eq}
use Rattle.ch_copied.proofs.Sharing.{are_numbers, numbers_are}

-- it begins the other
abbrev pub Front : List ℤ → List ℤ → Type 0
Front xs ys = (more : List ℤ) × (ys ≡ xs ++ more)

pub front_of : (xs ys : List ℤ) → begins_with xs ys ≡ true → Front xs ys
front_of xs ys h = from xs ys (numbers_are xs (take (length xs) ys) h)
  where
    from : (xs ys : List ℤ) → xs ≡ take (length xs) ys → Front xs ys
    from [] ys e = (ys, refl)
    from (x ∷ xs) [] e = absurd (not_empty x xs (sym e))
    from (x ∷ xs) (y ∷ ys) e =
        let p = parts_same x y xs (take (length xs) ys) e in
        let q = from xs ys p.1 in
        (q.0, ap₂ (λ z zs. z ∷ zs) (sym p.0) q.1)

pub begins : (xs more : List ℤ) → begins_with xs (xs ++ more) ≡ true
begins xs more = are_numbers xs (take (length xs) (xs ++ more)) (takes xs)
  where
    takes : (ys : List ℤ) → ys ≡ take (length ys) (ys ++ more)
    takes [] = refl
    takes (y ∷ ys) = ap (λ zs. y ∷ zs) (takes ys)

-- pieces stand apart where what begins another is the same
pub apart_by_fronts : (ps qs : List ℤ) → (Front ps qs → ps ≡ qs) → (Front qs ps → qs ≡ ps) → apart ps qs ≡ true
apart_by_fronts ps qs f g = elim (cases_Bool (begins_with ps qs)) as (λ _. apart ps qs ≡ true) [
  | inl h ↦ or_left _ _ (are_numbers ps qs (f (front_of ps qs h)))
  | inr h ↦ elim (cases_Bool (begins_with qs ps)) as (λ _. apart ps qs ≡ true) [
    | inl k ↦ or_left _ _ (are_numbers ps qs (sym (g (front_of qs ps k))))
    | inr k ↦ or_right _ _ (and_from _ _ (not_from_false _ h) (not_from_false _ k))
  ]
]

module _ (f : ℤ → ℤ) where
  none_placed : (front : List ℤ) → placed f front [] ≡ []
  none_placed [] = refl
  none_placed (g ∷ front) = refl

  pub places_replaced : (front v : List ℤ) → places (replaced front f v) ≡ placed f front (places v)
  places_replaced [] [] = refl
  places_replaced (g ∷ front) [] = refl
  places_replaced [] (p ∷ []) = refl
  places_replaced [] (p ∷ x ∷ v) = refl
  places_replaced (g ∷ front) (p ∷ []) = elim (cases_Bool (int_eq p g)) as (λ _. p ∷ [] ≡ placed f (g ∷ front) (p ∷ [])) [
    | inl h ↦ rw h (ap (λ z. p ∷ z) (sym (none_placed front)))
    | inr h ↦ rw h refl
  ]
  places_replaced (g ∷ front) (p ∷ x ∷ v) = elim (cases_Bool (int_eq p g)) as (λ _. places (replaced (g ∷ front) f (p ∷ x ∷ v)) ≡ placed f (g ∷ front) (places (p ∷ x ∷ v))) [
    | inl h ↦ rw h (ap (λ z. p ∷ z) (places_replaced front v))
    | inr h ↦ rw h refl
  ]

  pub replaced_vector : (front v : List ℤ) → is_vector v ≡ true → is_vector (replaced front f v) ≡ true
  replaced_vector front [] h = cc
  replaced_vector [] (p ∷ []) h = refl
  replaced_vector [] (p ∷ x ∷ v) h = h
  replaced_vector (g ∷ front) (p ∷ []) h = refl
  replaced_vector (g ∷ front) (p ∷ x ∷ v) h = elim (cases_Bool (int_eq p g)) as (λ _. is_vector (replaced (g ∷ front) f (p ∷ x ∷ v)) ≡ true) [
    | inl e ↦ rw e (replaced_vector front v h)
    | inr e ↦ rw e h
  ]

  -- places that aren't longer than the front stay
  pub unplaced : (front ps m : List ℤ) → front ≡ placed f front ps ++ m → placed f front ps ≡ ps
  unplaced [] [] m e = refl
  unplaced [] (p ∷ ps) m e = absurd (not_empty (f p) (ps ++ m) e)
  unplaced (g ∷ front) [] m e = refl
  unplaced (g ∷ front) (p ∷ ps) m e =
      let q = parts_same g p front ((if int_eq p g then placed f front ps else ps) ++ m) e in
      let on : int_eq p g ≡ true = ap (λ z. int_eq z g) (sym q.0) ∙ is_eq g in
      let inner : front ≡ placed f front ps ++ m = subst (λ b. front ≡ (if b then placed f front ps else ps) ++ m) on q.1 in
      ap (λ b. p ∷ (if b then placed f front ps else ps)) on ∙ ap (λ z. p ∷ z) (unplaced front ps m inner)

  module _ (rises : (p q : ℤ) → p <ℤ q → f p <ℤ f q) where
    same_before : (p q : ℤ) → f p ≡ f q → p ≡ q
    same_before p q e = by (int_cmp p q) (int_ranked p q (int_cmp p q) refl)
      where
        by : (o : Ordering) → MatchOrdering o (p <ℤ q) (p ≡ q) (q <ℤ p) → p ≡ q
        by Less l = let r = rises p q l in absurd (omega (arith, ints))
        by Equal h = h
        by Greater l = let r = rises q p l in absurd (omega (arith, ints))

    -- what begins another after the change did so before
    pub front_before : (front ps qs : List ℤ) → Front (placed f front ps) (placed f front qs) → Front ps qs
    front_before front [] qs h = (qs, refl)
    front_before [] (p ∷ ps) [] h = absurd (not_empty (f p) (ps ++ h.0) h.1)
    front_before (g ∷ front) (p ∷ ps) [] h = absurd (not_empty p ((if int_eq p g then placed f front ps else ps) ++ h.0) h.1)
    front_before [] (p ∷ ps) (q ∷ qs) h =
        let e = parts_same (f q) (f p) qs (ps ++ h.0) h.1 in (h.0, ap₂ (λ z zs. z ∷ zs) (same_before q p e.0) e.1)
    front_before (g ∷ front) (p ∷ ps) (q ∷ qs) h =
        let e = parts_same q p (if int_eq q g then placed f front qs else qs) ((if int_eq p g then placed f front ps else ps) ++ h.0) h.1 in
        let same : (if int_eq p g then placed f front qs else qs) ≡ (if int_eq p g then placed f front ps else ps) ++ h.0 = ap (λ z. if int_eq z g then placed f front qs else qs) (sym e.0) ∙ e.1 in
        let r = inner (int_eq p g) (λ k. front_before front ps qs k) (h.0, same) in
        (r.0, ap₂ (λ z zs. z ∷ zs) e.0 r.1)
      where
        inner : (t : Bool) → (Front (placed f front ps) (placed f front qs) → Front ps qs) → Front (if t then placed f front ps else ps) (if t then placed f front qs else qs) → Front ps qs
        inner true more k = more k
        inner false more k = k

    -- places that are the same after the change were the same before
    pub placed_same : (front ps qs : List ℤ) → placed f front ps ≡ placed f front qs → ps ≡ qs
    placed_same [] [] [] e = refl
    placed_same (g ∷ front) [] [] e = refl
    placed_same [] [] (q ∷ qs) e = absurd (not_empty (f q) qs e)
    placed_same (g ∷ front) [] (q ∷ qs) e = absurd (not_empty q (if int_eq q g then placed f front qs else qs) e)
    placed_same [] (p ∷ ps) [] e = absurd (not_empty (f p) ps (sym e))
    placed_same (g ∷ front) (p ∷ ps) [] e = absurd (not_empty p (if int_eq p g then placed f front ps else ps) (sym e))
    placed_same [] (p ∷ ps) (q ∷ qs) e =
        let s = parts_same (f p) (f q) ps qs e in ap₂ (λ z zs. z ∷ zs) (same_before p q s.0) s.1
    placed_same (g ∷ front) (p ∷ ps) (q ∷ qs) e =
        let s = parts_same p q (if int_eq p g then placed f front ps else ps) (if int_eq q g then placed f front qs else qs) e in
        let same : (if int_eq p g then placed f front ps else ps) ≡ (if int_eq p g then placed f front qs else qs) = s.1 ∙ ap (λ z. if int_eq z g then placed f front qs else qs) (sym s.0) in
        ap₂ (λ z zs. z ∷ zs) s.0 (inner (int_eq p g) (placed_same front ps qs) same)
      where
        inner : (t : Bool) → (placed f front ps ≡ placed f front qs → ps ≡ qs) → (if t then placed f front ps else ps) ≡ (if t then placed f front qs else qs) → ps ≡ qs
        inner true more k = more k
        inner false more k = k

-- the places of a vector of a run
abbrev pub nothing : List ℤ → List ℤ
nothing [] = []
nothing (c ∷ cs) = pos 0 ∷ nothing cs

pub places_alone : (q : ℤ) (cs : List ℤ) → places (q ∷ alone cs) ≡ q ∷ nothing cs
places_alone q [] = refl
places_alone q (c ∷ cs) = ap (λ z. q ∷ z) (places_alone (pos 0) cs)

pub vector_alone : (q : ℤ) (cs : List ℤ) → is_vector (q ∷ alone cs) ≡ true
vector_alone q [] = refl
vector_alone q (c ∷ cs) = vector_alone (pos 0) cs

pub places_fronted : (front x : List ℤ) (q : ℤ) (r : List ℤ) → length x ≡ length front → places (fronted front x q r) ≡ front ++ places (q ∷ r)
places_fronted [] [] q r h = refl
places_fronted [] (y ∷ x) q r h = absurd (omega arith)
places_fronted (g ∷ front) [] q r h = absurd (omega arith)
places_fronted (g ∷ front) (y ∷ x) q r h = ap (λ z. g ∷ z) (places_fronted front x q r (omega arith))

pub vector_fronted : (front x : List ℤ) (q : ℤ) (r : List ℤ) → length x ≡ length front → is_vector (q ∷ r) ≡ true → is_vector (fronted front x q r) ≡ true
vector_fronted [] [] q r h v = v
vector_fronted [] (y ∷ x) q r h v = absurd (omega arith)
vector_fronted (g ∷ front) [] q r h v = absurd (omega arith)
vector_fronted (g ∷ front) (y ∷ x) q r h v = vector_fronted front x q r (omega arith) v

-- a vector with such places is one of a run
pub run_by_places : (front v : List ℤ) (q : ℤ) (zs : List ℤ) → places v ≡ front ++ q ∷ zs
    → (x : List ℤ) × ((r : List ℤ) × ((v ≡ fronted front x q r) × (length x ≡ length front)))
run_by_places [] [] q zs e = absurd (not_empty q zs e)
run_by_places [] (p ∷ []) q zs e = ([], ([], (ap (λ z. z ∷ []) (parts_same p q [] zs e).0, refl)))
run_by_places [] (p ∷ y ∷ w) q zs e = ([], (y ∷ w, (ap (λ z. z ∷ y ∷ w) (parts_same p q (places w) zs e).0, refl)))
run_by_places (g ∷ front) [] q zs e = absurd (not_empty g (front ++ q ∷ zs) e)
run_by_places (g ∷ front) (p ∷ []) q zs e = absurd (nowhere front q zs (parts_same p g [] (front ++ q ∷ zs) e).1)
  where
    nowhere : (h : List ℤ) (a : ℤ) (bs : List ℤ) → [] ≡ h ++ a ∷ bs → ⊥
    nowhere [] a bs k = not_empty a bs k
    nowhere (b ∷ h) a bs k = not_empty b (h ++ a ∷ bs) k
run_by_places (g ∷ front) (p ∷ y ∷ w) q zs e =
    let s = parts_same p g (places w) (front ++ q ∷ zs) e in
    let r = run_by_places front w q zs s.1 in
    (y ∷ r.0, (r.1.0, (ap₂ (λ a z. a ∷ y ∷ z) s.0 r.1.1.0, ap (λ n. suc n) r.1.1.1)))

-- what begins the places of a run begins its front, or goes past it
pub before_or_past : (front ps : List ℤ) (q : ℤ) (zs more : List ℤ) → front ++ q ∷ zs ≡ ps ++ more → Front ps front ⊎ ((m : List ℤ) × (ps ≡ front ++ q ∷ m))
before_or_past [] [] q zs more e = inl ([], refl)
before_or_past [] (p ∷ ps) q zs more e = let s = parts_same q p zs (ps ++ more) e in inr (ps, ap (λ z. z ∷ ps) (sym s.0))
before_or_past (g ∷ front) [] q zs more e = inl (g ∷ front, refl)
before_or_past (g ∷ front) (p ∷ ps) q zs more e =
    let s = parts_same g p (front ++ q ∷ zs) (ps ++ more) e in
    elim (before_or_past front ps q zs more s.1) as (λ _. Front (p ∷ ps) (g ∷ front) ⊎ ((m : List ℤ) × (p ∷ ps ≡ (g ∷ front) ++ q ∷ m))) [
      | inl k ↦ inl (k.0, ap₂ (λ a z. a ∷ z) s.0 k.1)
      | inr k ↦ inr (k.0, ap₂ (λ a z. a ∷ z) (sym s.0) k.1)
    ]

-- behind one front the next places are the same
pub next_same : (front : List ℤ) (a b : ℤ) (r s more : List ℤ) → front ++ b ∷ s ≡ (front ++ a ∷ r) ++ more → a ≡ b
next_same [] a b r s more e = sym (parts_same b a s (r ++ more) e).0
next_same (g ∷ front) a b r s more e = next_same front a b r s more (parts_same g g (front ++ b ∷ s) ((front ++ a ∷ r) ++ more) e).1
