-- The least point of a question is the least candidate, and the candidates of all accesses are those of some conflict.
use Rattle.std.proofs.Common.{◌≡◌, refl, sym, ap, ap₂, ◌∙◌, subst, ℕ, zero, suc, ◌≤◌, ℤ, Option, Some, None, List, [], ◌∷◌, ◌++◌, length, take, drop, ◌⊎◌, inl, inr, arith}
use Rattle.std.specs.Ordering.{int_cmp, ordering_then}
use Rattle.std.specs.declared.cmp.Ordering.{Ordering}
use Rattle.std.specs.declared.cmp.Ordering.TheVariants.{Less, Equal, Greater}
use Rattle.std.specs.Cmp.Lexicographic.{slice_cmp}
use Rattle.std.specs.FinMap.{int_cmp-IsAntisymmetric}
use Rattle.ch_depends.specs.declared.candidates.Candidate.{Candidate}
use Rattle.ch_depends.specs.Sought.{Conflicts, IsAsked, IsBest, IsUpTo, Reverses, SomeOf, StandForReads, lesser}
use Rattle.ch_depends.proofs.Bests.{best_of}
use Rattle.ch_meeting.specs.Meeting.{IsLeastPair, IsReversal}
use Rattle.ch_nest.specs.declared.nest.Access.{Access}
use Rattle.ch_space.specs.declared.piece.Piece.{Piece}
use Rattle.ch_space.specs.Following.{UpTo}
use Rattle.ch_space.specs.Keeps.{IsWhole, places_of}
use Rattle.ch_space.specs.Pieces.{element_at, instances}
use Rattle.ch_space.proofs.PieceElements.{cons_comes, levels_of, long, woven_same}
use Rattle.ch_timed.specs.declared.element.Element.{Element}
use Rattle.ch_timed.specs.Members.{In}
use Rattle.ch_timed.specs.Vectors.{woven}

take_drop : (n : ℕ) (xs : List ℤ) → take n xs ++ drop n xs ≡ xs
take_drop zero xs = refl
take_drop (suc n) [] = refl
take_drop (suc n) (x ∷ xs) = ap (λ t. x ∷ t) (take_drop n xs)

abbrev Comes : List ℤ → List ℤ → Type 0
Comes xs ys = slice_cmp int_cmp xs ys ≡ Less

-- two lists in two parts, the first ones of one length
abbrev Parts : List ℤ → List ℤ → List ℤ → List ℤ → Type 0
Parts us xs bs ys = Comes us xs ⊎ ((us ≡ xs) × UpTo bs ys)

cons_parts : (a x : ℤ) (us xs bs ys : List ℤ) (o : Ordering) → int_cmp a x ≡ o → ordering_then o (slice_cmp int_cmp (us ++ bs) (xs ++ ys)) ≡ Less → (Comes (us ++ bs) (xs ++ ys) → Parts us xs bs ys)
    → Parts (a ∷ us) (x ∷ xs) bs ys
cons_parts a x us xs bs ys Less c h f = inl (ap (λ o. ordering_then o (slice_cmp int_cmp us xs)) c)
cons_parts a x us xs bs ys Equal c h f = elim (f h) as (λ _. Parts (a ∷ us) (x ∷ xs) bs ys) [
  | inl l ↦ inl (ap (λ o. ordering_then o (slice_cmp int_cmp us xs)) c ∙ l)
  | inr r ↦ inr (ap₂ (λ h t. h ∷ t) (int_cmp-IsAntisymmetric a x c) r.0, r.1)
]
cons_parts a x us xs bs ys Greater c h f = cc

comes_parts : (us xs bs ys : List ℤ) → length us ≡ length xs → Comes (us ++ bs) (xs ++ ys) → Parts us xs bs ys
comes_parts [] [] bs ys l h = inr (refl, inr h)
comes_parts [] (x ∷ xs) bs ys l h = absurd (omega arith)
comes_parts (a ∷ us) [] bs ys l h = absurd (omega arith)
comes_parts (a ∷ us) (x ∷ xs) bs ys l h = cons_parts a x us xs bs ys (int_cmp a x) refl h (λ g. comes_parts us xs bs ys (omega arith) g)

equal_parts : (us xs bs ys : List ℤ) → length us ≡ length xs → us ++ bs ≡ xs ++ ys → Parts us xs bs ys
equal_parts [] [] bs ys l h = inr (refl, inl h)
equal_parts [] (x ∷ xs) bs ys l h = absurd (omega arith)
equal_parts (a ∷ us) [] bs ys l h = absurd (omega arith)
equal_parts (a ∷ us) (x ∷ xs) bs ys l h =
    let e : a ≡ x = cc in
    let t : us ++ bs ≡ xs ++ ys = cc in
    elim (equal_parts us xs bs ys (omega arith) t) as (λ _. Parts (a ∷ us) (x ∷ xs) bs ys) [
      | inl m ↦ inl (subst (λ z. Comes (a ∷ us) (z ∷ xs)) e (cons_comes a us xs m))
      | inr r ↦ inr (ap₂ (λ h t. h ∷ t) e r.0, r.1)
    ]

parts : (us xs bs ys : List ℤ) → length us ≡ length xs → UpTo (us ++ bs) (xs ++ ys) → Parts us xs bs ys
parts us xs bs ys l (inl e) = equal_parts us xs bs ys l e
parts us xs bs ys l (inr c) = comes_parts us xs bs ys l c

module _ (p q r s : Piece) (a b : Access) (wp : IsWhole p) (wq : IsWhole q) where
  vectors : (w : Piece) (is : IsWhole w) (xs ys : List ℤ) → In xs (instances w) → In ys (instances w) → slice_cmp int_cmp (element_at w xs).vector (element_at w ys).vector ≡ slice_cmp int_cmp xs ys
  vectors w is xs ys i j = woven_same (places_of w) xs ys (long w xs is i) (levels_of w xs is i ∙ sym (levels_of w ys is j))

  up_to : (c : Candidate) (us bs xs ys : List ℤ) → c.first ≡ element_at p us → c.second ≡ element_at q bs → IsReversal p q r s a b us bs → IsReversal p q r s a b xs ys
      → Parts us xs bs ys → IsUpTo c (element_at p xs) (element_at q ys)
  up_to c us bs xs ys e f m n (inl l) = inl (ap (λ z. slice_cmp int_cmp z.vector (element_at p xs).vector) e ∙ vectors p wp us xs m.0.first n.0.first ∙ l)
  up_to c us bs xs ys e f m n (inr (k, inl l)) = inr (ap (λ z. z.vector) e ∙ ap (woven (places_of p)) k, inl (ap (λ z. z.vector) f ∙ ap (woven (places_of q)) l))
  up_to c us bs xs ys e f m n (inr (k, inr l)) =
      inr (ap (λ z. z.vector) e ∙ ap (woven (places_of p)) k, inr (ap (λ z. slice_cmp int_cmp z.vector (element_at q ys).vector) f ∙ vectors q wq bs ys m.0.second n.0.second ∙ l))

  pub least_candidate : (point : List ℤ) (c : Candidate) → IsLeastPair p.levels (IsReversal p q r s a b) (Some point)
      → c.first ≡ element_at p (take p.levels point) → c.second ≡ element_at q (drop p.levels point) → IsBest (Reverses p q r s a b) (Some c)
  least_candidate point c h e f = (
    record { xs = take p.levels point; ys = drop p.levels point; reversal = h.0; is_first = sym e; is_second = sym f },
    λ x y m.
        let same : length (take p.levels point) ≡ length m.xs = levels_of p (take p.levels point) wp h.0.0.first ∙ sym (levels_of p m.xs wp m.reversal.0.first) in
        let here : UpTo (take p.levels point ++ drop p.levels point) (m.xs ++ m.ys) = subst (λ z. UpTo z (m.xs ++ m.ys)) (sym (take_drop p.levels point)) (h.1 m.xs m.ys m.reversal) in
        subst (λ z. IsUpTo c z y) m.is_first (subst (IsUpTo c (element_at p m.xs)) m.is_second
        (up_to c (take p.levels point) (drop p.levels point) m.xs m.ys e f h.0 m.reversal (parts (take p.levels point) m.xs (drop p.levels point) m.ys same here))),
  )

  pub no_candidate : IsLeastPair p.levels (IsReversal p q r s a b) None → IsBest (Reverses p q r s a b) None
  no_candidate h = λ e f m. h m.xs m.ys m.reversal

  -- a point has both parts, us long us it has the levels of the first
  pub enough : (point : List ℤ) → IsLeastPair p.levels (IsReversal p q r s a b) (Some point) → p.levels ≤ length point
  enough point h = long_take p.levels point (levels_of p (take p.levels point) wp h.0.0.first)
    where
      long_take : (n : ℕ) (xs : List ℤ) → length (take n xs) ≡ n → n ≤ length xs
      long_take zero xs e = omega arith
      long_take (suc n) [] e = absurd (omega arith)
      long_take (suc n) (x ∷ xs) e = let i = long_take n xs (omega arith) in omega arith

-- all accesses of which one is a write
module _ (p q r s : Piece) (xs ys : List Access) (ours : StandForReads p.body xs) (theirs : StandForReads q.body ys) where
  abbrev Both : Element → Element → Type 0
  Both = Reverses p q r s p.body.write q.body.write

  abbrev Later : Element → Element → Type 0
  Later = SomeOf ys (Reverses p q r s p.body.write)

  abbrev Earlier : Element → Element → Type 0
  Earlier = SomeOf xs (λ a. Reverses p q r s a q.body.write)

  split : (e f : Element) → Conflicts p q r s e f → (Both e f ⊎ Later e f) ⊎ Earlier e f
  split e f h = by h.asked
    where
      writes : h.access ≡ p.body.write → h.other ≡ q.body.write → Both e f
      writes k l = subst (λ z. Reverses p q r s z q.body.write e f) k (subst (λ z. Reverses p q r s h.access z e f) l h.reverses)

      by : IsAsked p.body q.body h.access h.other → (Both e f ⊎ Later e f) ⊎ Earlier e f
      by (inl k) = inl (inl (writes k.0 k.1))
      by (inr (inl k)) = elim (theirs.all h.other k.1) as (λ _. (Both e f ⊎ Later e f) ⊎ Earlier e f) [
        | inl l ↦ inl (inl (writes k.0 l))
        | inr i ↦ inl (inr (record { member = h.other; is_member = i; holds = subst (λ z. Reverses p q r s z h.other e f) k.0 h.reverses }))
      ]
      by (inr (inr k)) = elim (ours.all h.access k.0) as (λ _. (Both e f ⊎ Later e f) ⊎ Earlier e f) [
        | inl l ↦ inl (inl (writes l k.1))
        | inr i ↦ inr (record { member = h.access; is_member = i; holds = subst (λ z. Reverses p q r s h.access z e f) k.1 h.reverses })
      ]

  pub all_asked : (a b c : Option Candidate) → IsBest Both a → IsBest Later b → IsBest Earlier c → IsBest (Conflicts p q r s) (lesser (lesser a b) c)
  all_asked a b c m n o =
      best_of (λ e f. Both e f ⊎ Later e f) Earlier (Conflicts p q r s)
      (λ e f t. elim t as (λ _. Conflicts p q r s e f) [
        | inl h ↦ record { access = p.body.write; other = q.body.write; asked = inl (refl, refl); reverses = h }
        | inr h ↦ record { access = p.body.write; other = h.member; asked = inr (inl (refl, theirs.only h.member h.is_member)); reverses = h.holds }
      ])
      (λ e f h. record { access = h.member; other = q.body.write; asked = inr (inr (ours.only h.member h.is_member, refl)); reverses = h.holds })
      split (lesser a b) c
      (best_of Both Later (λ e f. Both e f ⊎ Later e f) (λ e f h. inl h) (λ e f h. inr h) (λ e f h. h) a b m n) o

-- What the function of one question wants.

module _ (p q r s : Piece) (a b : Access) (wp : IsWhole p) (wq : IsWhole q) (o : Option (List ℤ)) (point slice : List ℤ) (h : IsLeastPair p.levels (IsReversal p q r s a b) o) (e : o ≡ Some point) (t : slice ≡ point) where
  there : IsLeastPair p.levels (IsReversal p q r s a b) (Some slice)
  there = subst (IsLeastPair p.levels (IsReversal p q r s a b)) (e ∙ ap (λ z. Some z) (sym t)) h

  pub has_front : p.levels ≤ length slice
  has_front = enough p q r s a b wp wq slice there

  pub first_in : (xs : List ℤ) → xs ≡ take p.levels slice → In xs (instances p)
  first_in xs f = subst (λ z. In z (instances p)) (sym f) there.0.0.first

  pub second_in : (ys : List ℤ) → ys ≡ drop p.levels slice → In ys (instances q)
  second_in ys f = subst (λ z. In z (instances q)) (sym f) there.0.0.second

  pub found_candidate : (xs ys : List ℤ) (c : Candidate) → xs ≡ take p.levels slice → ys ≡ drop p.levels slice → c.first ≡ element_at p xs → c.second ≡ element_at q ys → IsBest (Reverses p q r s a b) (Some c)
  found_candidate xs ys c f g m n = least_candidate p q r s a b wp wq slice c there (m ∙ ap (element_at p) f) (n ∙ ap (element_at q) g)
