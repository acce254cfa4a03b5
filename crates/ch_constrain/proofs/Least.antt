-- What is found among the first points is the nearest admissible one of them.
use Rattle.std.proofs.Common.{◌≡◌, refl, sym, ap, ◌∙◌, subst, ℕ, zero, suc, ◌<◌, ◌≤◌, Bool, true, false, nat_lt, ◌&&◌, if◌then◌else◌, Option, Some, None, MatchOption, List, ◌⊎◌, inl, inr, arith}
use Rattle.std.proofs.lemmas.Bool.{and_cases, and_parts, both_ways, cases_order}
use Rattle.std.proofs.lemmas.Bool.Decides.{nat_tests}
use Rattle.ch_affine.specs.Form.{Form}
use Rattle.ch_grid.specs.declared.param.Param.{Param}
use Rattle.ch_grid.specs.Grid.{sizes}
use Rattle.ch_grid.specs.Points.{count, is_point, number}
use Rattle.ch_grid.proofs.PointNumbers.{number_below}
use Rattle.ch_constrain.specs.Nearest.{IsNearest, distance, is_admissible, is_nearer, nearest, nearest_of, point_at}
use Rattle.ch_constrain.proofs.Numbered.{before_less, not_apart, number_back, one_point, point_back, point_in}

below_or : (j k : ℕ) → j < suc k → (j < k) ⊎ (k ≡ j)
below_or j k h = elim (cases_order j k) as (λ _. (j < k) ⊎ (k ≡ j)) [
  | inl e ↦ inr (sym e)
  | inr r ↦ elim r as (λ _. (j < k) ⊎ (k ≡ j)) [ inl l ↦ inl l | inr l ↦ absurd (omega arith) ]
]

module _ (params : List Param) (rows : List Form) (point : List ℕ) where
  abbrev at : ℕ → List ℕ
  at k = point_at (sizes params) k

  abbrev fits : List ℕ → Bool
  fits p = is_admissible params rows p

  abbrev far : List ℕ → ℕ
  far p = distance point p

  -- it is the first of the nearest ones among the first k points
  record IsBest (k : ℕ) (best : List ℕ) : Type 0 where
    pub from : ℕ
    pub below : from < k
    pub is : at from ≡ best
    pub admissible : fits best ≡ true
    pub no_nearer : (j : ℕ) → j < k → fits (at j) ≡ true → far best ≤ far (at j)
    pub first : (j : ℕ) → j < from → fits (at j) ≡ true → far best < far (at j)

  abbrev NoneFits : ℕ → Type 0
  NoneFits k = (j : ℕ) → j < k → fits (at j) ≡ false

  more : (k : ℕ) (prev : Option (List ℕ)) (t : Bool) → (fits (at k) && is_nearer point (at k) prev) ≡ t → MatchOption prev (NoneFits k) (λ b. IsBest k b)
      → MatchOption (if t then Some (at k) else prev) (NoneFits (suc k)) (λ b. IsBest (suc k) b)
  more k None true e m =
      record {
        from = k;
        below = omega arith;
        is = refl;
        admissible = (and_parts (fits (at k)) _ e).0;
        no_nearer = λ j l a. elim (below_or j k l) as (λ _. far (at k) ≤ far (at j)) [
          | inl b ↦ absurd (both_ways _ (m j b) a)
          | inr s ↦ subst (λ z. far (at k) ≤ far (at z)) s (omega arith)
        ];
        first = λ j l a. absurd (both_ways _ (m j l) a);
      }
  more k None false e m = λ j l. elim (below_or j k l) as (λ _. fits (at j) ≡ false) [
    | inl b ↦ m j b
    | inr s ↦ subst (λ z. fits (at z) ≡ false) s (first_false (fits (at k)) e)
  ]
    where
      first_false : (t : Bool) → (t && true) ≡ false → t ≡ false
      first_false true h = h
      first_false false h = refl
  more k (Some b) true e m =
      let p = and_parts (fits (at k)) (nat_lt (far (at k)) (far b)) e in
      let less : far (at k) < far b = closer (far (at k)) (far b) p.1 in
      record {
        from = k;
        below = omega arith;
        is = refl;
        admissible = p.0;
        no_nearer = λ j l a. elim (below_or j k l) as (λ _. far (at k) ≤ far (at j)) [
          | inl i ↦ let n = m.no_nearer j i a in omega arith
          | inr s ↦ subst (λ z. far (at k) ≤ far (at z)) s (omega arith)
        ];
        first = λ j l a. let n = m.no_nearer j l a in omega arith;
      }
    where
      closer : (x y : ℕ) → nat_lt x y ≡ true → x < y
      closer x y h = grind (arith, nat_tests)
  more k (Some b) false e m =
      record {
        from = m.from;
        below = let l = m.below in omega arith;
        is = m.is;
        admissible = m.admissible;
        no_nearer = λ j l a. elim (below_or j k l) as (λ _. far b ≤ far (at j)) [
          | inl i ↦ m.no_nearer j i a
          | inr s ↦ elim (and_cases (fits (at k)) (nat_lt (far (at k)) (far b)) e) as (λ _. far b ≤ far (at j)) [
            | inl f ↦ absurd (both_ways _ f (subst (λ z. fits (at z) ≡ true) (sym s) a))
            | inr f ↦ subst (λ z. far b ≤ far (at z)) s (further (far (at k)) (far b) f)
          ]
        ];
        first = m.first;
      }
    where
      further : (x y : ℕ) → nat_lt x y ≡ false → y ≤ x
      further x y h = grind (arith, nat_tests)

  best_of : (k : ℕ) → MatchOption (nearest_of params rows point k) (NoneFits k) (λ b. IsBest k b)
  best_of zero = λ j l. absurd (none j l)
    where
      none : (j : ℕ) → j < zero → ⊥
      none j l = omega arith
  best_of (suc k) = more k (nearest_of params rows point k) (fits (at k) && is_nearer point (at k) (nearest_of params rows point k)) refl (best_of k)

  abbrev ns : List ℕ
  ns = sizes params

  told : (o : Option (List ℕ)) → MatchOption o (NoneFits (count ns)) (λ b. IsBest (count ns) b)
      → MatchOption o ((other : List ℕ) → is_point ns other ≡ true → fits other ≡ false) (λ best. IsNearest params rows point best)
  told None m = λ other i. subst (λ z. fits z ≡ false) (point_back ns other i) (m (number ns other) (number_below ns other i))
  told (Some best) m =
      let here : is_point ns best ≡ true = subst (λ z. is_point ns z ≡ true) m.is (point_in ns m.from m.below) in
      let own : number ns best ≡ m.from = ap (number ns) (sym m.is) ∙ number_back ns m.from m.below in
      record {
        in_grid = here;
        admissible = m.admissible;
        no_nearer = λ other i a. subst (λ z. far best ≤ far z) (point_back ns other i)
            (m.no_nearer (number ns other) (number_below ns other i) (subst (λ z. fits z ≡ true) (sym (point_back ns other i)) a));
        first = λ other i a same less.
            let before : number ns other < m.from = subst (λ z. number ns other < z) own (before_less ns other best i here less) in
            let n = m.first (number ns other) before (subst (λ z. fits z ≡ true) (sym (point_back ns other i)) a) in
            let l : far best < far other = subst (λ z. far best < far z) (point_back ns other i) n in
            absurd (omega arith);
      }

  pub nearest_least : MatchOption (nearest params rows point) ((other : List ℕ) → is_point ns other ≡ true → fits other ≡ false) (λ best. IsNearest params rows point best)
  nearest_least = told (nearest params rows point) (best_of (count ns))

  own_by : (o : Option (List ℕ)) → is_point ns point ≡ true → fits point ≡ true
      → MatchOption o ((other : List ℕ) → is_point ns other ≡ true → fits other ≡ false) (λ best. IsNearest params rows point best) → o ≡ Some point
  own_by None i a m = absurd (both_ways _ (m point i) a)
  own_by (Some best) i a m =
      let l = m.no_nearer point i a in
      let z = not_apart point in
      let n : distance point best ≡ 0 = omega arith in
      ap Some (sym (one_point ns point best i m.in_grid n))

  pub own_nearest : is_point ns point ≡ true → fits point ≡ true → nearest params rows point ≡ Some point
  own_nearest i a = own_by (nearest params rows point) i a nearest_least

  -- what is nearest by its definition is the least of all
  pub nearest_is : (o : Option (List ℕ)) → o ≡ nearest params rows point
      → MatchOption o ((other : List ℕ) → is_point ns other ≡ true → fits other ≡ false) (λ best. IsNearest params rows point best)
  nearest_is o e =
      subst (λ z. MatchOption z ((other : List ℕ) → is_point ns other ≡ true → fits other ≡ false) (λ best. IsNearest params rows point best)) (sym e) nearest_least
