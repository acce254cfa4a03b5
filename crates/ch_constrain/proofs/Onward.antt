-- One point after another: the next one, its number and its values.
use Rattle.std.proofs.Common.{◌≡◌, refl, sym, ap, ap₂, ◌∙◌, subst, ℕ, zero, suc, ◌+◌, ◌-◌, ◌*◌, ◌^◌, ◌<◌, ◌≤◌, ◌≢◌, ℤ, unsigned_abs, nat_lt, true, IfSome, Option, Some, None, List, [], ◌∷◌, length, drop, get_or, set, slice_get, add-one, drop-cons, length-set, get_or-set_other, arith}
use Rattle.std.specs.List.{All}
use Rattle.std.proofs.Math.ListN.{drop_of_length-le}
use Rattle.std.proofs.lemmas.Bool.{and_from, and_parts}
use Rattle.std.proofs.lemmas.Bool.Decides.{nat_tests}
use Rattle.std.proofs.lemmas.List.{drop-set, get_or-map}
use Rattle.ch_affine.specs.Affine.{IsAtMost}
use Rattle.ch_grid.specs.declared.param.Param.{Param}
use Rattle.ch_grid.specs.Grid.{is_within, size, sizes, value_at}
use Rattle.ch_grid.specs.Points.{count, is_point, number}
use Rattle.ch_grid.proofs.PointNumbers.{below_of, same_length}
use Rattle.ch_grid.proofs.Sizes.{good_at, size_few, within_facts}
use Rattle.ch_constrain.specs.Nearest.{values}
use Rattle.ch_constrain.proofs.Coordinates.{if_some, length_of, no_param, size_at}
use Rattle.ch_constrain.proofs.Values.{values_small}

less : (i j : ℕ) → i < j → nat_lt i j ≡ true
less i j l = grind (arith, nat_tests)

-- another index at k
pub point_set : (ns xs : List ℕ) (k x : ℕ) → is_point ns xs ≡ true → x < get_or ns k 0 → is_point ns (set xs k x) ≡ true
point_set [] [] k x h l = refl
point_set [] (y ∷ ys) k x h l = absurd (cc)
point_set (n ∷ ns) [] k x h l = absurd (cc)
point_set (n ∷ ns) (y ∷ ys) zero x h l = and_from _ _ (less x n l) (and_parts (nat_lt y n) (is_point ns ys) h).1
point_set (n ∷ ns) (y ∷ ys) (suc k) x h l =
    let p = and_parts (nat_lt y n) (is_point ns ys) h in
    and_from _ _ p.0 (point_set ns ys k x p.1 l)

-- the index at k is below its size
pub index_below : (ns xs : List ℕ) (k : ℕ) → is_point ns xs ≡ true → k < length xs → get_or xs k 0 < get_or ns k 0
index_below [] [] k h l = absurd (omega arith)
index_below [] (y ∷ ys) k h l = absurd (cc)
index_below (n ∷ ns) [] k h l = absurd (cc)
index_below (n ∷ ns) (y ∷ ys) zero h l = below_of y n (and_parts (nat_lt y n) (is_point ns ys) h).0
index_below (n ∷ ns) (y ∷ ys) (suc k) h l = index_below ns ys k (and_parts (nat_lt y n) (is_point ns ys) h).1 (omega arith)

-- the values with another index at k
pub values_set : (ps : List Param) (xs : List ℕ) (k x : ℕ) → k < length ps → length xs ≡ length ps
    → values ps (set xs k x) ≡ set (values ps xs) k (value_at (get_or ps k no_param) x)
values_set [] xs k x l e = absurd (omega arith)
values_set (p ∷ ps) [] k x l e = absurd (omega arith)
values_set (p ∷ ps) (y ∷ ys) zero x l e = refl
values_set (p ∷ ps) (y ∷ ys) (suc k) x l e = ap (λ vs. value_at p y ∷ vs) (values_set ps ys k x (omega arith) (omega arith))

pub values_long : (ps : List Param) (xs : List ℕ) → is_point (sizes ps) xs ≡ true → length (values ps xs) ≡ length ps
values_long [] [] h = refl
values_long [] (x ∷ xs) h = absurd (cc)
values_long (p ∷ ps) [] h = absurd (cc)
values_long (p ∷ ps) (x ∷ xs) h = ap (λ n. suc n) (values_long ps xs (and_parts (nat_lt x (size p)) (is_point (sizes ps) xs) h).1)

-- the next point

-- the indices from k on were the last ones, and are the first ones now
pub record IsCarried (ns old new : List ℕ) (k : ℕ) : Type 0 where
  pub inside : is_point ns new ≡ true
  pub last : number (drop k ns) (drop k old) + 1 ≡ count (drop k ns)
  pub none : number (drop k ns) (drop k new) ≡ 0
  pub same : (j : ℕ) → j < k → get_or new j 0 ≡ get_or old j 0

pub not_carried : (ns old : List ℕ) (k : ℕ) → is_point ns old ≡ true → k ≡ length old → IsCarried ns old old k
not_carried ns old k h e =
    let a : drop k ns ≡ [] = drop_of_length-le ns (let s = same_length ns old h in omega arith) in
    let b : drop k old ≡ [] = drop_of_length-le old (omega arith) in
    record {
      inside = h;
      last = ap₂ (λ m x. number m x + 1) a b ∙ sym (ap count a);
      none = ap₂ number a b;
      same = λ j l. refl;
    }

-- what stands from k on
from_here : (xs : List ℕ) (k : ℕ) → k < length xs → drop k xs ≡ get_or xs k 0 ∷ drop (k + 1) xs
from_here xs k l = drop-cons xs k 0 l ∙ ap (λ j. get_or xs k 0 ∷ drop j xs) (sym (add-one k))

-- the index at k was the last one too
pub carried : (ns old new : List ℕ) (k : ℕ) → is_point ns old ≡ true → k < length old → IsCarried ns old new (k + 1)
    → get_or ns k 0 ≤ get_or new k 0 + 1 → IsCarried ns old (set new k 0) k
carried ns old new k h l c full =
    let long : length ns ≡ length old = same_length ns old h in
    let many : length ns ≡ length new = same_length ns new c.inside in
    let below : get_or new k 0 < get_or ns k 0 = index_below ns new k c.inside (omega arith) in
    let here : get_or new k 0 ≡ get_or old k 0 = c.same k (omega arith) in
    let sizes_here = from_here ns k (omega arith) in
    let old_here = from_here old k l in
    let new_here : drop k (set new k 0) ≡ 0 ∷ drop (k + 1) new = drop-set new k 0 (omega arith) in
    let size_is : get_or ns k 0 ≡ get_or old k 0 + 1 = omega arith in
    record {
      inside = point_set ns new k 0 c.inside (omega arith);
      last = ap₂ (λ m x. number m x + 1) sizes_here old_here ∙ full_row (get_or ns k 0) (get_or old k 0) (count (drop (k + 1) ns)) (number (drop (k + 1) ns) (drop (k + 1) old)) c.last size_is ∙ sym (ap count sizes_here);
      none = ap₂ number sizes_here new_here ∙ no_row (count (drop (k + 1) ns)) (number (drop (k + 1) ns) (drop (k + 1) new)) c.none;
      same = λ j b. let ne : j ≢ k = omega arith in rw get_or-set_other (c.same j (omega arith));
    }
  where
    full_row : (n x c m : ℕ) → m + 1 ≡ c → n ≡ x + 1 → (x * c + m) + 1 ≡ n * c
    full_row n x c m e f = subst (λ z. (x * c + m) + 1 ≡ z * c) (sym f) (omega arith)

    no_row : (c m : ℕ) → m ≡ 0 → 0 * c + m ≡ 0
    no_row c m e = omega arith

-- a number is one more where that of what stands from k on is
more_from : (ns old new : List ℕ) (k : ℕ) → length old ≡ length ns → length new ≡ length ns → ((j : ℕ) → j < k → get_or new j 0 ≡ get_or old j 0)
    → number (drop k ns) (drop k new) ≡ number (drop k ns) (drop k old) + 1 → number ns new ≡ number ns old + 1
more_from ns old new zero a b same e = e
more_from [] old new (suc k) a b same e = absurd (none old new e)
  where
    none : (xs ys : List ℕ) → 0 ≡ 0 + 1 → ⊥
    none xs ys e = omega arith
more_from (n ∷ ns) [] new (suc k) a b same e = absurd (omega arith)
more_from (n ∷ ns) (x ∷ xs) [] (suc k) a b same e = absurd (omega arith)
more_from (n ∷ ns) (x ∷ xs) (y ∷ ys) (suc k) a b same e =
    let here : y ≡ x = same 0 (omega arith) in
    let rest : number ns ys ≡ number ns xs + 1 = more_from ns xs ys k (omega arith) (omega arith) (λ j l. same (suc j) (omega arith)) e in
    subst (λ z. z * count ns + number ns ys ≡ x * count ns + number ns xs + 1) (sym here) (omega arith)

-- the index at k goes on
pub gone_on : (ns old new : List ℕ) (k x : ℕ) → is_point ns old ≡ true → k < length old → IsCarried ns old new (k + 1)
    → x ≡ get_or new k 0 + 1 → x < get_or ns k 0 → number ns (set new k x) ≡ number ns old + 1
gone_on ns old new k x h l c e below =
    let long : length ns ≡ length old = same_length ns old h in
    let many : length ns ≡ length new = same_length ns new c.inside in
    let here : get_or new k 0 ≡ get_or old k 0 = c.same k (omega arith) in
    let sizes_here = from_here ns k (omega arith) in
    let old_here = from_here old k l in
    let new_here : drop k (set new k x) ≡ x ∷ drop (k + 1) new = drop-set new k x (omega arith) in
    let next : x ≡ get_or old k 0 + 1 = omega arith in
    let as_long : length (set new k x) ≡ length ns = omega (arith, length-set new k x) in
    more_from ns old (set new k x) k (omega arith) as_long
    (λ j b. let ne : j ≢ k = omega arith in rw get_or-set_other (c.same j (omega arith)))
    (ap₂ number sizes_here new_here
    ∙ turned (get_or old k 0) x (count (drop (k + 1) ns)) (number (drop (k + 1) ns) (drop (k + 1) old)) (number (drop (k + 1) ns) (drop (k + 1) new)) next c.last c.none
    ∙ sym (ap₂ (λ m y. number m y + 1) sizes_here old_here))
  where
    turned : (x y c m z : ℕ) → y ≡ x + 1 → m + 1 ≡ c → z ≡ 0 → y * c + z ≡ (x * c + m) + 1
    turned x y c m z e f g = subst (λ w. w * c + z ≡ (x * c + m) + 1) (sym e) (omega arith)

-- the values that are known to be a point's

module _ (ps : List Param) (xs : List ℕ) (numbers : List ℤ) (is : numbers ≡ values ps xs) (inside : is_point (sizes ps) xs ≡ true) where
  pub rows_fit : {X : Type 0} (long : X → ℕ) (rows : List X) → All (λ row. long row ≡ length ps) rows → All (λ row. long row ≡ length numbers) rows
  rows_fit long rows h = λ k d l. h k d l ∙ sym (ap length is ∙ values_long ps xs inside)

  pub numbers_small : is_within ps ≡ true → All (IsAtMost (2 ^ 54)) numbers
  numbers_small w = subst (All (IsAtMost (2 ^ 54))) (sym is)
      (λ k d l. let small : unsigned_abs (get_or (values ps xs) k d) ≤ 2 ^ 20 = values_small ps xs (within_facts ps w).good inside k d l in omega arith)

-- a step at the index before m

pub record IsStep (ps : List Param) (new : List ℕ) (numbers : List ℤ) (k : ℕ) : Type 0 where
  pub param : k < length ps
  pub point_long : length new ≡ length ps
  pub numbers_long : length numbers ≡ length ps
  pub small : get_or new k 0 < 2 ^ 22
  pub below : (x r : ℕ) → IfSome (slice_get ps k) (λ p. r ≡ size p) → x < r → IfSome (slice_get ps k) (λ p. x < size p)

below_by : (o : Option Param) (x r : ℕ) → IfSome o (λ p. r ≡ size p) → x < r → IfSome o (λ p. x < size p)
below_by None x r h l = tt
below_by (Some p) x r h l = subst (λ z. x < z) h l

module _ (ps : List Param) (old new : List ℕ) (numbers : List ℤ) (m : ℕ) (within : is_within ps ≡ true) (inside : is_point (sizes ps) old ≡ true)
    (some : 0 < m) (few : m ≤ length old) (carry : IsCarried (sizes ps) old new m) (is : numbers ≡ values ps new) where
  as_before : IsCarried (sizes ps) old new ((m - 1) + 1)
  as_before = let e : m ≡ (m - 1) + 1 = omega arith in subst (λ z. IsCarried (sizes ps) old new z) e carry

  pub at_step : IsStep ps new numbers (m - 1)
  at_step =
      let old_long : length ps ≡ length old = length_of ps old inside in
      let new_long : length ps ≡ length new = length_of ps new carry.inside in
      let here : m - 1 < length ps = omega arith in
      let index : get_or new (m - 1) 0 < get_or (sizes ps) (m - 1) 0 = index_below (sizes ps) new (m - 1) carry.inside (omega arith) in
      let is_size : get_or (sizes ps) (m - 1) 0 ≡ size (get_or ps (m - 1) no_param) = get_or-map size ps (m - 1) no_param 0 here in
      let most : size (get_or ps (m - 1) no_param) ≤ 2 ^ 22 = size_few (get_or ps (m - 1) no_param) (good_at ps (m - 1) no_param (within_facts ps within).good here) in
      record {
        param = here;
        point_long = sym new_long;
        numbers_long = ap length is ∙ values_long ps new carry.inside;
        small = omega arith;
        below = λ x r h l. below_by (slice_get ps (m - 1)) x r h l;
      }

  pub new_numbers : (x : ℕ) (point : List ℕ) (v : List ℤ) → point ≡ set new (m - 1) x → IfSome (slice_get ps (m - 1)) (λ p. v ≡ set numbers (m - 1) (value_at p x)) → v ≡ values ps point
  new_numbers x point v e h =
      let s = at_step in
      if_some (λ p. v ≡ set numbers (m - 1) (value_at p x)) ps (m - 1) s.param h
      ∙ ap (λ vs. set vs (m - 1) (value_at (get_or ps (m - 1) no_param) x)) is
      ∙ sym (values_set ps new (m - 1) x s.param s.point_long) ∙ ap (values ps) (sym e)

  pub went_on : (x r : ℕ) (point : List ℕ) → point ≡ set new (m - 1) x → x ≡ get_or new (m - 1) 0 + 1 → IfSome (slice_get ps (m - 1)) (λ p. r ≡ size p) → x < r
      → (is_point (sizes ps) point ≡ true) × (number (sizes ps) point ≡ number (sizes ps) old + 1)
  went_on x r point e n h l =
      let s = at_step in
      let below : x < get_or (sizes ps) (m - 1) 0 = subst (λ z. x < z) (size_at ps (m - 1) r s.param h) l in (
        subst (λ z. is_point (sizes ps) z ≡ true) (sym e) (point_set (sizes ps) new (m - 1) x carry.inside below),
        ap (number (sizes ps)) e ∙ gone_on (sizes ps) old new (m - 1) x inside (omega arith) as_before n below,
      )

  pub carry_on : (r : ℕ) (point : List ℕ) → point ≡ set new (m - 1) 0 → IfSome (slice_get ps (m - 1)) (λ p. r ≡ size p) → r ≤ get_or new (m - 1) 0 + 1
      → IsCarried (sizes ps) old point (m - 1)
  carry_on r point e h l =
      let s = at_step in
      let full : get_or (sizes ps) (m - 1) 0 ≤ get_or new (m - 1) 0 + 1 = subst (λ z. z ≤ get_or new (m - 1) 0 + 1) (size_at ps (m - 1) r s.param h) l in
      subst (λ z. IsCarried (sizes ps) old z (m - 1)) (sym e) (carried (sizes ps) old new (m - 1) inside (omega arith) as_before full)

-- no point comes after the last one
pub not_after_last : (ns old new : List ℕ) (k : ℕ) → k ≤ 0 → IsCarried ns old new k → number ns old + 1 < count ns → ⊥
not_after_last ns old new k z c l = last k (omega arith) c.last
  where
    last : (k : ℕ) → k ≡ 0 → number (drop k ns) (drop k old) + 1 ≡ count (drop k ns) → ⊥
    last k e h = let f : number ns old + 1 ≡ count ns = subst (λ j. number (drop j ns) (drop j old) + 1 ≡ count (drop j ns)) e h in omega arith
