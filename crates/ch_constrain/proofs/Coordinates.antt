-- The loops over the coordinates of a point: one turn.
use Rattle.std.proofs.Common.{◌≡◌, refl, sym, ap, ap₂, ◌∙◌, subst, ℕ, ◌+◌, ◌*◌, ◌/◌, ◌%◌, ◌<◌, ◌≤◌, ℤ, pos, true, nat_le, nat_lt, ◌&&◌, IfSome, List, [], ◌∷◌, ◌++◌, length, drop, get_or, add-one, drop-cons, append_assoc, append-nil, arith}
use Rattle.std.proofs.Math.Nat.{mod-lt, mul-div_cancel_left}
use Rattle.std.proofs.Math.ListN.{drop_of_length-le}
use Rattle.std.proofs.lemmas.Bool.{and_from, and_parts}
use Rattle.std.proofs.lemmas.List.{get_or-map, length-map}
use Rattle.std.proofs.lemmas.Option.{slice_get-get_or}
use Rattle.std.proofs.lemmas.Bool.Decides.{nat_tests}
use Rattle.std.specs.List.{list_all, slice_get}
use Rattle.ch_grid.specs.declared.param.Param.{Param}
use Rattle.ch_grid.specs.Grid.{is_good, is_within, size, sizes, value_at}
use Rattle.ch_grid.specs.Points.{count, is_point}
use Rattle.ch_grid.proofs.PointNumbers.{below_of, same_length}
use Rattle.ch_constrain.specs.Nearest.{point_at, values}
use Rattle.ch_constrain.proofs.Numbered.{some_left}

pub no_param : Param
no_param = record { low = pos 0; high = pos 0; step = pos 0 }

pub if_some : (P : Param → Type 0) (ps : List Param) (k : ℕ) → k < length ps → IfSome (slice_get ps k) P → P (get_or ps k no_param)
if_some P ps k l h = subst (λ o. IfSome o P) (slice_get-get_or ps k no_param l) h

pub some_if : (P : Param → Type 0) (ps : List Param) (k : ℕ) → k < length ps → P (get_or ps k no_param) → IfSome (slice_get ps k) P
some_if P ps k l h = subst (λ o. IfSome o P) (sym (slice_get-get_or ps k no_param l)) h

sizes_long : (ps : List Param) → length (sizes ps) ≡ length ps
sizes_long ps = rw length-map refl

pub few_params : (ps : List Param) → is_within ps ≡ true → length ps ≤ 6
few_params ps h =
    let t = (and_parts (nat_le (length ps) 6) (list_all is_good ps) (and_parts (nat_le (length ps) 6 && list_all is_good ps) (nat_le (count (sizes ps)) 65536) h).0).0 in
    grind (arith, nat_tests)

pub size_at : (ps : List Param) (k r : ℕ) → k < length ps → IfSome (slice_get ps k) (λ p. r ≡ size p) → r ≡ get_or (sizes ps) k 0
size_at ps k r l h = if_some (λ p. r ≡ size p) ps k l h ∙ sym (get_or-map size ps k no_param 0 l)

-- the indices of a point

pub record IsTurn (ns so_far : List ℕ) (k rest weight n : ℕ) : Type 0 where
  pub some : 0 < weight / n
  pub less : weight / n ≡ count (drop (k + 1) ns)
  pub left : rest % (weight / n) < count (drop (k + 1) ns)
  pub on : (so_far ++ rest / (weight / n) ∷ []) ++ point_at (drop (k + 1) ns) (rest % (weight / n)) ≡ so_far ++ point_at (drop k ns) rest

pub index_turn : (ns so_far : List ℕ) (k rest weight n : ℕ) → k < length ns → n ≡ get_or ns k 0 → 1 ≤ n → weight ≡ count (drop k ns) → rest < count (drop k ns)
    → IsTurn ns so_far k rest weight n
index_turn ns so_far k rest weight n l e one w r =
    let here : drop k ns ≡ n ∷ drop (k + 1) ns = drop-cons ns k 0 l ∙ ap₂ (λ x i. x ∷ drop i ns) (sym e) (sym (add-one k)) in
    let low : rest < n * count (drop (k + 1) ns) = subst (λ z. rest < count z) here r in
    let some : 0 < count (drop (k + 1) ns) = some_left n (count (drop (k + 1) ns)) rest low in
    let less : weight / n ≡ count (drop (k + 1) ns) = ap (λ z. z / n) (w ∙ ap count here) ∙ mul-div_cancel_left (count (drop (k + 1) ns)) one in
    record {
      some = subst (λ z. 0 < z) (sym less) some;
      less = less;
      left = subst (λ z. rest % z < count (drop (k + 1) ns)) (sym less) (mod-lt rest some);
      on = ap (λ z. (so_far ++ rest / z ∷ []) ++ point_at (drop (k + 1) ns) (rest % z)) less
          ∙ append_assoc so_far _ _ ∙ ap (λ z. so_far ++ point_at z rest) (sym here);
    }

-- the values at a point

pub record IsValue (ps : List Param) (point : List ℕ) (so_far : List ℤ) (k : ℕ) : Type 0 where
  pub few : k < length ps
  pub index : IfSome (slice_get ps k) (λ p. get_or point k 0 < size p)
  pub inside : is_point (drop (k + 1) (sizes ps)) (drop (k + 1) point) ≡ true
  pub on : (v : ℤ) → IfSome (slice_get ps k) (λ p. v ≡ value_at p (get_or point k 0))
      → (so_far ++ v ∷ []) ++ values (drop (k + 1) ps) (drop (k + 1) point) ≡ so_far ++ values (drop k ps) (drop k point)

pub value_turn : (ps : List Param) (point : List ℕ) (so_far : List ℤ) (k : ℕ) → is_point (sizes ps) point ≡ true → k < length point
    → is_point (drop k (sizes ps)) (drop k point) ≡ true → IsValue ps point so_far k
value_turn ps point so_far k fine l i =
    let same : length (sizes ps) ≡ length point = same_length (sizes ps) point fine in
    let few : k < length ps = subst (λ n. k < n) (sym same ∙ sizes_long ps) l in
    let many : k < length (sizes ps) = subst (λ n. k < n) (sym same) l in
    let first : drop k (sizes ps) ≡ get_or (sizes ps) k 0 ∷ drop (k + 1) (sizes ps) = drop-cons (sizes ps) k 0 many ∙ ap (λ j. get_or (sizes ps) k 0 ∷ drop j (sizes ps)) (sym (add-one k)) in
    let second : drop k point ≡ get_or point k 0 ∷ drop (k + 1) point = drop-cons point k 0 l ∙ ap (λ j. get_or point k 0 ∷ drop j point) (sym (add-one k)) in
    let third : drop k ps ≡ get_or ps k no_param ∷ drop (k + 1) ps = drop-cons ps k no_param few ∙ ap (λ j. get_or ps k no_param ∷ drop j ps) (sym (add-one k)) in
    let parts = and_parts (nat_lt (get_or point k 0) (get_or (sizes ps) k 0)) (is_point (drop (k + 1) (sizes ps)) (drop (k + 1) point)) (ap₂ is_point (sym first) (sym second) ∙ i) in
    record {
      few = few;
      index = some_if (λ p. get_or point k 0 < size p) ps k few (subst (λ n. get_or point k 0 < n) (get_or-map size ps k no_param 0 few) (below_of (get_or point k 0) (get_or (sizes ps) k 0) parts.0));
      inside = parts.1;
      on = λ v h. append_assoc so_far _ _
          ∙ ap (λ x. so_far ++ x ∷ values (drop (k + 1) ps) (drop (k + 1) point)) (if_some (λ p. v ≡ value_at p (get_or point k 0)) ps k few h)
          ∙ ap₂ (λ qs xs. so_far ++ values qs xs) (sym third) (sym second);
    }

pub length_of : (ps : List Param) (point : List ℕ) → is_point (sizes ps) point ≡ true → length ps ≡ length point
length_of ps point fine = sym (sizes_long ps) ∙ same_length (sizes ps) point fine

pub all_values : (ps : List Param) (point : List ℕ) (so_far : List ℤ) (k : ℕ) → length point ≤ k → so_far ++ values (drop k ps) (drop k point) ≡ values ps point → so_far ≡ values ps point
all_values ps point so_far k l h =
    sym (append-nil so_far) ∙ ap (λ xs. so_far ++ xs) (sym (none (drop k ps))) ∙ ap (λ xs. so_far ++ values (drop k ps) xs) (sym (drop_of_length-le point l)) ∙ h
  where
    none : (qs : List Param) → values qs [] ≡ []
    none [] = refl
    none (q ∷ qs) = refl

pub many : (ps : List Param) (k : ℕ) → k < length ps → k < length (sizes ps)
many ps k l = subst (λ n. k < n) (sym (sizes_long ps)) l

-- a point of two parameters
pub two_inside : (ps : List Param) (t u m n : ℕ) → length ps ≡ 2 → IfSome (slice_get ps 0) (λ p. m ≡ size p) → IfSome (slice_get ps 1) (λ p. n ≡ size p) → t < m → u < n
    → is_point (sizes ps) (t ∷ u ∷ []) ≡ true
two_inside ps t u m n two f g h k = by ps two (size_at ps 0 m (omega arith) f) (size_at ps 1 n (omega arith) g)
  where
    by : (qs : List Param) → length qs ≡ 2 → m ≡ get_or (sizes qs) 0 0 → n ≡ get_or (sizes qs) 1 0 → is_point (sizes qs) (t ∷ u ∷ []) ≡ true
    by [] e a b = absurd (omega arith)
    by (p ∷ []) e a b = absurd (omega arith)
    by (p ∷ q ∷ []) e a b =
        let x : nat_lt t (size p) ≡ true = less t (size p) (subst (λ z. t < z) a h) in
        let y : nat_lt u (size q) ≡ true = less u (size q) (subst (λ z. u < z) b k) in
        and_from _ _ x (and_from _ _ y refl)
      where
        less : (i j : ℕ) → i < j → nat_lt i j ≡ true
        less i j l = grind (arith, nat_tests)
    by (p ∷ q ∷ r ∷ more) e a b = absurd (omega arith)
