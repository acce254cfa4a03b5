-- Flattened items, one step on.
use Rattle.std.proofs.Common.{◌≡◌, ℕ, ◌+◌, ◌<◌, ◌≤◌, set, length, ℤ, pos, ◌+ℤ◌, ◌*ℤ◌, List, [], ◌∷◌, get_or, drop, arith, ap, sym, ◌∙◌, refl, ◌≤ℤ◌, if◌then◌else◌, true, false, w64, min, inl, inr, FitsSigned}
use Rattle.std.specs.Int.{int_wrap}
use Rattle.std.proofs.lemmas.Bool.{cases_lt}
use Rattle.std.proofs.lemmas.Int.{int_wrap-add_left, int_wrap-add_right, int_wrap_fits, ints}
use Rattle.std.proofs.lemmas.List.{drop_more, drop_all}
use Rattle.std.proofs.Math.IntN.{+ℤ_assoc}
use Rattle.ch_affine.specs.Form.{Form}
use Rattle.ch_affine.specs.Affine.{dot}
use Rattle.ch_nest.specs.declared.flat.FlatExpr.{FlatExpr}
use Rattle.ch_nest.specs.declared.flat.FlatItem.{FlatItem}
use Rattle.ch_nest.specs.declared.flat.FlatItem.TheVariants.{Loop, If, Assign, rolls-Loop, rolls-If, rolls-Assign}
use Rattle.ch_nest.specs.declared.flat.FlatItem.TheFolds.{fold-roll-FlatItem}
use Rattle.ch_nest.specs.Fast.{flat_item_step, flat_place, flat_value, near, run_flat, run_flats}
use Rattle.ch_nest.specs.Run.{Change, high_of, is_met, loop_values, low_of, turns, values_at}
use Rattle.ch_nest.proofs.Values.{values_next}

pub run_flats_more : (items : List FlatItem) (point cells next total : List ℤ) (k : ℕ) (d : FlatItem) → k < length items
    → next ≡ run_flat (get_or items k d) point cells → run_flats (drop k items) point cells ≡ total
    → run_flats (drop (k + 1) items) point next ≡ total
run_flats_more items point cells next total k d l n h =
    let a = rw (drop_more items k d l) at h in
    rw n a

pub flat_loop_is : (level : ℕ) (lows highs : List Form) (step : ℕ) (items : List FlatItem) (point cells : List ℤ)
    → run_flat (Loop level lows highs step items) point cells
    ≡ turns (values_at lows highs step point) (λ i. run_flats items (set point level (near i))) cells
flat_loop_is level lows highs step items point cells =
    ap (λ f. f point cells) (ap run_flat (sym (rolls-Loop level lows highs step items)) ∙ fold-roll-FlatItem Change flat_item_step _)

pub flat_loop : (item : FlatItem) (level : ℕ) (lows highs : List Form) (step : ℕ) (items : List FlatItem) (point cells : List ℤ) (low high : ℤ)
    → item ≡ Loop level lows highs step items → low ≡ low_of lows point → high ≡ high_of highs point
    → turns (loop_values low high step) (λ i. run_flats items (set point level (near i))) cells ≡ run_flat item point cells
flat_loop item level lows highs step items point cells low high is l h = rw (is, flat_loop_is level lows highs step items point cells, l, h) refl

-- a loop without a step
pub flat_still : (item : FlatItem) (level : ℕ) (lows highs : List Form) (step : ℕ) (items : List FlatItem) (point cells : List ℤ)
    → item ≡ Loop level lows highs step items → step ≡ 0 → cells ≡ run_flat item point cells
flat_still item level lows highs step items point cells is none = rw (is, flat_loop_is level lows highs step items point cells, none) refl

pub flat_turn : (items : List FlatItem) (point inner cells next all : List ℤ) (level step : ℕ) (value high : ℤ) → 1 ≤ step → value ≤ℤ high
    → inner ≡ set point level (near value) → next ≡ run_flats items inner cells
    → turns (loop_values value high step) (λ i. run_flats items (set point level (near i))) cells ≡ all
    → turns (loop_values (value +ℤ pos step) high step) (λ i. run_flats items (set point level (near i))) next ≡ all
flat_turn items point inner cells next all level step value high s l i n h =
    let a = rw (values_next value high step s l) at h in
    rw (n, i) a

pub flat_if_is : (row : Form) (items : List FlatItem) (point cells : List ℤ)
    → run_flat (If row items) point cells ≡ (if is_met row point then run_flats items point cells else cells)
flat_if_is row items point cells = ap (λ f. f point cells) (ap run_flat (sym (rolls-If row items)) ∙ fold-roll-FlatItem Change flat_item_step _)

pub flat_met : (item : FlatItem) (row : Form) (items : List FlatItem) (point cells next : List ℤ) → item ≡ If row items → true ≡ is_met row point
    → next ≡ run_flats items point cells → next ≡ run_flat item point cells
flat_met item row items point cells next is m h = rw (is, flat_if_is row items point cells, ← m) h

pub flat_unmet : (item : FlatItem) (row : Form) (items : List FlatItem) (point cells : List ℤ) → item ≡ If row items → false ≡ is_met row point
    → cells ≡ run_flat item point cells
flat_unmet item row items point cells is m = rw (is, flat_if_is row items point cells, ← m) refl

pub flat_assign_is : (write : Form) (right : FlatExpr) (point cells : List ℤ)
    → run_flat (Assign write right) point cells ≡ set cells (flat_place write point) (flat_value point cells right)
flat_assign_is write right point cells = ap (λ f. f point cells) (ap run_flat (sym (rolls-Assign write right)) ∙ fold-roll-FlatItem Change flat_item_step _)

pub flat_assign : (item : FlatItem) (write : Form) (right : FlatExpr) (point cells next : List ℤ) → item ≡ Assign write right
    → next ≡ set cells (flat_place write point) (flat_value point cells right) → next ≡ run_flat item point cells
flat_assign item write right point cells next is h = rw (is, flat_assign_is) h

-- a sum that wraps on the way

pub sum_on : (cs xs : List ℤ) (k : ℕ) (sum term next : ℤ) (whole : ℤ) → k < length cs → k < length xs
    → term ≡ int_wrap w64 (get_or cs k (pos 0) *ℤ get_or xs k (pos 0)) → next ≡ int_wrap w64 (sum +ℤ term)
    → int_wrap w64 (sum +ℤ dot (drop k cs) (drop k xs)) ≡ whole → int_wrap w64 (next +ℤ dot (drop (k + 1) cs) (drop (k + 1) xs)) ≡ whole
sum_on cs xs k sum term next whole l m t n h =
    let a = rw (drop_more cs k (pos 0) l, drop_more xs k (pos 0) m) at h in
    let p : ℤ = get_or cs k (pos 0) *ℤ get_or xs k (pos 0) in
    let rest : ℤ = dot (drop (k + 1) cs) (drop (k + 1) xs) in
    let b : int_wrap w64 (sum +ℤ int_wrap w64 p) ≡ int_wrap w64 (sum +ℤ p) = int_wrap-add_right w64 sum p in
    let c : int_wrap w64 (int_wrap w64 (sum +ℤ p) +ℤ rest) ≡ int_wrap w64 ((sum +ℤ p) +ℤ rest) = int_wrap-add_left w64 (sum +ℤ p) rest in
    let e : (sum +ℤ p) +ℤ rest ≡ sum +ℤ (p +ℤ rest) = omega (arith, ints) in
    rw (n, t, b, c, e) a

-- an exact sum
pub exact_on : (cs xs : List ℤ) (k : ℕ) (sum term next whole : ℤ) → k < length cs → k < length xs
    → term ≡ get_or cs k (pos 0) *ℤ get_or xs k (pos 0) → next ≡ sum +ℤ term
    → sum +ℤ dot (drop k cs) (drop k xs) ≡ whole → next +ℤ dot (drop (k + 1) cs) (drop (k + 1) xs) ≡ whole
exact_on cs xs k sum term next whole l m t n h =
    let a = rw (drop_more cs k (pos 0) l, drop_more xs k (pos 0) m) at h in
    rw (n, t, +ℤ_assoc) a

dot_nil : (cs : List ℤ) → dot cs [] ≡ pos 0
dot_nil [] = refl
dot_nil (c ∷ cs) = refl

dot_end : (cs xs : List ℤ) (k : ℕ) → min (length cs) (length xs) ≤ k → dot (drop k cs) (drop k xs) ≡ pos 0
dot_end cs xs k h = elim (cases_lt k (length cs)) as (λ _. dot (drop k cs) (drop k xs) ≡ pos 0) [
  | inl below ↦ let e : drop k xs ≡ [] = drop_all k xs (omega arith) in rw e (dot_nil (drop k cs))
  | inr past ↦ let e : drop k cs ≡ [] = drop_all k cs past in rw e refl
]

pub sum_done : (cs xs : List ℤ) (k : ℕ) (sum whole : ℤ) → min (length cs) (length xs) ≤ k → FitsSigned w64 sum
    → int_wrap w64 (sum +ℤ dot (drop k cs) (drop k xs)) ≡ whole → sum ≡ whole
sum_done cs xs k sum whole l f h =
    let e : sum +ℤ dot (drop k cs) (drop k xs) ≡ sum = omega (arith, ints, dot_end cs xs k l) in
    let a = rw (e, int_wrap_fits w64 sum f) at h in a

pub exact_done : (cs xs : List ℤ) (k : ℕ) (sum whole : ℤ) → min (length cs) (length xs) ≤ k
    → sum +ℤ dot (drop k cs) (drop k xs) ≡ whole → sum ≡ whole
exact_done cs xs k sum whole l h = omega (arith, ints, dot_end cs xs k l, h)
