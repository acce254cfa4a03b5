-- Right sides made ready.
use Rattle.std.proofs.Common.{◌≡◌, ap, ap₂, sym, ◌∙◌, refl, ℕ, ◌+◌, ◌<◌, ◌≤◌, ◌^◌, ℤ, pos, ◌+ℤ◌, ◌-ℤ◌, ◌*ℤ◌, neg_ℤ, Bool, true, ◌&&◌, nat_lt, List, [], ◌∷◌, ◌++◌, get_or, take, map, length, arith, w64}
use Rattle.std.specs.Int.{int_wrap}
use Rattle.std.proofs.lemmas.List.{map-append}
use Rattle.ch_affine.specs.Affine.{value}
use Rattle.ch_affine.specs.Form.{Form}
use Rattle.ch_nest.specs.declared.nest.Access.{Access}
use Rattle.ch_nest.specs.declared.nest.Expr.{Expr}
use Rattle.ch_nest.specs.declared.nest.Expr.TheVariants as expr
use Rattle.ch_nest.specs.declared.nest.Expr.TheFolds.{fold-roll-Expr}
use Rattle.ch_nest.specs.Arrays.{total}
use Rattle.ch_nest.specs.Run.{expr_step, expr_value, place}
use Rattle.ch_plan.specs.declared.plan.Right.{Right}
use Rattle.ch_plan.specs.declared.plan.Right.TheVariants as right
use Rattle.ch_plan.specs.declared.plan.Right.TheFolds.{fold-roll-Right}
use Rattle.ch_plan.specs.declared.plan.Spot.{Spot}
use Rattle.ch_plan.specs.declared.plan.Sum.{Sum}
use Rattle.ch_plan.specs.Planned.{at, right_step, right_value, spot_place, spots, spots_step, sum_value}
use Rattle.ch_timed.specs.Conflict.{cell_of, reads}
use Rattle.ch_timed.specs.Flat.{AllInside, place_of}
use Rattle.ch_timed.proofs.Rolls.{reads_add, reads_iter, reads_mul, reads_neg, reads_number, reads_read, reads_sub}
use Rattle.ch_plan.specs.Ready.{HaveDepth, IsPoint, IsSpot, IsSumOf, iters_at}
use Rattle.ch_eval.specs.Made.{IsRight, SameRight}
use Rattle.ch_plan.proofs.Forming.{iter_is}
use Rattle.ch_plan.proofs.Spots.{iter_small, sum_small}

-- the layers of right sides

module _ (extents : List (List ℕ)) (iters cells : List ℤ) where
  number_value : (n : ℤ) → expr_value extents iters cells (expr.Number n) ≡ n
  number_value n = ap (expr_value extents iters cells) (sym (expr.rolls-Number n)) ∙ fold-roll-Expr ℤ (expr_step extents iters cells) _

  iter_value : (k : ℕ) → expr_value extents iters cells (expr.Iter k) ≡ at iters k
  iter_value k = ap (expr_value extents iters cells) (sym (expr.rolls-Iter k)) ∙ fold-roll-Expr ℤ (expr_step extents iters cells) _

  read_value : (a : Access) → expr_value extents iters cells (expr.Read a) ≡ at cells (place extents a iters)
  read_value a = ap (expr_value extents iters cells) (sym (expr.rolls-Read a)) ∙ fold-roll-Expr ℤ (expr_step extents iters cells) _

  neg_value : (x : Expr) → expr_value extents iters cells (expr.Neg x) ≡ int_wrap w64 (neg_ℤ (expr_value extents iters cells x))
  neg_value x = ap (expr_value extents iters cells) (sym (expr.rolls-Neg x)) ∙ fold-roll-Expr ℤ (expr_step extents iters cells) _

  add_value : (x y : Expr) → expr_value extents iters cells (expr.Add x y) ≡ int_wrap w64 (expr_value extents iters cells x +ℤ expr_value extents iters cells y)
  add_value x y = ap (expr_value extents iters cells) (sym (expr.rolls-Add x y)) ∙ fold-roll-Expr ℤ (expr_step extents iters cells) _

  sub_value : (x y : Expr) → expr_value extents iters cells (expr.Sub x y) ≡ int_wrap w64 (expr_value extents iters cells x -ℤ expr_value extents iters cells y)
  sub_value x y = ap (expr_value extents iters cells) (sym (expr.rolls-Sub x y)) ∙ fold-roll-Expr ℤ (expr_step extents iters cells) _

  mul_value : (x y : Expr) → expr_value extents iters cells (expr.Mul x y) ≡ int_wrap w64 (expr_value extents iters cells x *ℤ expr_value extents iters cells y)
  mul_value x y = ap (expr_value extents iters cells) (sym (expr.rolls-Mul x y)) ∙ fold-roll-Expr ℤ (expr_step extents iters cells) _

module _ (point cells : List ℤ) where
  number_right : (n : ℤ) → right_value point cells (right.Number n) ≡ n
  number_right n = ap (right_value point cells) (sym (right.rolls-Number n)) ∙ fold-roll-Right ℤ (right_step point cells) _

  value_right : (s : Sum) → right_value point cells (right.Value s) ≡ sum_value s point
  value_right s = ap (right_value point cells) (sym (right.rolls-Value s)) ∙ fold-roll-Right ℤ (right_step point cells) _

  read_right : (s : Spot) → right_value point cells (right.Read s) ≡ at cells (spot_place point s)
  read_right s = ap (right_value point cells) (sym (right.rolls-Read s)) ∙ fold-roll-Right ℤ (right_step point cells) _

  neg_right : (x : Right) → right_value point cells (right.Neg x) ≡ int_wrap w64 (neg_ℤ (right_value point cells x))
  neg_right x = ap (right_value point cells) (sym (right.rolls-Neg x)) ∙ fold-roll-Right ℤ (right_step point cells) _

  add_right : (x y : Right) → right_value point cells (right.Add x y) ≡ int_wrap w64 (right_value point cells x +ℤ right_value point cells y)
  add_right x y = ap (right_value point cells) (sym (right.rolls-Add x y)) ∙ fold-roll-Right ℤ (right_step point cells) _

  sub_right : (x y : Right) → right_value point cells (right.Sub x y) ≡ int_wrap w64 (right_value point cells x -ℤ right_value point cells y)
  sub_right x y = ap (right_value point cells) (sym (right.rolls-Sub x y)) ∙ fold-roll-Right ℤ (right_step point cells) _

  mul_right : (x y : Right) → right_value point cells (right.Mul x y) ≡ int_wrap w64 (right_value point cells x *ℤ right_value point cells y)
  mul_right x y = ap (right_value point cells) (sym (right.rolls-Mul x y)) ∙ fold-roll-Right ℤ (right_step point cells) _

spots_number : (n : ℤ) → spots (right.Number n) ≡ []
spots_number n = ap spots (sym (right.rolls-Number n)) ∙ fold-roll-Right (List Spot) spots_step _

spots_value : (s : Sum) → spots (right.Value s) ≡ []
spots_value s = ap spots (sym (right.rolls-Value s)) ∙ fold-roll-Right (List Spot) spots_step _

spots_read : (s : Spot) → spots (right.Read s) ≡ s ∷ []
spots_read s = ap spots (sym (right.rolls-Read s)) ∙ fold-roll-Right (List Spot) spots_step _

spots_neg : (x : Right) → spots (right.Neg x) ≡ spots x
spots_neg x = ap spots (sym (right.rolls-Neg x)) ∙ fold-roll-Right (List Spot) spots_step _

spots_add : (x y : Right) → spots (right.Add x y) ≡ spots x ++ spots y
spots_add x y = ap spots (sym (right.rolls-Add x y)) ∙ fold-roll-Right (List Spot) spots_step _

spots_sub : (x y : Right) → spots (right.Sub x y) ≡ spots x ++ spots y
spots_sub x y = ap spots (sym (right.rolls-Sub x y)) ∙ fold-roll-Right (List Spot) spots_step _

spots_mul : (x y : Right) → spots (right.Mul x y) ≡ spots x ++ spots y
spots_mul x y = ap spots (sym (right.rolls-Mul x y)) ∙ fold-roll-Right (List Spot) spots_step _

-- what a right side reads, and what is asked of its parts

inside_append : (extents : List (List ℕ)) (iters : List ℤ) (xs ys : List Access) → AllInside extents (map (cell_of iters) (xs ++ ys))
    → AllInside extents (map (cell_of iters) xs) × AllInside extents (map (cell_of iters) ys)
inside_append extents iters [] ys h = (tt, h)
inside_append extents iters (x ∷ xs) ys h = let r = inside_append extents iters xs ys h.1 in ((h.0, r.0), r.1)

module _ (extents : List (List ℕ)) (origin : List Form) (around : ℕ) where
  pub number_planned : (n : ℤ) (e : Expr) → e ≡ expr.Number n → IsRight extents origin around e (right.Number n)
  number_planned n e is = λ point p small inside. record {
    value = λ cells. number_right point cells n ∙ sym (ap (expr_value extents (iters_at origin (take around point)) cells) is ∙ number_value extents (iters_at origin (take around point)) cells n);
    reads =
        ap (map (spot_place point)) (spots_number n) ∙ sym (ap (λ accesses. map (place_of extents) (map (cell_of (iters_at origin (take around point))) accesses)) (ap reads is ∙ reads_number n));
  }

  pub iter_planned : (k : ℕ) (e : Expr) (g : Form) (s : Sum) → e ≡ expr.Iter k → HaveDepth around origin → k < length origin → g ≡ get_or origin k g → IsSumOf g s
      → IsRight extents origin around e (right.Value s)
  iter_planned k e g s is depth l gg i = λ point p small inside.
      let iters : List ℤ = iters_at origin (take around point) in
      let deep : length g.coefs ≡ around = rw gg (depth k g l) in
      let near = rw (← gg) at (iter_small origin around point k g p l) in
      let sum : sum_value s point ≡ value g (take around point) = sum_small g s around point i deep near in
      let here : at iters k ≡ value g (take around point) = iter_is origin (take around point) k g l ∙ ap (λ z. value z (take around point)) (sym gg) in
      record {
        value = λ cells. value_right point cells s ∙ sum ∙ sym here ∙ sym (ap (expr_value extents iters cells) is ∙ iter_value extents iters cells k);
        reads = ap (map (spot_place point)) (spots_value s) ∙ sym (ap (λ accesses. map (place_of extents) (map (cell_of iters) accesses)) (ap reads is ∙ reads_iter k));
      }

  pub read_planned : (a : Access) (e : Expr) (s : Spot) → e ≡ expr.Read a → IsSpot extents origin around a s → IsRight extents origin around e (right.Read s)
  read_planned a e s is i = λ point p small inside.
      let iters : List ℤ = iters_at origin (take around point) in
      let known = ap reads is ∙ reads_read a in
      let here = rw known at inside in
      let same : spot_place point s ≡ place extents a iters = i point p small here.0 in
      record {
        value = λ cells. read_right point cells s ∙ ap (at cells) same ∙ sym (ap (expr_value extents iters cells) is ∙ read_value extents iters cells a);
        reads =
            ap (map (spot_place point)) (spots_read s) ∙ ap (λ n. n ∷ []) same ∙ sym (ap (λ accesses. map (place_of extents) (map (cell_of iters) accesses)) known);
      }

  pub neg_planned : (e x : Expr) (r : Right) → e ≡ expr.Neg x → IsRight extents origin around x r → IsRight extents origin around e (right.Neg r)
  neg_planned e x r is h = λ point p small inside.
      let iters : List ℤ = iters_at origin (take around point) in
      let known = ap reads is ∙ reads_neg x in
      let of_x = h point p small (rw known at inside) in
      record {
        value = λ cells. neg_right point cells r ∙ ap (λ z. int_wrap w64 (neg_ℤ z)) (of_x.value cells) ∙ sym (ap (expr_value extents iters cells) is ∙ neg_value extents iters cells x);
        reads = ap (map (spot_place point)) (spots_neg r) ∙ of_x.reads ∙ sym (ap (λ accesses. map (place_of extents) (map (cell_of iters) accesses)) known);
      }

  -- an operation on two sides
  both_planned : (e x y : Expr) (r s t : Right) (op : ℤ → ℤ → ℤ) → reads e ≡ reads x ++ reads y → spots t ≡ spots r ++ spots s
      → ((iters cells : List ℤ) → expr_value extents iters cells e ≡ op (expr_value extents iters cells x) (expr_value extents iters cells y))
      → ((point cells : List ℤ) → right_value point cells t ≡ op (right_value point cells r) (right_value point cells s))
      → IsRight extents origin around x r → IsRight extents origin around y s → IsRight extents origin around e t
  both_planned e x y r s t op known spotted value ready hx hy = λ point p small inside.
      let iters : List ℤ = iters_at origin (take around point) in
      let parts = inside_append extents iters (reads x) (reads y) (rw known at inside) in
      let of_x = hx point p small parts.0 in
      let of_y = hy point p small parts.1 in
      let joined : map (place_of extents) (map (cell_of iters) (reads x ++ reads y))
      ≡ map (place_of extents) (map (cell_of iters) (reads x)) ++ map (place_of extents) (map (cell_of iters) (reads y)) =
      ap (map (place_of extents)) (map-append (cell_of iters) (reads x) (reads y)) ∙ map-append (place_of extents) (map (cell_of iters) (reads x)) (map (cell_of iters) (reads y)) in
      record {
        value = λ cells. ready point cells ∙ ap₂ op (of_x.value cells) (of_y.value cells) ∙ sym (value iters cells);
        reads =
            ap (map (spot_place point)) spotted ∙ map-append (spot_place point) (spots r) (spots s) ∙ ap₂ (λ ms ns. ms ++ ns) of_x.reads of_y.reads
            ∙ sym (ap (λ accesses. map (place_of extents) (map (cell_of iters) accesses)) known ∙ joined);
      }

  pub add_planned : (e x y : Expr) (r s : Right) → e ≡ expr.Add x y → IsRight extents origin around x r → IsRight extents origin around y s → IsRight extents origin around e (right.Add r s)
  add_planned e x y r s is = both_planned e x y r s (right.Add r s) (λ v w. int_wrap w64 (v +ℤ w)) (ap reads is ∙ reads_add x y) (spots_add r s)
      (λ iters cells. ap (expr_value extents iters cells) is ∙ add_value extents iters cells x y) (λ point cells. add_right point cells r s)

  pub sub_planned : (e x y : Expr) (r s : Right) → e ≡ expr.Sub x y → IsRight extents origin around x r → IsRight extents origin around y s → IsRight extents origin around e (right.Sub r s)
  sub_planned e x y r s is = both_planned e x y r s (right.Sub r s) (λ v w. int_wrap w64 (v -ℤ w)) (ap reads is ∙ reads_sub x y) (spots_sub r s)
      (λ iters cells. ap (expr_value extents iters cells) is ∙ sub_value extents iters cells x y) (λ point cells. sub_right point cells r s)

  pub mul_planned : (e x y : Expr) (r s : Right) → e ≡ expr.Mul x y → IsRight extents origin around x r → IsRight extents origin around y s → IsRight extents origin around e (right.Mul r s)
  mul_planned e x y r s is = both_planned e x y r s (right.Mul r s) (λ v w. int_wrap w64 (v *ℤ w)) (ap reads is ∙ reads_mul x y) (spots_mul r s)
      (λ iters cells. ap (expr_value extents iters cells) is ∙ mul_value extents iters cells x y) (λ point cells. mul_right point cells r s)
