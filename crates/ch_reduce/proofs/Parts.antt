-- An accumulation is its cell and a part that has no access of its array.
use Rattle.std.proofs.Common.{◌≡◌, ap, ◌∙◌, ℕ, nat_eq, ℤ, ◌+ℤ◌, ◌-ℤ◌, neg_ℤ, Bool, true, false, ◌&&◌, List, [], ◌∷◌, ◌++◌, map, inl, inr}
use Rattle.std.proofs.lemmas.Bool.{and_parts, or_cases, not-true}
use Rattle.std.specs.Int.{int_wrap, w64}
use Rattle.std.specs.List.{list_all}
use Rattle.std.proofs.Math.IntN.{+ℤ_comm}
use Rattle.ch_nest.specs.declared.nest.Access.{Access}
use Rattle.ch_nest.specs.declared.nest.Expr.{Expr, map-Expr}
use Rattle.ch_nest.specs.declared.nest.Expr.TheOpen.{Expr-F}
use Rattle.ch_nest.specs.declared.nest.Expr.TheViews.{out-Expr}
use Rattle.ch_nest.specs.declared.nest.Expr.TheFolds.{fold_out-Expr}
use Rattle.ch_timed.specs.Members.{Each}
use Rattle.ch_timed.specs.Conflict.{cell_of, reads, reads_step}
use Rattle.ch_timed.specs.Do.{Store, right_value, value_step}
use Rattle.ch_timed.specs.Flat.{AllInside}
use Rattle.ch_order.proofs.Commutes.{each_kept}
use Rattle.ch_reduce.specs.Accumulation.{adds_to, is_of_other, is_read, leaves_out, reads_alone}
use Rattle.ch_order.proofs.Accesses.{same_access_is}

all_each : {X : Type 0} (p : X → Bool) (xs : List X) → list_all p xs ≡ true → Each (λ x. p x ≡ true) xs
all_each p [] h = tt
all_each p (x ∷ xs) h = let q = and_parts _ _ h in (q.0, all_each p xs q.1)

inside_parts : (extents : List (List ℕ)) (iters : List ℤ) (xs ys : List Access) → AllInside extents (map (cell_of iters) (xs ++ ys))
    → AllInside extents (map (cell_of iters) xs) × AllInside extents (map (cell_of iters) ys)
inside_parts extents iters [] ys h = (tt, h)
inside_parts extents iters (x ∷ xs) ys h = let r = inside_parts extents iters xs ys h.1 in ((h.0, r.0), r.1)

pub left_out : (array : ℕ) (e : Expr) → leaves_out array e ≡ true → Each (λ a. nat_eq a.array array ≡ false) (reads e)
left_out array e h = each_kept (λ a. is_of_other array a ≡ true) (λ a. nat_eq a.array array ≡ false) (reads e) (λ a n. not-true _ n) (all_each (is_of_other array) (reads e) h)

module _ (iters : List ℤ) (w : Access) where
  -- one layer of a right side, over the right sides below it
  abbrev layer_value : Store → Expr-F Expr → ℤ
  layer_value store o = value_step iters store (map-Expr Expr ℤ (right_value iters store) o)

  abbrev layer_reads : Expr-F Expr → List Access
  layer_reads o = reads_step (map-Expr Expr (List Access) reads o)

  layer_read : (store : Store) (o : Expr-F Expr) → is_read w o ≡ true → layer_value store o ≡ store (cell_of iters w)
  layer_read store (Expr-F.Number n) h = cc
  layer_read store (Expr-F.Iter k) h = cc
  layer_read store (Expr-F.Read a) h = ap (λ z. store (cell_of iters z)) (same_access_is a w h)
  layer_read store (Expr-F.Neg x) h = cc
  layer_read store (Expr-F.Add x y) h = cc
  layer_read store (Expr-F.Sub x y) h = cc
  layer_read store (Expr-F.Mul x y) h = cc

  alone : (store : Store) (e : Expr) → reads_alone w e ≡ true → right_value iters store e ≡ store (cell_of iters w)
  alone store e h = fold_out-Expr ℤ (value_step iters store) e ∙ layer_read store (out-Expr e) h

  -- the value is the cell's, changed by a part that has no access of the array
  pub record IsChange (o : Expr-F Expr) : Type 0 where
    pub part : Expr
    pub change : ℤ → ℤ
    pub value : (store : Store) → layer_value store o ≡ int_wrap w64 (store (cell_of iters w) +ℤ change (right_value iters store part))
    pub other : Each (λ a. nat_eq a.array w.array ≡ false) (reads part)
    pub inside : (extents : List (List ℕ)) → AllInside extents (map (cell_of iters) (layer_reads o)) → AllInside extents (map (cell_of iters) (reads part))

  pub is_change : (o : Expr-F Expr) → adds_to w o ≡ true → IsChange o
  is_change (Expr-F.Number n) h = cc
  is_change (Expr-F.Iter k) h = cc
  is_change (Expr-F.Read a) h = cc
  is_change (Expr-F.Neg x) h = cc
  is_change (Expr-F.Add x y) h = elim (or_cases (reads_alone w x && leaves_out w.array y) (reads_alone w y && leaves_out w.array x) h) as (λ _. IsChange (Expr-F.Add x y)) [
    | inl k ↦ let p = and_parts _ _ k in record {
      part = y;
      change = λ v. v;
      value = λ store. ap (λ v. int_wrap w64 (v +ℤ right_value iters store y)) (alone store x p.0);
      other = left_out w.array y p.1;
      inside = λ extents i. (inside_parts extents iters (reads x) (reads y) i).1;
    }
    | inr k ↦ let p = and_parts _ _ k in record {
      part = x;
      change = λ v. v;
      value = λ store. ap (λ v. int_wrap w64 (right_value iters store x +ℤ v)) (alone store y p.0)
          ∙ ap (int_wrap w64) (+ℤ_comm (right_value iters store x) (store (cell_of iters w)));
      other = left_out w.array x p.1;
      inside = λ extents i. (inside_parts extents iters (reads x) (reads y) i).0;
    }
  ]
  is_change (Expr-F.Sub x y) h = let p = and_parts _ _ h in record {
    part = y;
    change = neg_ℤ;
    value = λ store. ap (λ v. int_wrap w64 (v -ℤ right_value iters store y)) (alone store x p.0);
    other = left_out w.array y p.1;
    inside = λ extents i. (inside_parts extents iters (reads x) (reads y) i).1;
  }
  is_change (Expr-F.Mul x y) h = cc
