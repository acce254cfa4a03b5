-- The value of a right side depends on the cells that it reads alone.
use Rattle.std.proofs.Common.{◌≡◌, refl, sym, ap, ap₂, ◌∙◌, subst, ℤ, ◌+ℤ◌, ◌-ℤ◌, ◌*ℤ◌, neg_ℤ, ℕ, List, [], ◌∷◌, ◌++◌, map}
use Rattle.std.proofs.lemmas.List.{map-append}
use Rattle.std.specs.Int.{int_wrap, w64}
use Rattle.ch_nest.specs.declared.nest.Access.{Access}
use Rattle.ch_nest.specs.declared.nest.Expr.{Expr}
use Rattle.ch_nest.specs.declared.nest.Expr.TheOpen.{Expr-F}
use Rattle.ch_nest.specs.declared.nest.Expr.TheFolds.{fold-Expr, fold-roll-Expr, ind-Expr}
use Rattle.ch_nest.specs.declared.nest.Expr.{map-Expr}
use Rattle.ch_nest.specs.Run.{expr_step, expr_value}
use Rattle.ch_timed.specs.Members.{Each}
use Rattle.ch_timed.specs.Conflict.{accesses, cell_of, cells_of, reads, reads_step}
use Rattle.ch_timed.specs.Timed.{Step}
use Rattle.ch_timed.specs.Do.{Store, right_value, value_step}
use Rattle.ch_timed.specs.Flat.{look}

-- the stores agree on what is read
abbrev pub Agree : List ℤ → Store → Store → List Access → Type 0
Agree iters s t accesses = Each (λ a. s (cell_of iters a) ≡ t (cell_of iters a)) accesses

pub each_parts : {X : Type 0} (P : X → Type 0) (xs ys : List X) → Each P (xs ++ ys) → Each P xs × Each P ys
each_parts P [] ys h = (tt, h)
each_parts P (x ∷ xs) ys h = let r = each_parts P xs ys h.1 in ((h.0, r.0), r.1)

module _ (iters : List ℤ) (s t : Store) where
  abbrev Same : Expr → Type 0
  Same x = Agree iters s t (reads x) → right_value iters s x ≡ right_value iters t x

  abbrev Known : Type 0
  Known = (x : Expr) × Same x

  abbrev bare : Known → Expr
  bare e = e.0

  layer : (y : Expr-F Known) → Agree iters s t (reads_step (map-Expr Expr (List Access) reads (map-Expr Known Expr bare y)))
      → value_step iters s (map-Expr Expr ℤ (right_value iters s) (map-Expr Known Expr bare y)) ≡ value_step iters t (map-Expr Expr ℤ (right_value iters t) (map-Expr Known Expr bare y))
  layer (Expr-F.Number n) h = refl
  layer (Expr-F.Iter k) h = refl
  layer (Expr-F.Read a) h = h.0
  layer (Expr-F.Neg x) h = ap (λ v. int_wrap w64 (neg_ℤ v)) (x.1 h)
  layer (Expr-F.Add x y) h = let p = each_parts _ _ _ h in ap₂ (λ v w. int_wrap w64 (v +ℤ w)) (x.1 p.0) (y.1 p.1)
  layer (Expr-F.Sub x y) h = let p = each_parts _ _ _ h in ap₂ (λ v w. int_wrap w64 (v -ℤ w)) (x.1 p.0) (y.1 p.1)
  layer (Expr-F.Mul x y) h = let p = each_parts _ _ _ h in ap₂ (λ v w. int_wrap w64 (v *ℤ w)) (x.1 p.0) (y.1 p.1)

  pub same_value : (x : Expr) → Same x
  same_value = ind-Expr Same (λ x y is h.
      let g : Agree iters s t (reads_step (map-Expr Expr (List Access) reads x)) = subst (Agree iters s t) (fold-roll-Expr (List Access) reads_step x) h in
      fold-roll-Expr ℤ (value_step iters s) x
      ∙ subst (λ z. Agree iters s t (reads_step (map-Expr Expr (List Access) reads z)) → value_step iters s (map-Expr Expr ℤ (right_value iters s) z) ≡ value_step iters t (map-Expr Expr ℤ (right_value iters t) z)) is (layer y) g
      ∙ sym (fold-roll-Expr ℤ (value_step iters t) x))

-- on flat arrays

layer_same : (extents : List (List ℕ)) (iters cells : List ℤ) (x : Expr-F ℤ) → expr_step extents iters cells x ≡ value_step iters (look extents cells) x
layer_same extents iters cells (Expr-F.Number n) = refl
layer_same extents iters cells (Expr-F.Iter k) = refl
layer_same extents iters cells (Expr-F.Read a) = refl
layer_same extents iters cells (Expr-F.Neg x) = refl
layer_same extents iters cells (Expr-F.Add x y) = refl
layer_same extents iters cells (Expr-F.Sub x y) = refl
layer_same extents iters cells (Expr-F.Mul x y) = refl

pub flat_value : (extents : List (List ℕ)) (iters cells : List ℤ) (e : Expr) → expr_value extents iters cells e ≡ right_value iters (look extents cells) e
flat_value extents iters cells e = ap (λ f. fold-Expr ℤ f e) (λ i x. layer_same extents iters cells x i)

-- the cells of a step are those of its body's accesses
pub cells_of_accesses : (s : Step) → cells_of s ≡ map (cell_of s.identity.iters) (accesses s.body)
cells_of_accesses s = sym (map-append (cell_of s.identity.iters) (reads s.body.right) (s.body.write ∷ []))
