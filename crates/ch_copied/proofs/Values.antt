-- The value of a right side that was redirected.
use Rattle.std.proofs.Common.{◌≡◌, refl, sym, ap, ap₂, ◌∙◌, subst, ℕ, ℤ, pos, ◌+ℤ◌, ◌-ℤ◌, ◌*ℤ◌, neg_ℤ, List, [], ◌∷◌, ◌++◌, inl, inr, get_or}
use Rattle.std.specs.Int.{int_wrap, w64}
use Rattle.ch_nest.specs.declared.nest.Access.{Access}
use Rattle.ch_nest.specs.declared.nest.Expr.{Expr, map-Expr}
use Rattle.ch_nest.specs.declared.nest.Expr.TheOpen.{Expr-F}
use Rattle.ch_nest.specs.declared.nest.Expr.TheVariants.{Number, Iter, Read, Neg, Add, Sub, Mul, rolls-Number, rolls-Iter, rolls-Read, rolls-Neg, rolls-Add, rolls-Sub, rolls-Mul}
use Rattle.ch_nest.specs.declared.nest.Expr.TheFolds.{fold-roll-Expr, ind-Expr}
use Rattle.ch_timed.specs.Members.{In}
use Rattle.ch_timed.specs.Conflict.{cell_of, reads, reads_step}
use Rattle.ch_timed.specs.Do.{Store, right_value, value_step}
use Rattle.ch_copied.specs.Plans.{Plan}
use Rattle.ch_copied.specs.Bodies.{redirect, redirect_step, redirected_access}

pub in_left : {X : Type 0} (x : X) (xs ys : List X) → In x xs → In x (xs ++ ys)
in_left x [] ys i = absurd i
in_left x (z ∷ xs) ys (inl e) = inl e
in_left x (z ∷ xs) ys (inr i) = inr (in_left x xs ys i)

pub in_right : {X : Type 0} (x : X) (xs ys : List X) → In x ys → In x (xs ++ ys)
in_right x [] ys i = i
in_right x (z ∷ xs) ys i = inr (in_right x xs ys i)

module _ (iters : List ℤ) (t : Store) where
  value_number : (n : ℤ) → right_value iters t (Number n) ≡ n
  value_number n = ap (right_value iters t) (sym (rolls-Number n)) ∙ fold-roll-Expr ℤ (value_step iters t) _

  value_iter : (k : ℕ) → right_value iters t (Iter k) ≡ get_or iters k (pos 0)
  value_iter k = ap (right_value iters t) (sym (rolls-Iter k)) ∙ fold-roll-Expr ℤ (value_step iters t) _

  pub value_read : (a : Access) → right_value iters t (Read a) ≡ t (cell_of iters a)
  value_read a = ap (right_value iters t) (sym (rolls-Read a)) ∙ fold-roll-Expr ℤ (value_step iters t) _

  value_neg : (x : Expr) → right_value iters t (Neg x) ≡ int_wrap w64 (neg_ℤ (right_value iters t x))
  value_neg x = ap (right_value iters t) (sym (rolls-Neg x)) ∙ fold-roll-Expr ℤ (value_step iters t) _

  value_add : (x y : Expr) → right_value iters t (Add x y) ≡ int_wrap w64 (right_value iters t x +ℤ right_value iters t y)
  value_add x y = ap (right_value iters t) (sym (rolls-Add x y)) ∙ fold-roll-Expr ℤ (value_step iters t) _

  value_sub : (x y : Expr) → right_value iters t (Sub x y) ≡ int_wrap w64 (right_value iters t x -ℤ right_value iters t y)
  value_sub x y = ap (right_value iters t) (sym (rolls-Sub x y)) ∙ fold-roll-Expr ℤ (value_step iters t) _

  value_mul : (x y : Expr) → right_value iters t (Mul x y) ≡ int_wrap w64 (right_value iters t x *ℤ right_value iters t y)
  value_mul x y = ap (right_value iters t) (sym (rolls-Mul x y)) ∙ fold-roll-Expr ℤ (value_step iters t) _

module _ (p : Plan) (iters : List ℤ) (s t : Store) where
  abbrev Finds : List Access → Type 0
  Finds accesses = (r : Access) → In r accesses → t (cell_of iters (redirected_access p r)) ≡ s (cell_of iters r)

  abbrev Same : Expr → Type 0
  Same x = Finds (reads x) → right_value iters t (redirect p x) ≡ right_value iters s x

  abbrev Known : Type 0
  Known = (x : Expr) × Same x

  abbrev bare : Known → Expr
  bare e = e.0

  layer : (y : Expr-F Known) → Finds (reads_step (map-Expr Expr (List Access) reads (map-Expr Known Expr bare y)))
      → right_value iters t (redirect_step p (map-Expr Expr Expr (redirect p) (map-Expr Known Expr bare y)))
      ≡ value_step iters s (map-Expr Expr ℤ (right_value iters s) (map-Expr Known Expr bare y))
  layer (Expr-F.Number n) h = value_number iters t n
  layer (Expr-F.Iter k) h = value_iter iters t k
  layer (Expr-F.Read a) h = value_read iters t (redirected_access p a) ∙ h a (inl refl)
  layer (Expr-F.Neg x) h = value_neg iters t (redirect p x.0) ∙ ap (λ v. int_wrap w64 (neg_ℤ v)) (x.1 h)
  layer (Expr-F.Add x y) h = value_add iters t (redirect p x.0) (redirect p y.0)
      ∙ ap₂ (λ v w. int_wrap w64 (v +ℤ w)) (x.1 (λ r i. h r (in_left r (reads x.0) (reads y.0) i))) (y.1 (λ r i. h r (in_right r (reads x.0) (reads y.0) i)))
  layer (Expr-F.Sub x y) h = value_sub iters t (redirect p x.0) (redirect p y.0)
      ∙ ap₂ (λ v w. int_wrap w64 (v -ℤ w)) (x.1 (λ r i. h r (in_left r (reads x.0) (reads y.0) i))) (y.1 (λ r i. h r (in_right r (reads x.0) (reads y.0) i)))
  layer (Expr-F.Mul x y) h = value_mul iters t (redirect p x.0) (redirect p y.0)
      ∙ ap₂ (λ v w. int_wrap w64 (v *ℤ w)) (x.1 (λ r i. h r (in_left r (reads x.0) (reads y.0) i))) (y.1 (λ r i. h r (in_right r (reads x.0) (reads y.0) i)))

  pub redirected_value : (x : Expr) → Same x
  redirected_value = ind-Expr Same (λ x y is h.
      let g : Finds (reads_step (map-Expr Expr (List Access) reads x)) = subst Finds (fold-roll-Expr (List Access) reads_step x) h in
      ap (right_value iters t) (fold-roll-Expr Expr (redirect_step p) x)
      ∙ subst (λ z. Finds (reads_step (map-Expr Expr (List Access) reads z)) → right_value iters t (redirect_step p (map-Expr Expr Expr (redirect p) z)) ≡ value_step iters s (map-Expr Expr ℤ (right_value iters s) z)) is (layer y) g
      ∙ sym (fold-roll-Expr ℤ (value_step iters s) x))
