-- Induction on right sides and on the items of a nest, by their kinds.
use Rattle.std.proofs.Common.{◌≡◌, sym, subst, ap, ◌∙◌, ℕ, ℤ, List, [], ◌∷◌, map}
use Rattle.ch_affine.specs.Form.{Form}
use Rattle.ch_nest.specs.declared.nest.Access.{Access}
use Rattle.ch_nest.specs.declared.nest.Body.{Body}
use Rattle.ch_nest.specs.declared.nest.Expr.{Expr, map-Expr, roll-Expr}
use Rattle.ch_nest.specs.declared.nest.Expr.TheFolds.{ind-Expr}
use Rattle.ch_nest.specs.declared.nest.Expr.TheOpen.{Expr-F}
use Rattle.ch_nest.specs.declared.nest.Expr.TheVariants.{Number, Iter, Read, Neg, Add, Sub, Mul, rolls-Number, rolls-Iter, rolls-Read, rolls-Neg, rolls-Add, rolls-Sub, rolls-Mul}
use Rattle.ch_nest.specs.declared.nest.Item.{Item, map-Item, roll-Item}
use Rattle.ch_nest.specs.declared.nest.Item.TheFolds.{fold-Item, fold-roll-Item, ind-Item}
use Rattle.ch_nest.specs.declared.nest.Item.TheOpen.{Item-F}
use Rattle.ch_nest.specs.declared.nest.Item.TheVariants.{Loop, If, Assign, rolls-Loop, rolls-If, rolls-Assign}

module _ (P : Expr → Type 0) (numbers : (n : ℤ) → P (Number n)) (iterators : (k : ℕ) → P (Iter k)) (reads : (a : Access) → P (Read a)) (negs : (x : Expr) → P x → P (Neg x))
    (adds : (x y : Expr) → P x → P y → P (Add x y)) (subs : (x y : Expr) → P x → P y → P (Sub x y)) (muls : (x y : Expr) → P x → P y → P (Mul x y)) where
  abbrev KnownExpr : Type 0
  KnownExpr = (x : Expr) × P x

  abbrev bare_expr : KnownExpr → Expr
  bare_expr e = e.0

  expr_layer : (y : Expr-F KnownExpr) → P (roll-Expr (map-Expr KnownExpr Expr bare_expr y))
  expr_layer (Expr-F.Number n) = subst P (sym (rolls-Number n)) (numbers n)
  expr_layer (Expr-F.Iter k) = subst P (sym (rolls-Iter k)) (iterators k)
  expr_layer (Expr-F.Read a) = subst P (sym (rolls-Read a)) (reads a)
  expr_layer (Expr-F.Neg x) = subst P (sym (rolls-Neg x.0)) (negs x.0 x.1)
  expr_layer (Expr-F.Add x y) = subst P (sym (rolls-Add x.0 y.0)) (adds x.0 y.0 x.1 y.1)
  expr_layer (Expr-F.Sub x y) = subst P (sym (rolls-Sub x.0 y.0)) (subs x.0 y.0 x.1 y.1)
  expr_layer (Expr-F.Mul x y) = subst P (sym (rolls-Mul x.0 y.0)) (muls x.0 y.0 x.1 y.1)

  pub by_exprs : (x : Expr) → P x
  by_exprs = ind-Expr P (λ x y is. subst (λ z. P (roll-Expr z)) is (expr_layer y))

-- the fact of each element
abbrev pub Each : {A : Type 0} → (A → Type 0) → List A → Type 0
Each P [] = Unit {0}
Each P (x ∷ xs) = P x × Each P xs

module _ (P : Item → Type 0) (loops : (lows highs : List Form) (step : ℕ) (items : List Item) → Each P items → P (Loop lows highs step items))
    (ifs : (row : Form) (items : List Item) → Each P items → P (If row items)) (leaf : (label : ℕ) (body : Body) → P (Assign label body)) where
  abbrev KnownItem : Type 0
  KnownItem = (item : Item) × P item

  abbrev bare_item : KnownItem → Item
  bare_item e = e.0

  each_known : (ks : List KnownItem) → Each P (map bare_item ks)
  each_known [] = tt
  each_known (e ∷ ks) = (e.1, each_known ks)

  item_layer : (y : Item-F KnownItem) → P (roll-Item (map-Item KnownItem Item bare_item y))
  item_layer (Item-F.Loop lows highs step ks) = subst P (sym (rolls-Loop lows highs step (map bare_item ks))) (loops lows highs step (map bare_item ks) (each_known ks))
  item_layer (Item-F.If row ks) = subst P (sym (rolls-If row (map bare_item ks))) (ifs row (map bare_item ks) (each_known ks))
  item_layer (Item-F.Assign label body) = subst P (sym (rolls-Assign label body)) (leaf label body)

  pub by_items : (item : Item) → P item
  by_items = ind-Item P (λ x y is. subst (λ z. P (roll-Item z)) is (item_layer y))

  pub each_item : (items : List Item) → Each P items
  each_item [] = tt
  each_item (i ∷ is) = (by_items i, each_item is)

module _ {C : Type 0} (step : Item-F C → C) where
  pub fold_loop : (lows highs : List Form) (by : ℕ) (items : List Item) → fold-Item C step (Loop lows highs by items) ≡ step (Item-F.Loop lows highs by (map (fold-Item C step) items))
  fold_loop lows highs by items = ap (fold-Item C step) (sym (rolls-Loop lows highs by items)) ∙ fold-roll-Item C step _

  pub fold_if : (row : Form) (items : List Item) → fold-Item C step (If row items) ≡ step (Item-F.If row (map (fold-Item C step) items))
  fold_if row items = ap (fold-Item C step) (sym (rolls-If row items)) ∙ fold-roll-Item C step _

  pub fold_assign : (label : ℕ) (body : Body) → fold-Item C step (Assign label body) ≡ step (Item-F.Assign label body)
  fold_assign label body = ap (fold-Item C step) (sym (rolls-Assign label body)) ∙ fold-roll-Item C step _
