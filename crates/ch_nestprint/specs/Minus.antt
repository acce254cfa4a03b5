-- The negative numbers of right sides: their magnitudes from left to right.
use Rattle.std.specs.Prelude.{ℕ, unsigned_abs, Bool, true, false, List, [], ◌∷◌, ◌++◌, map}
use Rattle.std.specs.List.{concat}
use Rattle.ch_nest.specs.declared.nest.Expr.{Expr}
use Rattle.ch_nest.specs.declared.nest.Expr.TheFolds.{fold-Expr}
use Rattle.ch_nest.specs.declared.nest.Expr.TheOpen.{Expr-F}
use Rattle.ch_nest.specs.declared.nest.Item.{Item}
use Rattle.ch_nest.specs.declared.nest.Item.TheFolds.{fold-Item}
use Rattle.ch_nest.specs.declared.nest.Item.TheOpen.{Item-F}
use Rattle.ch_nestprint.specs.Ends.{is_below}

abbrev pub size_if : Bool → ℕ → List ℕ
size_if true size = size ∷ []
size_if false size = []

abbrev pub minus_step : Expr-F (List ℕ) → List ℕ
minus_step (Expr-F.Number n) = size_if (is_below n) (unsigned_abs n)
minus_step (Expr-F.Iter k) = []
minus_step (Expr-F.Read a) = []
minus_step (Expr-F.Neg x) = x
minus_step (Expr-F.Add x y) = x ++ y
minus_step (Expr-F.Sub x y) = x ++ y
minus_step (Expr-F.Mul x y) = x ++ y

abbrev pub minus_in : Expr → List ℕ
minus_in = fold-Expr (List ℕ) minus_step

abbrev pub minus_item_step : Item-F (List ℕ) → List ℕ
minus_item_step (Item-F.Loop lows highs step items) = concat items
minus_item_step (Item-F.If row items) = concat items
minus_item_step (Item-F.Assign label body) = minus_in body.right

abbrev pub minus_in_item : Item → List ℕ
minus_in_item = fold-Item (List ℕ) minus_item_step

abbrev pub minus_in_items : List Item → List ℕ
minus_in_items items = concat (map minus_in_item items)
