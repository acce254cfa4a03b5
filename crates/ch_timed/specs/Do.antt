-- What elements do to a store, one after another.
use Rattle.std.specs.Prelude.{map, ℤ, pos, ◌+ℤ◌, ◌-ℤ◌, ◌*ℤ◌, neg_ℤ, if◌then◌else◌, List, slice_index_or}
use Rattle.std.specs.Int.{int_wrap, w64}
use Rattle.ch_nest.specs.declared.nest.Expr.{Expr}
use Rattle.ch_nest.specs.declared.nest.Expr.TheOpen.{Expr-F}
use Rattle.ch_nest.specs.declared.nest.Expr.TheFolds.{fold-Expr}
use Rattle.ch_timed.specs.Order.{do_all}
use Rattle.ch_timed.specs.declared.element.Cell.{Cell}
use Rattle.ch_timed.specs.declared.element.Element.{Element}
use Rattle.ch_timed.specs.Timed.{Step, step}
use Rattle.ch_timed.specs.Conflict.{cell_of, same_cell, written}

-- what each cell holds
abbrev pub Store : Type 0
Store = Cell → ℤ

abbrev pub value_step : List ℤ → Store → Expr-F ℤ → ℤ
value_step iters store (Expr-F.Number n) = n
value_step iters store (Expr-F.Iter k) = slice_index_or iters k (pos 0)
value_step iters store (Expr-F.Read a) = store (cell_of iters a)
value_step iters store (Expr-F.Neg x) = int_wrap w64 (neg_ℤ x)
value_step iters store (Expr-F.Add x y) = int_wrap w64 (x +ℤ y)
value_step iters store (Expr-F.Sub x y) = int_wrap w64 (x -ℤ y)
value_step iters store (Expr-F.Mul x y) = int_wrap w64 (x *ℤ y)

-- the value of a right side
abbrev pub right_value : List ℤ → Store → Expr → ℤ
right_value iters store = fold-Expr ℤ (value_step iters store)

-- the element's assignment
abbrev pub execute : Step → Store → Store
execute e store c = if same_cell c (written e) then right_value e.identity.iters store e.body.right else store c

-- the elements of an ascending list, executed in order
abbrev pub done : List Element → Store → Store
done list = do_all execute (map step list)
