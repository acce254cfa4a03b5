-- Which elements conflict, and the least pair that a second list has the other way round.
use Rattle.std.specs.Prelude.{ℤ, Bool, true, false, ◌&&◌, ◌||◌, nat_eq, Option, Some, None, List, [], ◌∷◌, ◌++◌, map}
use Rattle.ch_nest.specs.declared.nest.Access.{Access}
use Rattle.ch_nest.specs.declared.nest.Body.{Body}
use Rattle.ch_nest.specs.declared.nest.Expr.{Expr}
use Rattle.ch_nest.specs.declared.nest.Expr.TheOpen.{Expr-F}
use Rattle.ch_nest.specs.declared.nest.Expr.TheFolds.{fold-Expr}
use Rattle.ch_nest.specs.Run.{subscripts}
use Rattle.ch_timed.specs.Order as order
use Rattle.ch_timed.specs.Order.{Pair}
use Rattle.ch_timed.specs.declared.element.Cell.{Cell}
use Rattle.ch_timed.specs.Vectors.{same_numbers}
use Rattle.ch_timed.specs.declared.element.Element.{Element}
use Rattle.ch_timed.specs.Timed.{Step, step, same_step}

abbrev pub reads_step : Expr-F (List Access) → List Access
reads_step (Expr-F.Number n) = []
reads_step (Expr-F.Iter k) = []
reads_step (Expr-F.Read a) = a ∷ []
reads_step (Expr-F.Neg x) = x
reads_step (Expr-F.Add x y) = x ++ y
reads_step (Expr-F.Sub x y) = x ++ y
reads_step (Expr-F.Mul x y) = x ++ y

-- the accesses that are read, from left to right
abbrev pub reads : Expr → List Access
reads = fold-Expr (List Access) reads_step

-- the accesses of a body in access order: the reads from left to right, then the write
abbrev pub accesses : Body → List Access
accesses body = reads body.right ++ body.write ∷ []

-- the cell of an access at these iterators
abbrev pub cell_of : List ℤ → Access → Cell
cell_of iters a = record { array = a.array; subs = subscripts a iters }

abbrev pub written : Step → Cell
written e = cell_of e.identity.iters e.body.write

-- the cells of an element in access order: the reads, then the write
abbrev pub cells_of : Step → List Cell
cells_of e = map (cell_of e.identity.iters) (reads e.body.right) ++ written e ∷ []

abbrev pub same_cell : Cell → Cell → Bool
same_cell c d = nat_eq c.array d.array && same_numbers c.subs d.subs

abbrev pub has_cell : Cell → List Cell → Bool
has_cell c [] = false
has_cell c (d ∷ ds) = same_cell c d || has_cell c ds

-- whether it is the last of these cells, the one that is written
abbrev pub writes_cell : Cell → List Cell → Bool
writes_cell c [] = false
writes_cell c (d ∷ []) = same_cell c d
writes_cell c (d ∷ e ∷ more) = writes_cell c (e ∷ more)

abbrev pub chosen : Bool → Cell → Option Cell → Option Cell
chosen true c more = Some c
chosen false c more = more

-- the first of these cells that both access, one of the two writing it
abbrev pub clash : List Cell → List Cell → List Cell → Option Cell
clash ours theirs [] = None
clash ours theirs (c ∷ cs) =
    chosen (has_cell c theirs && (writes_cell c ours || writes_cell c theirs)) c (clash ours theirs cs)

abbrev pub conflict : Step → Step → Option Cell
conflict a b = clash (cells_of a) (cells_of b) (cells_of a)

-- the least pair of conflicting elements that the new list has the other way round
abbrev pub reversed : List Element → List Element → Option (Pair Step Cell)
reversed old new = order.reversed same_step conflict (map step old) (map step new)
