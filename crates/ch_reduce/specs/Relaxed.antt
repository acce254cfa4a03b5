-- What may change places where sums may be made in any order.
use Rattle.std.specs.Prelude.{Bool, ◌&&◌, nat_eq, if◌then◌else◌, Option, None, List, map}
use Rattle.ch_nest.specs.declared.nest.Body.{Body}
use Rattle.ch_order.specs.Legal.{Conflict, IsLegalBy}
use Rattle.ch_timed.specs.declared.element.Cell.{Cell}
use Rattle.ch_timed.specs.declared.element.Element.{Element}
use Rattle.ch_timed.specs.Conflict.{conflict}
use Rattle.ch_timed.specs.Order as order
use Rattle.ch_timed.specs.Order.{Pair}
use Rattle.ch_timed.specs.Timed.{Step, same_step, step}
use Rattle.ch_reduce.specs.Accumulation.{accumulates}

-- both accumulate and write one array
abbrev pub bodies_add_to_one : Body → Body → Bool
bodies_add_to_one b c = (accumulates b && accumulates c) && nat_eq b.write.array c.write.array

-- both add to cells of one array
abbrev pub add_to_one : Step → Step → Bool
add_to_one a b = bodies_add_to_one a.body b.body

-- The first cell, in the first step's access order, that both access, one of the two writing it. There is none where both
-- add to cells of one array.
abbrev pub free_conflict : Conflict
free_conflict a b = if add_to_one a b then None else conflict a b

-- the least pair of steps in free conflict that the new list has the other way round
abbrev pub relaxed_reversed : List Element → List Element → Option (Pair Step Cell)
relaxed_reversed old new = order.reversed same_step free_conflict (map step old) (map step new)

-- The new list may stand in the place of the old one: the steps are the same, each once, and no two in free conflict stand the
-- other way round.
abbrev pub IsRelaxed : List Element → List Element → Type 0
IsRelaxed = IsLegalBy free_conflict
