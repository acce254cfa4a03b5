use Rattle.std.proofs.Common.{◌≡◌, map, take}
use Rattle.ch_nest.specs.Run.{sub_value}
use Rattle.ch_depends.proofs.cells.cell_at.Given as goal

abbrev pub invariant-loop-sub : goal.invariant-loop-sub
invariant-loop-sub l = l.subs ≡ map (sub_value l.iters) (take l.sub-index l.access.subs)
