use Rattle.std.proofs.Common.{◌≡◌, take}
use Rattle.std.specs.List.{All}
use Rattle.ch_affine.specs.Rows.{IsBox}
use Rattle.ch_space.specs.Following.{narrowed}
use Rattle.ch_space.proofs.after.narrowed.Given as goal

abbrev pub invariant-loop-k : goal.invariant-loop-k
invariant-loop-k l = (l.narrow ≡ take l.k (narrowed l.boxes l.front)) × All IsBox l.narrow
