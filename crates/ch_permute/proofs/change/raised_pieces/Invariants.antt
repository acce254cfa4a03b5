use Rattle.std.proofs.Common.{take, ◌-◌}
use Rattle.ch_affine.specs.Affine.{form}
use Rattle.ch_moved.specs.Arguments.{is_named, natural}
use Rattle.ch_permute.specs.Changed.{AllBecome}
use Rattle.ch_permute.specs.Lowered.{plus}
use Rattle.ch_permute.specs.Raised.{growth}
use Rattle.ch_space.specs.Pieces.{listed}
use Rattle.ch_permute.proofs.change.raised_pieces.Given as goal

abbrev pub invariant-loop-k : goal.invariant-loop-k
invariant-loop-k l = AllBecome (is_named (listed l.pieces) l.numbers) (plus (form l.amounts l.amount) (natural l.level - 1)) (growth l.amounts) (take l.k l.pieces) l.new
