use Rattle.std.proofs.Common.{◌≡◌, ◌++◌}
use Rattle.std.specs.List.{flat_map, range_with_len}
use Rattle.ch_check.specs.PieceText.{piece_line}
use Rattle.ch_space.specs.Members.{members}
use Rattle.ch_check.proofs.pieces.put_pieces.Given as goal

abbrev pub invariant-loop-number : goal.invariant-loop-number
invariant-loop-number l = l.out ≡ l.initial.out ++ flat_map (λ k. piece_line k (members l.space.list k)) (range_with_len 0 l.number)
