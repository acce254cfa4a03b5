use Rattle.std.proofs.Common.{map, pos, take}
use Rattle.ch_cut.specs.Forms.{holds_at}
use Rattle.ch_cut.specs.Parts.{AllParts}
use Rattle.ch_cut.proofs.parts.all_parts.Given as goal

abbrev pub invariant-loop-k : goal.invariant-loop-k
invariant-loop-k l = AllParts l.level (map pos l.ours) (holds_at l.form) (take l.k l.pieces) l.candidates
