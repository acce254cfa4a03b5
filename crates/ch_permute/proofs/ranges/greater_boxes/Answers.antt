use Rattle.std.proofs.Common.{SFits, w64}
use Rattle.std.proofs.lemmas.Int.{to_z-of_z}
use Rattle.ch_permute.proofs.Steps.{set_written}
use Rattle.ch_permute.proofs.ranges.greater_boxes.Goals as goal

pub returns : goal.returns
returns c =
    let f : SFits w64 c.args.amount = c.ranges.amount in
    set_written _ _ _ c.args.level _ _ c.in_ok-raised.ensures c.as_mut_slice.ensures.value (simp to_z-of_z at c.greater-range.ensures)
