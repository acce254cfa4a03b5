use Rattle.std.proofs.Common.{sym, ◌∙◌, SFits, w64}
use Rattle.std.proofs.lemmas.Int.{to_z-of_z}
use Rattle.ch_permute.proofs.Allowed.{amounts_small}
use Rattle.ch_permute.proofs.skewing.skew.Goals as goal

pub growth-requires : goal.growth-requires
growth-requires c =
    let f : SFits w64 c.args.level = c.ranges.level in
    amounts_small c.args.space.now.list c.args.space.now.weight c.args.pieces.now c.args.level c.args.amounts.now (sym (simp to_z-of_z at c.skew_cause.ensures) ∙ c.in_default.is)

pub raised-requires-clause-small : goal.raised-requires-clause-small
raised-requires-clause-small c =
    let f : SFits w64 c.args.level = c.ranges.level in
    amounts_small c.args.space.now.list c.args.space.now.weight c.args.pieces.now c.args.level c.args.amounts.now (sym (simp to_z-of_z at c.skew_cause.ensures) ∙ c.in_default.is)
