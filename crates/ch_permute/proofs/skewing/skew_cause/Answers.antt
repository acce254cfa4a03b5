use Rattle.std.proofs.Common.{sym, ◌∙◌}
use Rattle.ch_moved.proofs.Allowed.{all_small}
use Rattle.ch_permute.proofs.skewing.skew_cause.Goals as goal

pub growth-requires : goal.growth-requires
growth-requires c = all_small 64 c.args.amounts.now (sym c.too_large.ensures ∙ c.in_default-too_large.is)
