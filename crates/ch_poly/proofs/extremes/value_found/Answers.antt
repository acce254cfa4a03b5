use Rattle.std.proofs.Common.{refl}
use Rattle.ch_poly.proofs.Extreme.{small_point}
use Rattle.ch_poly.proofs.extremes.value_found.Goals as goal

pub value-requires-clause-small : goal.value-requires-clause-small
value-requires-clause-small c = small_point _ _ _ c.requires.boxed (c.if-search.ensures.yes refl).within
