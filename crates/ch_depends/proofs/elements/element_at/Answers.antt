use Rattle.std.proofs.Common.{◌∙◌, ap, length}
use Rattle.ch_space.proofs.NextElements.{places_long}
use Rattle.ch_depends.proofs.elements.element_at.Goals as goal

pub woven-requires : goal.woven-requires
woven-requires c = ap length c.as_slice.ensures ∙ places_long c.args.piece.now c.args.values.now c.requires.plain.whole c.requires.one
