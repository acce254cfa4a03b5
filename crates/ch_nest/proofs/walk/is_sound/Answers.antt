use Rattle.std.proofs.Common.{[], refl}
use Rattle.ch_nest.proofs.walk.is_sound.Goals as goal

pub walk_items-requires-clause-known : goal.walk_items-requires-clause-known
walk_items-requires-clause-known c = λ known. c.items_lie-known.ensures known [] refl
