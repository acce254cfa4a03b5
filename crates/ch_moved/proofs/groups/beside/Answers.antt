use Rattle.ch_moved.proofs.Beside.{beside_fronts}
use Rattle.ch_moved.proofs.groups.beside.Goals as goal

pub returns-then-level-theirs : goal.returns-then-level-theirs
returns-then-level-theirs c =
    beside_fronts c.args.level c.args.ours.now c.args.theirs.now c.eq.result c.requires.some c.requires.deep c.if-level-theirs.true c.eq.ensures
