use Rattle.ch_codegen.proofs.Said.{said_by}
use Rattle.ch_codegen.proofs.tight.is_said.Goals as goal

pub returns-then-implies : goal.returns-then-implies
returns-then-implies c t =
    said_by c.args.is_low c.args.bounds.now c.args.bound.now c.other-item.result c.loop-other.other-index c.loop-other-test.true c.other-item.is (c.implies.ensures c.if-implies.true)
