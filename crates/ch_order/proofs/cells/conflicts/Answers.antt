use Rattle.std.proofs.Common.{◌∙◌, sym}
use Rattle.ch_timed.specs.Timed.{step}
use Rattle.ch_order.proofs.Clashes.{conflict_is, or_first, or_second}
use Rattle.ch_order.proofs.cells.conflicts.Goals as goal

pub returns-then-same_written : goal.returns-then-same_written
returns-then-same_written c =
    or_first _ _ _ c.same_written.ensures c.if-same_written.true ∙ sym (conflict_is (step c.args.a.now) (step c.args.b.now))

pub returns-else-same_written : goal.returns-else-same_written
returns-else-same_written c =
    or_second _ _ _ _ c.same_written.ensures c.if-same_written.false c.reads_other.ensures ∙ sym (conflict_is (step c.args.a.now) (step c.args.b.now))
