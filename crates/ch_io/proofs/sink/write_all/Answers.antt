use Rattle.std.proofs.Common.{rules}
use Rattle.ch_io.proofs.TextWritten.{appends_more}
use Rattle.ch_io.proofs.sink.write_all.Goals as goal

pub loop-at-preserved : goal.loop-at-preserved
loop-at-preserved g c = record {
  short = search rules;
  taken = appends_more _ _ _ c.args.text.now c.loop-at.at c.in_ok-count.count c.loop-at.invariant.taken c.in_ok-count.ensures.bytes;
  later = search rules;
}
