use Rattle.ch_datacopy.proofs.Added.{reads_added}
use Rattle.ch_datacopy.proofs.accesses.read_accesses.Goals as goal

pub returns : goal.returns
returns c = reads_added c.args.array c.args.body.now c.new-accesses.result c.push_reads.new.accesses c.new-accesses.ensures c.in_ok-push_reads.ensures
