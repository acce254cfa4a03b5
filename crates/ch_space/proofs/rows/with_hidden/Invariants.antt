use Rattle.ch_space.proofs.Builds.{HiddenSoFar}
use Rattle.ch_space.proofs.rows.with_hidden.Given as goal

abbrev pub invariant-loop-part : goal.invariant-loop-part
invariant-loop-part l = HiddenSoFar l.around l.part-index l.boxes l.all l.next
