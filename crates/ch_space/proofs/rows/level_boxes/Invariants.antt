use Rattle.ch_space.proofs.Builds.{BoxesSoFar}
use Rattle.ch_space.proofs.rows.level_boxes.Given as goal

abbrev pub invariant-loop-part : goal.invariant-loop-part
invariant-loop-part l = BoxesSoFar l.around l.part-index l.boxes
