use Rattle.std.proofs.Common.{take}
use Rattle.ch_datacopy.specs.Ranges.{AreRangesOf}
use Rattle.ch_datacopy.proofs.ranges.ranges_of.Given as goal

abbrev pub invariant-loop-form : goal.invariant-loop-form
invariant-loop-form l = AreRangesOf l.most l.boxes (take l.form-index l.forms) l.ranges
