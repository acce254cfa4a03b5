use Rattle.std.proofs.Common.{length}
use Rattle.ch_nest.proofs.plan.+row_major_form.Given as goal

abbrev pub decreases-row_major_form : goal.decreases-row_major_form
decreases-row_major_form l = length l.extents.now
