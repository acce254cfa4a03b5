use Rattle.std.proofs.Common.{length}
use Rattle.ch_plan.proofs.sums.+residues_value.Given as goal

abbrev pub decreases-residues_value : goal.decreases-residues_value
decreases-residues_value l = length l.residues.now
