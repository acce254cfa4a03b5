use Rattle.ch_workload.proofs.Admitted.{point_of, some_of}
use Rattle.ch_workload.proofs.laws.admissible_points.Goals as goal

pub returns : goal.returns
returns c = record { some = point_of; each = some_of }
