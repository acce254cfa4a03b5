use Rattle.std.proofs.Common.{◌∙◌}
use Rattle.ch_nest.specs.Arrays.{extents_of}
use Rattle.ch_order.proofs.Legal.{legal_chain_flat, legal_end_flat}
use Rattle.ch_timed.proofs.Program.{run_is}
use Rattle.ch_timed.proofs.Stays.{stays}
use Rattle.ch_timed.specs.Start.{start}
use Rattle.ch_order.proofs.laws.legal_list_runs_the_nest.Goals as goal

pub returns : goal.returns
returns c = record {
  one = λ nest i new l cells. run_is nest cells ∙ legal_end_flat (start nest) new l (extents_of nest.arrays) (stays nest i) cells;
  many = λ nest i later l cells. run_is nest cells ∙ legal_chain_flat (start nest) later l (extents_of nest.arrays) (stays nest i) cells;
}
