use Rattle.ch_order.proofs.Agreements.{keeps_flat, keeps_run, keeps_run_buffered}
use Rattle.ch_order.proofs.laws.kept_arrays_are_equal.Goals as goal

pub returns : goal.returns
returns c = record { flat = keeps_flat; nest = keeps_run; empty_buffers = keeps_run_buffered }
