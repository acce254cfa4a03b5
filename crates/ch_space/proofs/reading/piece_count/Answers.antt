use Rattle.std.proofs.Common.{ap, ◌∙◌}
use Rattle.ch_space.specs.Listed.{Listed}
use Rattle.ch_space.proofs.Readings.{below_counts, counted_at}
use Rattle.ch_space.proofs.reading.piece_count.Goals as goal

pub bounds-as_slice-number : goal.bounds-as_slice-number
bounds-as_slice-number c =
    below_counts c.args.space.now.list c.space.inside.pieces c.space.invariant.apart (ap (λ (r : Listed). r.list) c.space.view_is)
    c.as_slice.result.now c.args.number (c.as_slice.ensures ∙ c.space.invariant.counted) c.requires

pub returns : goal.returns
returns c =
    counted_at c.args.space.now.list c.space.inside.pieces c.space.invariant.apart (ap (λ (r : Listed). r.list) c.space.view_is)
    c.as_slice.result.now c.args.number (c.as_slice.ensures ∙ c.space.invariant.counted) c.requires
