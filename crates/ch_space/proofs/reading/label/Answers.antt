use Rattle.std.proofs.Common.{ap}
use Rattle.ch_space.specs.Listed.{Listed}
use Rattle.ch_space.proofs.Readings.{below_pieces, label_at}
use Rattle.ch_space.proofs.reading.label.Goals as goal

pub bounds-as_slice-number : goal.bounds-as_slice-number
bounds-as_slice-number c =
    below_pieces c.args.space.now.list c.space.inside.pieces c.space.invariant.apart (ap (λ (r : Listed). r.list) c.space.view_is)
    c.as_slice.result.now c.args.number c.as_slice.ensures c.requires

pub bounds-as_slice-number-2 : goal.bounds-as_slice-number-2
bounds-as_slice-number-2 c =
    below_pieces c.args.space.now.list c.space.inside.pieces c.space.invariant.apart (ap (λ (r : Listed). r.list) c.space.view_is)
    c.as_slice.result.now c.args.number c.as_slice.ensures c.requires

pub returns : goal.returns
returns c =
    label_at c.args.space.now.list c.space.inside.pieces c.space.invariant.apart (ap (λ (r : Listed). r.list) c.space.view_is)
    c.as_slice.result.now c.args.number c.index-as_slice-number.result c.as_slice.ensures c.requires
