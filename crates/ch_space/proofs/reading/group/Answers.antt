use Rattle.std.proofs.Common.{ap, length, arith}
use Rattle.ch_space.specs.Listed.{Listed}
use Rattle.ch_space.proofs.PieceNumbers.{few_pieces}
use Rattle.ch_space.proofs.Readings.{below_pieces, grouped}
use Rattle.ch_space.proofs.reading.group.Goals as goal

pub bounds-all-number : goal.bounds-all-number
bounds-all-number c =
    below_pieces c.args.space.now.list c.space.inside.pieces c.space.invariant.apart (ap (λ (r : Listed). r.list) c.space.view_is)
    c.as_slice-all.result.now c.args.number c.as_slice-all.ensures c.requires

pub numbers_sharing-requires : goal.numbers_sharing-requires
numbers_sharing-requires c =
    let few = few_pieces c.space.inside.pieces c.space.inside.counts c.space.invariant.apart c.space.invariant.counted in
    let most = c.space.invariant.few in
    let same = ap length c.as_slice-all.ensures in
    omega arith

pub returns : goal.returns
returns c =
    grouped c.args.space.now.list c.space.inside.pieces c.space.invariant.apart (ap (λ (r : Listed). r.list) c.space.view_is)
    c.as_slice-all.result.now c.args.number c.args.level c.index-all-number.result c.as_slice-ours.result.now c.numbers_sharing.result c.as_slice-all.ensures c.requires
    c.as_slice-ours.ensures c.numbers_sharing.ensures
