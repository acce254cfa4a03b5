use Rattle.std.proofs.Common.{sym, ap, ◌∙◌, arith}
use Rattle.ch_space.specs.Listed.{Listed}
use Rattle.ch_space.proofs.PieceNumbers.{few_pieces}
use Rattle.ch_space.proofs.Readings.{count_is}
use Rattle.ch_space.proofs.reading.pieces.Goals as goal

pub overflow_cast-result : goal.overflow_cast-result
overflow_cast-result c =
    let few = few_pieces c.space.inside.pieces c.space.inside.counts c.space.invariant.apart c.space.invariant.counted in
    let most = c.space.invariant.few in
    omega (arith, few, most, c.len.ensures)

pub returns : goal.returns
returns c =
    c.len.ensures ∙ sym (count_is c.args.space.now.list c.space.inside.pieces c.space.invariant.apart (ap (λ (r : Listed). r.list) c.space.view_is))
