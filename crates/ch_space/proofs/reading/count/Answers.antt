use Rattle.std.proofs.Common.{ap, ◌∙◌, length}
use Rattle.ch_space.specs.Listed.{Listed}
use Rattle.ch_space.proofs.PieceNumbers.{list_length}
use Rattle.ch_space.proofs.reading.count.Goals as goal

pub returns : goal.returns
returns c =
    c.total.ensures ∙ ap (λ z. Rattle.std.specs.List.sum z) c.as_slice.ensures
    ∙ list_length c.space.inside.pieces c.space.inside.counts c.space.invariant.apart c.space.invariant.counted
    ∙ ap (λ (r : Listed). length r.list) c.space.view_is
