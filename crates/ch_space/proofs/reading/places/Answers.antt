use Rattle.std.proofs.Common.{◌≡◌, refl, sym, ap, ◌∙◌, ℕ, length, arith}
use Rattle.ch_space.specs.Listed.{Listed}
use Rattle.ch_space.proofs.Readings.{below_pieces, places_at}
use Rattle.ch_space.proofs.reading.places.Goals as goal

pub bounds-as_slice-number : goal.bounds-as_slice-number
bounds-as_slice-number c =
    below_pieces c.args.space.now.list c.space.inside.pieces c.space.invariant.apart (ap (λ (r : Listed). r.list) c.space.view_is)
    c.as_slice.result.now c.args.number c.as_slice.ensures c.requires

pub returns : goal.returns
returns c =
    ap (λ z. Rattle.std.proofs.Common.map Rattle.std.proofs.Common.pos z) c.as_slice-2.ensures
    ∙ places_at c.args.space.now.list c.space.inside.pieces c.space.invariant.apart (ap (λ (r : Listed). r.list) c.space.view_is)
    c.as_slice.result.now c.args.number c.index-as_slice-number.result c.as_slice.ensures c.requires
