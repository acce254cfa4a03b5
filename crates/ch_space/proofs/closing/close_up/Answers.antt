use Rattle.std.proofs.Common.{sym, ap, ◌∙◌, subst, length, map, arith}
use Rattle.ch_timed.specs.Closed.{closed_up}
use Rattle.ch_space.specs.Keeps.{IsSpace, places_of}
use Rattle.ch_space.specs.Listed.{Listed}
use Rattle.ch_space.specs.Pieces.{listed}
use Rattle.ch_space.specs.Renumbered.{AreRanks}
use Rattle.ch_space.proofs.ClosedPieces.{list_closed, space_closed}
use Rattle.ch_space.proofs.PieceNumbers.{few_pieces}
use Rattle.ch_space.proofs.PlacesInOrder.{pieces_after, enough}
use Rattle.ch_space.proofs.closing.close_up.Goals as goal

pub closed_places-requires-clause-few : goal.closed_places-requires-clause-few
closed_places-requires-clause-few c =
    let few = few_pieces c.space.inside.pieces c.space.inside.counts c.space.invariant.apart c.space.invariant.counted in
    let most = c.space.invariant.few in
    let same = ap length c.as_slice.ensures in
    omega arith

pub place_all-requires : goal.place_all-requires
place_all-requires c = enough c.space.inside.pieces c.as_slice.result.now c.as_mut_slice.result.now c.in_ok-closed.closed c.as_slice.ensures c.as_mut_slice.ensures.value c.in_ok-closed.ensures

pub invariant_of-space : goal.invariant_of-space
invariant_of-space c =
    let ranks = subst (λ z. AreRanks (map places_of z) z c.in_ok-closed.closed) c.as_slice.ensures c.in_ok-closed.ensures in
    let after = pieces_after c.space.inside.pieces c.as_mut_slice.result.now c.place_all.new.pieces c.in_ok-closed.closed c.as_mut_slice.ensures.value c.place_all.ensures in
    subst (λ z. IsSpace c.space.inside.arrays z c.space.inside.counts c.space.inside.temps c.space.inside.weight c.space.inside.commands) (sym after)
    (space_closed c.space.inside.arrays c.space.inside.weight c.space.inside.commands c.space.inside.pieces c.space.inside.counts c.space.inside.temps c.in_ok-closed.closed ranks c.space.invariant)

pub returns-clause-list : goal.returns-clause-list
returns-clause-list c =
    let ranks = subst (λ z. AreRanks (map places_of z) z c.in_ok-closed.closed) c.as_slice.ensures c.in_ok-closed.ensures in
    let after = pieces_after c.space.inside.pieces c.as_mut_slice.result.now c.place_all.new.pieces c.in_ok-closed.closed c.as_mut_slice.ensures.value c.place_all.ensures in
    ap listed after ∙ list_closed c.space.inside.pieces c.in_ok-closed.closed ranks c.space.invariant.apart ∙ ap (λ (r : Listed). closed_up r.list) c.space.view_is
