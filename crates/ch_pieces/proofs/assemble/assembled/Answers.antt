use Rattle.std.proofs.Common.{◌≤◌, ap, length, subst, sym}
use Rattle.ch_pieces.proofs.Ranked.{all_assembled, enough_parts, few_parts, parts_apart}
use Rattle.ch_pieces.proofs.assemble.assembled.Goals as goal

pub closed_places-requires-clause-apart : goal.closed_places-requires-clause-apart
closed_places-requires-clause-apart c =
    parts_apart c.args.candidates c.in_ok-parts.parts.items c.as_slice.result.now c.in_ok-parts.ensures c.requires.whole c.requires.differ c.as_slice.ensures.value

pub closed_places-requires-clause-few : goal.closed_places-requires-clause-few
closed_places-requires-clause-few c =
    subst (λ n. n ≤ 2097152) (sym (ap length c.as_slice.ensures.value)) (few_parts c.args.candidates c.in_ok-parts.parts.items c.in_ok-parts.ensures c.requires.number)

pub place_all-requires : goal.place_all-requires
place_all-requires c =
    enough_parts c.in_ok-parts.parts.items c.as_slice.result.now c.in_ok-assembled.assembled.pieces c.as_mut_slice.result.now c.in_ok-closed.closed c.as_slice.ensures.value
    c.in_ok-assembled.ensures.pieces c.as_mut_slice.ensures.value c.in_ok-closed.ensures

pub returns : goal.returns
returns c =
    all_assembled c.args.candidates c.in_ok-parts.parts.items c.as_slice.result.now c.in_ok-assembled.assembled.pieces c.as_mut_slice.result.now c.place_all.new.pieces
    c.in_ok-assembled.assembled.counts c.in_ok-closed.closed c.in_ok-parts.ensures c.as_slice.ensures.value c.in_ok-closed.ensures c.in_ok-assembled.ensures.pieces
    c.in_ok-assembled.ensures.counts c.as_mut_slice.ensures.value c.place_all.ensures
