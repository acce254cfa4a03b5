use Rattle.std.proofs.Common.{◌≡◌, refl, ap, ◌∙◌, subst, Some, IfOk, get_or}
use Rattle.ch_poly.specs.Points.{first}
use Rattle.ch_space.specs.Members.{identities, last}
use Rattle.ch_space.specs.Pieces.{elements}
use Rattle.ch_space.specs.Listed.{Listed}
use Rattle.ch_space.proofs.Readings.{below_pieces, found_in}
use Rattle.ch_space.proofs.PieceElements.{whole_in}
use Rattle.ch_space.proofs.PieceNumbers.{instance_in}
use Rattle.ch_space.proofs.EndsOf.{near_in, first_same, last_same}
use Rattle.ch_space.proofs.extremes.ends.Goals as goal

pub bounds-all-number : goal.bounds-all-number
bounds-all-number c =
    below_pieces c.args.space.now.list c.space.inside.pieces c.space.invariant.apart (ap (λ (r : Listed). r.list) c.space.view_is)
    c.as_slice-all.result.now c.args.number c.as_slice-all.ensures c.requires

pub ends_of-requires-clause-whole : goal.ends_of-requires-clause-whole
ends_of-requires-clause-whole c =
    let i = found_in c.args.space.now.list c.space.inside.pieces c.space.invariant.apart (ap (λ (r : Listed). r.list) c.space.view_is)
    c.as_slice-all.result.now c.args.number c.index-all-number.result c.as_slice-all.ensures c.index-all-number.is c.requires in
    whole_in c.space.inside.pieces c.index-all-number.result c.space.invariant.apart i

pub ends_of-requires-clause-some : goal.ends_of-requires-clause-some
ends_of-requires-clause-some c =
    let i = found_in c.args.space.now.list c.space.inside.pieces c.space.invariant.apart (ap (λ (r : Listed). r.list) c.space.view_is)
    c.as_slice-all.result.now c.args.number c.index-all-number.result c.as_slice-all.ensures c.index-all-number.is c.requires in
    instance_in c.space.inside.pieces c.index-all-number.result c.space.invariant.apart i

pub ends_of-requires-clause-near : goal.ends_of-requires-clause-near
ends_of-requires-clause-near c =
    let i = found_in c.args.space.now.list c.space.inside.pieces c.space.invariant.apart (ap (λ (r : Listed). r.list) c.space.view_is)
    c.as_slice-all.result.now c.args.number c.index-all-number.result c.as_slice-all.ensures c.index-all-number.is c.requires in
    near_in c.space.inside.pieces c.index-all-number.result i c.space.invariant.near

pub returns-clause-first : goal.returns-clause-first
returns-clause-first c =
    let h = below_pieces c.args.space.now.list c.space.inside.pieces c.space.invariant.apart (ap (λ (r : Listed). r.list) c.space.view_is) c.space.inside.pieces c.args.number refl c.requires in
    first_same c.args.space.now.list c.space.inside.pieces c.args.number c.index-all-number.result c.ends_of.result c.space.invariant.apart
    (ap (λ (r : Listed). r.list) c.space.view_is) h
    (subst (λ z. IfOk c.ends_of.result (λ both. first (identities (elements z)) ≡ Some both.0)) (c.index-all-number.is ∙ ap (λ z. get_or z c.args.number c.index-all-number.result) c.as_slice-all.ensures) c.ends_of.ensures.first)

pub returns-clause-last : goal.returns-clause-last
returns-clause-last c =
    let h = below_pieces c.args.space.now.list c.space.inside.pieces c.space.invariant.apart (ap (λ (r : Listed). r.list) c.space.view_is) c.space.inside.pieces c.args.number refl c.requires in
    last_same c.args.space.now.list c.space.inside.pieces c.args.number c.index-all-number.result c.ends_of.result c.space.invariant.apart
    (ap (λ (r : Listed). r.list) c.space.view_is) h
    (subst (λ z. IfOk c.ends_of.result (λ both. last (identities (elements z)) ≡ Some both.1)) (c.index-all-number.is ∙ ap (λ z. get_or z c.args.number c.index-all-number.result) c.as_slice-all.ensures) c.ends_of.ensures.last)
