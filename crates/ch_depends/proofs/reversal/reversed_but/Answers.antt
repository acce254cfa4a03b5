use Rattle.std.proofs.Common.{sym, ap, subst}
use Rattle.std.proofs.lemmas.Bool.{and_parts}
use Rattle.std.specs.List.{All}
use Rattle.ch_meeting.specs.Meeting.{IsAccessOf, IsPlain}
use Rattle.ch_space.specs.Keeps.{accesses}
use Rattle.ch_space.specs.Listed.{Listed}
use Rattle.ch_depends.proofs.Freed.{first_kept, none_kept, second_kept, some_kept}
use Rattle.ch_depends.proofs.Plains.{all_accesses, all_plain, nameable}
use Rattle.ch_depends.proofs.reversal.reversed_but.Goals as goal

pub all_sides-requires-clause-olds : goal.all_sides-requires-clause-olds
all_sides-requires-clause-olds c = subst (All IsPlain) (sym c.as_slice.ensures) (all_plain c.old.inside.arrays c.old.inside.pieces c.old.inside.counts c.old.inside.temps c.old.inside.weight c.old.inside.commands c.old.invariant)

pub all_sides-requires-clause-accesses : goal.all_sides-requires-clause-accesses
all_sides-requires-clause-accesses c =
    subst (All (λ p. All (IsAccessOf p) (accesses p.body))) (sym c.as_slice.ensures)
    (all_accesses c.old.inside.arrays c.old.inside.pieces c.old.inside.counts c.old.inside.temps c.old.inside.weight c.old.inside.commands c.old.invariant)

pub all_sides-requires-clause-news : goal.all_sides-requires-clause-news
all_sides-requires-clause-news c = subst (All IsPlain) (sym c.as_slice-2.ensures) (all_plain c.new.inside.arrays c.new.inside.pieces c.new.inside.counts c.new.inside.temps c.new.inside.weight c.new.inside.commands c.new.invariant)

pub returns-in-None : goal.returns-in-None
returns-in-None c =
    none_kept c.args.old.now.list c.args.new.now.list c.old.inside.pieces c.new.inside.pieces c.as_slice.result.now c.as_slice-2.result.now c.in_ok-sides.sides c.as_slice-3.result.now c.old.invariant.apart
    c.new.invariant.apart (and_parts _ _ c.new.invariant.well_formed).0 (ap (λ (r : Listed). r.list) c.old.view_is) (ap (λ (r : Listed). r.list) c.new.view_is) c.requires.kept c.as_slice.ensures c.as_slice-2.ensures
    c.in_ok-sides.ensures.pieces c.in_ok-sides.ensures.paired c.in_ok-sides.ensures.numbered c.as_slice-3.ensures c.args.free.now c.in_ok-least.field-0 c.in_ok-least.ensures c.in-None.is

pub answer-requires-clause-first : goal.answer-requires-clause-first
answer-requires-clause-first c =
    nameable c.old.inside.arrays c.old.inside.pieces c.old.inside.counts c.old.inside.temps c.old.inside.weight c.old.inside.commands c.old.invariant c.in-Some.candidate.first
    (first_kept c.args.old.now.list c.args.new.now.list c.old.inside.pieces c.new.inside.pieces c.as_slice.result.now c.as_slice-2.result.now c.in_ok-sides.sides c.as_slice-3.result.now c.old.invariant.apart
    c.new.invariant.apart (and_parts _ _ c.new.invariant.well_formed).0 (ap (λ (r : Listed). r.list) c.old.view_is) (ap (λ (r : Listed). r.list) c.new.view_is) c.requires.kept c.as_slice.ensures c.as_slice-2.ensures
    c.in_ok-sides.ensures.pieces c.in_ok-sides.ensures.paired c.in_ok-sides.ensures.numbered c.as_slice-3.ensures c.args.free.now c.in_ok-least.field-0 c.in_ok-least.ensures c.in-Some.candidate c.in-Some.is)

pub answer-requires-clause-second : goal.answer-requires-clause-second
answer-requires-clause-second c =
    nameable c.old.inside.arrays c.old.inside.pieces c.old.inside.counts c.old.inside.temps c.old.inside.weight c.old.inside.commands c.old.invariant c.in-Some.candidate.second
    (second_kept c.args.old.now.list c.args.new.now.list c.old.inside.pieces c.new.inside.pieces c.as_slice.result.now c.as_slice-2.result.now c.in_ok-sides.sides c.as_slice-3.result.now c.old.invariant.apart
    c.new.invariant.apart (and_parts _ _ c.new.invariant.well_formed).0 (ap (λ (r : Listed). r.list) c.old.view_is) (ap (λ (r : Listed). r.list) c.new.view_is) c.requires.kept c.as_slice.ensures c.as_slice-2.ensures
    c.in_ok-sides.ensures.pieces c.in_ok-sides.ensures.paired c.in_ok-sides.ensures.numbered c.as_slice-3.ensures c.args.free.now c.in_ok-least.field-0 c.in_ok-least.ensures c.in-Some.candidate c.in-Some.is)

pub returns : goal.returns
returns c =
    some_kept c.args.old.now.list c.args.new.now.list c.old.inside.pieces c.new.inside.pieces c.as_slice.result.now c.as_slice-2.result.now c.in_ok-sides.sides c.as_slice-3.result.now c.old.invariant.apart
    c.new.invariant.apart (and_parts _ _ c.new.invariant.well_formed).0 (ap (λ (r : Listed). r.list) c.old.view_is) (ap (λ (r : Listed). r.list) c.new.view_is) c.requires.kept c.as_slice.ensures c.as_slice-2.ensures
    c.in_ok-sides.ensures.pieces c.in_ok-sides.ensures.paired c.in_ok-sides.ensures.numbered c.as_slice-3.ensures c.args.free.now c.in_ok-least.field-0 c.in_ok-least.ensures c.in-Some.candidate c.answer.result c.in-Some.is c.answer.ensures
