use Rattle.std.proofs.Common.{sym, ap, subst}
use Rattle.std.specs.List.{All}
use Rattle.ch_meeting.specs.Meeting.{IsAccessOf, IsPlain}
use Rattle.ch_space.specs.Keeps.{accesses}
use Rattle.ch_space.specs.Listed.{Listed}
use Rattle.ch_depends.proofs.Answering.{exactly}
use Rattle.ch_depends.proofs.Plains.{all_accesses, all_plain}
use Rattle.ch_depends.proofs.levels.pairs.Goals as goal

pub all_sides-requires-clause-olds : goal.all_sides-requires-clause-olds
all_sides-requires-clause-olds c =
    subst (All IsPlain) (sym c.as_slice.ensures)
    (all_plain c.space.inside.arrays c.space.inside.pieces c.space.inside.counts c.space.inside.temps c.space.inside.weight c.space.inside.commands c.space.invariant)

pub all_sides-requires-clause-accesses : goal.all_sides-requires-clause-accesses
all_sides-requires-clause-accesses c =
    subst (All (λ p. All (IsAccessOf p) (accesses p.body))) (sym c.as_slice.ensures)
    (all_accesses c.space.inside.arrays c.space.inside.pieces c.space.inside.counts c.space.inside.temps c.space.inside.weight c.space.inside.commands c.space.invariant)

pub returns-clause-exactly : goal.returns-clause-exactly
returns-clause-exactly c =
    exactly c.args.space.now.list c.space.inside.pieces c.as_slice.result.now c.in_ok-sides.sides c.as_slice-2.result.now c.all_levels.result c.space.invariant.apart
    (ap (λ (r : Listed). r.list) c.space.view_is) c.as_slice.ensures c.in_ok-sides.ensures.pieces c.as_slice-2.ensures c.all_levels.ensures
