use Rattle.std.proofs.Common.{map, subst, sym}
use Rattle.ch_space.proofs.PieceNumbers.{item_in}
use Rattle.ch_timed.specs.Members.{In}
use Rattle.ch_timed.proofs.Orders.{map_in}
use Rattle.ch_depends.proofs.sides.has_access.Goals as goal

pub returns-then-same_access : goal.returns-then-same_access
returns-then-same_access c = λ t.
    subst (λ z. In z (map (λ a. a.now) c.args.others.now)) (sym (c.same_access.ensures.0 c.if-same_access.true))
    (map_in (λ a. a.now) c.args.others.now c.other-item.result (item_in c.args.others.now c.loop-other.other-index c.other-item.result c.loop-other-test.true c.other-item.is))
