use Rattle.std.proofs.Common.{refl, sym, subst}
use Rattle.std.proofs.lemmas.Bool.{both_ways}
use Rattle.std.proofs.lemmas.List.{take_all}
use Rattle.ch_datacopy.proofs.Added.{at_in, in_more}
use Rattle.ch_timed.specs.Members.{In}
use Rattle.ch_datacopy.proofs.accesses.contains.Goals as goal

pub loop-other-init : goal.loop-other-init
loop-other-init c = λ i. i

pub returns-then-same_access : goal.returns-then-same_access
returns-then-same_access c =
    let here = at_in c.args.accesses.now c.other-item.result c.loop-other.other-index c.loop-other-test.true c.other-item.is in
    let same = c.same_access.ensures.0 c.if-same_access.true in
    (λ h. subst (λ z. In z c.args.accesses.now) same here, λ i. refl)

pub loop-other-preserved : goal.loop-other-preserved
loop-other-preserved c =
    in_more c.args.accesses.now c.args.access.now c.other-item.result c.loop-other.other-index c.loop-other-test.true c.other-item.is c.loop-other.invariant
    (λ e. both_ways _ c.if-same_access.false (c.same_access.ensures.1 e))

pub returns : goal.returns
returns c = (
  λ h. cc,
  λ i. absurd (c.loop-other.invariant (subst (In c.args.access.now) (sym (take_all c.loop-other.other-index c.args.accesses.now c.loop-other-test.false)) i)),
)
