use Rattle.std.proofs.Common.{[], subst, sym}
use Rattle.ch_codegen.specs.Bounds.{Thins}
use Rattle.ch_codegen.proofs.Said.{thins_more, thins_none, thins_whole}
use Rattle.ch_codegen.proofs.tight.unsaid.Goals as goal

pub loop-bound-init : goal.loop-bound-init
loop-bound-init c = subst (Thins c.args.is_low c.args.added.now []) (sym c.new-kept.ensures) (thins_none c.args.is_low c.args.added.now)

pub loop-bound-preserved : goal.loop-bound-preserved
loop-bound-preserved c =
    thins_more c.args.is_low c.args.added.now c.bound-item.result c.args.bounds.now c.loop-bound.bound-index c.loop-bound.kept c.in_ok-kept.kept c.loop-bound-test.true c.bound-item.is
    c.in_ok-kept.ensures c.loop-bound.invariant

pub returns : goal.returns
returns c = thins_whole c.args.is_low c.args.added.now c.args.bounds.now c.loop-bound.bound-index c.loop-bound.kept c.loop-bound-test.false c.loop-bound.invariant
