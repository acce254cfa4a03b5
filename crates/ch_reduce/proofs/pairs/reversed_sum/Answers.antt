use Rattle.std.proofs.Common.{◌≡◌, ◌∙◌, subst, sym}
use Rattle.std.proofs.lemmas.Result.{IfOk-weaker}
use Rattle.ch_depends.specs.Depends.{pair_of}
use Rattle.ch_depends.specs.Free.{pair_of_elements, reversed_but}
use Rattle.ch_reduce.specs.FreePairs.{AreFreePairs}
use Rattle.ch_reduce.specs.Relaxed.{relaxed_reversed}
use Rattle.ch_reduce.proofs.FreePairs.{relaxed_is}
use Rattle.ch_reduce.proofs.pairs.reversed_sum.Goals as goal

pub returns : goal.returns
returns c =
    IfOk-weaker c.reversed_but.result (λ pair. pair ≡ pair_of_elements (reversed_but c.args.old.now.list c.args.new.now.list c.as_slice.result.now))
    (λ pair. pair ≡ pair_of (relaxed_reversed c.args.old.now.list c.args.new.now.list))
    (λ pair e. e ∙ relaxed_is c.args.old.now.list c.args.new.now.list c.as_slice.result.now (subst (AreFreePairs c.args.old.now.list) (sym c.as_slice.ensures) c.in_ok-free.ensures.free)) c.reversed_but.ensures
