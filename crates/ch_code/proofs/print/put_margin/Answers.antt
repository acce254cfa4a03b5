use Rattle.std.proofs.Common.{append_assoc, ap, ◌∙◌, ◌++◌}
use Rattle.std.specs.Prelude.{codes}
use Rattle.ch_code.specs.CodeText.{margin}
use Rattle.ch_code.proofs.Steps.{margin_more}
use Rattle.ch_code.proofs.print.put_margin.Goals as goal

pub loop-k-preserved : goal.loop-k-preserved
loop-k-preserved c =
    let e = margin_more c.loop-k._k in
    rw e (c.in_ok-append.ensures.ok ∙ ap (λ o. o ++ codes "  ") c.loop-k.invariant ∙ append_assoc c.args.out.now (margin c.loop-k._k) (codes "  "))
