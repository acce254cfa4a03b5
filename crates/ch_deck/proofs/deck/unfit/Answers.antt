use Rattle.std.proofs.Common.{ap, sym, ◌∙◌}
use Rattle.ch_deck.specs.Judged.{and_then, told, unfit}
use Rattle.ch_deck.proofs.deck.unfit.Goals as goal

pub returns-in_ok-refusal-in-Err-OutOfRange-clause-exact : goal.returns-in_ok-refusal-in-Err-OutOfRange-clause-exact
unfolding unfit
returns-in_ok-refusal-in-Err-OutOfRange-clause-exact c =
    let judged = rw c.in-Err-OutOfRange.field-0-is at c.in-Err-OutOfRange.ensures.exact in
    c.in_ok-refusal-in-Err-OutOfRange.ensures c.args.name_at ∙ sym (ap (λ o. and_then o (told c.args.bytes.now c.args.program.now c.args.name_at)) judged)
