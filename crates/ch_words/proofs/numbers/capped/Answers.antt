use Rattle.std.proofs.Common.{◌≡◌, ◌+◌, ◌-◌, ◌*◌, min, get_or, ap, ap₂, ◌∙◌, arith}
use Rattle.ch_words.proofs.Digits.{capped_more}
use Rattle.ch_words.proofs.numbers.capped.Goals as goal

pub loop-digit-preserved : goal.loop-digit-preserved
loop-digit-preserved c =
    let digit : c.from.result ≡ get_or c.args.digits.now c.loop-digit.digit-index 0 - 48 = c.from.ensures ∙ c.saturating_sub.ensures in
    let past : c.from-past.result + 1 ≡ c.args.most + 1 = ap (λ n. n + 1) c.from-past.ensures in
    c.min-number.ensures
    ∙ ap₂ (λ d p. min (c.loop-digit.number * 10 + d) p) digit past
    ∙ capped_more c.args.digits.now c.loop-digit.digit-index (c.args.most + 1) c.loop-digit.number (omega arith) (omega arith) c.loop-digit.invariant
