use Rattle.std.proofs.Common.{◌≡◌, ◌++◌, replicate}
use Rattle.ch_nestprint.proofs.named.made_name.Given as goal

abbrev pub invariant-loop-letter : goal.invariant-loop-letter
invariant-loop-letter l = l.text ≡ l.beginning ++ replicate l._letter 95
