use Rattle.std.proofs.Common.{◌≡◌, ◌+◌, ◌++◌, drop, true}
use Rattle.ch_code.specs.FormText.{sum_text}
use Rattle.ch_code.proofs.forms.put_sum.Given as goal

abbrev pub invariant-loop-k : goal.invariant-loop-k
invariant-loop-k l = l.out ++ sum_text l.letter l.first (l.k + 1) (drop l.k l.coefs) l.constant ≡ l.initial.out ++ sum_text l.letter true 1 l.coefs l.constant
