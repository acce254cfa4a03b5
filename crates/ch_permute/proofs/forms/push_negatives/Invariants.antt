use Rattle.std.proofs.Common.{◌≡◌, ◌++◌, map, neg_ℤ, take}
use Rattle.ch_permute.proofs.forms.push_negatives.Given as goal

abbrev pub invariant-loop-amount : goal.invariant-loop-amount
invariant-loop-amount l = l.numbers ≡ l.fn.numbers ++ map neg_ℤ (take l.amount-index l.amounts)
