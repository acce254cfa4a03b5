use Rattle.std.proofs.Common.{◌≡◌, ◌++◌, map, neg_ℤ, take}
use Rattle.ch_meeting.proofs.draft.extend_negated.Given as goal

abbrev pub invariant-loop-coef : goal.invariant-loop-coef
invariant-loop-coef l = l.coefs ≡ l.initial.coefs ++ map neg_ℤ (take l.coef-index l.more)
