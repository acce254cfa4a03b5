use Rattle.std.proofs.Common.{◌≡◌, ◌++◌, take}
use Rattle.ch_meeting.proofs.draft.extend.Given as goal

abbrev pub invariant-loop-coef : goal.invariant-loop-coef
invariant-loop-coef l = l.coefs ≡ l.initial.coefs ++ take l.coef-index l.more
