use Rattle.std.proofs.Common.{◌≡◌, take}
use Rattle.ch_space.proofs.copies.copied_access.Given as goal

abbrev pub invariant-loop-subscript : goal.invariant-loop-subscript
invariant-loop-subscript l = l.subs ≡ take l.subscript-index l.access.subs
