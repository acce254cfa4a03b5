use Rattle.std.proofs.Common.{◌≡◌, ◌++◌, drop, length}
use Rattle.ch_copied.specs.Bodies.{wrapped}
use Rattle.ch_datacopy.proofs.redirect.wrapped.Given as goal

abbrev pub invariant-loop-sub : goal.invariant-loop-sub
invariant-loop-sub l = l.new ++ wrapped (drop (length l.yielded) l.subs) (drop (length l.yielded) l.extents) ≡ wrapped l.subs l.extents
