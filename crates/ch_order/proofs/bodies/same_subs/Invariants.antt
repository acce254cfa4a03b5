use Rattle.std.proofs.Common.{◌≡◌, ℕ, ◌<◌, length, get_or}
use Rattle.ch_nest.specs.declared.nest.Sub.{Sub}
use Rattle.ch_order.proofs.bodies.same_subs.Given as goal

abbrev pub invariant-loop-sub : goal.invariant-loop-sub
invariant-loop-sub l = (k : ℕ) (d : Sub) → k < length l.yielded → get_or l.a k d ≡ get_or l.b k d
