use Rattle.std.proofs.Common.{◌≡◌, drop, leb, unsigned_abs}
use Rattle.ch_moved.specs.Causes.{first_failing}
use Rattle.ch_moved.proofs.causes.too_large.Given as goal

abbrev pub invariant-loop-number : goal.invariant-loop-number
invariant-loop-number l =
    first_failing 4 (λ c. leb (unsigned_abs c) l.most) l.numbers ≡ first_failing 4 (λ c. leb (unsigned_abs c) l.most) (drop l.number-index l.numbers)
