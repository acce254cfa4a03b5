-- Multiples of a width.
use Rattle.std.proofs.Common.{◌≡◌, ap, ◌∙◌, ℕ, ◌*◌, ℤ, pos, ◌+ℤ◌, ◌*ℤ◌}
use Rattle.std.proofs.Math.IntN.{pos-*ℤ-pos}
use Rattle.ch_affine.proofs.Integers.{plus_times}

pub times_more : (q : ℤ) (n b : ℕ) → (q +ℤ pos n) *ℤ pos b ≡ q *ℤ pos b +ℤ pos (n * b)
times_more q n b = plus_times q (pos n) (pos b) ∙ ap (λ y. q *ℤ pos b +ℤ y) (pos-*ℤ-pos n b)
