-- The sum of products, one step on.
use Rattle.std.proofs.Common.{◌≡◌, ℕ, ◌+◌, ◌<◌, ℤ, pos, ◌+ℤ◌, ◌*ℤ◌, List, length, get_or, drop, arith}
use Rattle.std.proofs.lemmas.List.{drop_more}
use Rattle.std.proofs.Math.IntN.{+ℤ_assoc}
use Rattle.ch_affine.specs.Affine.{dot}

pub dot_more : (cs xs : List ℤ) (k : ℕ) (sum more next total : ℤ) → k < length cs → length xs ≡ length cs
    → more ≡ get_or cs k (pos 0) *ℤ get_or xs k (pos 0) → next ≡ sum +ℤ more
    → sum +ℤ dot (drop k cs) (drop k xs) ≡ total → next +ℤ dot (drop (k + 1) cs) (drop (k + 1) xs) ≡ total
dot_more cs xs k sum more next total lc same m n h =
    let lx : k < length xs = omega arith in
    let a = rw (drop_more cs k (pos 0) lc, drop_more xs k (pos 0) lx) at h in
    rw (n, m, +ℤ_assoc) a
