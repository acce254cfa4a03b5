use Rattle.std.proofs.Common.{◌≡◌, ◌++◌, ◌∷◌, [], drop}
use Rattle.std.specs.List.{find}
use Rattle.ch_affine.specs.Combined.{combined_coefs, is_wide}
use Rattle.ch_affine.proofs.combination.first_wide_of.Given as goal

abbrev pub invariant-loop-k : goal.invariant-loop-k
invariant-loop-k l =
    find (is_wide l.limit) (combined_coefs l.a (drop l.k l.xs) l.b (drop l.k l.ys) ++ l.constant ∷ [])
    ≡ find (is_wide l.limit) (combined_coefs l.a l.xs l.b l.ys ++ l.constant ∷ [])
