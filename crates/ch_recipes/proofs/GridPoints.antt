-- When the indices of a list make it a point of a grid.
use Rattle.std.proofs.Common.{◌≡◌, arith, ℕ, suc, ◌<◌, IsTrue, Bool, ◌&&◌, nat_lt, Option, Some, None, List, [], ◌∷◌, length, get_or}
use Rattle.std.specs.List.{slice_get}
use Rattle.std.specs.Prelude.{IfSome}
use Rattle.std.proofs.lemmas.Bool.Decides.{nat_tests}
use Rattle.ch_grid.specs.Grid.{size, sizes}
use Rattle.ch_grid.specs.Points.{is_point}
use Rattle.ch_grid.specs.declared.param.Param.{Param}

-- index k is one of parameter k
abbrev pub IsIndex : List Param → List ℕ → ℕ → Type 0
IsIndex ps xs k = IfSome (slice_get ps k) (λ p. get_or xs k 0 < size p)

pub is_index : (o : Option Param) (x n : ℕ) → IfSome o (λ p. n ≡ size p) → x < n → IfSome o (λ p. x < size p)
is_index None x n e l = tt
is_index (Some p) x n e l = omega (arith, e, l)

both : (a b : Bool) → IsTrue a → IsTrue b → IsTrue (a && b)
both a b h g = grind (arith, h, g)

below : (x n : ℕ) → x < n → IsTrue (nat_lt x n)
below x n l = grind (arith, nat_tests)

pub point_from : (ps : List Param) (xs : List ℕ) → length xs ≡ length ps → ((k : ℕ) → k < length xs → IsIndex ps xs k) → IsTrue (is_point (sizes ps) xs)
point_from [] [] e h = cc
point_from [] (x ∷ xs) e h = absurd (omega (arith, e))
point_from (p ∷ ps) [] e h = absurd (omega (arith, e))
point_from (p ∷ ps) (x ∷ xs) e h =
    both (nat_lt x (size p)) (is_point (sizes ps) xs) (below x (size p) (h 0 (omega arith)))
    (point_from ps xs (omega (arith, e)) (λ k l. h (suc k) (omega (arith, l))))
