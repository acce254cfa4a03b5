-- Pieces beside a loop.
use Rattle.std.proofs.Common.{◌≡◌, refl, ◌∙◌, ℕ, ◌-◌, ◌<◌, ◌≤◌, pos, Bool, true, false, ◌&&◌, nat_eq, nat_le, nat_lt, List, map, length, take, le-leb, lt-ltb, arith}
use Rattle.std.specs.Cmp.Lexicographic.{pointwise}
use Rattle.std.proofs.lemmas.List.{length-map}
use Rattle.ch_moved.specs.Arguments.{beside}
use Rattle.ch_space.proofs.Readings.{shares_fronts}
use Rattle.ch_timed.specs.Vectors.{same_numbers}

fronts_alone : (a b d c : Bool) → a ≡ true → b ≡ true → d ≡ true → ((a && b) && c) ≡ (d && c)
fronts_alone true true true c s t u = refl
fronts_alone true true false c s t u = cc
fronts_alone true false d c s t u = cc
fronts_alone false b d c s t u = cc

pub beside_fronts : (level : ℕ) (ours theirs : List ℕ) (r : Bool) → 1 ≤ level → level ≤ length ours → level ≤ length theirs
    → r ≡ pointwise nat_eq (take (level - 1) ours) (take (level - 1) theirs) → r ≡ beside level (map pos ours) (map pos theirs)
beside_fronts level ours theirs r s h k e =
    let m : level - 1 < length (map pos ours) = simp length-map (omega arith) in
    let n : level - 1 < length (map pos theirs) = simp length-map (omega arith) in
    let o : level ≤ length (map pos theirs) = simp length-map (omega arith) in
    shares_fronts (level - 1) ours theirs r (omega arith) (omega arith) e
    ∙ fronts_alone (nat_lt (level - 1) (length (map pos ours))) (nat_lt (level - 1) (length (map pos theirs))) (nat_le level (length (map pos theirs)))
    (same_numbers (take (level - 1) (map pos ours)) (take (level - 1) (map pos theirs)))
    (lt-ltb (level - 1) (length (map pos ours)) m) (lt-ltb (level - 1) (length (map pos theirs)) n) (le-leb level (length (map pos theirs)) o)
