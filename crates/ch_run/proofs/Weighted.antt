-- A weighted sum that wraps on the way, one element on.
use Rattle.std.proofs.Common.{◌≡◌, ℕ, ◌+◌, ◌<◌, ◌≤◌, length, ℤ, pos, ◌+ℤ◌, ◌*ℤ◌, List, [], get_or, drop, arith, w64, FitsSigned}
use Rattle.std.specs.Int.{int_wrap}
use Rattle.std.proofs.lemmas.Int.{int_wrap-add_left, int_wrap-add_right, int_wrap_fits, ints}
use Rattle.std.proofs.lemmas.List.{drop_more, drop_all}
use Rattle.ch_run.specs.EvalText.{weighted_from}

pub sum_on : (cells : List ℤ) (k : ℕ) (sum next whole : ℤ) → k < length cells
    → next ≡ int_wrap w64 (sum +ℤ int_wrap w64 (pos (k + 1) *ℤ get_or cells k (pos 0))) → int_wrap w64 (sum +ℤ weighted_from (k + 1) (drop k cells)) ≡ whole
    → int_wrap w64 (next +ℤ weighted_from ((k + 1) + 1) (drop (k + 1) cells)) ≡ whole
sum_on cells k sum next whole l n h =
    let a = rw (drop_more cells k (pos 0) l) at h in
    let p : ℤ = pos (k + 1) *ℤ get_or cells k (pos 0) in
    let rest : ℤ = weighted_from ((k + 1) + 1) (drop (k + 1) cells) in
    let b : int_wrap w64 (sum +ℤ int_wrap w64 p) ≡ int_wrap w64 (sum +ℤ p) = int_wrap-add_right w64 sum p in
    let c : int_wrap w64 (int_wrap w64 (sum +ℤ p) +ℤ rest) ≡ int_wrap w64 ((sum +ℤ p) +ℤ rest) = int_wrap-add_left w64 (sum +ℤ p) rest in
    let e : (sum +ℤ p) +ℤ rest ≡ sum +ℤ (p +ℤ rest) = omega (arith, ints) in
    rw (n, b, c, e) a

pub sum_done : (cells : List ℤ) (k : ℕ) (sum whole : ℤ) → length cells ≤ k → FitsSigned w64 sum
    → int_wrap w64 (sum +ℤ weighted_from (k + 1) (drop k cells)) ≡ whole → sum ≡ whole
sum_done cells k sum whole l f h =
    let none : drop k cells ≡ [] = drop_all k cells l in
    let a = rw none at h in
    let e : sum +ℤ pos 0 ≡ sum = omega (arith, ints) in
    rw (e, int_wrap_fits w64 sum f) at a
