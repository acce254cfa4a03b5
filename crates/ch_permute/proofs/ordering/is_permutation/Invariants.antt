use Rattle.std.proofs.Common.{◌≡◌, true, pos}
use Rattle.std.specs.List.{list_all, list_any, range_with_len}
use Rattle.std.specs.Ordering.{int_eq}
use Rattle.ch_permute.proofs.ordering.is_permutation.Given as goal

abbrev pub invariant-loop-k : goal.invariant-loop-k
invariant-loop-k l = list_all (λ level. list_any (int_eq (pos level)) l.order) (range_with_len 1 l.k) ≡ true
