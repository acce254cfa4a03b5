use Rattle.std.proofs.Common.{◌≡◌, map, pos, slice_index_or, []}
use Rattle.std.specs.List.{filter, range_with_len}
use Rattle.ch_timed.specs.Vectors.{shares}
use Rattle.ch_space.specs.Keeps.{places_of}
use Rattle.ch_space.proofs.reading.numbers_sharing.Given as goal

abbrev pub invariant-loop-k : goal.invariant-loop-k
invariant-loop-k l = l.numbers ≡ filter (λ k. shares l.level (map pos l.ours) (slice_index_or (map places_of l.all) k [])) (range_with_len 0 l.k)
