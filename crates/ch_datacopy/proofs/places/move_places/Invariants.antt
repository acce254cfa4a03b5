use Rattle.std.proofs.Common.{◌≡◌, ◌+◌, ◌*◌, ◌++◌, ◌∷◌, replicate, slice_index_or, take}
use Rattle.ch_datacopy.proofs.places.move_places.Given as goal

abbrev pub invariant-loop-k : goal.invariant-loop-k
invariant-loop-k l = l.places ≡ take l.around l.ours ++ (slice_index_or l.ours l.around 0 * l.width + l.place) ∷ replicate l._k 0
