use Rattle.std.proofs.Common.{◌≡◌, take}
use Rattle.ch_pieces.proofs.places.wide_places.Given as goal

abbrev pub invariant-loop-place : goal.invariant-loop-place
invariant-loop-place l = l.wide ≡ take l.place-index l.places
