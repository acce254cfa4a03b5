use Rattle.std.proofs.Common.{◌≡◌, ◌++◌, codes, pos, map, take}
use Rattle.std.specs.List.{flat_map}
use Rattle.ch_print.specs.Lists.{behind}
use Rattle.ch_print.specs.Numbers.{integer_text}
use Rattle.ch_check.proofs.pieces.put_places.Given as goal

abbrev pub invariant-loop-place : goal.invariant-loop-place
invariant-loop-place l = l.out ≡ l.initial.out ++ flat_map (behind (codes " ") integer_text) (map pos (take l.place-index l.places))
