-- An input that was read in pieces.
use Rattle.std.proofs.Common.{ℕ, ◌+◌, ◌≤◌, List, ◌++◌, length, arith, length-append}
use Rattle.std.specs.declared.option.Option.{Option}
use Rattle.std.specs.Io.KnownBytes.{Consumes}
use Rattle.std.proofs.KnownBytes.{Consumes-trans}
use Rattle.ch_io.specs.Streams.{LosesFront}

-- what was read before is gone, and the piece that came last
pub loses_more : (a b c : Option (List ℕ)) (input piece : List ℕ) (most : ℕ) → Consumes a b input → Consumes b c piece → length input + length piece ≤ most
    → LosesFront most a c
loses_more a b c input piece most p q short =
    (input ++ piece, omega (arith, length-append input piece, short), Consumes-trans a b c input piece p q)
