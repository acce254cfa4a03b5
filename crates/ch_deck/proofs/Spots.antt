-- Places behind the end of a text.
use Rattle.std.proofs.Common.{◌≡◌, ℕ, min, List, length, refl}
use Rattle.std.proofs.lemmas.List.{take_min}
use Rattle.ch_lex.specs.Spots.{spot_of}

pub spot_least : (bytes : List ℕ) (at : ℕ) → spot_of bytes (min at (length bytes)) ≡ spot_of bytes at
spot_least bytes at = rw (take_min at bytes) refl
