-- Groups: the pieces that share the loops of a piece.
use Rattle.std.specs.Prelude.{ℕ, ℤ, Bool, List, [], slice_index_or}
use Rattle.ch_timed.specs.declared.element.Element.{Element}
use Rattle.ch_timed.specs.Timed.{pieces}
use Rattle.ch_timed.specs.Vectors.{shares}

-- the places of piece s
abbrev pub piece : List Element → ℕ → List ℤ
piece list s = slice_index_or (pieces list) s []

-- whether places are among the group of (s, level)
abbrev pub in_group : List Element → ℕ → ℕ → List ℤ → Bool
in_group list s level ps = shares level (piece list s) ps
