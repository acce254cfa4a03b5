-- Labels that no move has yet.
use Rattle.std.specs.Prelude.{ℕ, List, [], ◌∷◌}
use Rattle.ch_copied.specs.Plans.{next_label}
use Rattle.ch_space.specs.declared.piece.Piece.{Piece}

-- the number after the greatest label of a move, and at least so many
abbrev pub next_free : ℕ → List Piece → ℕ
next_free n [] = n
next_free n (q ∷ qs) = next_free (next_label q.label n) qs
