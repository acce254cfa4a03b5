-- The line and the column of a place.
use Rattle.std.specs.Prelude.{ℕ, ◌+◌, not, List, take, count_by}
use Rattle.std.specs.List.{suffix_len}
use Rattle.ch_lex.specs.declared.token.Spot.{Spot}
use Rattle.ch_lex.specs.Bytes.{is_line_feed}

-- one more than the line feeds before the place, and one more than the bytes before it that stand in its line
abbrev pub spot_of : List ℕ → ℕ → Spot
spot_of bytes at =
    let before = take at bytes in
    record { line = count_by is_line_feed before + 1; column = suffix_len (λ b. not (is_line_feed b)) before + 1 }
