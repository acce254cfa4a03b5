-- The system whose points are the negatives of another's: its least point is the negative of the other's greatest.
use Rattle.std.specs.Prelude.{ℤ, neg_ℤ, List, map}
use Rattle.ch_affine.specs.Form.{Form}
use Rattle.ch_affine.specs.Rows.{Rows}
use Rattle.ch_affine.specs.declared.system.Range.{Range}

abbrev pub negatives : List ℤ → List ℤ
negatives xs = map neg_ℤ xs

-- its value at the negatives is that of the form
abbrev pub negated_form : Form → Form
negated_form f = record { coefs = negatives f.coefs; constant = f.constant }

abbrev pub negated_range : Range → Range
negated_range b = record { low = neg_ℤ b.high; high = neg_ℤ b.low }

abbrev pub negated : Rows → Rows
negated s =
    record { vars = s.vars; rows = map negated_form s.rows; boxes = map negated_range s.boxes }
