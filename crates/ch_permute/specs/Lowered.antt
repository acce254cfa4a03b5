-- One loop value that becomes greater by the value of a form of those before it, and how the old values follow from the new ones.
use Rattle.std.specs.Prelude.{ℕ, ◌-◌, ℤ, pos, ◌+ℤ◌, neg_ℤ, List, ◌++◌, length, map, slice_index_or, slice_set}
use Rattle.ch_affine.specs.Affine.{form, value}
use Rattle.ch_affine.specs.Form.{Form}
use Rattle.ch_affine.specs.declared.system.Range.{Range}
use Rattle.ch_nest.specs.Shape.{greatest_in, least_in}
use Rattle.ch_permute.specs.Turned.{turned_forms}
use Rattle.ch_space.specs.Built.{unit}

-- the values, that at place k being greater by the value of the form
abbrev pub plus : Form → ℕ → List ℤ → List ℤ
plus f k xs = slice_set xs k (slice_index_or xs k (pos 0) +ℤ value f xs)

-- the form of the one variable behind the form's own and `gap` more, less the form
abbrev pub less : Form → ℕ → ℕ → Form
less f gap after = form (map neg_ℤ f.coefs ++ (unit gap after).coefs) (neg_ℤ f.constant)

-- the forms of n values, that at place k less the form
abbrev pub minus_forms : Form → ℕ → ℕ → List Form
minus_forms f k n = slice_set (turned_forms (λ j. j) n) k (less f (k - length f.coefs) (n - 1 - k))

-- the range of the sums of a number of the one range and a value of the form over the others
abbrev pub greater : Form → List Range → Range → Range
greater f boxes r = record { low = r.low +ℤ least_in boxes f; high = r.high +ℤ greatest_in boxes f }
