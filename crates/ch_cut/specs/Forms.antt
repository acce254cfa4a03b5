-- Forms that say at which loop values a loop is cut.
use Rattle.std.specs.Prelude.{ℕ, ◌-◌, ◌^◌, ℤ, pos, negsuc, neg_ℤ, ◌-ℤ◌, int_le, Bool, List, [], ◌∷◌, ◌++◌, map}
use Rattle.std.specs.List.{All}
use Rattle.ch_affine.specs.Affine.{IsAtMost, form, value}
use Rattle.ch_affine.specs.Form.{Form}
use Rattle.ch_space.specs.Built.{zeros}

-- whether the form is at least 0 at the values
abbrev pub holds_at : Form → List ℤ → Bool
holds_at f xs = int_le (pos 0) (value f xs)

-- at least 0 exactly where the other form isn't
abbrev pub failing : Form → Form
failing f = form (map neg_ℤ f.coefs) (neg_ℤ f.constant -ℤ pos 1)

-- the numbers of the form leave room for those of its negative
pub record IsModest (f : Form) : Type 0 where
  pub coefs : All (IsAtMost (2 ^ 59)) f.coefs
  pub constant : IsAtMost (2 ^ 59) f.constant

-- at least 0 where the value of the level is at most the number
abbrev pub at_most : ℕ → ℤ → Form
at_most level number = form (zeros (level - 1) ++ negsuc 0 ∷ []) number
