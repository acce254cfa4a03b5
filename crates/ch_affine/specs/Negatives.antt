-- The negative of a form.
use Rattle.std.specs.Prelude.{ℤ, neg_ℤ, List, map}
use Rattle.ch_affine.specs.Affine.{form}
use Rattle.ch_affine.specs.Form.{Form}

abbrev pub negatives : List ℤ → List ℤ
negatives xs = map neg_ℤ xs

-- its value at each point is the negative of the form's
abbrev pub negative : Form → Form
negative f = form (negatives f.coefs) (neg_ℤ f.constant)
