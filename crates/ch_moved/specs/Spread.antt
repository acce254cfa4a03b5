-- Rows over new variables and the hidden ones behind them.
use Rattle.std.specs.Prelude.{ℕ, suc, ◌-◌, ℤ, pos, negsuc, ◌-ℤ◌, neg_ℤ, List, [], ◌∷◌, ◌++◌, length, map, take, drop, slice_index_or}
use Rattle.ch_affine.specs.Affine.{form}
use Rattle.ch_affine.specs.Form.{Form}
use Rattle.ch_moved.specs.Substituted.{combined}
use Rattle.ch_space.specs.Built.{zeros}

-- the coefficients of one variable
abbrev pub column : ℕ → List Form → List ℤ
column place gs = map (λ g. slice_index_or g.coefs place (pos 0)) gs

-- the constants of the forms
abbrev pub constants : List Form → List ℤ
constants gs = map (λ g. g.constant) gs

-- the form with the opposite values
abbrev pub opposite : Form → Form
opposite f = form (map neg_ℤ f.coefs) (neg_ℤ f.constant)

-- how far the form is above the number
abbrev pub above : Form → ℤ → Form
above f least = form f.coefs (f.constant -ℤ least)

-- the form of so many more variables, on which it does not depend
abbrev pub widened : ℕ → Form → Form
widened more f = form (f.coefs ++ zeros more) f.constant

-- the form of variables that have so many others before them
abbrev pub kept : ℕ → Form → Form
kept n f = form (zeros n ++ f.coefs) f.constant

-- the forms put in, with so many variables, on which it does not depend, between the new ones and those that stay
abbrev pub spread : ℕ → List Form → ℕ → Form → Form
spread n gs between f =
    form
    ((combined (take (length gs) f.coefs) gs (form (zeros n) f.constant)).coefs ++ (zeros between ++ drop (length gs) f.coefs))
    (combined (take (length gs) f.coefs) gs (form (zeros n) f.constant)).constant

-- the form and a multiple of one more variable, which has so many others before it and behind it
abbrev pub tied : Form → ℕ → ℤ → ℕ → Form
tied f before number after = form (f.coefs ++ (zeros before ++ number ∷ zeros after)) f.constant

-- the forms are at least and at most the hidden variables, from one on, of which there are so many
abbrev pub ties : ℕ → ℕ → List Form → List Form
ties k hidden [] = []
ties k hidden (g ∷ gs) =
    tied g k (negsuc 0) (hidden - 1 - k) ∷ tied (opposite g) k (pos 1) (hidden - 1 - k) ∷ ties (suc k) hidden gs
