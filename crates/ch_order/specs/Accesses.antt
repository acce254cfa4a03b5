-- Two accesses are one where they name one array with the same forms, whatever cells these name.
use Rattle.std.specs.Prelude.{Bool, true, false, ◌&&◌, nat_eq, List, [], ◌∷◌}
use Rattle.std.specs.Ordering.{int_eq}
use Rattle.ch_affine.specs.Form.{Form}
use Rattle.ch_nest.specs.declared.nest.Access.{Access}
use Rattle.ch_nest.specs.declared.nest.Sub.{Sub}
use Rattle.ch_timed.specs.Vectors.{same_numbers}

abbrev pub same_form : Form → Form → Bool
same_form f g = int_eq f.constant g.constant && same_numbers f.coefs g.coefs

abbrev pub same_sub : Sub → Sub → Bool
same_sub a b = nat_eq a.modulus b.modulus && same_form a.form b.form

abbrev pub same_subs : List Sub → List Sub → Bool
same_subs [] [] = true
same_subs (a ∷ more) (b ∷ others) = same_sub a b && same_subs more others
same_subs _ _ = false

-- one array with the same forms
abbrev pub same_access : Access → Access → Bool
same_access a b = nat_eq a.array b.array && same_subs a.subs b.subs
