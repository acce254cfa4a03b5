-- Assignments for people: `A[i1][i2 - 1] = 10 * i1 + B[(i2 + 1) mod 4]`. Right sides have the fewest parentheses with which sums and
-- products are read from the left.
use Rattle.std.specs.Prelude.{ℕ, zero, suc, ◌-◌, ℤ, pos, negsuc, Bool, true, false, cond, not, ◌&&◌, ◌||◌, nat_eq, nat_lt, nat_le, List, [], ◌∷◌, ◌++◌, length, map, take, slice_index_or, codes}
use Rattle.std.specs.List.{flat_map, list_all}
use Rattle.std.specs.Str.{bytes_eq}
use Rattle.ch_nest.specs.declared.nest.Access.{Access}
use Rattle.ch_nest.specs.declared.nest.ArrayDecl.{ArrayDecl}
use Rattle.ch_nest.specs.declared.nest.Body.{Body}
use Rattle.ch_nest.specs.declared.nest.Expr.{Expr}
use Rattle.ch_nest.specs.declared.nest.Expr.TheOpen.{Expr-F}
use Rattle.ch_nest.specs.declared.nest.Expr.TheFolds.{fold-Expr}
use Rattle.ch_nest.specs.declared.nest.Sub as sub
use Rattle.ch_print.specs.Instances.{buffer_text}
use Rattle.ch_print.specs.Numbers.{integer_text, number_text}
use Rattle.ch_code.specs.FormText.{form_text, original, variable_text}
use Rattle.ch_code.specs.declared.bodies.Standing.{Standing}
use Rattle.ch_code.specs.declared.bodies.Standing.TheVariants.{Sum, Product, Operand, Negated}

abbrev pub is_digit : ℕ → Bool
is_digit b = nat_le 48 b && nat_lt b 58

-- a letter, a digit or an underscore
abbrev pub is_word : ℕ → Bool
is_word b = is_digit b || (nat_le 65 b && nat_lt b 91) || nat_eq b 95 || (nat_le 97 b && nat_lt b 123)

-- a name of words' bytes that begins with no digit
abbrev pub is_plain : List ℕ → Bool
is_plain [] = false
is_plain (b ∷ bs) = not (is_digit b) && list_all is_word (b ∷ bs)

-- the name of the array of this number, or nothing past the last array
abbrev pub nth_name : List ArrayDecl → ℕ → List ℕ
nth_name arrays n = slice_index_or (map (λ d. d.name) arrays) n []

-- an array of another name
abbrev pub has_other : List ℕ → ArrayDecl → Bool
has_other name d = not (bytes_eq d.name name)

-- whether the name is plain and names no array before this one
abbrev pub is_own : List ArrayDecl → ℕ → Bool
is_own arrays n = is_plain (nth_name arrays n) && list_all (has_other (nth_name arrays n)) (take n arrays)

-- whether each of the first n arrays has a name of its own
abbrev pub own_flags : List ArrayDecl → ℕ → List Bool
own_flags arrays zero = []
own_flags arrays (suc n) = own_flags arrays n ++ is_own arrays n ∷ []

-- a buffer is numbered behind the arrays
abbrev pub other_text : ℕ → ℕ → List ℕ
other_text count n = cond (nat_lt n count) (codes "#" ++ number_text n) (buffer_text (n - count))

-- an array by its name where it is the array's own, and else by its number
unfoldable pub array_text : List ArrayDecl → ℕ → List ℕ
array_text arrays n = cond (is_own arrays n) (nth_name arrays n) (other_text (length arrays) n)

abbrev pub modular_text : List ℕ → ℕ → List ℕ
modular_text form zero = form
modular_text form (suc n) = codes "(" ++ form ++ codes ") mod " ++ number_text (suc n)

-- a subscript over this many original iterators
unfoldable pub sub_text : ℕ → sub.Sub → List ℕ
sub_text iterators s = codes "[" ++ modular_text (form_text original iterators s.form) s.modulus ++ codes "]"

abbrev pub subs_text : ℕ → List sub.Sub → List ℕ
subs_text iterators [] = codes "[]"
subs_text iterators (s ∷ ss) = flat_map (sub_text iterators) (s ∷ ss)

unfoldable pub access_text : List ArrayDecl → ℕ → Access → List ℕ
access_text arrays iterators a = array_text arrays a.array ++ subs_text iterators a.subs

abbrev pub opening : Bool → List ℕ
opening true = codes "("
opening false = []

abbrev pub closing : Bool → List ℕ
closing true = codes ")"
closing false = []

-- a number where it stands so: behind a minus sign the digits of a number would be read as those of a negative one
abbrev pub encloses_number : Standing → ℤ → Bool
encloses_number Negated (pos n) = true
encloses_number Negated (negsuc n) = false
encloses_number Sum z = false
encloses_number Product z = false
encloses_number Operand z = false

abbrev pub encloses_sum : Standing → Bool
encloses_sum Sum = false
encloses_sum Product = true
encloses_sum Operand = true
encloses_sum Negated = true

abbrev pub encloses_product : Standing → Bool
encloses_product Sum = false
encloses_product Product = false
encloses_product Operand = true
encloses_product Negated = true

abbrev pub operand_text : Bool → ℤ → List ℕ
operand_text encloses z = opening encloses ++ integer_text z ++ closing encloses

abbrev pub infix_text : Bool → List ℕ → List ℕ → List ℕ → List ℕ
infix_text encloses x operator y = opening encloses ++ x ++ operator ++ y ++ closing encloses

-- the text of a right side where it stands so
abbrev pub Side : Type 0
Side = Standing → List ℕ

-- one layer of a right side, with its parts in their place
abbrev pub expr_layer : List ArrayDecl → ℕ → Expr-F Side → Side
expr_layer arrays iterators (Expr-F.Number z) standing = operand_text (encloses_number standing z) z
expr_layer arrays iterators (Expr-F.Iter k) standing = variable_text original (suc k)
expr_layer arrays iterators (Expr-F.Read a) standing = access_text arrays iterators a
expr_layer arrays iterators (Expr-F.Neg x) standing = codes "-" ++ x Negated
expr_layer arrays iterators (Expr-F.Add x y) standing = infix_text (encloses_sum standing) (x Sum) (codes " + ") (y Product)
expr_layer arrays iterators (Expr-F.Sub x y) standing = infix_text (encloses_sum standing) (x Sum) (codes " - ") (y Product)
expr_layer arrays iterators (Expr-F.Mul x y) standing = infix_text (encloses_product standing) (x Product) (codes " * ") (y Operand)

abbrev pub expr_text : List ArrayDecl → ℕ → Expr → Side
expr_text arrays iterators = fold-Expr Side (expr_layer arrays iterators)

unfoldable pub body_text : List ArrayDecl → ℕ → Body → List ℕ
body_text arrays iterators b = access_text arrays iterators b.write ++ codes " = " ++ expr_text arrays iterators b.right Sum
