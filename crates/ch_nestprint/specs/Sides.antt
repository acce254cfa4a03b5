-- Accesses, and right sides with the fewest parentheses.
use Rattle.std.specs.Prelude.{ℕ, unsigned_abs, Bool, true, false, not, List, [], ◌∷◌, ◌++◌}
use Rattle.std.specs.List.{flat_map}
use Rattle.ch_lex.specs.declared.token.Sign.{Sign}
use Rattle.ch_lex.specs.declared.token.Sign.TheVariants as signs
use Rattle.ch_nest.specs.declared.exprs.Standing.{Standing}
use Rattle.ch_nest.specs.declared.exprs.Standing.TheVariants.{Term, Factor, Operand}
use Rattle.ch_nest.specs.declared.nest.Access.{Access}
use Rattle.ch_nest.specs.declared.nest.ArrayDecl.{ArrayDecl}
use Rattle.ch_nest.specs.declared.nest.Expr.{Expr}
use Rattle.ch_nest.specs.declared.nest.Expr.TheFolds.{fold-Expr}
use Rattle.ch_nest.specs.declared.nest.Expr.TheOpen.{Expr-F}
use Rattle.ch_nest.specs.declared.nest.Sub.{Sub}
use Rattle.ch_nest.specs.Shape.{is_operand, is_term}
use Rattle.ch_nestprint.specs.Ends.{form_symbols, is_below}
use Rattle.ch_nestprint.specs.Names.{array_name, iterator_name, minus_name}
use Rattle.ch_nestprint.specs.declared.symbol.Symbol.{Symbol}
use Rattle.ch_nestprint.specs.declared.symbol.Symbol.TheVariants.{Name, Number, Mark}

abbrev pub sub_symbols : ℕ → Sub → List Symbol
sub_symbols letters s = Mark signs.LeftBracket ∷ form_symbols letters s.form.coefs s.form.constant ++ Mark signs.RightBracket ∷ []

abbrev pub access_symbols : List ArrayDecl → ℕ → Access → List Symbol
access_symbols arrays letters a = Name (array_name arrays a.array) ∷ flat_map (sub_symbols letters) a.subs

abbrev pub constant_symbol : Bool → ℕ → ℕ → Symbol
constant_symbol true letters size = Name (minus_name letters size)
constant_symbol false letters size = Number size

abbrev pub opening : Bool → List Symbol
opening true = Mark signs.LeftParen ∷ []
opening false = []

abbrev pub closing : Bool → List Symbol
closing true = Mark signs.RightParen ∷ []
closing false = []

-- two sides with a sign between them, in parentheses or not
abbrev pub joined_symbols : Bool → List Symbol → Sign → List Symbol → List Symbol
joined_symbols parens x sign y = opening parens ++ x ++ (Mark sign ∷ y) ++ closing parens

abbrev pub Side : Type 0
Side = Standing → List Symbol

abbrev pub right_step : List ArrayDecl → ℕ → Expr-F Side → Side
right_step arrays letters (Expr-F.Number n) standing = constant_symbol (is_below n) letters (unsigned_abs n) ∷ []
right_step arrays letters (Expr-F.Iter k) standing = Name (iterator_name letters k) ∷ []
right_step arrays letters (Expr-F.Read a) standing = access_symbols arrays letters a
right_step arrays letters (Expr-F.Neg x) standing = Mark signs.Minus ∷ x Operand
right_step arrays letters (Expr-F.Add x y) standing = joined_symbols (not (is_term standing)) (x Term) signs.Plus (y Factor)
right_step arrays letters (Expr-F.Sub x y) standing = joined_symbols (not (is_term standing)) (x Term) signs.Minus (y Factor)
right_step arrays letters (Expr-F.Mul x y) standing = joined_symbols (is_operand standing) (x Factor) signs.Star (y Operand)

-- a right side where it stands so
abbrev pub right_symbols : List ArrayDecl → ℕ → Expr → Side
right_symbols arrays letters = fold-Expr Side (right_step arrays letters)
