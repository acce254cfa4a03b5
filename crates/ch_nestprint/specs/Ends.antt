-- Affine forms, and the ends of loops.
use Rattle.std.specs.Prelude.{ℕ, ◌+◌, ℤ, pos, ◌+ℤ◌, int_lt, unsigned_abs, Bool, true, false, not, ◌&&◌, nat_eq, List, [], ◌∷◌, ◌++◌}
use Rattle.std.specs.List.{flat_map, list_all}
use Rattle.ch_affine.specs.Form.{Form}
use Rattle.ch_lex.specs.declared.keyword.Keyword.{Keyword}
use Rattle.ch_lex.specs.declared.keyword.Keyword.TheVariants as words
use Rattle.ch_lex.specs.declared.token.Sign.{Sign}
use Rattle.ch_lex.specs.declared.token.Sign.TheVariants as signs
use Rattle.ch_nest.specs.Shape.{constant_fits}
use Rattle.ch_nestprint.specs.Names.{iterator_name}
use Rattle.ch_nestprint.specs.declared.symbol.Symbol.{Symbol}
use Rattle.ch_nestprint.specs.declared.symbol.Symbol.TheVariants.{Name, Number, Key, Mark}

-- What stands before the magnitude of a term. A form that begins below 0 begins with `0 -`, since within a subscript there
-- may be no level left for a `-` of its own.
abbrev pub lead : Bool → Bool → List Symbol
lead true true = Number 0 ∷ Mark signs.Minus ∷ []
lead true false = []
lead false true = Mark signs.Minus ∷ []
lead false false = Mark signs.Plus ∷ []

abbrev pub is_below : ℤ → Bool
is_below z = int_lt z (pos 0)

abbrev pub is_none : ℤ → Bool
is_none z = nat_eq (unsigned_abs z) 0

-- an iterator, or a number times it
abbrev pub times_if : Bool → ℕ → List ℕ → List Symbol
times_if true size name = Name name ∷ []
times_if false size name = Number size ∷ Mark signs.Star ∷ Name name ∷ []

abbrev pub times_symbols : ℕ → ℕ → ℕ → List Symbol
times_symbols letters size level = times_if (nat_eq size 1) size (iterator_name letters level)

abbrev pub coef_if : Bool → ℕ → Bool → ℤ → ℕ → List Symbol
coef_if true letters first c level = []
coef_if false letters first c level = lead first (is_below c) ++ times_symbols letters (unsigned_abs c) level

-- the term of a level, where `first` says that none stands before it
abbrev pub coef_symbols : ℕ → Bool → ℤ → ℕ → List Symbol
coef_symbols letters first c level = coef_if (is_none c) letters first c level

abbrev pub constant_if : Bool → Bool → ℤ → List Symbol
constant_if true first z = []
constant_if false first z = lead first (is_below z) ++ Number (unsigned_abs z) ∷ []

-- the constant, which is left out where it is 0 and a term stands before it
abbrev pub constant_symbols : Bool → ℤ → List Symbol
constant_symbols first z = constant_if (not first && is_none z) first z

-- the terms from a level on, and the constant
abbrev pub terms_symbols : ℕ → Bool → ℕ → List ℤ → ℤ → List Symbol
terms_symbols letters first level [] constant = constant_symbols first constant
terms_symbols letters first level (c ∷ cs) constant = coef_symbols letters first c level ++ terms_symbols letters (first && is_none c) (level + 1) cs constant

-- a form without its zero terms, as `2*i + j - 3`
abbrev pub form_symbols : ℕ → List ℤ → ℤ → List Symbol
form_symbols letters coefs constant = terms_symbols letters true 0 coefs constant

-- ends

abbrev pub raised_if : Bool → ℤ → ℤ
raised_if true z = z +ℤ pos 1
raised_if false z = z

abbrev pub end_symbols : ℕ → Bool → Form → List Symbol
end_symbols letters raises f = form_symbols letters f.coefs (raised_if raises f.constant)

abbrev pub comma_end : ℕ → Bool → Form → List Symbol
comma_end letters raises f = Mark signs.Comma ∷ end_symbols letters raises f

abbrev pub listed : ℕ → Bool → List Form → List Symbol
listed letters raises [] = []
listed letters raises (f ∷ fs) = end_symbols letters raises f ++ flat_map (comma_end letters raises) fs

-- one form, or several behind `max` or `min`
abbrev pub ends_symbols : ℕ → Keyword → Bool → List Form → List Symbol
ends_symbols letters word raises (f ∷ []) = end_symbols letters raises f
ends_symbols letters word raises other = Key word ∷ Mark signs.LeftParen ∷ listed letters raises other ++ Mark signs.RightParen ∷ []

-- whether the highs are printed with `<`, and 1 added to each constant: where a constant of them is too large as it stands
abbrev pub is_strict : List Form → Bool
is_strict highs = not (list_all constant_fits highs)

abbrev pub relation : Bool → Sign
relation true = signs.Less
relation false = signs.AtMost

abbrev pub lows_symbols : ℕ → List Form → List Symbol
lows_symbols letters lows = ends_symbols letters words.Max false lows

abbrev pub highs_symbols : ℕ → List Form → List Symbol
highs_symbols letters highs = Mark (relation (is_strict highs)) ∷ ends_symbols letters words.Min (is_strict highs) highs

-- the head of a loop

abbrev pub beginning_symbols : ℕ → ℕ → List Form → List Symbol
beginning_symbols letters level lows = Mark signs.LeftParen ∷ Name (iterator_name letters level) ∷ Mark signs.Equals ∷ lows_symbols letters lows

abbrev pub limit_symbols : ℕ → ℕ → List Form → List Symbol
limit_symbols letters level highs = Mark signs.Semicolon ∷ Name (iterator_name letters level) ∷ highs_symbols letters highs

-- `++`, or what is added
abbrev pub next_if : Bool → List ℕ → ℕ → List Symbol
next_if true name step = Mark signs.Increment ∷ []
next_if false name step = Mark signs.Equals ∷ Name name ∷ Mark signs.Plus ∷ Number step ∷ []

abbrev pub next_symbols : List ℕ → ℕ → List Symbol
next_symbols name step = Name name ∷ next_if (nat_eq step 1) name step

abbrev pub step_symbols : ℕ → ℕ → ℕ → List Symbol
step_symbols letters level step = (Mark signs.Semicolon ∷ next_symbols (iterator_name letters level) step) ++ Mark signs.RightParen ∷ []

-- what stands between `for` and the body
abbrev pub head_symbols : ℕ → ℕ → List Form → List Form → ℕ → List Symbol
head_symbols letters level lows highs step =
    beginning_symbols letters level lows ++ limit_symbols letters level highs ++ step_symbols letters level step
