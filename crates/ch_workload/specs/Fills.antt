-- The fills of a client: how arrays start for it, in place of the fills of their programs.
use Rattle.std.specs.Prelude.{ℕ, Bool, true, false, not, ◌&&◌, ◌||◌, nat_eq, nat_lt, List, [], ◌∷◌, ◌++◌, length, slice_get, slice_index_or, Ok}
use Rattle.std.specs.Option.{option_map_or}
use Rattle.ch_lex.specs.declared.error.Code2.TheVariants.{D2, D3}
use Rattle.ch_lex.specs.declared.keyword.Keyword.TheVariants as words
use Rattle.ch_lex.specs.declared.token.Sign.TheVariants as signs
use Rattle.ch_lex.specs.declared.token.Token.{Token}
use Rattle.ch_nest.specs.declared.nest.ArrayDecl.{ArrayDecl}
use Rattle.ch_nest.specs.declared.nest.Fill.{Fill}
use Rattle.ch_nestparse.specs.declared.program.ParsedProgram.{ParsedProgram}
use Rattle.ch_nestparse.specs.Read.{◌>>=◌, Read, begins, guarded, integer_at, keyword_at, place, repeated, sign_at}
use Rattle.ch_nestparse.specs.Spelling.{is_fill}
use Rattle.ch_workload.specs.declared.fills.ClientFill.{ClientFill}
use Rattle.ch_workload.specs.Names.{array_at, program_at}

-- the arrays of a program; a number past the list, which no name stands for, has none
abbrev pub arrays_of : List ParsedProgram → ℕ → List ArrayDecl
arrays_of programs k = option_map_or (λ p. p.nest.arrays) (slice_get programs k) []

abbrev pub fill : ℕ → ℕ → Fill → ClientFill
fill program array with_fill = record { program = program; array = array; fill = with_fill }

-- it fills this array
abbrev pub is_for : ℕ → ℕ → ClientFill → Bool
is_for program array f = nat_eq f.program program && nat_eq f.array array

-- one of these fills this array
abbrev pub is_filled : ℕ → ℕ → List ClientFill → Bool
is_filled program array [] = false
is_filled program array (f ∷ fs) = is_for program array f || is_filled program array fs

-- `(`, two numbers, `)` and `;`
unfoldable pub values_at : List ℕ → List Token → Read Fill
values_at bytes ts = do
  paren ← sign_at bytes D2 signs.LeftParen ts
  a ← integer_at bytes D2 paren
  comma ← sign_at bytes D2 signs.Comma a.1
  b ← integer_at bytes D2 comma
  close ← sign_at bytes D2 signs.RightParen b.1
  rest ← sign_at bytes D2 signs.Semicolon close
  Ok (record { a = a.0; b = b.0 }, rest)

-- one fill more, of an array that wasn't filled yet
unfoldable pub fill_at : List ℕ → List ParsedProgram → List ClientFill → List Token → Read (List ClientFill)
fill_at bytes programs found ts = do
  word ← keyword_at bytes D2 words.Fill ts
  program ← program_at bytes programs word
  array ← array_at bytes (arrays_of programs program.0) program.1
  new ← guarded (not (is_filled program.0 array.0 found)) D3 (place bytes program.1) (λ _. Ok array.1)
  values ← values_at bytes new
  Ok (found ++ fill program.0 array.0 values.0 ∷ [], values.1)

abbrev pub begins_fill : List ℕ → List Token → Bool
begins_fill bytes ts = begins bytes words.Fill ts

-- all fills; there are no more of them than tokens
unfoldable pub fills_at : List ℕ → List ParsedProgram → List Token → Read (List ClientFill)
fills_at bytes programs ts = repeated (begins_fill bytes) (fill_at bytes programs) (length ts) [] ts

-- no array is filled twice
abbrev pub fills_differ : List ClientFill → Bool
fills_differ [] = true
fills_differ (f ∷ fs) = not (is_filled f.program f.array fs) && fills_differ fs

-- A fill fits programs with so many arrays each: its array exists, and its numbers are numbers of the language.
abbrev pub fill_fits : List ℕ → ClientFill → Bool
fill_fits arrays f = nat_lt f.array (slice_index_or arrays f.program 0) && is_fill f.fill
