-- The tokens of a printed program, as symbols.
use Rattle.std.specs.Prelude.{◌≡◌, Ok, ℕ, ◌+◌, nat_le, Bool, true, List, [], ◌∷◌, length, map}
use Rattle.ch_lex.specs.Tokens.{most_number, tokens_of}
use Rattle.ch_lex.specs.declared.token.Kind.{Kind}
use Rattle.ch_lex.specs.declared.token.Kind.TheVariants as kinds
use Rattle.ch_lex.specs.declared.token.Token.{Token}
use Rattle.ch_nestparse.specs.Read.{kind_look, text_of}
use Rattle.ch_nestparse.specs.Spelling.{is_name}
use Rattle.ch_nestparse.specs.declared.ahead.Look.{Look}
use Rattle.ch_nestparse.specs.declared.ahead.Look.TheVariants as looks
use Rattle.ch_nestprint.specs.declared.layout.Layout.{Layout}
use Rattle.ch_nestprint.specs.declared.symbol.Symbol.{Symbol}
use Rattle.ch_nestprint.specs.declared.symbol.Symbol.TheVariants.{Name, Number, Key, Mark}
use Rattle.ch_nestprint.specs.Layouts.{gap, layout_after, symbol_text}

-- a symbol that is a token of the language: its name is a name, its number isn't too large
abbrev pub is_symbol : Symbol → Bool
is_symbol (Name text) = is_name text
is_symbol (Number n) = nat_le n most_number
is_symbol (Key k) = true
is_symbol (Mark s) = true

abbrev pub kind_of : Symbol → Kind
kind_of (Name text) = kinds.Name
kind_of (Number n) = kinds.Number n
kind_of (Key k) = kinds.Name
kind_of (Mark s) = kinds.Sign s

-- the token of each symbol where they are laid out from place `at` on
unfoldable pub tokens_at : Layout → ℕ → List Symbol → List Token
tokens_at layout at [] = []
tokens_at layout at (s ∷ ss) =
    record { kind = kind_of s; start = at; end = at + length (symbol_text s) }
    ∷ tokens_at (layout_after layout s) (at + length (symbol_text s) + length (gap layout s ss)) ss

-- a token as a symbol
abbrev pub symbol_of_look : Look → List ℕ → Symbol
symbol_of_look looks.Name text = Name text
symbol_of_look (looks.Keyword k) text = Key k
symbol_of_look (looks.Number n) text = Number n
symbol_of_look (looks.Sign s) text = Mark s
symbol_of_look looks.End text = Name []

abbrev pub symbol_of : List ℕ → Token → Symbol
symbol_of bytes t = symbol_of_look (kind_look t.kind (text_of bytes t)) (text_of bytes t)

-- the tokens of the text are these symbols
abbrev pub Shows : List ℕ → List Symbol → Type 0
Shows text ss = (ts : List Token) × (tokens_of text ≡ Ok ts) × (map (symbol_of text) ts ≡ ss)
