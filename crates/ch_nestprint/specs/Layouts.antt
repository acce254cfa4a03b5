-- How symbols are laid out as text: each on its own, with a gap behind it that depends on what stands around it. A line ends
-- behind a brace, and behind a semicolon that stands in no loop's head.
use Rattle.std.specs.Prelude.{ℕ, ◌+◌, ◌-◌, ◌*◌, Bool, true, false, not, ◌&&◌, ◌||◌, List, [], ◌∷◌, ◌++◌, replicate}
use Rattle.ch_lex.specs.Keywords.{keyword_text}
use Rattle.ch_lex.specs.Signs.{sign_text}
use Rattle.ch_lex.specs.declared.keyword.Keyword.TheVariants as words
use Rattle.ch_lex.specs.declared.token.Sign.TheVariants as signs
use Rattle.ch_nestprint.specs.declared.layout.Layout.{Layout}
use Rattle.ch_nestprint.specs.declared.symbol.Symbol.{Symbol}
use Rattle.ch_nestprint.specs.declared.symbol.Symbol.TheVariants.{Name, Number, Key, Mark}
use Rattle.ch_print.specs.Numbers.{number_text}

abbrev pub symbol_text : Symbol → List ℕ
symbol_text (Name text) = text
symbol_text (Number n) = number_text n
symbol_text (Key k) = keyword_text k
symbol_text (Mark s) = sign_text s

-- the braces that are open behind a symbol
abbrev pub depth_after : ℕ → Symbol → ℕ
depth_after depth (Mark signs.LeftBrace) = depth + 1
depth_after depth (Mark signs.RightBrace) = depth - 1
depth_after depth other = depth

-- the indentation of a line that begins with a symbol
abbrev pub depth_before : ℕ → Symbol → ℕ
depth_before depth (Mark signs.RightBrace) = depth - 1
depth_before depth other = depth

-- a loop's head goes up to the brace behind it
abbrev pub in_head_after : Bool → Symbol → Bool
in_head_after in_head (Key words.For) = true
in_head_after in_head (Mark signs.LeftBrace) = false
in_head_after in_head other = in_head

-- an operand may end with this symbol, so that a `-` behind it is that of a difference
abbrev pub ends_operand : Symbol → Bool
ends_operand (Name text) = true
ends_operand (Number n) = true
ends_operand (Mark signs.RightBracket) = true
ends_operand (Mark signs.RightParen) = true
ends_operand other = false

abbrev pub layout_after : Layout → Symbol → Layout
layout_after layout s = record { depth = depth_after layout.depth s; in_head = in_head_after layout.in_head s; after_operand = ends_operand s }

abbrev pub ends_line : Bool → Symbol → Bool
ends_line in_head (Mark signs.LeftBrace) = true
ends_line in_head (Mark signs.RightBrace) = true
ends_line in_head (Mark signs.Semicolon) = not in_head
ends_line in_head other = false

-- what follows may stand at once behind this symbol, as `x` in `(x`, or in `-x`
abbrev pub is_tight_behind : Bool → Symbol → Bool
is_tight_behind after_operand (Mark signs.LeftParen) = true
is_tight_behind after_operand (Mark signs.LeftBracket) = true
is_tight_behind after_operand (Mark signs.Star) = true
is_tight_behind after_operand (Mark signs.Minus) = not after_operand
is_tight_behind after_operand other = false

-- this symbol may stand at once behind another, as `]` in `x]`
abbrev pub is_tight_before : Symbol → Bool
is_tight_before (Mark signs.LeftBracket) = true
is_tight_before (Mark signs.RightBracket) = true
is_tight_before (Mark signs.RightParen) = true
is_tight_before (Mark signs.Comma) = true
is_tight_before (Mark signs.Semicolon) = true
is_tight_before (Mark signs.Star) = true
is_tight_before (Mark signs.Increment) = true
is_tight_before other = false

-- a longer sign may begin with this one
abbrev pub may_go_on : Symbol → Bool
may_go_on (Mark signs.Less) = true
may_go_on (Mark signs.More) = true
may_go_on (Mark signs.Plus) = true
may_go_on other = false

abbrev pub is_tight : Bool → Symbol → Symbol → Bool
is_tight after_operand s t = not (may_go_on s) && (is_tight_behind after_operand s || is_tight_before t)

-- a line feed and four blanks for each open brace
abbrev pub new_line : ℕ → List ℕ
new_line depth = 10 ∷ replicate (4 * depth) 32

abbrev pub blank_if : Bool → List ℕ
blank_if true = []
blank_if false = 32 ∷ []

abbrev pub gap_if : Bool → Bool → ℕ → List ℕ
gap_if true tight depth = new_line depth
gap_if false tight depth = blank_if tight

-- the gap between a symbol and those after it
abbrev pub gap : Layout → Symbol → List Symbol → List ℕ
gap layout s [] = 10 ∷ []
gap layout s (t ∷ ts) = gap_if (ends_line layout.in_head s) (is_tight layout.after_operand s t) (depth_before (depth_after layout.depth s) t)

abbrev pub first_layout : Layout
first_layout = record { depth = 0; in_head = false; after_operand = false }

-- the text of symbols that stand where this is known of those before
unfoldable pub spell : Layout → List Symbol → List ℕ
spell layout [] = []
spell layout (s ∷ ss) = symbol_text s ++ gap layout s ss ++ spell (layout_after layout s) ss
