-- The signs, and which of them begins a text.
use Rattle.std.specs.Prelude.{ℕ, ◌&&◌, ◌==◌, if◌then◌else◌, List, codes, Option, Some, None}
use Rattle.ch_lex.specs.declared.token.Sign.{Sign}
use Rattle.ch_lex.specs.declared.token.Sign.TheVariants.{LeftParen, RightParen, LeftBracket, RightBracket, LeftBrace, RightBrace, Comma, Semicolon, Plus, Minus, Star, Equals, Less, AtMost, More, AtLeast, Increment}

abbrev pub sign_text : Sign → List ℕ
sign_text LeftParen = codes "("
sign_text RightParen = codes ")"
sign_text LeftBracket = codes "["
sign_text RightBracket = codes "]"
sign_text LeftBrace = codes "{"
sign_text RightBrace = codes "}"
sign_text Comma = codes ","
sign_text Semicolon = codes ";"
sign_text Plus = codes "+"
sign_text Minus = codes "-"
sign_text Star = codes "*"
sign_text Equals = codes "="
sign_text Less = codes "<"
sign_text AtMost = codes "<="
sign_text More = codes ">"
sign_text AtLeast = codes ">="
sign_text Increment = codes "++"

-- the sign of one byte
abbrev pub one_byte : ℕ → Option Sign
one_byte b =
    if b == 40 then Some LeftParen else if b == 41 then Some RightParen
    else if b == 91 then Some LeftBracket else if b == 93 then Some RightBracket
    else if b == 123 then Some LeftBrace else if b == 125 then Some RightBrace
    else if b == 44 then Some Comma else if b == 59 then Some Semicolon
    else if b == 43 then Some Plus else if b == 45 then Some Minus else if b == 42 then Some Star
    else if b == 61 then Some Equals else if b == 60 then Some Less else if b == 62 then Some More
    else None

-- the sign of two bytes
abbrev pub two_bytes : ℕ → ℕ → Option Sign
two_bytes b c =
    if b == 60 && c == 61 then Some AtMost else if b == 62 && c == 61 then Some AtLeast
    else if b == 43 && c == 43 then Some Increment else None
