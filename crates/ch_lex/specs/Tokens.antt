-- The tokens of a text, from its first byte to its last, or the first byte that begins none.
use Rattle.std.specs.Prelude.{◌≡◌, ℕ, zero, suc, ◌+◌, ◌-◌, nat_lt, if◌then◌else◌, List, [], ◌∷◌, get_or, Option, Some, None, Result, Ok, Err, take_while}
use Rattle.std.specs.List.{prefix_len}
use Rattle.ch_lex.specs.declared.token.Sign.{Sign}
use Rattle.ch_lex.specs.declared.token.Kind.{Kind}
use Rattle.ch_lex.specs.declared.token.Kind.TheVariants as kinds
use Rattle.ch_lex.specs.declared.token.Token.{Token}
use Rattle.ch_lex.specs.declared.error.LexError.{LexError}
use Rattle.ch_lex.specs.declared.error.LexError.TheVariants as errors
use Rattle.ch_lex.specs.declared.ahead.Front.{Front}
use Rattle.ch_lex.specs.declared.ahead.Front.TheVariants.{Gap, Piece, NotAscii, BadByte, NumberTooLarge}
use Rattle.ch_lex.specs.Bytes.{is_digit, is_letter, is_word, is_blank, is_hash, is_ascii, is_comment, number_of}
use Rattle.ch_lex.specs.Signs.{one_byte, two_bytes}

-- the largest number that a text may hold
abbrev pub most_number : ℕ
most_number = 2147483648

abbrev pub small_number : List ℕ → Option ℕ
small_number digits = if nat_lt most_number (number_of digits) then None else Some (number_of digits)

abbrev pub number_front : Option ℕ → Front
number_front (Some n) = Piece (kinds.Number n)
number_front None = NumberTooLarge

abbrev pub sign_or : Option Sign → ℕ → Front × ℕ → Front × ℕ
sign_or (Some s) len other = (Piece (kinds.Sign s), len)
sign_or None len other = other

-- what a byte begins that starts nothing else, where `c` is the byte after it: the longest sign
unfoldable pub sign_front : ℕ → ℕ → Front × ℕ
sign_front b c = sign_or (two_bytes b c) 2 (sign_or (one_byte b) 1 (BadByte, 1))

-- What byte `b` begins, where `bs` are the bytes after it, and its length. A blank or a comment is a gap. A comment goes up to the line feed; a byte
-- that isn't ASCII ends it too, and is refused as such.
unfoldable pub begun : ℕ → List ℕ → Front × ℕ
begun b bs =
    if is_blank b then (Gap, 1)
    else if is_hash b then (Gap, prefix_len is_comment bs + 1)
    else if is_letter b then (Piece kinds.Name, prefix_len is_word bs + 1)
    else if is_digit b then (number_front (small_number (b ∷ take_while is_digit bs)), prefix_len is_digit bs + 1)
    else if is_ascii b then sign_front b (get_or bs 0 0)
    else (NotAscii, 1)

-- the tokens from place `at` on, where this stands, so long, and `after` are the tokens after it
abbrev pub with_token : Kind → ℕ → ℕ → Result (List Token) LexError → Result (List Token) LexError
with_token kind len at (Ok after) = Ok (record { kind = kind; start = at; end = at + len } ∷ after)
with_token kind len at (Err e) = Err e

abbrev pub joined : Front → ℕ → ℕ → Result (List Token) LexError → Result (List Token) LexError
joined Gap len at after = after
joined (Piece kind) len at after = with_token kind len at after
joined NotAscii len at after = Err (errors.NotAscii at)
joined BadByte len at after = Err (errors.BadByte at)
joined NumberTooLarge len at after = Err (errors.NumberTooLarge at)

-- The tokens of the bytes from place `at` on. The first `taken` bytes belong to what stands before.
unfoldable pub tokens_from : ℕ → ℕ → List ℕ → Result (List Token) LexError
tokens_from taken at [] = Ok []
tokens_from (suc taken) at (b ∷ bs) = tokens_from taken (at + 1) bs
tokens_from zero at (b ∷ bs) = joined (begun b bs).0 (begun b bs).1 at (tokens_from ((begun b bs).1 - 1) (at + 1) bs)

abbrev pub tokens_of : List ℕ → Result (List Token) LexError
tokens_of bytes = tokens_from 0 0 bytes

-- what a call answers: that, unless memory ran out
abbrev pub Gives : {X : Type 0} → Result X LexError → Result X LexError → Type 0
Gives (Ok x) read = read ≡ Ok x
Gives (Err (errors.NotAscii at)) read = read ≡ Err (errors.NotAscii at)
Gives (Err (errors.BadByte at)) read = read ≡ Err (errors.BadByte at)
Gives (Err (errors.NumberTooLarge at)) read = read ≡ Err (errors.NumberTooLarge at)
Gives (Err errors.Memory) read = Unit {0}
