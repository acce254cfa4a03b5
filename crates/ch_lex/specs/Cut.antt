-- The tokens are slices of the text, in order, each the longest that stands at its place, and only blanks and comments stand between them.
use Rattle.std.specs.Prelude.{◌≡◌, ℕ, ◌-◌, ◌<◌, ◌≤◌, Bool, true, false, not, ◌&&◌, ◌||◌, if◌then◌else◌, IsTrue, List, [], ◌∷◌, length, take, drop, slice_range}
use Rattle.std.specs.List.{list_all}
use Rattle.ch_lex.specs.declared.token.Sign.{Sign}
use Rattle.ch_lex.specs.declared.token.Kind.{Kind}
use Rattle.ch_lex.specs.declared.token.Kind.TheVariants as kinds
use Rattle.ch_lex.specs.declared.token.Token.{Token}
use Rattle.ch_lex.specs.Bytes.{is_digit, is_letter, is_word, is_blank, is_hash, is_line_feed, is_ascii, begins, number_of}
use Rattle.ch_lex.specs.Signs.{sign_text}
use Rattle.ch_lex.specs.Tokens.{most_number}

-- Nothing but blanks and comments. `inside` says that the first byte stands in a comment, and `last` that the text ends here, where a comment needs no
-- line feed.
abbrev pub is_gap : Bool → Bool → List ℕ → Bool
is_gap last inside [] = last || not inside
is_gap last false (b ∷ bs) = if is_blank b then is_gap last false bs else (is_hash b && is_gap last true bs)
is_gap last true (b ∷ bs) = is_ascii b && is_gap last (not (is_line_feed b)) bs

-- a letter, and then word bytes up to the first byte that is none
pub record IsName (len : ℕ) (bytes : List ℕ) : Type 0 where
  pub first : IsTrue (begins is_letter bytes)
  pub word : IsTrue (list_all is_word (take len bytes))
  pub longest : begins is_word (drop len bytes) ≡ false

-- digits up to the first byte that is none, and the number that they write
pub record IsNumber (n len : ℕ) (bytes : List ℕ) : Type 0 where
  pub first : IsTrue (begins is_digit bytes)
  pub digits : IsTrue (list_all is_digit (take len bytes))
  pub longest : begins is_digit (drop len bytes) ≡ false
  pub value : n ≡ number_of (take len bytes)
  pub small : n ≤ most_number

-- the sign's own text, and no longer sign stands there
pub record IsSign (sign : Sign) (len : ℕ) (bytes : List ℕ) : Type 0 where
  pub text : take len bytes ≡ sign_text sign
  pub longest : (other : Sign) → take (length (sign_text other)) bytes ≡ sign_text other → length (sign_text other) ≤ len

-- the first `len` bytes are a token of this kind
abbrev pub Stands : Kind → ℕ → List ℕ → Type 0
Stands kinds.Name len bytes = IsName len bytes
Stands (kinds.Number n) len bytes = IsNumber n len bytes
Stands (kinds.Sign s) len bytes = IsSign s len bytes

-- from place `at` on the text is cut into these tokens
abbrev pub IsCut : List ℕ → ℕ → List Token → Type 0
IsCut bytes at [] = IsTrue (is_gap true false (drop at bytes))
IsCut bytes at (t ∷ ts) = (at ≤ t.start) × IsTrue (is_gap false false (slice_range bytes at t.start)) × (t.start < t.end) × (t.end ≤ length bytes)
    × Stands t.kind (t.end - t.start) (drop t.start bytes) × IsCut bytes t.end ts
