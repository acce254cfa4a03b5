-- The tokens of symbols that are laid out as text are these symbols.
use Rattle.std.proofs.Common.{◌≡◌, ℕ, zero, suc, ◌+◌, ◌-◌, ◌*◌, ◌<◌, Bool, true, false, ◌&&◌, ◌||◌, List, [], ◌∷◌, ◌++◌, length, map, take, get_or, replicate, Some, Ok, refl, ap, ◌∙◌, append_assoc, arith}
use Rattle.std.specs.Prelude.{is_none, nat_lt, nat_le, take_while, ◌==◌}
use Rattle.std.specs.List.{list_all, prefix_len}
use Rattle.std.specs.Int.Digits.{digits_of, AllBelowBase, number_from_digits}
use Rattle.std.proofs.lemmas.Int.Digits.{all_below_base_digits_of, number_digits_of, first_digits_of}
use Rattle.std.proofs.Math.Seq.{drop-append_seam, take-append_seam}
use Rattle.std.proofs.lemmas.Bool.{and_parts, and_from}
use Rattle.std.proofs.lemmas.Bool.Decides.{nat_tests}
use Rattle.ch_lex.specs.Bytes.{begins, is_blank, is_digit, is_hash, is_letter, is_word, number_of}
use Rattle.ch_lex.specs.Keywords.{keyword_of, keyword_text}
use Rattle.ch_lex.specs.Signs.{sign_text}
use Rattle.ch_lex.specs.Tokens.{begun, most_number, sign_front, small_number, tokens_from, with_token}
use Rattle.ch_lex.specs.declared.ahead.Front.TheVariants.{Piece}
use Rattle.ch_lex.specs.declared.keyword.Keyword.{Keyword}
use Rattle.ch_lex.specs.declared.keyword.Keyword.TheVariants as words
use Rattle.ch_lex.specs.declared.token.Kind.{Kind}
use Rattle.ch_lex.specs.declared.token.Kind.TheVariants as kinds
use Rattle.ch_lex.specs.declared.token.Sign.{Sign}
use Rattle.ch_lex.specs.declared.token.Sign.TheVariants.{LeftParen, RightParen, LeftBracket, RightBracket, LeftBrace, RightBrace, Comma, Semicolon, Plus, Minus, Star, Equals, Less, AtMost, More, AtLeast, Increment}
use Rattle.ch_lex.proofs.Pieces.{passed}
use Rattle.ch_print.specs.Numbers.{digit_text, number_text}
use Rattle.ch_nestprint.specs.declared.layout.Layout.{Layout}
use Rattle.ch_nestprint.specs.declared.symbol.Symbol.{Symbol}
use Rattle.ch_nestprint.specs.declared.symbol.Symbol.TheVariants.{Name, Number, Key, Mark}
use Rattle.ch_nestprint.specs.Cuts.{is_symbol, kind_of, tokens_at}
use Rattle.ch_nestprint.specs.Layouts.{blank_if, gap, gap_if, is_tight_before, layout_after, spell, symbol_text}

-- gaps

blank_passed : (at : ℕ) (bytes : List ℕ) → tokens_from 0 at (32 ∷ bytes) ≡ tokens_from 0 (at + 1) bytes
unfolding tokens_from begun
blank_passed at bytes = refl

feed_passed : (at : ℕ) (bytes : List ℕ) → tokens_from 0 at (10 ∷ bytes) ≡ tokens_from 0 (at + 1) bytes
unfolding tokens_from begun
feed_passed at bytes = refl

blanks_passed : (n at : ℕ) (bytes : List ℕ) → tokens_from 0 at (replicate n 32 ++ bytes) ≡ tokens_from 0 (at + length {A = ℕ} (replicate n 32)) bytes
blanks_passed zero at bytes = ap (λ (k : ℕ). tokens_from 0 k bytes) (omega arith)
blanks_passed (suc n) at bytes =
    blank_passed at (replicate n 32 ++ bytes) ∙ blanks_passed n (at + 1) bytes
    ∙ ap (λ (k : ℕ). tokens_from 0 k bytes) (omega arith)

gap_if_passed : (ends tight : Bool) (depth at : ℕ) (bytes : List ℕ) → tokens_from 0 at (gap_if ends tight depth ++ bytes) ≡ tokens_from 0 (at + length (gap_if ends tight depth)) bytes
gap_if_passed true tight depth at bytes =
    feed_passed at (replicate (4 * depth) 32 ++ bytes) ∙ blanks_passed (4 * depth) (at + 1) bytes
    ∙ ap (λ (k : ℕ). tokens_from 0 k bytes) (omega arith)
gap_if_passed false true depth at bytes = ap (λ (k : ℕ). tokens_from 0 k bytes) (omega arith)
gap_if_passed false false depth at bytes = blank_passed at bytes

gap_passed : (layout : Layout) (s : Symbol) (ss : List Symbol) (at : ℕ) (bytes : List ℕ) → tokens_from 0 at (gap layout s ss ++ bytes) ≡ tokens_from 0 (at + length (gap layout s ss)) bytes
gap_passed layout s [] at bytes = feed_passed at bytes
gap_passed layout s (t ∷ ts) at bytes = gap_if_passed _ _ _ at bytes

-- a token, where what begins with its first byte is known
piece_read : (kind : Kind) (at b : ℕ) (bs rest : List ℕ) → begun b (bs ++ rest) ≡ (Piece kind, length bs + 1)
    → tokens_from 0 at ((b ∷ bs) ++ rest) ≡ with_token kind (length bs + 1) at (tokens_from 0 (at + (length bs + 1)) rest)
unfolding tokens_from
piece_read kind at b bs rest e =
    let more : length bs + 1 - 1 ≡ length bs = omega arith in
    let far : at + 1 + length bs ≡ at + (length bs + 1) = omega arith in
    rw (e, more, passed (length bs) (at + 1) (bs ++ rest), drop-append_seam bs rest, far) refl

-- runs

pub run_len : (p : ℕ → Bool) (bs rest : List ℕ) → list_all p bs ≡ true → begins p rest ≡ false → prefix_len p (bs ++ rest) ≡ length bs
run_len p [] [] h e = refl
run_len p [] (b ∷ rest) h e = let f : p b ≡ false = e in rw f refl
run_len p (b ∷ bs) rest h e =
    let parts = and_parts (p b) (list_all p bs) h in
    rw (parts.0, run_len p bs rest parts.1 e) (omega arith)

run_taken : (p : ℕ → Bool) (bs rest : List ℕ) → list_all p bs ≡ true → begins p rest ≡ false → take_while p (bs ++ rest) ≡ bs
run_taken p bs rest h e = ap (λ (k : ℕ). take k (bs ++ rest)) (run_len p bs rest h e) ∙ take-append_seam bs rest

-- names

letter_is : (b : ℕ) → is_letter b ≡ true → (is_blank b ≡ false) × (is_hash b ≡ false)
letter_is b h = (grind (arith, nat_tests), grind (arith, nat_tests))

name_begun : (b : ℕ) (bs rest : List ℕ) → is_letter b ≡ true → list_all is_word bs ≡ true → begins is_word rest ≡ false → begun b (bs ++ rest) ≡ (Piece kinds.Name, length bs + 1)
unfolding begun
name_begun b bs rest letter all stop =
    let blank : is_blank b ≡ false = (letter_is b letter).0 in
    let hash : is_hash b ≡ false = (letter_is b letter).1 in
    rw (blank, hash, letter, run_len is_word bs rest all stop) refl

name_read : (text : List ℕ) (at : ℕ) (rest : List ℕ) → (begins is_letter text && list_all is_word text) ≡ true → begins is_word rest ≡ false
    → tokens_from 0 at (text ++ rest) ≡ with_token kinds.Name (length text) at (tokens_from 0 (at + length text) rest)
name_read [] at rest h stop = absurd (cc)
name_read (b ∷ bs) at rest h stop =
    let parts = and_parts _ _ h in
    let long : length bs + 1 ≡ length (b ∷ bs) = omega arith in
    rw (← long) (piece_read kinds.Name at b bs rest (name_begun b bs rest parts.0 ((and_parts _ _ parts.1).1) stop))

key_word : (k : Keyword) → (begins is_letter (keyword_text k) && list_all is_word (keyword_text k)) ≡ true
key_word words.Program = refl
key_word words.Recipe = refl
key_word words.Session = refl
key_word words.Client = refl
key_word words.Let = refl
key_word words.Array = refl
key_word words.Fill = refl
key_word words.For = refl
key_word words.Max = refl
key_word words.Min = refl
key_word words.Param = refl
key_word words.To = refl
key_word words.Step = refl
key_word words.Call = refl
key_word words.Machine = refl
key_word words.Eager = refl
key_word words.Patient = refl

-- numbers

digit_is : (b : ℕ) → is_digit b ≡ true → (is_blank b ≡ false) × (is_hash b ≡ false) × (is_letter b ≡ false)
digit_is b h = (grind (arith, nat_tests), grind (arith, nat_tests), grind (arith, nat_tests))

number_small : (n : ℕ) (digits : List ℕ) → number_of digits ≡ n → nat_le n most_number ≡ true → small_number digits ≡ Some n
number_small n digits e h =
    let small : nat_lt most_number n ≡ false = grind (arith, nat_tests) in
    rw (e, small) refl

digits_begun : (n b : ℕ) (bs rest : List ℕ) → is_digit b ≡ true → list_all is_digit bs ≡ true → begins is_digit rest ≡ false → number_of (b ∷ bs) ≡ n
    → nat_le n most_number ≡ true → begun b (bs ++ rest) ≡ (Piece (kinds.Number n), length bs + 1)
unfolding begun
digits_begun n b bs rest first all stop e h =
    let not = digit_is b first in
    rw (not.0, not.1, not.2, first, run_taken is_digit bs rest all stop, run_len is_digit bs rest all stop, number_small n (b ∷ bs) e h) refl

digits_read : (n at : ℕ) (digits rest : List ℕ) → 0 < length digits → list_all is_digit digits ≡ true → begins is_digit rest ≡ false → number_of digits ≡ n
    → nat_le n most_number ≡ true → tokens_from 0 at (digits ++ rest) ≡ with_token (kinds.Number n) (length digits) at (tokens_from 0 (at + length digits) rest)
digits_read n at [] rest some all stop e h = absurd (omega arith)
digits_read n at (b ∷ bs) rest some all stop e h =
    let parts = and_parts _ _ all in
    let long : length bs + 1 ≡ length (b ∷ bs) = omega arith in
    rw (← long) (piece_read (kinds.Number n) at b bs rest (digits_begun n b bs rest parts.0 parts.1 stop e h))

glyph : (d : ℕ) → d < 10 → is_digit (digit_text d) ≡ true
glyph d h = grind (arith, nat_tests)

all_glyphs : (ds : List ℕ) → AllBelowBase 10 ds → list_all is_digit (map digit_text ds) ≡ true
all_glyphs [] h = refl
all_glyphs (d ∷ ds) h = and_from _ _ (glyph d (h.0)) (all_glyphs ds (h.1))

pub all_digits : (n : ℕ) → list_all is_digit (number_text n) ≡ true
unfolding number_text
all_digits zero = refl
all_digits (suc n) = all_glyphs (digits_of 10 (suc n)) (all_below_base_digits_of 10 (suc n) (omega arith))

undone : (ds : List ℕ) → map (λ d. d - 48) (map digit_text ds) ≡ ds
undone [] = refl
undone (d ∷ ds) = let e : 48 + d - 48 ≡ d = omega arith in rw (e, undone ds) refl

number_back : (n : ℕ) → number_of (number_text n) ≡ n
unfolding number_text
number_back zero = refl
number_back (suc n) = ap (number_from_digits 10) (undone (digits_of 10 (suc n))) ∙ number_digits_of 10 (suc n) (omega arith)

some_mapped : (ds : List ℕ) → 0 < get_or ds 0 0 → 0 < length (map digit_text ds)
some_mapped [] h = absurd (omega arith)
some_mapped (d ∷ ds) h = omega arith

pub some_digits : (n : ℕ) → 0 < length (number_text n)
unfolding number_text
some_digits zero = omega arith
some_digits (suc n) = some_mapped (digits_of 10 (suc n)) (first_digits_of 10 (suc n) (omega arith) (omega arith))

no_digit_if : (letter digit : Bool) → (letter || digit) ≡ false → digit ≡ false
no_digit_if true digit h = cc
no_digit_if false digit h = h

no_digit : (rest : List ℕ) → begins is_word rest ≡ false → begins is_digit rest ≡ false
no_digit [] h = refl
no_digit (b ∷ rest) h = no_digit_if (is_letter b) (is_digit b) h

number_read : (n at : ℕ) (rest : List ℕ) → nat_le n most_number ≡ true → begins is_word rest ≡ false
    → tokens_from 0 at (number_text n ++ rest) ≡ with_token (kinds.Number n) (length (number_text n)) at (tokens_from 0 (at + length (number_text n)) rest)
number_read n at rest h stop = digits_read n at (number_text n) rest (some_digits n) (all_digits n) (no_digit rest stop) (number_back n) h

-- signs

abbrev is_equals : ℕ → Bool
is_equals b = b == 61

abbrev is_plus : ℕ → Bool
is_plus b = b == 43

-- what follows makes no longer sign of a sign
abbrev CalmSign : Sign → List ℕ → Type 0
CalmSign Less rest = begins is_equals rest ≡ false
CalmSign More rest = begins is_equals rest ≡ false
CalmSign Plus rest = begins is_plus rest ≡ false
CalmSign other rest = Unit {0}

abbrev SignRead : Sign → ℕ → List ℕ → Type 0
SignRead s at rest = tokens_from 0 at (sign_text s ++ rest) ≡ with_token (kinds.Sign s) (length (sign_text s)) at (tokens_from 0 (at + length (sign_text s)) rest)

less_begun : (rest : List ℕ) → begins is_equals rest ≡ false → begun 60 rest ≡ (Piece (kinds.Sign Less), 1)
unfolding begun sign_front
less_begun [] h = refl
less_begun (b ∷ rest) h = let e : (b == 61) ≡ false = h in rw e refl

more_begun : (rest : List ℕ) → begins is_equals rest ≡ false → begun 62 rest ≡ (Piece (kinds.Sign More), 1)
unfolding begun sign_front
more_begun [] h = refl
more_begun (b ∷ rest) h = let e : (b == 61) ≡ false = h in rw e refl

plus_begun : (rest : List ℕ) → begins is_plus rest ≡ false → begun 43 rest ≡ (Piece (kinds.Sign Plus), 1)
unfolding begun sign_front
plus_begun [] h = refl
plus_begun (b ∷ rest) h = let e : (b == 43) ≡ false = h in rw e refl

sign_read : (s : Sign) (at : ℕ) (rest : List ℕ) → CalmSign s rest → SignRead s at rest
unfolding tokens_from begun sign_front
sign_read LeftParen at rest h = refl
sign_read RightParen at rest h = refl
sign_read LeftBracket at rest h = refl
sign_read RightBracket at rest h = refl
sign_read LeftBrace at rest h = refl
sign_read RightBrace at rest h = refl
sign_read Comma at rest h = refl
sign_read Semicolon at rest h = refl
sign_read Plus at rest h = piece_read (kinds.Sign Plus) at 43 [] rest (plus_begun rest h)
sign_read Minus at rest h = refl
sign_read Star at rest h = refl
sign_read Equals at rest h = refl
sign_read Less at rest h = piece_read (kinds.Sign Less) at 60 [] rest (less_begun rest h)
sign_read AtMost at rest h = ap (λ (k : ℕ). with_token (kinds.Sign AtMost) 2 at (tokens_from 0 k rest)) (omega arith)
sign_read More at rest h = piece_read (kinds.Sign More) at 62 [] rest (more_begun rest h)
sign_read AtLeast at rest h = ap (λ (k : ℕ). with_token (kinds.Sign AtLeast) 2 at (tokens_from 0 k rest)) (omega arith)
sign_read Increment at rest h = ap (λ (k : ℕ). with_token (kinds.Sign Increment) 2 at (tokens_from 0 k rest)) (omega arith)

-- symbols

-- what follows isn't read as more of a symbol
abbrev Calm : Symbol → List ℕ → Type 0
Calm (Name text) rest = begins is_word rest ≡ false
Calm (Number n) rest = begins is_word rest ≡ false
Calm (Key k) rest = begins is_word rest ≡ false
Calm (Mark s) rest = CalmSign s rest

symbol_read : (s : Symbol) (at : ℕ) (rest : List ℕ) → is_symbol s ≡ true → Calm s rest
    → tokens_from 0 at (symbol_text s ++ rest) ≡ with_token (kind_of s) (length (symbol_text s)) at (tokens_from 0 (at + length (symbol_text s)) rest)
symbol_read (Name text) at rest h calm =
    let first = and_parts (begins is_letter text) (list_all is_word text && is_none (keyword_of text)) h in
    let all = and_parts (list_all is_word text) (is_none (keyword_of text)) first.1 in
    name_read text at rest (and_from (begins is_letter text) (list_all is_word text) first.0 all.0) calm
symbol_read (Number n) at rest h calm = number_read n at rest h calm
symbol_read (Key k) at rest h calm = name_read (keyword_text k) at rest (key_word k) calm
symbol_read (Mark s) at rest h calm = sign_read s at rest calm

-- a word is followed by a gap or a sign
word_stops : (layout : Layout) (t : Symbol) (ts : List Symbol) → begins is_word (blank_if (is_tight_before t) ++ spell layout (t ∷ ts)) ≡ false
unfolding spell
word_stops layout (Name text) ts = refl
word_stops layout (Number n) ts = refl
word_stops layout (Key k) ts = refl
word_stops layout (Mark LeftParen) ts = refl
word_stops layout (Mark RightParen) ts = refl
word_stops layout (Mark LeftBracket) ts = refl
word_stops layout (Mark RightBracket) ts = refl
word_stops layout (Mark LeftBrace) ts = refl
word_stops layout (Mark RightBrace) ts = refl
word_stops layout (Mark Comma) ts = refl
word_stops layout (Mark Semicolon) ts = refl
word_stops layout (Mark Plus) ts = refl
word_stops layout (Mark Minus) ts = refl
word_stops layout (Mark Star) ts = refl
word_stops layout (Mark Equals) ts = refl
word_stops layout (Mark Less) ts = refl
word_stops layout (Mark AtMost) ts = refl
word_stops layout (Mark More) ts = refl
word_stops layout (Mark AtLeast) ts = refl
word_stops layout (Mark Increment) ts = refl

sign_calm : (before behind : Layout) (s : Sign) (ss : List Symbol) → CalmSign s (gap before (Mark s) ss ++ spell behind ss)
sign_calm before behind Less [] = refl
sign_calm before behind Less (t ∷ ts) = refl
sign_calm before behind More [] = refl
sign_calm before behind More (t ∷ ts) = refl
sign_calm before behind Plus [] = refl
sign_calm before behind Plus (t ∷ ts) = refl
sign_calm before behind LeftParen ss = tt
sign_calm before behind RightParen ss = tt
sign_calm before behind LeftBracket ss = tt
sign_calm before behind RightBracket ss = tt
sign_calm before behind LeftBrace ss = tt
sign_calm before behind RightBrace ss = tt
sign_calm before behind Comma ss = tt
sign_calm before behind Semicolon ss = tt
sign_calm before behind Minus ss = tt
sign_calm before behind Star ss = tt
sign_calm before behind Equals ss = tt
sign_calm before behind AtMost ss = tt
sign_calm before behind AtLeast ss = tt
sign_calm before behind Increment ss = tt

calm_behind : (before behind : Layout) (s : Symbol) (ss : List Symbol) → Calm s (gap before s ss ++ spell behind ss)
calm_behind before behind (Name text) [] = refl
calm_behind before behind (Name text) (t ∷ ts) = word_stops behind t ts
calm_behind before behind (Number n) [] = refl
calm_behind before behind (Number n) (t ∷ ts) = word_stops behind t ts
calm_behind before behind (Key k) [] = refl
calm_behind before behind (Key k) (t ∷ ts) = word_stops behind t ts
calm_behind before behind (Mark s) ss = sign_calm before behind s ss

-- the tokens of what is spelled
pub laid : (ss : List Symbol) (layout : Layout) (at : ℕ) → list_all is_symbol ss ≡ true → tokens_from 0 at (spell layout ss) ≡ Ok (tokens_at layout at ss)
unfolding tokens_from spell tokens_at
laid [] layout at h = refl
laid (s ∷ ss) layout at h =
    let parts = and_parts (is_symbol s) (list_all is_symbol ss) h in
    let rest = spell (layout_after layout s) ss in
    ap (tokens_from 0 at) (append_assoc (symbol_text s) (gap layout s ss) rest)
    ∙ symbol_read s at (gap layout s ss ++ rest) parts.0 (calm_behind layout (layout_after layout s) s ss)
    ∙ ap (with_token (kind_of s) (length (symbol_text s)) at)
    (gap_passed layout s ss (at + length (symbol_text s)) rest ∙ laid ss (layout_after layout s) (at + length (symbol_text s) + length (gap layout s ss)) parts.1)
