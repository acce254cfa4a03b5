-- The token at the front of a text: a word, a number or a sign, where what follows goes on with no more of it.
use Rattle.std.proofs.Common.{◌≡◌, ℕ, zero, suc, ◌+◌, ◌-◌, ◌<◌, Bool, true, false, ◌&&◌, ◌||◌, List, [], ◌∷◌, ◌++◌, length, map, take, drop, min, ◌≤◌, Option, Some, None, refl, ap, ◌∙◌, arith}
use Rattle.std.specs.Prelude.{is_none, nat_lt, nat_le, take_while, ◌==◌}
use Rattle.std.specs.List.{list_all}
use Rattle.std.specs.Int.Digits.{digits_of, number_from_digits}
use Rattle.std.proofs.lemmas.Int.Digits.{number_digits_of}
use Rattle.std.proofs.Math.Seq.{drop-append_seam, take-append_seam}
use Rattle.std.proofs.lemmas.Bool.{and_parts, leb-true}
use Rattle.std.proofs.lemmas.Bool.Decides.{nat_tests}
use Rattle.ch_lex.specs.Bytes.{begins, is_blank, is_digit, is_hash, is_letter, is_word, number_of}
use Rattle.ch_lex.specs.Keywords.{keyword_of}
use Rattle.ch_lex.specs.Signs.{sign_text}
use Rattle.ch_lex.specs.Tokens.{begun, most_number, sign_front, small_number, tokens_from, with_token}
use Rattle.ch_lex.specs.declared.ahead.Front.TheVariants.{Piece}
use Rattle.ch_lex.specs.declared.keyword.Keyword.{Keyword}
use Rattle.ch_lex.specs.declared.token.Kind.{Kind}
use Rattle.ch_lex.specs.declared.token.Kind.TheVariants as kinds
use Rattle.ch_lex.specs.declared.token.Sign.{Sign}
use Rattle.ch_lex.specs.declared.token.Sign.TheVariants.{LeftParen, RightParen, LeftBracket, RightBracket, LeftBrace, RightBrace, Comma, Semicolon, Plus, Minus, Star, Equals, Less, AtMost, More, AtLeast, Increment}
use Rattle.ch_lex.proofs.Pieces.{passed}
use Rattle.ch_nestparse.specs.Read.{kind_look, word_look}
use Rattle.ch_nestparse.specs.Spelling.{is_name}
use Rattle.ch_print.specs.Numbers.{digit_text, number_text}
use Rattle.ch_nestprint.proofs.Laid.{all_digits, run_len, some_digits}
use Rattle.ch_nestprint.specs.Cuts.{symbol_of_look}
use Rattle.ch_nestprint.specs.declared.symbol.Symbol.TheVariants.{Name, Number}

run_taken : (p : ℕ → Bool) (bs rest : List ℕ) → list_all p bs ≡ true → begins p rest ≡ false → take_while p (bs ++ rest) ≡ bs
run_taken p bs rest h e = ap (λ (k : ℕ). take k (bs ++ rest)) (run_len p bs rest h e) ∙ take-append_seam bs rest

-- a token, where what begins with its first byte is known
piece_read : (kind : Kind) (at b : ℕ) (bs rest : List ℕ) → begun b (bs ++ rest) ≡ (Piece kind, length bs + 1)
    → tokens_from 0 at ((b ∷ bs) ++ rest) ≡ with_token kind (length bs + 1) at (tokens_from 0 (at + (length bs + 1)) rest)
unfolding tokens_from
piece_read kind at b bs rest e =
    let more : length bs + 1 - 1 ≡ length bs = omega arith in
    let far : at + 1 + length bs ≡ at + (length bs + 1) = omega arith in
    rw (e, more, passed (length bs) (at + 1) (bs ++ rest), drop-append_seam bs rest, far) refl

-- names

letter_is : (b : ℕ) → is_letter b ≡ true → (is_blank b ≡ false) × (is_hash b ≡ false)
letter_is b h = (grind (arith, nat_tests), grind (arith, nat_tests))

name_begun : (b : ℕ) (bs rest : List ℕ) → is_letter b ≡ true → list_all is_word bs ≡ true → begins is_word rest ≡ false → begun b (bs ++ rest) ≡ (Piece kinds.Name, length bs + 1)
unfolding begun
name_begun b bs rest letter all stop =
    let blank : is_blank b ≡ false = (letter_is b letter).0 in
    let hash : is_hash b ≡ false = (letter_is b letter).1 in
    rw (blank, hash, letter, run_len is_word bs rest all stop) refl

pub name_read : (text : List ℕ) (at : ℕ) (rest : List ℕ) → (begins is_letter text && list_all is_word text) ≡ true → begins is_word rest ≡ false
    → tokens_from 0 at (text ++ rest) ≡ with_token kinds.Name (length text) at (tokens_from 0 (at + length text) rest)
name_read [] at rest h stop = absurd (cc)
name_read (b ∷ bs) at rest h stop =
    let parts = and_parts _ _ h in
    let long : length bs + 1 ≡ length (b ∷ bs) = omega arith in
    rw (← long) (piece_read kinds.Name at b bs rest (name_begun b bs rest parts.0 ((and_parts _ _ parts.1).1) stop))

-- numbers

digit_is : (b : ℕ) → is_digit b ≡ true → (is_blank b ≡ false) × (is_hash b ≡ false) × (is_letter b ≡ false)
digit_is b h = (grind (arith, nat_tests), grind (arith, nat_tests), grind (arith, nat_tests))

number_small : (n : ℕ) (digits : List ℕ) → number_of digits ≡ n → nat_le n most_number ≡ true → small_number digits ≡ Some n
number_small n digits e h =
    let small : nat_lt most_number n ≡ false = grind (arith, nat_tests) in
    rw (e, small) refl

digits_begun : (n b : ℕ) (bs rest : List ℕ) → is_digit b ≡ true → list_all is_digit bs ≡ true → begins is_digit rest ≡ false → number_of (b ∷ bs) ≡ n
    → nat_le n most_number ≡ true → begun b (bs ++ rest) ≡ (Piece (kinds.Number n), length bs + 1)
unfolding begun
digits_begun n b bs rest first all stop e h =
    let not = digit_is b first in
    rw (not.0, not.1, not.2, first, run_taken is_digit bs rest all stop, run_len is_digit bs rest all stop, number_small n (b ∷ bs) e h) refl

digits_read : (n at : ℕ) (digits rest : List ℕ) → 0 < length digits → list_all is_digit digits ≡ true → begins is_digit rest ≡ false → number_of digits ≡ n
    → nat_le n most_number ≡ true → tokens_from 0 at (digits ++ rest) ≡ with_token (kinds.Number n) (length digits) at (tokens_from 0 (at + length digits) rest)
digits_read n at [] rest some all stop e h = absurd (omega arith)
digits_read n at (b ∷ bs) rest some all stop e h =
    let parts = and_parts _ _ all in
    let long : length bs + 1 ≡ length (b ∷ bs) = omega arith in
    rw (← long) (piece_read (kinds.Number n) at b bs rest (digits_begun n b bs rest parts.0 parts.1 stop e h))

undone : (ds : List ℕ) → map (λ d. d - 48) (map digit_text ds) ≡ ds
undone [] = refl
undone (d ∷ ds) = let e : 48 + d - 48 ≡ d = omega arith in rw (e, undone ds) refl

number_back : (n : ℕ) → number_of (number_text n) ≡ n
unfolding number_text
number_back zero = refl
number_back (suc n) = ap (number_from_digits 10) (undone (digits_of 10 (suc n))) ∙ number_digits_of 10 (suc n) (omega arith)

no_digit_if : (letter digit : Bool) → (letter || digit) ≡ false → digit ≡ false
no_digit_if true digit h = cc
no_digit_if false digit h = h

no_digit : (rest : List ℕ) → begins is_word rest ≡ false → begins is_digit rest ≡ false
no_digit [] h = refl
no_digit (b ∷ rest) h = no_digit_if (is_letter b) (is_digit b) h

pub number_read : (n at : ℕ) (rest : List ℕ) → nat_le n most_number ≡ true → begins is_word rest ≡ false
    → tokens_from 0 at (number_text n ++ rest) ≡ with_token (kinds.Number n) (length (number_text n)) at (tokens_from 0 (at + length (number_text n)) rest)
number_read n at rest h stop = digits_read n at (number_text n) rest (some_digits n) (all_digits n) (no_digit rest stop) (number_back n) h

-- signs

abbrev pub is_equals : ℕ → Bool
is_equals b = b == 61

abbrev pub is_plus : ℕ → Bool
is_plus b = b == 43

-- what follows makes no longer sign of a sign
abbrev pub CalmSign : Sign → List ℕ → Type 0
CalmSign Less rest = begins is_equals rest ≡ false
CalmSign More rest = begins is_equals rest ≡ false
CalmSign Plus rest = begins is_plus rest ≡ false
CalmSign other rest = Unit {0}

abbrev pub SignRead : Sign → ℕ → List ℕ → Type 0
SignRead s at rest = tokens_from 0 at (sign_text s ++ rest) ≡ with_token (kinds.Sign s) (length (sign_text s)) at (tokens_from 0 (at + length (sign_text s)) rest)

less_begun : (rest : List ℕ) → begins is_equals rest ≡ false → begun 60 rest ≡ (Piece (kinds.Sign Less), 1)
unfolding begun sign_front
less_begun [] h = refl
less_begun (b ∷ rest) h = let e : (b == 61) ≡ false = h in rw e refl

more_begun : (rest : List ℕ) → begins is_equals rest ≡ false → begun 62 rest ≡ (Piece (kinds.Sign More), 1)
unfolding begun sign_front
more_begun [] h = refl
more_begun (b ∷ rest) h = let e : (b == 61) ≡ false = h in rw e refl

plus_begun : (rest : List ℕ) → begins is_plus rest ≡ false → begun 43 rest ≡ (Piece (kinds.Sign Plus), 1)
unfolding begun sign_front
plus_begun [] h = refl
plus_begun (b ∷ rest) h = let e : (b == 43) ≡ false = h in rw e refl

pub sign_read : (s : Sign) (at : ℕ) (rest : List ℕ) → CalmSign s rest → SignRead s at rest
unfolding tokens_from begun sign_front
sign_read LeftParen at rest h = refl
sign_read RightParen at rest h = refl
sign_read LeftBracket at rest h = refl
sign_read RightBracket at rest h = refl
sign_read LeftBrace at rest h = refl
sign_read RightBrace at rest h = refl
sign_read Comma at rest h = refl
sign_read Semicolon at rest h = refl
sign_read Plus at rest h = piece_read (kinds.Sign Plus) at 43 [] rest (plus_begun rest h)
sign_read Minus at rest h = refl
sign_read Star at rest h = refl
sign_read Equals at rest h = refl
sign_read Less at rest h = piece_read (kinds.Sign Less) at 60 [] rest (less_begun rest h)
sign_read AtMost at rest h = ap (λ (k : ℕ). with_token (kinds.Sign AtMost) 2 at (tokens_from 0 k rest)) (omega arith)
sign_read More at rest h = piece_read (kinds.Sign More) at 62 [] rest (more_begun rest h)
sign_read AtLeast at rest h = ap (λ (k : ℕ). with_token (kinds.Sign AtLeast) 2 at (tokens_from 0 k rest)) (omega arith)
sign_read Increment at rest h = ap (λ (k : ℕ). with_token (kinds.Sign Increment) 2 at (tokens_from 0 k rest)) (omega arith)

-- tokens as symbols

name_back : (found : Option Keyword) (text : List ℕ) → is_none found ≡ true → symbol_of_look (word_look found) text ≡ Name text
name_back None text h = refl
name_back (Some k) text h = absurd (cc)

pub name_shown : (text : List ℕ) → is_name text ≡ true → symbol_of_look (kind_look kinds.Name text) text ≡ Name text
name_shown text h =
    let first = and_parts (begins is_letter text) (list_all is_word text && is_none (keyword_of text)) h in
    name_back (keyword_of text) text ((and_parts (list_all is_word text) (is_none (keyword_of text)) first.1).1)

pub number_shown : (n : ℕ) (text : List ℕ) → nat_le n most_number ≡ true → symbol_of_look (kind_look (kinds.Number n) text) text ≡ Number n
number_shown n text h =
    let small : n ≤ most_number = leb-true n most_number h in
    let same : min n most_number ≡ n = omega arith in
    ap Number same

pub cut_out : (before text rest : List ℕ) → take (length before + length text - length before) (drop (length before) (before ++ (text ++ rest))) ≡ text
cut_out before text rest =
    let n : length before + length text - length before ≡ length text = omega arith in
    rw (n, drop-append_seam before (text ++ rest)) (take-append_seam text rest)
