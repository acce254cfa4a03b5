-- What the front of a text means for its bytes.
use Rattle.std.proofs.Common.{◌≡◌, ℕ, ◌+◌, ◌<◌, ◌≤◌, Bool, true, false, if◌then◌else◌, List, [], ◌∷◌, length, take, get_or, Option, Some, None, ◌⊎◌, inl, inr, refl, sym, ap, add-one, lit≤, arith}
use Rattle.std.specs.Prelude.{nat_lt, take_while}
use Rattle.std.specs.List.{prefix_len}
use Rattle.std.proofs.lemmas.List.Sums.{prefix_len-le-length}
use Rattle.std.proofs.lemmas.Bool.Decides.{nat_tests}
use Rattle.ch_lex.specs.declared.token.Sign.{Sign}
use Rattle.ch_lex.specs.declared.token.Sign.TheVariants.{LeftParen, RightParen, LeftBracket, RightBracket, LeftBrace, RightBrace, Comma, Semicolon, Plus, Minus, Star, Equals, Less, AtMost, More, AtLeast, Increment}
use Rattle.ch_lex.specs.declared.token.Kind.TheVariants as kinds
use Rattle.ch_lex.specs.declared.ahead.Front.{Front}
use Rattle.ch_lex.specs.declared.ahead.Front.TheVariants.{Gap, Piece, NotAscii, BadByte, NumberTooLarge}
use Rattle.ch_lex.specs.Bytes.{is_digit, is_letter, is_word, is_blank, is_hash, is_ascii, is_comment, number_of}
use Rattle.ch_lex.specs.Signs.{sign_text, one_byte, two_bytes}
use Rattle.ch_lex.specs.Tokens.{most_number, small_number, number_front, sign_or, sign_front, begun}
use Rattle.ch_lex.specs.Cut.{Stands}
use Rattle.ch_lex.proofs.Runs.{all_with_first, end_with_first}
use Rattle.ch_lex.proofs.SignTexts.{at_most_two, one_text, two_text, no_zero, found}

-- a gap is one blank, or a whole comment; a piece is a token that stands there
abbrev pub Means : Front → ℕ → ℕ → List ℕ → Type 0
Means Gap len b bs = ((is_blank b ≡ true) × (len ≡ 1)) ⊎ ((is_hash b ≡ true) × (len ≡ prefix_len is_comment bs + 1))
Means (Piece kind) len b bs = Stands kind len (b ∷ bs) × (0 < len) × (len ≤ length bs + 1)
Means NotAscii len b bs = Unit {0}
Means BadByte len b bs = Unit {0}
Means NumberTooLarge len b bs = Unit {0}

name_means : (b : ℕ) (bs : List ℕ) → is_letter b ≡ true → Means (Piece kinds.Name) (prefix_len is_word bs + 1) b bs
name_means b bs letter =
    let word : is_word b ≡ true = rw letter refl in (
      record {
        first = letter;
        word = all_with_first is_word b bs word;
        longest = end_with_first is_word b bs;
      },
      omega arith,
      omega (arith, prefix_len-le-length is_word bs),
    )

number_means : (test : Bool) (b : ℕ) (bs : List ℕ) → is_digit b ≡ true → nat_lt most_number (number_of (b ∷ take_while is_digit bs)) ≡ test
    → Means (number_front (if test then None else Some (number_of (b ∷ take_while is_digit bs)))) (prefix_len is_digit bs + 1) b bs
number_means true b bs digit large = tt
number_means false b bs digit large =
    let written : take (prefix_len is_digit bs + 1) (b ∷ bs) ≡ b ∷ take_while is_digit bs = rw add-one refl in (
      record {
        first = digit;
        digits = all_with_first is_digit b bs digit;
        longest = end_with_first is_digit b bs;
        value = sym (ap number_of written);
        small = grind (arith, nat_tests);
      },
      omega arith,
      omega (arith, prefix_len-le-length is_digit bs),
    )

-- no sign of two bytes stands where none was found
alone : (b : ℕ) (bs : List ℕ) (other : Sign) → two_bytes b (get_or bs 0 0) ≡ None → take 2 (b ∷ bs) ≡ sign_text other → length (sign_text other) ≤ 1
alone b [] other none text = let one = ap length text in omega (arith, one)
alone b (c ∷ bs) other none text = let some = found b c other text in absurd (cc)

one_longest : (b : ℕ) (bs : List ℕ) (other : Sign) → two_bytes b (get_or bs 0 0) ≡ None → take (length (sign_text other)) (b ∷ bs) ≡ sign_text other
    → length (sign_text other) ≤ 1
one_longest b bs LeftParen none text = lit≤ tt
one_longest b bs RightParen none text = lit≤ tt
one_longest b bs LeftBracket none text = lit≤ tt
one_longest b bs RightBracket none text = lit≤ tt
one_longest b bs LeftBrace none text = lit≤ tt
one_longest b bs RightBrace none text = lit≤ tt
one_longest b bs Comma none text = lit≤ tt
one_longest b bs Semicolon none text = lit≤ tt
one_longest b bs Plus none text = lit≤ tt
one_longest b bs Minus none text = lit≤ tt
one_longest b bs Star none text = lit≤ tt
one_longest b bs Equals none text = lit≤ tt
one_longest b bs Less none text = lit≤ tt
one_longest b bs AtMost none text = alone b bs AtMost none text
one_longest b bs More none text = lit≤ tt
one_longest b bs AtLeast none text = alone b bs AtLeast none text
one_longest b bs Increment none text = alone b bs Increment none text

two_means : (b : ℕ) (bs : List ℕ) (s : Sign) → two_bytes b (get_or bs 0 0) ≡ Some s → Means (Piece (kinds.Sign s)) 2 b bs
two_means b [] s some = absurd (no_zero b s some)
two_means b (c ∷ bs) s some =
    (record { text = two_text b c s some; longest = λ other _. at_most_two other }, omega arith, omega arith)

sign_means : (two : Option Sign) (one : Option Sign) (b : ℕ) (bs : List ℕ) → two_bytes b (get_or bs 0 0) ≡ two → one_byte b ≡ one
    → Means (sign_or two 2 (sign_or one 1 (BadByte, 1))).0 (sign_or two 2 (sign_or one 1 (BadByte, 1))).1 b bs
sign_means (Some s) one b bs e f = two_means b bs s e
sign_means None (Some s) b bs e f =
    (record { text = one_text b s f; longest = λ other text. one_longest b bs other e text }, omega arith, omega arith)
sign_means None None b bs e f = tt

abbrev chosen : (blank hash letter digit ascii : Bool) → ℕ → List ℕ → Front × ℕ
chosen blank hash letter digit ascii b bs =
    if blank then (Gap, 1)
    else if hash then (Gap, prefix_len is_comment bs + 1)
    else if letter then (Piece kinds.Name, prefix_len is_word bs + 1)
    else if digit then (number_front (small_number (b ∷ take_while is_digit bs)), prefix_len is_digit bs + 1)
    else if ascii then sign_front b (get_or bs 0 0)
    else (NotAscii, 1)

chosen_means : (blank hash letter digit ascii : Bool) (b : ℕ) (bs : List ℕ) → is_blank b ≡ blank → is_hash b ≡ hash → is_letter b ≡ letter → is_digit b ≡ digit
    → Means (chosen blank hash letter digit ascii b bs).0 (chosen blank hash letter digit ascii b bs).1 b bs
unfolding sign_front
chosen_means true hash letter digit ascii b bs e f g h = inl (e, refl)
chosen_means false true letter digit ascii b bs e f g h = inr (f, refl)
chosen_means false false true digit ascii b bs e f g h = name_means b bs g
chosen_means false false false true ascii b bs e f g h = number_means (nat_lt most_number (number_of (b ∷ take_while is_digit bs))) b bs h refl
chosen_means false false false false true b bs e f g h = sign_means (two_bytes b (get_or bs 0 0)) (one_byte b) b bs refl refl
chosen_means false false false false false b bs e f g h = tt

pub begun_means : (b : ℕ) (bs : List ℕ) → Means (begun b bs).0 (begun b bs).1 b bs
unfolding begun
begun_means b bs = chosen_means (is_blank b) (is_hash b) (is_letter b) (is_digit b) (is_ascii b) b bs refl refl refl refl
