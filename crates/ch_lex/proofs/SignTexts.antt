-- The signs' texts, and the signs that bytes are found to be.
use Rattle.std.proofs.Common.{◌≡◌, ℕ, ◌≤◌, Bool, true, false, ◌&&◌, if◌then◌else◌, [], ◌∷◌, length, Option, Some, refl, ap, subst, ◌∙◌, lit≤}
use Rattle.std.specs.Prelude.{◌==◌}
use Rattle.std.proofs.lemmas.Bool.{eqb-true}
use Rattle.std.proofs.Math.Bool.{and-false}
use Rattle.ch_lex.specs.declared.token.Sign.{Sign}
use Rattle.ch_lex.specs.declared.token.Sign.TheVariants.{LeftParen, RightParen, LeftBracket, RightBracket, LeftBrace, RightBrace, Comma, Semicolon, Plus, Minus, Star, Equals, Less, AtMost, More, AtLeast, Increment}
use Rattle.ch_lex.specs.Bytes.{begins, is_comment}
use Rattle.ch_lex.specs.Signs.{sign_text, one_byte, two_bytes}

pub at_most_two : (s : Sign) → length (sign_text s) ≤ 2
at_most_two LeftParen = lit≤ tt
at_most_two RightParen = lit≤ tt
at_most_two LeftBracket = lit≤ tt
at_most_two RightBracket = lit≤ tt
at_most_two LeftBrace = lit≤ tt
at_most_two RightBrace = lit≤ tt
at_most_two Comma = lit≤ tt
at_most_two Semicolon = lit≤ tt
at_most_two Plus = lit≤ tt
at_most_two Minus = lit≤ tt
at_most_two Star = lit≤ tt
at_most_two Equals = lit≤ tt
at_most_two Less = lit≤ tt
at_most_two AtMost = lit≤ tt
at_most_two More = lit≤ tt
at_most_two AtLeast = lit≤ tt
at_most_two Increment = lit≤ tt

-- no sign begins with a byte that ends a comment
pub begins_inside : (s : Sign) → begins is_comment (sign_text s) ≡ true
begins_inside LeftParen = refl
begins_inside RightParen = refl
begins_inside LeftBracket = refl
begins_inside RightBracket = refl
begins_inside LeftBrace = refl
begins_inside RightBrace = refl
begins_inside Comma = refl
begins_inside Semicolon = refl
begins_inside Plus = refl
begins_inside Minus = refl
begins_inside Star = refl
begins_inside Equals = refl
begins_inside Less = refl
begins_inside AtMost = refl
begins_inside More = refl
begins_inside AtLeast = refl
begins_inside Increment = refl

-- one test of a chain
step : (test : Bool) (b k : ℕ) (x : Sign) (rest : Option Sign) (s : Sign) → (b == k) ≡ test → k ∷ [] ≡ sign_text x
    → (rest ≡ Some s → b ∷ [] ≡ sign_text s) → (if test then Some x else rest) ≡ Some s → b ∷ [] ≡ sign_text s
step true b k x rest s e text next h =
    let same : x ≡ s = cc in
    subst (λ (y : Sign). b ∷ [] ≡ sign_text y) same (ap (λ (n : ℕ). n ∷ []) (eqb-true b k e) ∙ text)
step false b k x rest s e text next h = next h

pub one_text : (b : ℕ) (s : Sign) → one_byte b ≡ Some s → b ∷ [] ≡ sign_text s
one_text b s =
    step (b == 40) b 40 LeftParen _ s refl refl (step (b == 41) b 41 RightParen _ s refl refl
    (step (b == 91) b 91 LeftBracket _ s refl refl (step (b == 93) b 93 RightBracket _ s refl refl
    (step (b == 123) b 123 LeftBrace _ s refl refl (step (b == 125) b 125 RightBrace _ s refl refl
    (step (b == 44) b 44 Comma _ s refl refl (step (b == 59) b 59 Semicolon _ s refl refl
    (step (b == 43) b 43 Plus _ s refl refl (step (b == 45) b 45 Minus _ s refl refl (step (b == 42) b 42 Star _ s refl refl
    (step (b == 61) b 61 Equals _ s refl refl (step (b == 60) b 60 Less _ s refl refl (step (b == 62) b 62 More _ s refl refl
    (λ h. absurd (cc)))))))))))))))

-- one test of a chain on two bytes
step_two : (first second : Bool) (b c k l : ℕ) (x : Sign) (rest : Option Sign) (s : Sign) → (b == k) ≡ first → (c == l) ≡ second → k ∷ l ∷ [] ≡ sign_text x
    → (rest ≡ Some s → b ∷ c ∷ [] ≡ sign_text s) → (if first && second then Some x else rest) ≡ Some s → b ∷ c ∷ [] ≡ sign_text s
step_two true true b c k l x rest s e f text next h =
    let same : x ≡ s = cc in
    let first_is = eqb-true b k e in
    let second_is = eqb-true c l f in
    let bytes : b ∷ c ∷ [] ≡ k ∷ l ∷ [] = cc in
    subst (λ (y : Sign). b ∷ c ∷ [] ≡ sign_text y) same (bytes ∙ text)
step_two true false b c k l x rest s e f text next h = next h
step_two false second b c k l x rest s e f text next h = next h

pub two_text : (b c : ℕ) (s : Sign) → two_bytes b c ≡ Some s → b ∷ c ∷ [] ≡ sign_text s
two_text b c s =
    step_two (b == 60) (c == 61) b c 60 61 AtMost _ s refl refl refl (step_two (b == 62) (c == 61) b c 62 61 AtLeast _ s refl refl refl
    (step_two (b == 43) (c == 43) b c 43 43 Increment _ s refl refl refl (λ h. absurd (cc))))

-- a sign of two bytes has no byte 0
pub no_zero : (b : ℕ) (s : Sign) → two_bytes b 0 ≡ Some s → ⊥
no_zero b s h = let never = rw (and-false (b == 60), and-false (b == 62), and-false (b == 43)) at h in cc

-- two bytes that are a sign's text are found to be that sign
pub found : (b c : ℕ) (x : Sign) → b ∷ c ∷ [] ≡ sign_text x → two_bytes b c ≡ Some x
found b c LeftParen h = absurd (cc)
found b c RightParen h = absurd (cc)
found b c LeftBracket h = absurd (cc)
found b c RightBracket h = absurd (cc)
found b c LeftBrace h = absurd (cc)
found b c RightBrace h = absurd (cc)
found b c Comma h = absurd (cc)
found b c Semicolon h = absurd (cc)
found b c Plus h = absurd (cc)
found b c Minus h = absurd (cc)
found b c Star h = absurd (cc)
found b c Equals h = absurd (cc)
found b c Less h = absurd (cc)
found b c AtMost h = let first : b ≡ 60 = cc in let second : c ≡ 61 = cc in rw (first, second) refl
found b c More h = absurd (cc)
found b c AtLeast h = let first : b ≡ 62 = cc in let second : c ≡ 61 = cc in rw (first, second) refl
found b c Increment h = let first : b ≡ 43 = cc in let second : c ≡ 43 = cc in rw (first, second) refl
