-- A text that has tokens is ASCII.
use Rattle.std.proofs.Common.{◌≡◌, ℕ, ◌+◌, ◌-◌, Bool, true, false, ◌&&◌, if◌then◌else◌, List, [], ◌∷◌, ◌++◌, take, drop, refl, sym, ap, subst, ◌∙◌, arith}
use Rattle.std.specs.Bool.{IsTrue}
use Rattle.std.specs.Prelude.{IfOk, Result, Ok, Err}
use Rattle.std.specs.List.{list_all, slice_range}
use Rattle.std.proofs.lemmas.Bool.{and_parts}
use Rattle.std.proofs.lemmas.Bool.Decides.{nat_tests}
use Rattle.std.proofs.lemmas.List.{take-append-drop, drop-drop}
use Rattle.std.proofs.lemmas.List.Folds.{list_all-append}
use Rattle.ch_lex.specs.declared.token.Kind.{Kind}
use Rattle.ch_lex.specs.declared.token.Kind.TheVariants as kinds
use Rattle.ch_lex.specs.declared.token.Sign.{Sign}
use Rattle.ch_lex.specs.declared.token.Sign.TheVariants.{LeftParen, RightParen, LeftBracket, RightBracket, LeftBrace, RightBrace, Comma, Semicolon, Plus, Minus, Star, Equals, Less, AtMost, More, AtLeast, Increment}
use Rattle.ch_lex.specs.declared.error.LexError.{LexError}
use Rattle.ch_lex.specs.declared.token.Token.{Token}
use Rattle.ch_lex.specs.Bytes.{is_digit, is_word, is_blank, is_hash, is_ascii}
use Rattle.ch_lex.specs.Cut.{is_gap, Stands, IsCut}
use Rattle.ch_lex.specs.Signs.{sign_text}
use Rattle.ch_lex.specs.Tokens.{Gives, tokens_of}
use Rattle.ch_lex.proofs.Cuts.{cut_result}

blank_ascii : (b : ℕ) → is_blank b ≡ true → is_ascii b ≡ true
blank_ascii b h = grind (arith, nat_tests)

hash_ascii : (b : ℕ) → is_hash b ≡ true → is_ascii b ≡ true
hash_ascii b h = grind (arith, nat_tests)

word_ascii : (b : ℕ) → is_word b ≡ true → is_ascii b ≡ true
word_ascii b h = grind (arith, nat_tests)

digit_ascii : (b : ℕ) → is_digit b ≡ true → is_ascii b ≡ true
digit_ascii b h = grind (arith, nat_tests)

cons_all : (test : ℕ → Bool) (b : ℕ) (bs : List ℕ) → test b ≡ true → IsTrue (list_all test bs) → IsTrue (list_all test (b ∷ bs))
cons_all test b bs f h = rw f h

all_more : (p q : ℕ → Bool) → ((b : ℕ) → p b ≡ true → q b ≡ true) → (bs : List ℕ) → IsTrue (list_all p bs) → IsTrue (list_all q bs)
all_more p q f [] h = refl
all_more p q f (b ∷ bs) h = cons_all q b bs (f b (and_parts (p b) _ h).0) (all_more p q f bs (and_parts (p b) _ h).1)

open_gap : (blank last : Bool) (b : ℕ) (bs : List ℕ) → is_blank b ≡ blank → IsTrue (if blank then is_gap last false bs else (is_hash b && is_gap last true bs))
    → (IsTrue (is_gap last false bs) → IsTrue (list_all is_ascii bs)) → (IsTrue (is_gap last true bs) → IsTrue (list_all is_ascii bs)) → IsTrue (list_all is_ascii (b ∷ bs))
open_gap true last b bs e h f g = cons_all is_ascii b bs (blank_ascii b e) (f h)
open_gap false last b bs e h f g = cons_all is_ascii b bs (hash_ascii b (and_parts (is_hash b) _ h).0) (g (and_parts (is_hash b) _ h).1)

gap_ascii : (last inside : Bool) (bs : List ℕ) → IsTrue (is_gap last inside bs) → IsTrue (list_all is_ascii bs)
gap_ascii last inside [] h = refl
gap_ascii last false (b ∷ bs) h = open_gap (is_blank b) last b bs refl h (gap_ascii last false bs) (gap_ascii last true bs)
gap_ascii last true (b ∷ bs) h = cons_all is_ascii b bs (and_parts (is_ascii b) _ h).0 (gap_ascii last _ bs (and_parts (is_ascii b) _ h).1)

sign_ascii : (s : Sign) → IsTrue (list_all is_ascii (sign_text s))
sign_ascii LeftParen = refl
sign_ascii RightParen = refl
sign_ascii LeftBracket = refl
sign_ascii RightBracket = refl
sign_ascii LeftBrace = refl
sign_ascii RightBrace = refl
sign_ascii Comma = refl
sign_ascii Semicolon = refl
sign_ascii Plus = refl
sign_ascii Minus = refl
sign_ascii Star = refl
sign_ascii Equals = refl
sign_ascii Less = refl
sign_ascii AtMost = refl
sign_ascii More = refl
sign_ascii AtLeast = refl
sign_ascii Increment = refl

token_ascii : (kind : Kind) (len : ℕ) (bytes : List ℕ) → Stands kind len bytes → IsTrue (list_all is_ascii (take len bytes))
token_ascii kinds.Name len bytes h = all_more is_word is_ascii word_ascii (take len bytes) h.word
token_ascii (kinds.Number n) len bytes h = all_more is_digit is_ascii digit_ascii (take len bytes) h.digits
token_ascii (kinds.Sign s) len bytes h = subst (λ t. IsTrue (list_all is_ascii t)) (sym h.text) (sign_ascii s)

both : (xs ys zs : List ℕ) → xs ++ ys ≡ zs → IsTrue (list_all is_ascii xs) → IsTrue (list_all is_ascii ys) → IsTrue (list_all is_ascii zs)
both xs ys zs e f g = subst (λ t. IsTrue (list_all is_ascii t)) e (rw (list_all-append is_ascii xs ys, f) g)

-- from a place on, a text that is cut into tokens
pub cut_ascii : (bytes : List ℕ) (at : ℕ) (ts : List Token) → IsCut bytes at ts → IsTrue (list_all is_ascii (drop at bytes))
cut_ascii bytes at [] h = gap_ascii true false (drop at bytes) h
cut_ascii bytes at (t ∷ ts) h =
    let gap : IsTrue (list_all is_ascii (take (t.start - at) (drop at bytes))) = gap_ascii false false (slice_range bytes at t.start) h.1 in
    let token : IsTrue (list_all is_ascii (take (t.end - t.start) (drop t.start bytes))) = token_ascii t.kind (t.end - t.start) (drop t.start bytes) h.4 in
    let rest : IsTrue (list_all is_ascii (drop t.end bytes)) = cut_ascii bytes t.end ts h.5 in
    let far : t.start + (t.end - t.start) ≡ t.end = let l = h.2 in omega (arith, l) in
    let near : at + (t.start - at) ≡ t.start = let l = h.0 in omega (arith, l) in
    let from : IsTrue (list_all is_ascii (drop t.start bytes)) =
    both (take (t.end - t.start) (drop t.start bytes)) (drop (t.end - t.start) (drop t.start bytes)) (drop t.start bytes) (take-append-drop (t.end - t.start) (drop t.start bytes)) token
    (subst (λ xs. IsTrue (list_all is_ascii xs)) (ap (λ (n : ℕ). drop n bytes) (sym far) ∙ sym (drop-drop (t.end - t.start) t.start bytes)) rest) in
    both (take (t.start - at) (drop at bytes)) (drop (t.start - at) (drop at bytes)) (drop at bytes) (take-append-drop (t.start - at) (drop at bytes)) gap
    (subst (λ xs. IsTrue (list_all is_ascii xs)) (ap (λ (n : ℕ). drop n bytes) (sym near) ∙ sym (drop-drop (t.start - at) at bytes)) from)

pub ascii_result : (bytes : List ℕ) (r : Result (List Token) LexError) → Gives r (tokens_of bytes) → IfOk r (λ found. IsTrue (list_all is_ascii bytes))
ascii_result bytes (Ok ts) g = cut_ascii bytes 0 ts (cut_result bytes (Ok ts) g)
ascii_result bytes (Err e) g = tt
