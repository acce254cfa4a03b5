-- Each symbol of a printed program is a token of the language: names.
use Rattle.std.proofs.Common.{◌≡◌, ℕ, zero, suc, Bool, true, false, ◌||◌, List, [], ◌∷◌, ◌++◌, replicate, refl, codes}
use Rattle.std.specs.List.{list_all, flat_map}
use Rattle.std.proofs.lemmas.Bool.{and_parts, and_from}
use Rattle.std.proofs.lemmas.List.Folds.{list_all-append}
use Rattle.ch_lex.specs.Bytes.{is_digit, is_letter, is_word}
use Rattle.ch_lex.specs.Keywords.{keyword_of}
use Rattle.ch_nest.specs.declared.nest.ArrayDecl.{ArrayDecl}
use Rattle.ch_nest.specs.Shape.{has_dimensions}
use Rattle.ch_print.specs.Numbers.{number_text}
use Rattle.ch_nestprint.specs.Names.{array_name, iterator_name, minus_name}
use Rattle.ch_nestparse.specs.Spelling.{is_name, is_named}
use Rattle.ch_nestprint.proofs.Laid.{all_digits}

pub all_joined : {A : Type 0} (p : A → Bool) (xs ys : List A) → list_all p xs ≡ true → list_all p ys ≡ true → list_all p (xs ++ ys) ≡ true
all_joined p xs ys h g = rw (list_all-append, h, g) refl

pub all_mapped : {A B : Type 0} (p : B → Bool) (f : A → List B) (q : A → Bool) → ((x : A) → q x ≡ true → list_all p (f x) ≡ true) → (xs : List A) → list_all q xs ≡ true → list_all p (flat_map f xs) ≡ true
all_mapped p f q each [] h = refl
all_mapped p f q each (x ∷ xs) h =
    let parts = and_parts (q x) (list_all q xs) h in
    all_joined p (f x) (flat_map f xs) (each x parts.0) (all_mapped p f q each xs parts.1)

or_right : (a b : Bool) → b ≡ true → (a || b) ≡ true
or_right true b h = refl
or_right false b h = h

digits_are_words : (xs : List ℕ) → list_all is_digit xs ≡ true → list_all is_word xs ≡ true
digits_are_words [] h = refl
digits_are_words (x ∷ xs) h =
    let parts = and_parts (is_digit x) (list_all is_digit xs) h in
    and_from (is_word x) (list_all is_word xs) (or_right (is_letter x) (is_digit x) parts.0) (digits_are_words xs parts.1)

underscores : (n : ℕ) → list_all is_word (replicate n 95) ≡ true
underscores zero = refl
underscores (suc n) = underscores n

made_words : (beginning : List ℕ) (letters number : ℕ) → list_all is_word beginning ≡ true → list_all is_word (beginning ++ replicate letters 95 ++ number_text number) ≡ true
made_words beginning letters number h =
    all_joined is_word (beginning ++ replicate letters 95) (number_text number) (all_joined is_word beginning (replicate letters 95) h (underscores letters))
    (digits_are_words (number_text number) (all_digits number))

pub iterator_named : (letters level : ℕ) → is_name (iterator_name letters level) ≡ true
unfolding keyword_of
iterator_named letters level = and_from true _ refl (and_from _ true (made_words (codes "i") letters level refl) refl)

pub if_named : is_name (codes "if") ≡ true
unfolding keyword_of
if_named = refl

pub minus_named : (letters size : ℕ) → is_name (minus_name letters size) ≡ true
unfolding keyword_of
minus_named letters size = and_from true _ refl (and_from _ true (made_words (codes "minus") letters size refl) refl)

pub array_named : (arrays : List ArrayDecl) (k n : ℕ) → list_all is_named arrays ≡ true → has_dimensions arrays k n ≡ true → is_name (array_name arrays k) ≡ true
array_named [] zero n h d = absurd (cc)
array_named [] (suc k) n h d = absurd (cc)
array_named (x ∷ xs) zero n h d = (and_parts (is_named x) (list_all is_named xs) h).0
array_named (x ∷ xs) (suc k) n h d = array_named xs k n ((and_parts (is_named x) (list_all is_named xs) h).1) d
