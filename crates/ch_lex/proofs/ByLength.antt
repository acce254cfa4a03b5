-- A keyword is looked for among those of its length.
use Rattle.std.proofs.Common.{◌≡◌, ℕ, Bool, true, false, List, [], ◌∷◌, length, refl, sym, ap, subst, ◌∙◌, filter, Option, Some, None, arith}
use Rattle.std.specs.Prelude.{◌==◌, ◌&&◌, not, if◌then◌else◌}
use Rattle.std.specs.List.{list_all}
use Rattle.std.specs.Str.{bytes_eq}
use Rattle.std.proofs.lemmas.Bool.Decides.{nat_tests}
use Rattle.std.proofs.Math.Bool.{and-false}
use Rattle.ch_lex.specs.declared.keyword.Keyword.{Keyword}
use Rattle.ch_lex.specs.Keywords.{keyword_text, keywords, named, keyword_of}

-- a word of another length isn't the text
other_length : (text word : List ℕ) → (length text == length word) ≡ false → bytes_eq text word ≡ false
other_length [] [] h = absurd (cc)
other_length [] (w ∷ word) h = refl
other_length (t ∷ text) [] h = refl
other_length (t ∷ text) (w ∷ word) h =
    let shorter : (length text == length word) ≡ false = grind (arith, nat_tests) in
    ap (λ (rest : Bool). (t == w) && rest) (other_length text word shorter) ∙ and-false (t == w)

abbrev pub has_length : ℕ → Keyword → Bool
has_length n k = length (keyword_text k) == n

step : (test : Bool) (word : List ℕ) (k : Keyword) (ks : List Keyword) → has_length (length word) k ≡ test
    → named word ks ≡ named word (filter (has_length (length word)) ks)
    → named word (k ∷ ks) ≡ named word (if test then k ∷ filter (has_length (length word)) ks else filter (has_length (length word)) ks)
step true word k ks e h = ap (λ (r : Option Keyword). if bytes_eq (keyword_text k) word then Some k else r) h
step false word k ks e h = rw (other_length (keyword_text k) word e) h

among_those : (word : List ℕ) (ks : List Keyword) → named word ks ≡ named word (filter (has_length (length word)) ks)
among_those word [] = refl
among_those word (k ∷ ks) = step (has_length (length word) k) word k ks refl (among_those word ks)

by_length : (n : ℕ) (word : List ℕ) (ks : List Keyword) → length word ≡ n → named word ks ≡ named word (filter (has_length n) ks)
by_length n word ks e = subst (λ (m : ℕ). named word ks ≡ named word (filter (has_length m) ks)) e (among_those word ks)

-- where none has the length, none is the word
none_of_length : (word : List ℕ) (ks : List Keyword) → list_all (λ k. not (has_length (length word) k)) ks ≡ true → named word ks ≡ None
none_of_length word [] h = refl
none_of_length word (k ∷ ks) h =
    let other : has_length (length word) k ≡ false = grind (arith, nat_tests) in
    let others : list_all (λ j. not (has_length (length word) j)) ks ≡ true = grind (arith, nat_tests) in
    rw (other_length (keyword_text k) word other) (none_of_length word ks others)

-- what those of its length say of a word
pub found : (n : ℕ) (word : List ℕ) (r : Option Keyword) → length word ≡ n → r ≡ named word (filter (has_length n) keywords) → r ≡ keyword_of word
unfolding keyword_of
found n word r e h = h ∙ sym (by_length n word keywords e)

pub none : (word : List ℕ) → list_all (λ k. not (has_length (length word) k)) keywords ≡ true → None ≡ keyword_of word
unfolding keyword_of
none word h = sym (none_of_length word keywords h)
