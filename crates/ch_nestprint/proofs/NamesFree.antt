-- No array has the name of an iterator, nor that of a negative number.
use Rattle.std.proofs.Common.{◌≡◌, ℕ, zero, suc, ◌+◌, ◌<◌, ◌≤◌, Bool, true, false, ◌&&◌, ◌||◌, ◌==◌, List, [], ◌∷◌, ◌++◌, length, max, replicate, codes, refl, sym, ap, eq-eqb, subst, ◌∙◌, arith}
use Rattle.std.specs.Prelude.{nat_eq}
use Rattle.std.specs.Str.{bytes_eq}
use Rattle.std.specs.List.{list_all, list_any, prefix_len}
use Rattle.std.proofs.lemmas.Bool.{and_from, and_parts}
use Rattle.std.proofs.lemmas.Bool.Decides.{nat_tests}
use Rattle.std.proofs.lemmas.List.{length-replicate}
use Rattle.ch_lex.specs.Bytes.{begins, is_digit}
use Rattle.ch_nest.specs.declared.nest.ArrayDecl.{ArrayDecl}
use Rattle.ch_print.specs.Numbers.{number_text}
use Rattle.ch_nestprint.specs.Names.{first_free, is_like, is_taken, is_underscore, iterator_name, letters_for, longest, made_name, minus_name}
use Rattle.ch_nestprint.proofs.Cases.{Each}
use Rattle.ch_nestprint.proofs.FirstFree.{first_here, first_next}
use Rattle.ch_nestprint.proofs.Laid.{all_digits, run_len}
use Rattle.ch_nestprint.proofs.NamesRead.{longer_differ, made_long, other_bytes, shorter_differ}

-- a name that was made has so many underscores

digit_no_underscore : (b : ℕ) → is_digit b ≡ true → is_underscore b ≡ false
digit_no_underscore b h = grind (arith, nat_tests)

digits_begin : (bs : List ℕ) → list_all is_digit bs ≡ true → begins is_underscore bs ≡ false
digits_begin [] h = refl
digits_begin (b ∷ bs) h = digit_no_underscore b ((and_parts (is_digit b) (list_all is_digit bs) h).0)

all_underscores : (n : ℕ) → list_all is_underscore (replicate n 95) ≡ true
all_underscores zero = refl
all_underscores (suc n) = all_underscores n

underscores_made : (letters number : ℕ) → nat_eq (prefix_len is_underscore (replicate letters 95 ++ number_text number)) letters ≡ true
underscores_made letters number =
    let run : prefix_len is_underscore (replicate letters 95 ++ number_text number) ≡ letters =
    run_len is_underscore (replicate letters 95) (number_text number) (all_underscores letters) (digits_begin (number_text number) (all_digits number)) ∙ length-replicate letters 95 in
    ap (λ (n : ℕ). nat_eq n letters) run ∙ eq-eqb letters letters refl

iterator_like : (letters k : ℕ) → is_like (codes "i") letters (iterator_name letters k) ≡ true
iterator_like letters k = and_from true _ refl (underscores_made letters k)

minus_like : (letters k : ℕ) → is_like (codes "minus") letters (minus_name letters k) ≡ true
minus_like letters k = and_from true _ refl (underscores_made letters k)

-- the name is that of no iterator and of no negative number
abbrev pub IsFree : ℕ → List ℕ → Type 0
IsFree letters name = ((k : ℕ) → bytes_eq (iterator_name letters k) name ≡ false) × ((k : ℕ) → bytes_eq name (minus_name letters k) ≡ false)

neither : (a b : Bool) → (a || b) ≡ false → (a ≡ false) × (b ≡ false)
neither true b h = absurd (cc)
neither false b h = (refl, h)

not_taken : (letters : ℕ) (d : ArrayDecl) → is_taken letters d ≡ false → IsFree letters d.name
not_taken letters d h =
    let parts = neither (is_like (codes "i") letters d.name) (is_like (codes "minus") letters d.name) h in (
      λ k. other_bytes (iterator_name letters k) d.name (λ e. let g = sym (iterator_like letters k) ∙ ap (is_like (codes "i") letters) e ∙ parts.0 in absurd (cc)),
      λ k. other_bytes d.name (minus_name letters k) (λ e. let g = sym (minus_like letters k) ∙ ap (is_like (codes "minus") letters) (sym e) ∙ parts.1 in absurd (cc)),
    )

long_free : (letters : ℕ) (d : ArrayDecl) → length d.name ≤ letters → IsFree letters d.name
long_free letters d short = (
  λ k. let l = made_long (codes "i") letters k (omega arith) in longer_differ d.name (iterator_name letters k) (omega (arith, l)),
  λ k. let l = made_long (codes "minus") letters k (omega arith) in shorter_differ d.name (minus_name letters k) (omega (arith, l)),
)

abbrev AllFree : ℕ → List ArrayDecl → Type 0
AllFree letters arrays = Each (λ d. IsFree letters d.name) arrays

none_taken : (letters : ℕ) (arrays : List ArrayDecl) → list_any (is_taken letters) arrays ≡ false → AllFree letters arrays
none_taken letters [] h = tt
none_taken letters (d ∷ ds) h =
    let parts = neither (is_taken letters d) (list_any (is_taken letters) ds) h in
    (not_taken letters d parts.0, none_taken letters ds parts.1)

all_short : (letters : ℕ) (arrays : List ArrayDecl) → longest arrays ≤ letters → AllFree letters arrays
all_short letters [] h = tt
all_short letters (d ∷ ds) h =
    let a : length d.name ≤ letters = grind (arith) in
    let b : longest ds ≤ letters = grind (arith) in
    (long_free letters d a, all_short letters ds b)

first_is_free : (arrays : List ArrayDecl) (k letters : ℕ) → longest arrays ≤ letters + k → AllFree (first_free arrays k letters) arrays
first_is_free arrays zero letters h = all_short letters arrays (omega arith)
first_is_free arrays (suc k) letters h = by_test (list_any (is_taken letters) arrays) refl (first_is_free arrays k (letters + 1) (omega arith))
  where
    by_test : (taken : Bool) → list_any (is_taken letters) arrays ≡ taken → AllFree (first_free arrays k (letters + 1)) arrays → AllFree (first_free arrays (suc k) letters) arrays
    by_test true e again = subst (λ (n : ℕ). AllFree n arrays) (sym (first_next arrays k letters e)) again
    by_test false e again = subst (λ (n : ℕ). AllFree n arrays) (sym (first_here arrays (suc k) letters e)) (none_taken letters arrays e)

pub all_free : (arrays : List ArrayDecl) → Each (λ d. IsFree (letters_for arrays) d.name) arrays
all_free arrays = first_is_free arrays (longest arrays) 0 (omega arith)
