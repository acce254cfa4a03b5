-- The symbols of a form and of the lets, one step further.
use Rattle.std.proofs.Common.{◌≡◌, ℕ, ◌+◌, ◌<◌, ℤ, Bool, true, false, ◌&&◌, List, [], ◌∷◌, ◌++◌, get_or, length, drop, take, min, suc, zero, refl, ◌∙◌, append_assoc, arith}
use Rattle.std.specs.Prelude.{nat_eq}
use Rattle.std.specs.List.{list_any}
use Rattle.std.proofs.lemmas.List.{append-nil, drop_more, take_more}
use Rattle.ch_nestprint.specs.declared.symbol.Symbol.{Symbol}
use Rattle.ch_nestprint.specs.Ends.{coef_symbols, is_none, terms_symbols}
use Rattle.ch_nest.specs.declared.nest.ArrayDecl.{ArrayDecl}
use Rattle.ch_nest.specs.declared.nest.Fill.{Fill}
use Rattle.ch_nestprint.specs.Printed.{array_symbols, arrays_symbols, let_symbols, lets_symbols}

pub next_coef : (letters : ℕ) (first : Bool) (coefs : List ℤ) (constant : ℤ) (i : ℕ) (d : ℤ) (out total : List Symbol) → i < length coefs
    → out ++ terms_symbols letters first i (drop i coefs) constant ≡ total
    → (out ++ coef_symbols letters first (get_or coefs i d) i) ++ terms_symbols letters (first && is_none (get_or coefs i d)) (i + 1) (drop (i + 1) coefs) constant ≡ total
next_coef letters first coefs constant i d out total l h =
    let a = rw (drop_more coefs i d l) at h in
    append_assoc out (coef_symbols letters first (get_or coefs i d) i) _ ∙ a

pub next_let : (letters : ℕ) (sizes : List ℕ) (i : ℕ) (d : ℕ) (out total : List Symbol) → i < length sizes
    → list_any (λ n. nat_eq n (get_or sizes i d)) (take i sizes) ≡ false
    → out ++ lets_symbols letters (take i sizes) (drop i sizes) ≡ total
    → (out ++ let_symbols letters (get_or sizes i d)) ++ lets_symbols letters (take (i + 1) sizes) (drop (i + 1) sizes) ≡ total
next_let letters sizes i d out total l e h =
    let a = rw (drop_more sizes i d l, e) at h in
    rw (take_more sizes i d l) (append_assoc out (let_symbols letters (get_or sizes i d)) _ ∙ a)

pub no_let : (letters : ℕ) (sizes : List ℕ) (i : ℕ) (d : ℕ) (out total : List Symbol) → i < length sizes
    → list_any (λ n. nat_eq n (get_or sizes i d)) (take i sizes) ≡ true
    → out ++ lets_symbols letters (take i sizes) (drop i sizes) ≡ total
    → out ++ lets_symbols letters (take (i + 1) sizes) (drop (i + 1) sizes) ≡ total
no_let letters sizes i d out total l e h =
    let a = rw (drop_more sizes i d l, e) at h in
    rw (take_more sizes i d l) a

pub next_array : (arrays : List ArrayDecl) (fills : List Fill) (i : ℕ) (d : ArrayDecl) (f : Fill) (out total : List Symbol) → i < length arrays → i < length fills
    → out ++ arrays_symbols (drop i arrays) (drop i fills) ≡ total
    → (out ++ array_symbols (get_or arrays i d) (get_or fills i f)) ++ arrays_symbols (drop (i + 1) arrays) (drop (i + 1) fills) ≡ total
next_array arrays fills i d f out total l m h =
    let a = rw (drop_more arrays i d l, drop_more fills i f m) at h in
    append_assoc out (array_symbols (get_or arrays i d) (get_or fills i f)) _ ∙ a

none_left : (arrays : List ArrayDecl) (fills : List Fill) (i : ℕ) → i ≡ min (length arrays) (length fills) → arrays_symbols (drop i arrays) (drop i fills) ≡ []
none_left [] fills zero h = refl
none_left [] fills (suc i) h = refl
none_left (d ∷ ds) [] zero h = refl
none_left (d ∷ ds) [] (suc i) h = absurd (omega arith)
none_left (d ∷ ds) (f ∷ fs) zero h = absurd (omega arith)
none_left (d ∷ ds) (f ∷ fs) (suc i) h = none_left ds fs i (omega arith)

pub no_array : (arrays : List ArrayDecl) (fills : List Fill) (i : ℕ) (out total : List Symbol) → i ≡ min (length arrays) (length fills)
    → out ++ arrays_symbols (drop i arrays) (drop i fills) ≡ total → out ≡ total
no_array arrays fills i out total e h = rw (none_left arrays fills i e, append-nil) at h
