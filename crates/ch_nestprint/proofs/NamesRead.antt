-- The names of a printed program are new where they are declared, and are found from there on.
use Rattle.std.proofs.Common.{◌≡◌, ℕ, ◌+◌, ◌<◌, ◌≤◌, Bool, true, false, List, [], ◌∷◌, ◌++◌, length, replicate, Option, Some, None, codes, cond, nat_lt, ltb-true, refl, ap, ◌∙◌, length-append, arith}
use Rattle.std.specs.Str.{bytes_eq}
use Rattle.std.proofs.lemmas.Bool.{false_from_ne_true}
use Rattle.std.proofs.lemmas.Bool.Decides.{nat_tests}
use Rattle.std.proofs.lemmas.List.{append_cancel_left, length-replicate}
use Rattle.std.proofs.lemmas.Slice.Eq.{bytes_eq-Decides}
use Rattle.ch_nest.specs.declared.nest.ArrayDecl.{ArrayDecl}
use Rattle.ch_nestparse.specs.declared.scope.Named.{Named}
use Rattle.ch_nestparse.specs.declared.scope.Named.TheVariants.{Array, Iterator}
use Rattle.ch_nestparse.specs.Read.{Names, find_name}
use Rattle.ch_print.specs.Numbers.{number_text}
use Rattle.ch_print.proofs.Readback.{same_number}
use Rattle.ch_nestprint.specs.Names.{array_name, iterator_name, made_name, minus_name}
use Rattle.ch_nestprint.proofs.Laid.{some_digits}
use Rattle.ch_nestprint.proofs.RightsRead.{Known}

pub same_bytes : (xs : List ℕ) → bytes_eq xs xs ≡ true
same_bytes xs = (bytes_eq-Decides xs xs).1 refl

pub other_bytes : (xs ys : List ℕ) → (xs ≡ ys → ⊥) → bytes_eq xs ys ≡ false
other_bytes xs ys h = false_from_ne_true (bytes_eq xs ys) (λ e. h ((bytes_eq-Decides xs ys).0 e))

kept_if : (b : Bool) (v w : Named) (found more : Option Named) → (found ≡ Some v → more ≡ Some v) → cond b (Some w) found ≡ Some v → cond b (Some w) more ≡ Some v
kept_if true v w found more k h = h
kept_if false v w found more k h = k h

-- what is found stays found
pub find_kept : (text : List ℕ) (names more : Names) (v : Named) → find_name text names ≡ Some v → find_name text (names ++ more) ≡ Some v
find_kept text [] more v h = absurd (cc)
find_kept text (n ∷ ns) more v h = kept_if (bytes_eq text n.0) v n.1 (find_name text ns) (find_name text (ns ++ more)) (find_kept text ns more v) h

none_if : (b : Bool) (w : Named) (found : Option Named) → cond b (Some w) found ≡ None → (b ≡ false) × (found ≡ None)
none_if true w found h = absurd (cc)
none_if false w found h = (refl, h)

-- a name that wasn't there
pub find_new : (text : List ℕ) (names : Names) (v : Named) → find_name text names ≡ None → find_name text (names ++ (text, v) ∷ []) ≡ Some v
find_new text [] v h = ap (λ (b : Bool). cond b (Some v) None) (same_bytes text)
find_new text (n ∷ ns) v h =
    let parts = none_if (bytes_eq text n.0) n.1 (find_name text ns) h in
    ap (λ (b : Bool). cond b (Some n.1) (find_name text (ns ++ (text, v) ∷ []))) parts.0 ∙ find_new text ns v parts.1

pub find_none : (text other : List ℕ) (names : Names) (v : Named) → find_name text names ≡ None → bytes_eq text other ≡ false → find_name text (names ++ (other, v) ∷ []) ≡ None
find_none text other [] v h e = ap (λ (b : Bool). cond b (Some v) None) e
find_none text other (n ∷ ns) v h e =
    let parts = none_if (bytes_eq text n.0) n.1 (find_name text ns) h in
    ap (λ (b : Bool). cond b (Some n.1) (find_name text (ns ++ (other, v) ∷ []))) parts.0 ∙ find_none text other ns v parts.1 e

-- names that were made differ by their numbers
made_same : (beginning : List ℕ) (letters m n : ℕ) → made_name beginning letters m ≡ made_name beginning letters n → m ≡ n
made_same beginning letters m n e = same_number m n (append_cancel_left (beginning ++ replicate letters 95) (number_text m) (number_text n) e)

pub iterators_differ : (letters k d : ℕ) → d < k → bytes_eq (iterator_name letters k) (iterator_name letters d) ≡ false
iterators_differ letters k d h =
    other_bytes (iterator_name letters k) (iterator_name letters d) (λ e. let s = made_same (codes "i") letters k d e in omega (arith, s))

pub minuses_differ : (letters m n : ℕ) → (m ≡ n → ⊥) → bytes_eq (minus_name letters m) (minus_name letters n) ≡ false
minuses_differ letters m n h = other_bytes (minus_name letters m) (minus_name letters n) (λ e. h (made_same (codes "minus") letters m n e))

pub iterator_is_no_minus : (letters k m : ℕ) → bytes_eq (iterator_name letters k) (minus_name letters m) ≡ false
iterator_is_no_minus letters k m = refl

-- they are longer than the names of arrays
pub made_long : (beginning : List ℕ) (letters number : ℕ) → 0 < length beginning → letters < length (made_name beginning letters number)
made_long beginning letters number h =
    let d = some_digits number in
    simp (length-append, length-replicate) (omega (arith, d))

pub shorter_differ : (xs ys : List ℕ) → length xs < length ys → bytes_eq xs ys ≡ false
shorter_differ xs ys h = other_bytes xs ys (λ e. let s = ap length e in omega (arith, s))

pub longer_differ : (xs ys : List ℕ) → length xs < length ys → bytes_eq ys xs ≡ false
longer_differ xs ys h = other_bytes ys xs (λ e. let s = ap length e in omega (arith, s))

-- one loop deeper

cases_last : (k d : ℕ) → k < d + 1 → (k < d → ⊥) → k ≡ d
cases_last k d h g = omega arith

known_iterator : (names : Names) (arrays : List ArrayDecl) (letters d k : ℕ) (below : Bool) → Known names arrays letters d → k < d + 1 → (below ≡ true → k < d) → (below ≡ false → k ≡ d)
    → find_name (iterator_name letters k) (names ++ (iterator_name letters d, Iterator d) ∷ []) ≡ Some (Iterator k)
known_iterator names arrays letters d k true known h l e = find_kept (iterator_name letters k) names ((iterator_name letters d, Iterator d) ∷ []) (Iterator k) (known.iterators k (l refl))
known_iterator names arrays letters d k false known h l e = rw (e refl) (find_new (iterator_name letters d) names (Iterator d) (known.free d (omega arith)))

pub known_deeper : (names : Names) (arrays : List ArrayDecl) (letters d : ℕ) → Known names arrays letters d → Known (names ++ (iterator_name letters d, Iterator d) ∷ []) arrays letters (d + 1)
known_deeper names arrays letters d known = record {
  iterators = λ k h. known_iterator names arrays letters d k (nat_lt k d) known h (ltb-true k d) (λ e. let g : d ≤ k = grind (arith, nat_tests) in omega (arith, g));
  free = λ k h. find_none (iterator_name letters k) (iterator_name letters d) names (Iterator d) (known.free k (omega arith)) (iterators_differ letters k d (omega arith));
  placed = λ k n h. find_kept (array_name arrays k) names ((iterator_name letters d, Iterator d) ∷ []) (Array k n) (known.placed k n h);
}
