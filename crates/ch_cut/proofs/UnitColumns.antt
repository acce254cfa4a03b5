-- The forms of all levels: put into others they leave them as they are.
use Rattle.std.proofs.Common.{◌≡◌, refl, sym, ap, ap₂, ◌∙◌, subst, ℕ, zero, suc, ◌+◌, ◌-◌, ◌<◌, ◌≤◌, ℤ, pos, ◌+ℤ◌, List, ◌∷◌, ◌++◌, length, map, get_or, arith}
use Rattle.std.specs.List.{All}
use Rattle.std.proofs.lemmas.Int.{ints}
use Rattle.std.proofs.lemmas.List.Elements.{All-cons, All-map, All-nil}
use Rattle.ch_affine.specs.Affine.{IsAtMost, IsSmall, dot}
use Rattle.ch_affine.specs.Form.{Form}
use Rattle.ch_moved.specs.Changed.{AllLong}
use Rattle.ch_moved.specs.Spread.{column, constants}
use Rattle.ch_moved.specs.Substituted.{substituted}
use Rattle.ch_moved.proofs.Limits.{at_most_at, length_substituted, narrow_by, narrow_small}
use Rattle.ch_moved.proofs.UnitForms.{length_unit}
use Rattle.ch_moved.proofs.Values.{dot_nothing, dot_pick, unit_other, unit_same}
use Rattle.ch_space.specs.Built.{unit, units, zeros}
use Rattle.ch_space.specs.Keeps.{IsNarrow, farthest, most_commands, most_weight}
use Rattle.ch_space.proofs.NestLimits.{length_units}

long_from : (before n : ℕ) → AllLong (before + n) (units before n)
long_from before zero = All-nil (λ f. length f.coefs ≡ before + zero)
long_from before (suc n) =
    let e : suc before + n ≡ before + suc n = omega arith in
    All-cons (λ f. length f.coefs ≡ before + suc n) (unit before n) (units (suc before) n) (length_unit before n ∙ omega arith) (subst (λ m. AllLong m (units (suc before) n)) e (long_from (suc before) n))

pub long_units : (n : ℕ) → AllLong n (units 0 n)
long_units n = subst (λ m. AllLong m (units 0 n)) (omega arith) (long_from 0 n)

before_units : (before n k : ℕ) → k < before → column k (units before n) ≡ zeros n
before_units before zero k h = refl
before_units before (suc n) k h = ap₂ (λ x xs. x ∷ xs) (unit_other before n k (λ e. omega arith)) (before_units (suc before) n k (omega arith))

column_from : (before n k : ℕ) → k < n → column (before + k) (units before n) ≡ zeros k ++ pos 1 ∷ zeros (n - 1 - k)
column_from before zero k h = absurd (omega arith)
column_from before (suc n) zero h =
    let e : suc n - 1 - zero ≡ n = omega arith in
    ap₂ (λ x xs. x ∷ xs) (unit_same before n (before + zero) (omega arith)) (before_units (suc before) n (before + zero) (omega arith)) ∙ ap (λ m. pos 1 ∷ zeros m) (sym e)
column_from before (suc n) (suc k) h =
    let e : before + suc k ≡ suc before + k = omega arith in
    let f : n - 1 - k ≡ suc n - 1 - suc k = omega arith in
    ap₂ (λ x xs. x ∷ xs) (unit_other before n (before + suc k) (λ e. omega arith))
    (ap (λ j. column j (units (suc before) n)) e ∙ column_from (suc before) n k (omega arith) ∙ ap (λ m. zeros k ++ pos 1 ∷ zeros m) f)

constants_from : (before n : ℕ) → constants (units before n) ≡ zeros n
constants_from before zero = refl
constants_from before (suc n) = ap (λ xs. pos 0 ∷ xs) (constants_from (suc before) n)

pub narrow_unit : (n : ℕ) (f : Form) (w c : ℕ) → length f.coefs ≡ n → IsNarrow w c f → IsNarrow w c (substituted n (units 0 n) f)
narrow_unit n f w c e narrow =
    narrow_by n (units 0 n) f w c (long_units n) (e ∙ sym (length_units 0 n))
    (λ k l.
    subst (λ z. IsAtMost w z) (sym (ap (dot f.coefs) (ap (λ j. column j (units 0 n)) (at_zero k) ∙ column_from 0 n k l) ∙ dot_pick f.coefs k (n - 1 - k))) (at_most_at w f.coefs k narrow.coefs))
    (subst (λ z. IsAtMost (farthest w c) z) (sym (ap (λ z. f.constant +ℤ z) (ap (dot f.coefs) (constants_from 0 n) ∙ dot_nothing f.coefs n) ∙ plus_zero f.constant)) narrow.constant)
  where
    plus_zero : (z : ℤ) → z +ℤ pos 0 ≡ z
    plus_zero z = omega (arith, ints)

    at_zero : (k : ℕ) → k ≡ 0 + k
    at_zero k = omega arith

pub narrow_all : (n : ℕ) (fs : List Form) (w c : ℕ) → AllLong n fs → All (IsNarrow w c) fs → All (IsNarrow w c) (map (substituted n (units 0 n)) fs)
narrow_all n fs w c long narrow = All-map (IsNarrow w c) (substituted n (units 0 n)) fs (λ k d l. narrow_unit n (get_or fs k d) w c (long k d l) (narrow k d l))

pub all_small : (n : ℕ) (fs : List Form) (w c : ℕ) → AllLong n fs → n ≤ 10 → w ≤ most_weight → c ≤ most_commands → All (IsNarrow w c) fs → All (λ f. IsSmall (substituted n (units 0 n) f)) fs
all_small n fs w c long few small some narrow = λ k d l.
    narrow_small n (substituted n (units 0 n) (get_or fs k d)) w c (length_substituted n (units 0 n) (get_or fs k d) (long_units n) (long k d l ∙ sym (length_units 0 n))) few small some
    (narrow_unit n (get_or fs k d) w c (long k d l) (narrow k d l))
