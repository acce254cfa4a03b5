-- The levels that two vectors share.
use Rattle.std.proofs.Common.{◌≡◌, refl, sym, ap, ap₂, ◌∙◌, ℕ, zero, suc, ◌*◌, ◌≤◌, ℤ, Bool, true, false, ◌&&◌, if◌then◌else◌, ◌↔◌, List, [], ◌∷◌, length, take, arith}
use Rattle.std.specs.Ordering.{int_eq}
use Rattle.std.proofs.lemmas.Bool.{and_parts, and_from}
use Rattle.std.proofs.lemmas.Int.{ints}
use Rattle.ch_cost.specs.Cost.{kept}
use Rattle.ch_timed.specs.Vectors.{values}

int_same : (x y : ℤ) → int_eq x y ≡ true → x ≡ y
int_same x y h = grind (arith, ints)

same_int : (x y : ℤ) → x ≡ y → int_eq x y ≡ true
same_int x y h = grind (arith, ints)

twice : (k : ℕ) → 2 * suc k ≡ suc (suc (2 * k))
twice k = omega arith

from_kept : (b : Bool) (n k : ℕ) → suc k ≤ (if b then suc n else 0) → (b ≡ true) × (k ≤ n)
from_kept true n k l = (refl, omega arith)
from_kept false n k l = absurd (omega arith)

kept_front : (us vs : List ℤ) (k : ℕ) → k ≤ kept us vs → take (2 * k) us ≡ take (2 * k) vs
kept_front us vs zero l = refl
kept_front [] vs (suc k) l = absurd (omega arith)
kept_front (p ∷ []) vs (suc k) l = absurd (omega arith)
kept_front (p ∷ x ∷ us) [] (suc k) l = absurd (omega arith)
kept_front (p ∷ x ∷ us) (q ∷ []) (suc k) l = absurd (omega arith)
kept_front (p ∷ x ∷ us) (q ∷ y ∷ vs) (suc k) l =
    let c = from_kept (int_eq p q && int_eq x y) (kept us vs) k l in
    let b = and_parts (int_eq p q) (int_eq x y) c.0 in
    let more = kept_front us vs k c.1 in
    rw (twice k) (ap₂ (λ r rs. r ∷ rs) (int_same p q b.0) (ap₂ (λ r rs. r ∷ rs) (int_same x y b.1) more))

tail_same : (x y : ℤ) (xs ys : List ℤ) → ◌≡◌ {A = List ℤ} (x ∷ xs) (y ∷ ys) → (x ≡ y) × (xs ≡ ys)
tail_same x y xs ys e = (cc, cc)

front_kept : (us vs : List ℤ) (k : ℕ) → k ≤ length (values us) → k ≤ length (values vs) → take (2 * k) us ≡ take (2 * k) vs → k ≤ kept us vs
front_kept us vs zero lu lv e = omega arith
front_kept [] vs (suc k) lu lv e = absurd (omega arith)
front_kept (p ∷ []) vs (suc k) lu lv e = absurd (omega arith)
front_kept (p ∷ x ∷ us) [] (suc k) lu lv e = absurd (omega arith)
front_kept (p ∷ x ∷ us) (q ∷ []) (suc k) lu lv e = absurd (omega arith)
front_kept (p ∷ x ∷ us) (q ∷ y ∷ vs) (suc k) lu lv e =
    let f : ◌≡◌ {A = List ℤ} (p ∷ x ∷ take (2 * k) us) (q ∷ y ∷ take (2 * k) vs) = rw (twice k) at e in
    let a = tail_same p q _ _ f in
    let b = tail_same x y _ _ a.1 in
    let t : (int_eq p q && int_eq x y) ≡ true = and_from _ _ (same_int p q a.0) (same_int x y b.0) in
    let more = front_kept us vs k (omega arith) (omega arith) b.1 in
    rw t (omega (arith, more))

pub common_front : (us vs : List ℤ) (k : ℕ) → k ≤ length (values us) → k ≤ length (values vs) → k ≤ kept us vs ↔ (take (2 * k) us ≡ take (2 * k) vs)
common_front us vs k lu lv = (kept_front us vs k, front_kept us vs k lu lv)
