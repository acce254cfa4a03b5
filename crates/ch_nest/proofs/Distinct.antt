-- Different cells have different flat places, and each is one of the cells of all arrays.
use Rattle.std.proofs.Common.{◌≡◌, refl, ap, ap₂, ℕ, zero, suc, ◌+◌, ◌-◌, ◌*◌, ◌/◌, ◌%◌, ◌<◌, ◌≤◌, ℤ, pos, unsigned_abs, int_lt, true, false, not, ◌&&◌, List, [], ◌∷◌, length, inl, inr, arith, mul-le-mul_right, mul_assoc}
use Rattle.std.specs.Bool.{IsTrue}
use Rattle.std.proofs.lemmas.Bool.{and_from, and_parts, cases_lt, cases_order}
use Rattle.std.proofs.Math.Nat.{div-add-mod, div-lt_iff_lt-mul, mod-lt, mul_comm}
use Rattle.std.proofs.lemmas.Int.{ints}
use Rattle.ch_nest.specs.Arrays.{cells_in, total, row_major}
use Rattle.ch_nest.specs.Arrays.{place_in}
use Rattle.ch_nest.specs.Arrays.{within, within_array}

parted : (a b e u v : ℕ) → a * e + u ≡ b * e + v → u < e → v < e → (a ≡ b) × (u ≡ v)
parted a b e u v h l m = elim (cases_order a b) as (λ _. (a ≡ b) × (u ≡ v)) [
  | inl k ↦ let p : a * e ≡ b * e = ap (λ z. z * e) k in (k, omega arith)
  | inr o ↦ elim o as (λ _. (a ≡ b) × (u ≡ v)) [
    | inl k ↦ let p : (a + 1) * e ≤ b * e = mul-le-mul_right e (omega arith) in absurd (omega arith)
    | inr k ↦ let p : (b + 1) * e ≤ a * e = mul-le-mul_right e (omega arith) in absurd (omega arith)
  ]
]

small : (s : ℤ) (e : ℕ) → (not (int_lt s (pos 0)) && int_lt s (pos e)) ≡ true → unsigned_abs s < e
small s e h = grind (arith, ints)

same_abs : (s t : ℤ) (e : ℕ) → (not (int_lt s (pos 0)) && int_lt s (pos e)) ≡ true → (not (int_lt t (pos 0)) && int_lt t (pos e)) ≡ true → unsigned_abs s ≡ unsigned_abs t → s ≡ t
same_abs s t e h g k = grind (arith, ints)

pub bounded : (at : ℕ) (es : List ℕ) (ss : List ℤ) → IsTrue (within es ss) → row_major at es ss < (at + 1) * cells_in es
bounded at [] [] h = omega arith
bounded at [] (s ∷ ss) h = absurd (both h)
  where
    both : false ≡ true → ⊥
    both h = cc
bounded at (e ∷ es) [] h = absurd (both h)
  where
    both : false ≡ true → ⊥
    both h = cc
bounded at (e ∷ es) (s ∷ ss) h =
    let p = and_parts _ _ h in
    let u = small s e p.0 in
    let i = bounded (at * e + unsigned_abs s) es ss p.1 in
    let m : (at * e + unsigned_abs s + 1) * cells_in es ≤ ((at + 1) * e) * cells_in es = mul-le-mul_right (cells_in es) (omega arith) in
    let n = mul_assoc (at + 1) e (cells_in es) in
    omega arith

pub row_injective : (at bt : ℕ) (es : List ℕ) (ss ts : List ℤ) → IsTrue (within es ss) → IsTrue (within es ts) → row_major at es ss ≡ row_major bt es ts → (at ≡ bt) × (ss ≡ ts)
row_injective at bt [] [] [] h g e = (e, refl)
row_injective at bt [] [] (t ∷ ts) h g e = cc
row_injective at bt [] (s ∷ ss) ts h g e = cc
row_injective at bt (x ∷ es) [] ts h g e = cc
row_injective at bt (x ∷ es) (s ∷ ss) [] h g e = cc
row_injective at bt (x ∷ es) (s ∷ ss) (t ∷ ts) h g e =
    let p = and_parts _ _ h in
    let q = and_parts _ _ g in
    let i = row_injective (at * x + unsigned_abs s) (bt * x + unsigned_abs t) es ss ts p.1 q.1 e in
    let r = parted at bt x (unsigned_abs s) (unsigned_abs t) i.0 (small s x p.0) (small t x q.0) in
    (r.0, ap₂ (λ y ys. y ∷ ys) (same_abs s t x p.0 q.0 r.1) i.1)

pub place_injective : (ds : List (List ℕ)) (j k : ℕ) (ss ts : List ℤ) → IsTrue (within_array ds j ss) → IsTrue (within_array ds k ts)
    → place_in ds j ss ≡ place_in ds k ts → (j ≡ k) × (ss ≡ ts)
place_injective [] j k ss ts h g e = cc
place_injective (d ∷ ds) zero zero ss ts h g e =
    let same : row_major 0 d ss ≡ row_major 0 d ts = omega arith in
    (refl, (row_injective 0 0 d ss ts h g same).1)
place_injective (d ∷ ds) zero (suc k) ss ts h g e = let b = bounded 0 d ss h in absurd (omega arith)
place_injective (d ∷ ds) (suc j) zero ss ts h g e = let b = bounded 0 d ts g in absurd (omega arith)
place_injective (d ∷ ds) (suc j) (suc k) ss ts h g e = let r = place_injective ds j k ss ts h g (omega arith) in (ap suc r.0, r.1)

-- the place of a cell of an array is one of the cells of all arrays
pub place_below : (ds : List (List ℕ)) (k : ℕ) (ss : List ℤ) → IsTrue (within_array ds k ss) → place_in ds k ss < total ds
place_below [] k ss h = cc
place_below (d ∷ ds) zero ss h = let b = bounded 0 d ss h in omega arith
place_below (d ∷ ds) (suc k) ss h = let b = place_below ds k ss h in omega arith

-- each number below the number of all cells is the place of a cell

pub record IsCellAt (es : List ℕ) (at k : ℕ) : Type 0 where
  pub subs : List ℤ
  pub within : IsTrue (within es subs)
  pub placed : row_major at es subs ≡ at * cells_in es + k

one_within : (s e : ℕ) → s < e → (not (int_lt (pos s) (pos 0)) && int_lt (pos s) (pos e)) ≡ true
one_within s e l = grind (arith, ints)

pub cell_at : (at : ℕ) (es : List ℕ) (k : ℕ) → k < cells_in es → IsCellAt es at k
cell_at at [] k l = record { subs = []; within = refl; placed = omega arith }
cell_at at (e ∷ es) k l =
    let n : ℕ = cells_in es in
    let some : 0 < n = positive e n k l in
    let whole : n * (k / n) + k % n ≡ k = div-add-mod k n in
    let below : k % n < n = mod-lt k some in
    let s : ℕ = k / n in
    let fits : s < e = (div-lt_iff_lt-mul some).1 l in
    let inner = cell_at (at * e + s) es (k % n) below in
    record {
      subs = pos s ∷ inner.subs;
      within = and_from _ _ (one_within s e fits) inner.within;
      placed = omega (arith, inner.placed, mul_assoc at e n, mul_comm s n, whole);
    }
  where
    positive : (e n k : ℕ) → k < e * n → 0 < n
    positive e zero k l = absurd (omega arith)
    positive e (suc n) k l = omega arith

pub record IsCellOf (ds : List (List ℕ)) (k : ℕ) : Type 0 where
  pub array : ℕ
  pub subs : List ℤ
  pub there : array < length ds
  pub within : IsTrue (within_array ds array subs)
  pub placed : place_in ds array subs ≡ k

pub cell_of_place : (ds : List (List ℕ)) (k : ℕ) → k < total ds → IsCellOf ds k
cell_of_place [] k l = absurd (omega arith)
cell_of_place (d ∷ ds) k l = elim (cases_lt k (cells_in d)) as (λ _. IsCellOf (d ∷ ds) k) [
  | inl below ↦
      let c = cell_at 0 d k below in
      record { array = 0; subs = c.subs; there = omega arith; within = c.within; placed = omega (arith, c.placed) }
  | inr past ↦
      let c = cell_of_place ds (k - cells_in d) (omega arith) in
      record { array = suc c.array; subs = c.subs; there = omega (arith, c.there); within = c.within; placed = omega (arith, c.placed) }
]
