-- A place 0 put behind the first places of a group keeps where places part.
use Rattle.std.proofs.Common.{◌≡◌, refl, sym, ap, ap₂, ◌∙◌, subst, ℕ, zero, suc, ◌-◌, ◌<◌, ◌≤◌, ◌⊎◌, inl, inr, ℤ, pos, ◌<ℤ◌, Bool, true, false, ◌&&◌, nat_lt, if◌then◌else◌, List, [], ◌∷◌, ◌++◌, length, take, arith, length-append}
use Rattle.std.proofs.lemmas.Bool.{lt-ltb, ltb-false, ltb-true}
use Rattle.ch_timed.specs.Vectors.{same_numbers, shares}
use Rattle.ch_moved.proofs.Parting.{Parts}
use Rattle.ch_tile.specs.Tiled.{inserted}

-- the places after tiling, base being those of the tiled piece
abbrev pub tiled_places : ℕ → List ℤ → List ℤ → List ℤ
tiled_places outer base ps = if shares outer base ps then inserted outer (pos 0) ps else ps

-- behind the item
insert_behind : (k : ℕ) (z x : ℤ) (front rest : List ℤ) → length front < k → inserted k z (front ++ x ∷ rest) ≡ front ++ x ∷ inserted (k - length front - 1) z rest
insert_behind zero z x front rest h = absurd (omega arith)
insert_behind (suc k) z x [] rest h = let e : suc k - length {A = ℤ} [] - 1 ≡ k = omega arith in ap (λ n. x ∷ inserted n z rest) (sym e)
insert_behind (suc k) z x (f ∷ front) rest h =
    let e : suc k - length (f ∷ front) - 1 ≡ k - length front - 1 = omega arith in
    ap (λ t. f ∷ t) (insert_behind k z x front rest (omega arith)) ∙ ap (λ n. f ∷ (front ++ x ∷ inserted n z rest)) (sym e)

-- before it
insert_before : (k : ℕ) (z x : ℤ) (front rest : List ℤ) → k ≤ length front → inserted k z (front ++ x ∷ rest) ≡ inserted k z front ++ x ∷ rest
insert_before zero z x front rest h = refl
insert_before (suc k) z x [] rest h = absurd (omega arith)
insert_before (suc k) z x (f ∷ front) rest h = ap (λ t. f ∷ t) (insert_before k z x front rest (omega arith))

take_front : (k : ℕ) (front more : List ℤ) → k ≤ length front → take k (front ++ more) ≡ take k front
take_front zero front more h = refl
take_front (suc k) [] more h = absurd (omega arith)
take_front (suc k) (f ∷ front) more h = ap (λ t. f ∷ t) (take_front k front more (omega arith))

long_enough : (k : ℕ) (front : List ℤ) (x : ℤ) (rest : List ℤ) → k ≤ length front → nat_lt k (length (front ++ x ∷ rest)) ≡ true
long_enough k front x rest h = let e = length-append front (x ∷ rest) in lt-ltb k (length (front ++ x ∷ rest)) (omega arith)

-- places that are the same up to the level share it with the same pieces
shares_alike : (k : ℕ) (base front rest others : List ℤ) (x y : ℤ) → k ≤ length front → shares k base (front ++ x ∷ rest) ≡ shares k base (front ++ y ∷ others)
shares_alike k base front rest others x y h =
    ap₂ (λ b t. (nat_lt k (length base) && b) && same_numbers (take k base) t) (long_enough k front x rest h ∙ sym (long_enough k front y others h))
    (take_front k front (x ∷ rest) h ∙ sym (take_front k front (y ∷ others) h))

-- where the places part before the level, each may get a place behind
early : (k : ℕ) (b c : Bool) (x y : ℤ) (front rest others : List ℤ) → length front < k → x <ℤ y
    → Parts (if b then inserted k (pos 0) (front ++ x ∷ rest) else front ++ x ∷ rest) (if c then inserted k (pos 0) (front ++ y ∷ others) else front ++ y ∷ others)
early k true true x y front rest others h l =
    record {
      front = front;
      x = x;
      y = y;
      rest = inserted (k - length front - 1) (pos 0) rest;
      others = inserted (k - length front - 1) (pos 0) others;
      is_a = insert_behind k (pos 0) x front rest h;
      is_b = insert_behind k (pos 0) y front others h;
      less = l;
    }
early k true false x y front rest others h l =
    record { front = front; x = x; y = y; rest = inserted (k - length front - 1) (pos 0) rest; others = others; is_a = insert_behind k (pos 0) x front rest h; is_b = refl; less = l }
early k false true x y front rest others h l =
    record { front = front; x = x; y = y; rest = rest; others = inserted (k - length front - 1) (pos 0) others; is_a = refl; is_b = insert_behind k (pos 0) y front others h; less = l }
early k false false x y front rest others h l = record { front = front; x = x; y = y; rest = rest; others = others; is_a = refl; is_b = refl; less = l }

-- where they part behind it, both or none do
late : (k : ℕ) (b : Bool) (x y : ℤ) (front rest others : List ℤ) → k ≤ length front → x <ℤ y
    → Parts (if b then inserted k (pos 0) (front ++ x ∷ rest) else front ++ x ∷ rest) (if b then inserted k (pos 0) (front ++ y ∷ others) else front ++ y ∷ others)
late k true x y front rest others h l =
    record { front = inserted k (pos 0) front; x = x; y = y; rest = rest; others = others; is_a = insert_before k (pos 0) x front rest h; is_b = insert_before k (pos 0) y front others h; less = l }
late k false x y front rest others h l = record { front = front; x = x; y = y; rest = rest; others = others; is_a = refl; is_b = refl; less = l }

before_or_behind : (m k : ℕ) → (m < k) ⊎ (k ≤ m)
before_or_behind m k = by (nat_lt m k) refl
  where
    by : (b : Bool) → nat_lt m k ≡ b → (m < k) ⊎ (k ≤ m)
    by true e = inl (ltb-true m k e)
    by false e = inr (let h = ltb-false m k e in omega arith)

pub tiled_part : (outer : ℕ) (base a b : List ℤ) → Parts a b → Parts (tiled_places outer base a) (tiled_places outer base b)
tiled_part outer base a b p =
    subst (λ z. Parts (tiled_places outer base z) (tiled_places outer base b)) (sym p.is_a)
    (subst (λ z. Parts (tiled_places outer base (p.front ++ p.x ∷ p.rest)) (tiled_places outer base z)) (sym p.is_b)
    (elim (before_or_behind (length p.front) outer) as (λ _. Parts (tiled_places outer base (p.front ++ p.x ∷ p.rest)) (tiled_places outer base (p.front ++ p.y ∷ p.others))) [
      | inl h ↦ early outer (shares outer base (p.front ++ p.x ∷ p.rest)) (shares outer base (p.front ++ p.y ∷ p.others)) p.x p.y p.front p.rest p.others h p.less
      | inr h ↦
          subst (λ c. Parts (tiled_places outer base (p.front ++ p.x ∷ p.rest)) (if c then inserted outer (pos 0) (p.front ++ p.y ∷ p.others) else p.front ++ p.y ∷ p.others))
          (shares_alike outer base p.front p.rest p.others p.x p.y h)
          (late outer (shares outer base (p.front ++ p.x ∷ p.rest)) p.x p.y p.front p.rest p.others h p.less)
    ]))
