-- The least and the greatest value of a form over a box: no point goes beyond them, and a corner has them.
use Rattle.std.proofs.Common.{◌≡◌, ℕ, suc, ◌+◌, ◌*◌, ◌<◌, unsigned_abs, ℤ, pos, negsuc, ◌+ℤ◌, ◌-ℤ◌, ◌*ℤ◌, ◌≤ℤ◌, int_lt, int_le, Bool, true, false, ◌&&◌, if◌then◌else◌, List, [], ◌∷◌, get_or, drop, length, arith, ap, ◌∙◌, refl}
use Rattle.std.specs.List.{All}
use Rattle.std.proofs.lemmas.Bool.Decides.{nat_tests}
use Rattle.std.proofs.lemmas.Int.{ints}
use Rattle.std.proofs.lemmas.List.{drop_more}
use Rattle.std.proofs.lemmas.List.Elements.{All-head, All-tail}
use Rattle.std.proofs.Math.IntN.{pos-*ℤ-pos, negsuc-*ℤ-pos, neg_ℤ, +ℤ_assoc}
use Rattle.ch_affine.specs.Form.{Form}
use Rattle.ch_affine.specs.Affine.{dot}
use Rattle.ch_affine.specs.Rows.{IsBox, lies_in}
use Rattle.ch_affine.specs.Corners.{least_term, greatest_term, least_sum, greatest_sum, least_in, greatest_in, IsLeastIn, IsGreatestIn}
use Rattle.ch_affine.specs.declared.system.Range.{Range}
use Rattle.ch_affine.proofs.Integers.{times_plus}

-- one term on

pub least_more : (cs : List ℤ) (rs : List Range) (d : Range) (k : ℕ) (sum more next total : ℤ) → k < length cs → length cs ≡ length rs
    → more ≡ least_term (get_or cs k (pos 0)) (get_or rs k d) → next ≡ sum +ℤ more
    → sum +ℤ least_sum (drop k cs) (drop k rs) ≡ total → next +ℤ least_sum (drop (k + 1) cs) (drop (k + 1) rs) ≡ total
least_more cs rs d k sum more next total lt same m n h =
    let lr : k < length rs = omega arith in
    let a = rw (drop_more cs k (pos 0) lt, drop_more rs k d lr) at h in
    rw (n, m, +ℤ_assoc) a

pub greatest_more : (cs : List ℤ) (rs : List Range) (d : Range) (k : ℕ) (sum more next total : ℤ) → k < length cs → length cs ≡ length rs
    → more ≡ greatest_term (get_or cs k (pos 0)) (get_or rs k d) → next ≡ sum +ℤ more
    → sum +ℤ greatest_sum (drop k cs) (drop k rs) ≡ total → next +ℤ greatest_sum (drop (k + 1) cs) (drop (k + 1) rs) ≡ total
greatest_more cs rs d k sum more next total lt same m n h =
    let lr : k < length rs = omega arith in
    let a = rw (drop_more cs k (pos 0) lt, drop_more rs k d lr) at h in
    rw (n, m, +ℤ_assoc) a

-- a term at a number of the range

apart : (x y : ℤ) → x ≤ℤ y → y ≡ x +ℤ pos (unsigned_abs (y -ℤ x))
apart x y h = omega (arith, ints)

up : (c : ℕ) (x y : ℤ) → x ≤ℤ y → (pos c *ℤ x) ≤ℤ (pos c *ℤ y)
up c x y h =
    let d : ℕ = unsigned_abs (y -ℤ x) in
    let e : pos c *ℤ y ≡ pos c *ℤ x +ℤ pos (c * d) = ap (λ z. pos c *ℤ z) (apart x y h) ∙ times_plus (pos c) x (pos d) ∙ ap (λ z. pos c *ℤ x +ℤ z) (pos-*ℤ-pos c d) in
    omega (arith, ints, e)

down : (c : ℕ) (x y : ℤ) → x ≤ℤ y → (negsuc c *ℤ y) ≤ℤ (negsuc c *ℤ x)
down c x y h =
    let d : ℕ = unsigned_abs (y -ℤ x) in
    let e : negsuc c *ℤ y ≡ negsuc c *ℤ x +ℤ neg_ℤ (pos (suc c * d)) = ap (λ z. negsuc c *ℤ z) (apart x y h) ∙ times_plus (negsuc c) x (pos d) ∙ ap (λ z. negsuc c *ℤ x +ℤ z) (negsuc-*ℤ-pos c d) in
    omega (arith, ints, e)

term_above : (c : ℤ) (r : Range) (x : ℤ) → r.low ≤ℤ x → x ≤ℤ r.high → least_term c r ≤ℤ (c *ℤ x)
term_above (pos c) r x l h = let f : int_lt (pos c) (pos 0) ≡ false = grind (arith, nat_tests) in rw f (up c r.low x l)
term_above (negsuc c) r x l h = down c x r.high h

term_below : (c : ℤ) (r : Range) (x : ℤ) → r.low ≤ℤ x → x ≤ℤ r.high → (c *ℤ x) ≤ℤ greatest_term c r
term_below (pos c) r x l h = let f : int_lt (pos c) (pos 0) ≡ false = grind (arith, nat_tests) in rw f (up c x r.high h)
term_below (negsuc c) r x l h = down c r.low x l

-- a point of the box, number by number

record LiesFirst (r : Range) (rs : List Range) (x : ℤ) (xs : List ℤ) : Type 0 where
  low : r.low ≤ℤ x
  high : x ≤ℤ r.high
  others : lies_in rs xs ≡ true

tests : (r : Range) (x : ℤ) (rest a b : Bool) → int_le r.low x ≡ a → int_le x r.high ≡ b → (a && b && rest) ≡ true → (r.low ≤ℤ x) × (x ≤ℤ r.high) × (rest ≡ true)
tests r x rest true true l h e = (grind (arith, ints), grind (arith, ints), e)
tests r x rest true false l h e = absurd cc
tests r x rest false b l h e = absurd cc

lies_first : (r : Range) (rs : List Range) (x : ℤ) (xs : List ℤ) → lies_in (r ∷ rs) (x ∷ xs) ≡ true → LiesFirst r rs x xs
lies_first r rs x xs h =
    let t = tests r x (lies_in rs xs) (int_le r.low x) (int_le x r.high) refl refl h in
    record { low = t.0; high = t.1; others = t.2 }

pub lies_cons : (r : Range) (rs : List Range) (x : ℤ) (xs : List ℤ) → r.low ≤ℤ x → x ≤ℤ r.high → lies_in rs xs ≡ true → lies_in (r ∷ rs) (x ∷ xs) ≡ true
lies_cons r rs x xs l h o =
    let a : int_le r.low x ≡ true = grind (arith, ints) in
    let b : int_le x r.high ≡ true = grind (arith, ints) in
    rw (a, b) o

-- a point of the box

pub least_le : (cs : List ℤ) (rs : List Range) (xs : List ℤ) → length cs ≡ length rs → lies_in rs xs ≡ true → least_sum cs rs ≤ℤ dot cs xs
least_le [] rs xs e h = omega (arith, ints)
least_le (c ∷ cs) [] xs e h = absurd (omega arith)
least_le (c ∷ cs) (r ∷ rs) [] e h = absurd cc
least_le (c ∷ cs) (r ∷ rs) (x ∷ xs) e h =
    let f : LiesFirst r rs x xs = lies_first r rs x xs h in
    omega (arith, ints, term_above c r x f.low f.high, least_le cs rs xs (omega arith) f.others)

pub greatest_ge : (cs : List ℤ) (rs : List Range) (xs : List ℤ) → length cs ≡ length rs → lies_in rs xs ≡ true → dot cs xs ≤ℤ greatest_sum cs rs
greatest_ge [] rs xs e h = omega (arith, ints)
greatest_ge (c ∷ cs) [] xs e h = absurd (omega arith)
greatest_ge (c ∷ cs) (r ∷ rs) [] e h = absurd cc
greatest_ge (c ∷ cs) (r ∷ rs) (x ∷ xs) e h =
    let f : LiesFirst r rs x xs = lies_first r rs x xs h in
    omega (arith, ints, term_below c r x f.low f.high, greatest_ge cs rs xs (omega arith) f.others)

-- the corners

abbrev least_corner : List ℤ → List Range → List ℤ
least_corner cs [] = []
least_corner [] (r ∷ rs) = r.low ∷ least_corner [] rs
least_corner (c ∷ cs) (r ∷ rs) = (if int_lt c (pos 0) then r.high else r.low) ∷ least_corner cs rs

abbrev greatest_corner : List ℤ → List Range → List ℤ
greatest_corner cs [] = []
greatest_corner [] (r ∷ rs) = r.high ∷ greatest_corner [] rs
greatest_corner (c ∷ cs) (r ∷ rs) = (if int_lt c (pos 0) then r.low else r.high) ∷ greatest_corner cs rs

end_in : (r : Range) (t : Bool) → IsBox r → (r.low ≤ℤ (if t then r.high else r.low)) × ((if t then r.high else r.low) ≤ℤ r.high)
end_in r true b = (b.some, omega (arith, ints))
end_in r false b = (omega (arith, ints), b.some)

other_in : (r : Range) (t : Bool) → IsBox r → (r.low ≤ℤ (if t then r.low else r.high)) × ((if t then r.low else r.high) ≤ℤ r.high)
other_in r true b = (omega (arith, ints), b.some)
other_in r false b = (b.some, omega (arith, ints))

least_corner_in : (cs : List ℤ) (rs : List Range) → All IsBox rs → lies_in rs (least_corner cs rs) ≡ true
least_corner_in cs [] b = refl
least_corner_in [] (r ∷ rs) b =
    let e = end_in r false (All-head IsBox r rs b) in
    lies_cons r rs r.low (least_corner [] rs) e.0 e.1 (least_corner_in [] rs (All-tail IsBox r rs b))
least_corner_in (c ∷ cs) (r ∷ rs) b =
    let e = end_in r (int_lt c (pos 0)) (All-head IsBox r rs b) in
    lies_cons r rs _ (least_corner cs rs) e.0 e.1 (least_corner_in cs rs (All-tail IsBox r rs b))

greatest_corner_in : (cs : List ℤ) (rs : List Range) → All IsBox rs → lies_in rs (greatest_corner cs rs) ≡ true
greatest_corner_in cs [] b = refl
greatest_corner_in [] (r ∷ rs) b =
    let e = other_in r false (All-head IsBox r rs b) in
    lies_cons r rs r.high (greatest_corner [] rs) e.0 e.1 (greatest_corner_in [] rs (All-tail IsBox r rs b))
greatest_corner_in (c ∷ cs) (r ∷ rs) b =
    let e = other_in r (int_lt c (pos 0)) (All-head IsBox r rs b) in
    lies_cons r rs _ (greatest_corner cs rs) e.0 e.1 (greatest_corner_in cs rs (All-tail IsBox r rs b))

least_corner_is : (cs : List ℤ) (rs : List Range) → length cs ≡ length rs → dot cs (least_corner cs rs) ≡ least_sum cs rs
least_corner_is [] rs e = refl
least_corner_is (c ∷ cs) [] e = absurd (omega arith)
least_corner_is (c ∷ cs) (r ∷ rs) e = ap (λ y. least_term c r +ℤ y) (least_corner_is cs rs (omega arith))

greatest_corner_is : (cs : List ℤ) (rs : List Range) → length cs ≡ length rs → dot cs (greatest_corner cs rs) ≡ greatest_sum cs rs
greatest_corner_is [] rs e = refl
greatest_corner_is (c ∷ cs) [] e = absurd (omega arith)
greatest_corner_is (c ∷ cs) (r ∷ rs) e = ap (λ y. greatest_term c r +ℤ y) (greatest_corner_is cs rs (omega arith))

-- a form

pub is_least : (rs : List Range) (f : Form) → length f.coefs ≡ length rs → All IsBox rs → IsLeastIn rs f (least_in rs f)
is_least rs f e b = record {
  has = record {
    point = least_corner f.coefs rs;
    within = least_corner_in f.coefs rs b;
    is = ap (λ z. f.constant +ℤ z) (least_corner_is f.coefs rs e);
  };
  least = λ p i. omega (arith, ints, least_le f.coefs rs p e i);
}

pub is_greatest : (rs : List Range) (f : Form) → length f.coefs ≡ length rs → All IsBox rs → IsGreatestIn rs f (greatest_in rs f)
is_greatest rs f e b = record {
  has = record {
    point = greatest_corner f.coefs rs;
    within = greatest_corner_in f.coefs rs b;
    is = ap (λ z. f.constant +ℤ z) (greatest_corner_is f.coefs rs e);
  };
  greatest = λ p i. omega (arith, ints, greatest_ge f.coefs rs p e i);
}
