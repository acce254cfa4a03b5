-- The least and the greatest value of a form over boxes.
use Rattle.std.proofs.Common.{◌≡◌, ℕ, suc, ◌-◌, ◌*◌, ◌≤◌, ◌^◌, unsigned_abs, ℤ, pos, negsuc, ◌+ℤ◌, ◌-ℤ◌, ◌*ℤ◌, ◌≤ℤ◌, int_lt, int_le, Bool, true, false, ◌&&◌, List, [], ◌∷◌, ◌++◌, map, get_or, take, drop, length, arith, ap, ◌∙◌, refl}
use Rattle.std.specs.Bool.{IsTrue}
use Rattle.std.specs.List.{All, list_all}
use Rattle.std.proofs.lemmas.Bool.{and_parts, eqb-true, leb-true}
use Rattle.std.proofs.lemmas.Bool.Decides.{nat_tests}
use Rattle.std.proofs.lemmas.Int.{ints, clamps}
use Rattle.std.proofs.lemmas.List.Elements.{All-nil, All-cons, All-head, All-tail}
use Rattle.std.proofs.Math.IntN.{pos-*ℤ-pos, negsuc-*ℤ-pos, neg_ℤ}
use Rattle.ch_affine.specs.Affine.{value, dot, IsAtMost}
use Rattle.ch_affine.specs.Form.{Form}
use Rattle.ch_affine.specs.Rows.{lies_in}
use Rattle.ch_affine.specs.declared.system.Range.{Range}
use Rattle.ch_affine.proofs.Integers.{times_plus}
use Rattle.ch_nest.specs.Run.{least, low_of, high_of}
use Rattle.ch_nest.specs.Shape.{coefs_fit, least_term, least_sum, least_in, low_end, greatest_term, greatest_sum, greatest_in, IsSmall}
use Rattle.ch_nest.proofs.Rests.{rest-cons}

abbrev pub origin : Range
origin = record { low = pos 0; high = pos 0 }

pub least_sum_first : (cs : List ℤ) (rs : List Range) (term more total : ℤ) → 1 ≤ length cs → 1 ≤ length rs
    → term ≡ least_term (get_or cs 0 (pos 0)) (get_or rs 0 origin) → more ≡ least_sum (take (length cs - 1) (drop 1 cs)) (take (length rs - 1) (drop 1 rs))
    → total ≡ term +ℤ more → total ≡ least_sum cs rs
least_sum_first [] rs term more total l m e f h = absurd (omega arith)
least_sum_first (x ∷ cs) [] term more total l m e f h = absurd (omega arith)
least_sum_first (x ∷ cs) (y ∷ rs) term more total l m e f h = rw (e, f, rest-cons x cs, rest-cons y rs) at h

pub greatest_sum_first : (cs : List ℤ) (rs : List Range) (term more total : ℤ) → 1 ≤ length cs → 1 ≤ length rs
    → term ≡ greatest_term (get_or cs 0 (pos 0)) (get_or rs 0 origin) → more ≡ greatest_sum (take (length cs - 1) (drop 1 cs)) (take (length rs - 1) (drop 1 rs))
    → total ≡ term +ℤ more → total ≡ greatest_sum cs rs
greatest_sum_first [] rs term more total l m e f h = absurd (omega arith)
greatest_sum_first (x ∷ cs) [] term more total l m e f h = absurd (omega arith)
greatest_sum_first (x ∷ cs) (y ∷ rs) term more total l m e f h = rw (e, f, rest-cons x cs, rest-cons y rs) at h

-- a number above another, by how far
apart : (x y : ℤ) → x ≤ℤ y → y ≡ x +ℤ pos (unsigned_abs (y -ℤ x))
apart x y h = omega (arith, ints)

up : (c : ℕ) (x y : ℤ) → x ≤ℤ y → (pos c *ℤ x) ≤ℤ (pos c *ℤ y)
up c x y h =
    let d : ℕ = unsigned_abs (y -ℤ x) in
    let e : pos c *ℤ y ≡ pos c *ℤ x +ℤ pos (c * d) = ap (λ z. pos c *ℤ z) (apart x y h) ∙ times_plus (pos c) x (pos d) ∙ ap (λ z. pos c *ℤ x +ℤ z) (pos-*ℤ-pos c d) in
    omega (arith, ints, e)

down : (c : ℕ) (x y : ℤ) → x ≤ℤ y → (negsuc c *ℤ y) ≤ℤ (negsuc c *ℤ x)
down c x y h =
    let d : ℕ = unsigned_abs (y -ℤ x) in
    let e : negsuc c *ℤ y ≡ negsuc c *ℤ x +ℤ neg_ℤ (pos (suc c * d)) = ap (λ z. negsuc c *ℤ z) (apart x y h) ∙ times_plus (negsuc c) x (pos d) ∙ ap (λ z. negsuc c *ℤ x +ℤ z) (negsuc-*ℤ-pos c d) in
    omega (arith, ints, e)

term_above : (c : ℤ) (r : Range) (x : ℤ) → r.low ≤ℤ x → x ≤ℤ r.high → least_term c r ≤ℤ (c *ℤ x)
term_above (pos c) r x l h = let f : int_lt (pos c) (pos 0) ≡ false = grind (arith, nat_tests) in rw f (up c r.low x l)
term_above (negsuc c) r x l h = down c x r.high h

term_below : (c : ℤ) (r : Range) (x : ℤ) → r.low ≤ℤ x → x ≤ℤ r.high → (c *ℤ x) ≤ℤ greatest_term c r
term_below (pos c) r x l h = let f : int_lt (pos c) (pos 0) ≡ false = grind (arith, nat_tests) in rw f (up c x r.high h)
term_below (negsuc c) r x l h = down c r.low x l

-- a point of boxes, number by number

pub record LiesFirst (r : Range) (rs : List Range) (x : ℤ) (xs : List ℤ) : Type 0 where
  pub low : r.low ≤ℤ x
  pub high : x ≤ℤ r.high
  pub others : IsTrue (lies_in rs xs)

three : (a b c : Bool) → IsTrue (a && b && c) → IsTrue a × IsTrue b × IsTrue c
three a b c h =
    let front = (and_parts (a && b) c h).0 in
    ((and_parts a b front).0, (and_parts a b front).1, (and_parts (a && b) c h).1)

pub lies_first : (r : Range) (rs : List Range) (x : ℤ) (xs : List ℤ) → IsTrue (lies_in (r ∷ rs) (x ∷ xs)) → LiesFirst r rs x xs
lies_first r rs x xs h =
    let t : IsTrue (int_le r.low x) × IsTrue (int_le x r.high) × IsTrue (lies_in rs xs) = three (int_le r.low x) (int_le x r.high) (lies_in rs xs) h in
    let l : int_le r.low x ≡ true = t.0 in
    let u : int_le x r.high ≡ true = t.1 in
    record { low = grind (arith, ints); high = grind (arith, ints); others = t.2 }

pub lies_length : (rs : List Range) (xs : List ℤ) → IsTrue (lies_in rs xs) → length xs ≡ length rs
lies_length [] [] h = refl
lies_length [] (x ∷ xs) h = absurd cc
lies_length (r ∷ rs) [] h = absurd cc
lies_length (r ∷ rs) (x ∷ xs) h = ap suc (lies_length rs xs (lies_first r rs x xs h).others)

between : (r : Range) (x : ℤ) → IsSmall r → r.low ≤ℤ x → x ≤ℤ r.high → IsAtMost (2 ^ 54) x
between r x s l h =
    let low : unsigned_abs r.low ≤ 2 ^ 30 = leb-true _ _ ((and_parts _ _ s).0) in
    let high : unsigned_abs r.high ≤ 2 ^ 30 = leb-true _ _ ((and_parts _ _ s).1) in
    omega (arith, ints)

pub lies_small : (rs : List Range) (xs : List ℤ) → All IsSmall rs → IsTrue (lies_in rs xs) → All (IsAtMost (2 ^ 54)) xs
lies_small [] [] s h = All-nil (IsAtMost (2 ^ 54))
lies_small [] (x ∷ xs) s h = absurd cc
lies_small (r ∷ rs) [] s h = absurd cc
lies_small (r ∷ rs) (x ∷ xs) s h =
    let f : LiesFirst r rs x xs = lies_first r rs x xs h in
    All-cons (IsAtMost (2 ^ 54)) x xs (between r x (All-head IsSmall r rs s) f.low f.high) (lies_small rs xs (All-tail IsSmall r rs s) f.others)

lies_cons : (r : Range) (rs : List Range) (x : ℤ) (xs : List ℤ) → r.low ≤ℤ x → x ≤ℤ r.high → IsTrue (lies_in rs xs) → IsTrue (lies_in (r ∷ rs) (x ∷ xs))
lies_cons r rs x xs l h o =
    let a : int_le r.low x ≡ true = grind (arith, ints) in
    let b : int_le x r.high ≡ true = grind (arith, ints) in
    rw (a, b) o

pub lies_push : (rs : List Range) (r : Range) (xs : List ℤ) (x : ℤ) → IsTrue (lies_in rs xs) → r.low ≤ℤ x → x ≤ℤ r.high → IsTrue (lies_in (rs ++ r ∷ []) (xs ++ x ∷ []))
lies_push [] r [] x i l h = lies_cons r [] x [] l h refl
lies_push [] r (y ∷ ys) x i l h = absurd cc
lies_push (s ∷ ss) r [] x i l h = absurd cc
lies_push (s ∷ ss) r (y ∷ ys) x i l h =
    let f : LiesFirst s ss y ys = lies_first s ss y ys i in
    lies_cons s (ss ++ r ∷ []) y (ys ++ x ∷ []) f.low f.high (lies_push ss r ys x f.others l h)

-- a form's value at a point of the boxes

pub least_le : (cs : List ℤ) (rs : List Range) (xs : List ℤ) → length cs ≡ length rs → IsTrue (lies_in rs xs) → least_sum cs rs ≤ℤ dot cs xs
least_le [] rs xs e h = omega (arith, ints)
least_le (c ∷ cs) [] xs e h = absurd (omega arith)
least_le (c ∷ cs) (r ∷ rs) [] e h = absurd cc
least_le (c ∷ cs) (r ∷ rs) (x ∷ xs) e h =
    let f : LiesFirst r rs x xs = lies_first r rs x xs h in
    omega (arith, ints, term_above c r x f.low f.high, least_le cs rs xs (omega arith) f.others)

pub greatest_ge : (cs : List ℤ) (rs : List Range) (xs : List ℤ) → length cs ≡ length rs → IsTrue (lies_in rs xs) → dot cs xs ≤ℤ greatest_sum cs rs
greatest_ge [] rs xs e h = omega (arith, ints)
greatest_ge (c ∷ cs) [] xs e h = absurd (omega arith)
greatest_ge (c ∷ cs) (r ∷ rs) [] e h = absurd cc
greatest_ge (c ∷ cs) (r ∷ rs) (x ∷ xs) e h =
    let f : LiesFirst r rs x xs = lies_first r rs x xs h in
    omega (arith, ints, term_below c r x f.low f.high, greatest_ge cs rs xs (omega arith) f.others)

coefs_of : (depth : ℕ) (f : Form) → IsTrue (coefs_fit depth f) → length f.coefs ≡ depth
coefs_of depth f h = eqb-true _ _ ((and_parts _ _ h).0)

pub in_above : (rs : List Range) (f : Form) (xs : List ℤ) → IsTrue (coefs_fit (length rs) f) → IsTrue (lies_in rs xs) → least_in rs f ≤ℤ value f xs
in_above rs f xs e h = omega (arith, ints, least_le f.coefs rs xs (coefs_of (length rs) f e) h)

pub in_below : (rs : List Range) (f : Form) (xs : List ℤ) → IsTrue (coefs_fit (length rs) f) → IsTrue (lies_in rs xs) → value f xs ≤ℤ greatest_in rs f
in_below rs f xs e h = omega (arith, ints, greatest_ge f.coefs rs xs (coefs_of (length rs) f e) h)

-- the ends of a loop at a point lie in its box

pub low_above : (rs : List Range) (fs : List Form) (xs : List ℤ) → IsTrue (list_all (coefs_fit (length rs)) fs) → IsTrue (lies_in rs xs) → low_end rs fs ≤ℤ low_of fs xs
low_above rs [] xs e h = omega (arith, ints)
low_above rs (f ∷ []) xs e h = in_above rs f xs ((and_parts _ _ e).0) h
low_above rs (f ∷ g ∷ fs) xs e h =
    let first = in_above rs f xs ((and_parts _ _ e).0) h in
    let others = low_above rs (g ∷ fs) xs ((and_parts _ _ e).1) h in
    omega (arith, ints, clamps, first, others)

pub high_below : (rs : List Range) (fs : List Form) (xs : List ℤ) → IsTrue (list_all (coefs_fit (length rs)) fs) → IsTrue (lies_in rs xs)
    → high_of fs xs ≤ℤ least (map (greatest_in rs) fs)
high_below rs [] xs e h = omega (arith, ints)
high_below rs (f ∷ []) xs e h = in_below rs f xs ((and_parts _ _ e).0) h
high_below rs (f ∷ g ∷ fs) xs e h =
    let first = in_below rs f xs ((and_parts _ _ e).0) h in
    let others = high_below rs (g ∷ fs) xs ((and_parts _ _ e).1) h in
    omega (arith, ints, clamps, first, others)
