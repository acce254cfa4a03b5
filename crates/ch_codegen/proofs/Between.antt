-- A loop's turns are the numbers between its bounds.
use Rattle.std.proofs.Common.{◌≡◌, ◌≢◌, refl, sym, ap, ◌∙◌, ℕ, zero, suc, ◌<◌, ◌≤◌, ℤ, pos, negsuc, neg_ℤ, ◌+ℤ◌, ◌*ℤ◌, ◌≤ℤ◌, ◌<ℤ◌, true, false, nat_eq, nat_le, unsigned_abs, List, [], ◌∷◌, ◌++◌, length, map, take, get_or, arith, length-take-le}
use Rattle.std.specs.List.{list_all}
use Rattle.std.specs.Int.{int_div_euclid, int_max, int_min}
use Rattle.std.proofs.lemmas.Bool.{and_from, and_parts}
use Rattle.std.proofs.lemmas.Bool.Decides.{nat_tests}
use Rattle.std.proofs.lemmas.Int.{ints, int_max_is, int_min_is}
use Rattle.std.proofs.Math.IntN.{zero-*ℤ}
use Rattle.ch_affine.specs.Affine.{dot, value}
use Rattle.ch_affine.specs.Form.{Form}
use Rattle.ch_affine.proofs.Integers.{plus_times}
use Rattle.ch_code.specs.declared.code.Bound.{Bound}
use Rattle.ch_code.specs.Trace.{high_of, low_of}
use Rattle.ch_code.specs.WellFormed.{bound_fits, bounds_fit, form_fits}
use Rattle.ch_nest.specs.Run.{greatest, least}
use Rattle.ch_timed.specs.Members.{Each}
use Rattle.ch_codegen.specs.Bounds.{Adds, AreFit, IsAbove, IsBelow, IsBetween, IsGrown, front, high_bound, low_bound, negated_front}
use Rattle.ch_codegen.proofs.Followed.{turn_value}
use Rattle.ch_codegen.proofs.Quotients.{above_from, above_to, below_from, below_to}

max_parts : (a b x : ℤ) → int_max a b ≤ℤ x → (a ≤ℤ x) × (b ≤ℤ x)
max_parts a b x h = (omega (arith, ints, int_max_is a b), omega (arith, ints, int_max_is a b))

max_from : (a b x : ℤ) → a ≤ℤ x → b ≤ℤ x → int_max a b ≤ℤ x
max_from a b x h k = omega (arith, ints, int_max_is a b)

min_parts : (a b x : ℤ) → x ≤ℤ int_min a b → (x ≤ℤ a) × (x ≤ℤ b)
min_parts a b x h = (omega (arith, ints, int_min_is a b), omega (arith, ints, int_min_is a b))

min_from : (a b x : ℤ) → x ≤ℤ a → x ≤ℤ b → x ≤ℤ int_min a b
min_from a b x h k = omega (arith, ints, int_min_is a b)

most_below : (z : ℤ) (zs : List ℤ) (x : ℤ) → greatest (z ∷ zs) ≤ℤ x → Each (λ y. y ≤ℤ x) (z ∷ zs)
most_below z [] x h = (h, tt)
most_below z (y ∷ zs) x h = let p = max_parts z (greatest (y ∷ zs)) x h in (p.0, most_below y zs x p.1)

below_most : (z : ℤ) (zs : List ℤ) (x : ℤ) → Each (λ y. y ≤ℤ x) (z ∷ zs) → greatest (z ∷ zs) ≤ℤ x
below_most z [] x h = h.0
below_most z (y ∷ zs) x h = max_from z (greatest (y ∷ zs)) x h.0 (below_most y zs x h.1)

least_above : (z : ℤ) (zs : List ℤ) (x : ℤ) → x ≤ℤ least (z ∷ zs) → Each (λ y. x ≤ℤ y) (z ∷ zs)
least_above z [] x h = (h, tt)
least_above z (y ∷ zs) x h = let p = min_parts z (least (y ∷ zs)) x h in (p.0, least_above y zs x p.1)

above_least : (z : ℤ) (zs : List ℤ) (x : ℤ) → Each (λ y. x ≤ℤ y) (z ∷ zs) → x ≤ℤ least (z ∷ zs)
above_least z [] x h = h.0
above_least z (y ∷ zs) x h = min_from z (least (y ∷ zs)) x h.0 (above_least y zs x h.1)

abbrev low_at : List ℤ → Bound → ℤ
low_at xs b = neg_ℤ (int_div_euclid (neg_ℤ (value b.form xs)) (pos b.divisor))

abbrev high_at : List ℤ → Bound → ℤ
high_at xs b = int_div_euclid (value b.form xs) (pos b.divisor)

le_from : (n m : ℕ) → nat_le n m ≡ true → n ≤ m
le_from n m e = grind (arith, nat_tests, e)

some_divisor : (d : ℕ) (b : Bound) → bound_fits d b ≡ true → 0 < b.divisor
some_divisor d b h = let l = le_from 1 b.divisor (and_parts (form_fits d b.form) (nat_le 1 b.divisor) h).1 in omega (arith, l)

above_each : (d : ℕ) (lows : List Bound) (xs : List ℤ) (x : ℤ) → list_all (bound_fits d) lows ≡ true → Each (λ y. y ≤ℤ x) (map (low_at xs) lows) → Each (IsAbove xs x) lows
above_each d [] xs x f h = tt
above_each d (b ∷ bs) xs x f h =
    let g = and_parts (bound_fits d b) (list_all (bound_fits d) bs) f in
    (above_from (value b.form xs) x b.divisor (some_divisor d b g.0) h.0, above_each d bs xs x g.1 h.1)

each_above : (d : ℕ) (lows : List Bound) (xs : List ℤ) (x : ℤ) → list_all (bound_fits d) lows ≡ true → Each (IsAbove xs x) lows → Each (λ y. y ≤ℤ x) (map (low_at xs) lows)
each_above d [] xs x f h = tt
each_above d (b ∷ bs) xs x f h =
    let g = and_parts (bound_fits d b) (list_all (bound_fits d) bs) f in
    (above_to (value b.form xs) x b.divisor (some_divisor d b g.0) h.0, each_above d bs xs x g.1 h.1)

below_each : (d : ℕ) (highs : List Bound) (xs : List ℤ) (x : ℤ) → list_all (bound_fits d) highs ≡ true → Each (λ y. x ≤ℤ y) (map (high_at xs) highs) → Each (IsBelow xs x) highs
below_each d [] xs x f h = tt
below_each d (b ∷ bs) xs x f h =
    let g = and_parts (bound_fits d b) (list_all (bound_fits d) bs) f in
    (below_from (value b.form xs) x b.divisor (some_divisor d b g.0) h.0, below_each d bs xs x g.1 h.1)

each_below : (d : ℕ) (highs : List Bound) (xs : List ℤ) (x : ℤ) → list_all (bound_fits d) highs ≡ true → Each (IsBelow xs x) highs → Each (λ y. x ≤ℤ y) (map (high_at xs) highs)
each_below d [] xs x f h = tt
each_below d (b ∷ bs) xs x f h =
    let g = and_parts (bound_fits d b) (list_all (bound_fits d) bs) f in
    (below_to (value b.form xs) x b.divisor (some_divisor d b g.0) h.0, each_below d bs xs x g.1 h.1)

low_above : (d : ℕ) (lows : List Bound) (xs : List ℤ) (x : ℤ) → bounds_fit d lows ≡ true → low_of lows xs ≤ℤ x → Each (IsAbove xs x) lows
low_above d [] xs x f h = tt
low_above d (b ∷ bs) xs x f h = above_each d (b ∷ bs) xs x (and_parts (nat_le 1 (length (b ∷ bs))) (list_all (bound_fits d) (b ∷ bs)) f).1 (most_below (low_at xs b) (map (low_at xs) bs) x h)

above_low : (d : ℕ) (lows : List Bound) (xs : List ℤ) (x : ℤ) → bounds_fit d lows ≡ true → Each (IsAbove xs x) lows → low_of lows xs ≤ℤ x
above_low d [] xs x f h = cc
above_low d (b ∷ bs) xs x f h = below_most (low_at xs b) (map (low_at xs) bs) x (each_above d (b ∷ bs) xs x (and_parts (nat_le 1 (length (b ∷ bs))) (list_all (bound_fits d) (b ∷ bs)) f).1 h)

high_below : (d : ℕ) (highs : List Bound) (xs : List ℤ) (x : ℤ) → bounds_fit d highs ≡ true → x ≤ℤ high_of highs xs → Each (IsBelow xs x) highs
high_below d [] xs x f h = tt
high_below d (b ∷ bs) xs x f h = below_each d (b ∷ bs) xs x (and_parts (nat_le 1 (length (b ∷ bs))) (list_all (bound_fits d) (b ∷ bs)) f).1 (least_above (high_at xs b) (map (high_at xs) bs) x h)

below_high : (d : ℕ) (highs : List Bound) (xs : List ℤ) (x : ℤ) → bounds_fit d highs ≡ true → Each (IsBelow xs x) highs → x ≤ℤ high_of highs xs
below_high d [] xs x f h = cc
below_high d (b ∷ bs) xs x f h = above_least (high_at xs b) (map (high_at xs) bs) x (each_below d (b ∷ bs) xs x (and_parts (nat_le 1 (length (b ∷ bs))) (list_all (bound_fits d) (b ∷ bs)) f).1 h)

pub turns_between : (d : ℕ) (lows highs : List Bound) (xs : List ℤ) (x : ℤ) → AreFit d lows highs → low_of lows xs ≤ℤ x → x ≤ℤ high_of highs xs → IsBetween lows highs xs x
turns_between d lows highs xs x f l h = record { above = low_above d lows xs x f.low l; below = high_below d highs xs x f.high h }

pub between_turns : (d : ℕ) (lows highs : List Bound) (xs : List ℤ) (x : ℤ) → AreFit d lows highs → IsBetween lows highs xs x → (low_of lows xs ≤ℤ x) × (x ≤ℤ high_of highs xs)
between_turns d lows highs xs x f b = (above_low d lows xs x f.low b.above, below_high d highs xs x f.high b.below)

-- rows as bounds

front_dot : (cs xs : List ℤ) → dot (take (length xs) cs) xs ≡ dot cs xs
front_dot [] [] = refl
front_dot (c ∷ cs) [] = refl
front_dot [] (x ∷ xs) = refl
front_dot (c ∷ cs) (x ∷ xs) = ap (λ z. (c *ℤ x) +ℤ z) (front_dot cs xs)

pub front_value : (d : ℕ) (f : Form) (xs : List ℤ) → length xs ≡ d → value (front d f) xs ≡ value f xs
front_value d f xs l = ap (λ z. f.constant +ℤ z) (ap (λ n. dot (take n f.coefs) xs) (sym l) ∙ front_dot f.coefs xs)

neg_product : (c x : ℤ) → neg_ℤ c *ℤ x ≡ neg_ℤ (c *ℤ x)
neg_product c x =
    let e : neg_ℤ c +ℤ c ≡ pos 0 = omega (arith, ints) in
    let s = plus_times (neg_ℤ c) c x in
    let z : (neg_ℤ c +ℤ c) *ℤ x ≡ pos 0 = ap (λ y. y *ℤ x) e ∙ zero-*ℤ x in
    omega (arith, ints, s, z)

neg_dot : (cs xs : List ℤ) → dot (map neg_ℤ cs) xs ≡ neg_ℤ (dot cs xs)
neg_dot [] xs = refl
neg_dot (c ∷ cs) [] = refl
neg_dot (c ∷ cs) (x ∷ xs) = let a = neg_product c x in let b = neg_dot cs xs in omega (arith, ints, a, b)

pub negated_value : (d : ℕ) (f : Form) (xs : List ℤ) → length xs ≡ d → value (negated_front d f) xs ≡ neg_ℤ (value f xs)
negated_value d f xs l =
    let a = neg_dot (take d f.coefs) xs in
    let b = front_value d f xs l in
    omega (arith, ints, a, b)

-- the row at one value more, where the coefficient there is this
pub row_turn : (f : Form) (d : ℕ) (xs : List ℤ) (x c : ℤ) → length xs ≡ d → c ≡ get_or f.coefs d (pos 0) → value f (xs ++ x ∷ []) ≡ value f xs +ℤ (c *ℤ x)
row_turn f d xs x c l e = turn_value f xs x ∙ ap (λ n. value f xs +ℤ (get_or f.coefs n (pos 0) *ℤ x)) l ∙ ap (λ z. value f xs +ℤ (z *ℤ x)) (sym e)

-- a positive coefficient gives a low
pub low_told : (f : Form) (d c : ℕ) (xs : List ℤ) (x : ℤ) → length xs ≡ d → pos c ≡ get_or f.coefs d (pos 0) → IsAbove xs x (low_bound d f c) → pos 0 ≤ℤ value f (xs ++ x ∷ [])
low_told f d c xs x l e h =
    let v = row_turn f d xs x (pos c) l e in
    let n = negated_value d f xs l in
    omega (arith, ints, v, n, h)

pub low_kept : (f : Form) (d c : ℕ) (xs : List ℤ) (x : ℤ) → length xs ≡ d → pos c ≡ get_or f.coefs d (pos 0) → pos 0 ≤ℤ value f (xs ++ x ∷ []) → IsAbove xs x (low_bound d f c)
low_kept f d c xs x l e h =
    let v = row_turn f d xs x (pos c) l e in
    let n = negated_value d f xs l in
    omega (arith, ints, v, n, h)

-- a negative one a high
pub high_told : (f : Form) (d c : ℕ) (xs : List ℤ) (x : ℤ) → length xs ≡ d → neg_ℤ (pos c) ≡ get_or f.coefs d (pos 0) → IsBelow xs x (high_bound d f c) → pos 0 ≤ℤ value f (xs ++ x ∷ [])
high_told f d c xs x l e h =
    let v = row_turn f d xs x (neg_ℤ (pos c)) l e in
    let n = front_value d f xs l in
    let m = neg_product (pos c) x in
    omega (arith, ints, v, n, m, h)

pub high_kept : (f : Form) (d c : ℕ) (xs : List ℤ) (x : ℤ) → length xs ≡ d → neg_ℤ (pos c) ≡ get_or f.coefs d (pos 0) → pos 0 ≤ℤ value f (xs ++ x ∷ []) → IsBelow xs x (high_bound d f c)
high_kept f d c xs x l e h =
    let v = row_turn f d xs x (neg_ℤ (pos c)) l e in
    let n = front_value d f xs l in
    let m = neg_product (pos c) x in
    omega (arith, ints, v, n, m, h)

-- one bound more

le_true : (n m : ℕ) → n ≤ m → nat_le n m ≡ true
le_true n m l = grind (arith, nat_tests, l)

same_true : (n m : ℕ) → n ≡ m → nat_eq n m ≡ true
same_true n m e = grind (arith, nat_tests, e)

length_negated : (xs : List ℤ) → length (map neg_ℤ xs) ≡ length xs
length_negated [] = refl
length_negated (x ∷ xs) = ap suc (length_negated xs)

low_fits : (d c : ℕ) (f : Form) → d ≤ length f.coefs → 1 ≤ c → bound_fits d (low_bound d f c) ≡ true
low_fits d c f l s = and_from _ _ (same_true _ d (length_negated (take d f.coefs) ∙ length-take-le d f.coefs l)) (le_true 1 c s)

high_fits : (d c : ℕ) (f : Form) → d ≤ length f.coefs → 1 ≤ c → bound_fits d (high_bound d f c) ≡ true
high_fits d c f l s = and_from _ _ (same_true _ d (length-take-le d f.coefs l)) (le_true 1 c s)

pub positive_size : (c : ℤ) (n : ℕ) → n ≡ unsigned_abs c → pos 0 <ℤ c → (pos n ≡ c) × (1 ≤ n)
positive_size c n e h = (omega (arith, ints, e), omega (arith, ints, e))

pub negative_size : (c : ℤ) (n : ℕ) → n ≡ unsigned_abs c → c ≤ℤ pos 0 → c ≢ pos 0 → (neg_ℤ (pos n) ≡ c) × (1 ≤ n)
negative_size (pos zero) n e h z = absurd (z refl)
negative_size (pos (suc m)) n e h z = absurd (omega (arith, ints))
negative_size (negsuc m) n e h z = (omega (arith, ints, e), omega (arith, ints, e))

pub low_grown : (d : ℕ) (f : Form) (lows highs new : List Bound) (c : ℕ) → AreFit d lows highs → d ≤ length f.coefs → c ≡ unsigned_abs (get_or f.coefs d (pos 0)) → pos 0 <ℤ get_or f.coefs d (pos 0)
    → Adds true lows (low_bound d f c) new → IsGrown d f lows highs new highs
low_grown d f lows highs new c fit l e p a = record {
  fit = record { low = a.fit d fit.low (low_fits d c f l s.1); high = fit.high };
  kept = λ xs x long b h. record { above = a.kept xs x b.above (low_kept f d c xs x long s.0 h); below = b.below };
  old = λ xs x b. record { above = a.old xs x b.above; below = b.below };
  told = λ xs x long b. low_told f d c xs x long s.0 (a.told xs x b.above);
}
  where
    s : (pos c ≡ get_or f.coefs d (pos 0)) × (1 ≤ c)
    s = positive_size (get_or f.coefs d (pos 0)) c e p

pub high_grown : (d : ℕ) (f : Form) (lows highs new : List Bound) (c : ℕ) → AreFit d lows highs → d ≤ length f.coefs → c ≡ unsigned_abs (get_or f.coefs d (pos 0)) → get_or f.coefs d (pos 0) ≤ℤ pos 0
    → get_or f.coefs d (pos 0) ≢ pos 0 → Adds false highs (high_bound d f c) new → IsGrown d f lows highs lows new
high_grown d f lows highs new c fit l e p z a = record {
  fit = record { low = fit.low; high = a.fit d fit.high (high_fits d c f l s.1) };
  kept = λ xs x long b h. record { above = b.above; below = a.kept xs x b.below (high_kept f d c xs x long s.0 h) };
  old = λ xs x b. record { above = b.above; below = a.old xs x b.below };
  told = λ xs x long b. high_told f d c xs x long s.0 (a.told xs x b.below);
}
  where
    s : (neg_ℤ (pos c) ≡ get_or f.coefs d (pos 0)) × (1 ≤ c)
    s = negative_size (get_or f.coefs d (pos 0)) c e p z
