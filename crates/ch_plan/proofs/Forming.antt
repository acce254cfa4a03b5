-- Forms that are added up modulo 2^64.
use Rattle.std.proofs.Common.{◌≡◌, ap, ap₂, sym, ◌∙◌, refl, ℕ, zero, suc, ◌+◌, ◌*◌, ◌<◌, ◌≤◌, ◌^◌, ℤ, pos, ◌+ℤ◌, ◌*ℤ◌, neg_ℤ, unsigned_abs, List, [], ◌∷◌, ◌++◌, get_or, set, take, drop, map, length, replicate, arith, w64, add-one, add-zero, append-nil}
use Rattle.std.specs.Int.{int_wrap}
use Rattle.std.specs.List.{All}
use Rattle.std.proofs.lemmas.Int.{ints, int_wrap-add_right, int_wrap-mul_left, unsigned_abs-mul}
use Rattle.std.proofs.lemmas.List.{drop_all, get_or-map, take_all}
use Rattle.std.proofs.lemmas.List.Elements.{All-head, All-tail}
use Rattle.std.proofs.lemmas.Nat.{mul-le}
use Rattle.ch_affine.specs.Affine.{IsAtMost, dot, value}
use Rattle.ch_affine.specs.Form.{Form}
use Rattle.ch_affine.proofs.Integers.{plus_times, times_assoc, times_plus, times_zero}
use Rattle.ch_plan.specs.Ready.{iters_at}
use Rattle.ch_plan.specs.Planned.{at}
use Rattle.ch_plan.proofs.Weighing.{same_plus, wrapped_same}

dot_none : (cs : List ℤ) → dot cs [] ≡ pos 0
dot_none [] = refl
dot_none (c ∷ cs) = refl

-- one coefficient changed
dot_set : (cs xs : List ℤ) (k : ℕ) (v : ℤ) → k < length cs → dot (set cs k v) xs +ℤ get_or cs k (pos 0) *ℤ at xs k ≡ dot cs xs +ℤ v *ℤ at xs k
dot_set [] xs k v l = absurd (omega arith)
dot_set (c ∷ cs) [] zero v l = omega (arith, ints, times_zero c, times_zero v)
dot_set (c ∷ cs) [] (suc k) v l = omega (arith, ints, times_zero (get_or cs k (pos 0)), times_zero v)
dot_set (c ∷ cs) (x ∷ xs) zero v l = omega (arith, ints)
dot_set (c ∷ cs) (x ∷ xs) (suc k) v l = omega (arith, ints, dot_set cs xs k v (omega arith))

-- one coefficient more
pub dot_more : (cs xs : List ℤ) (k : ℕ) → k < length cs → dot (take (k + 1) cs) xs ≡ dot (take k cs) xs +ℤ get_or cs k (pos 0) *ℤ at xs k
dot_more [] xs k l = absurd (omega arith)
dot_more (c ∷ cs) [] zero l = omega (arith, ints, times_zero c)
dot_more (c ∷ cs) (x ∷ xs) zero l = omega (arith, ints)
dot_more (c ∷ cs) [] (suc k) l = rw (add-one) (omega (arith, ints, times_zero (get_or cs k (pos 0))))
dot_more (c ∷ cs) (x ∷ xs) (suc k) l =
    let more : dot (take (suc k) cs) xs ≡ dot (take k cs) xs +ℤ get_or cs k (pos 0) *ℤ at xs k = rw (add-one) at (dot_more cs xs k (omega arith)) in
    rw (add-one) (omega (arith, ints, more))

pub length_iters : (origin : List Form) (xs : List ℤ) → length (iters_at origin xs) ≡ length origin
length_iters [] xs = refl
length_iters (f ∷ fs) xs = ap suc (length_iters fs xs)

pub iter_is : (origin : List Form) (xs : List ℤ) (k : ℕ) (d : Form) → k < length origin → at (iters_at origin xs) k ≡ value (get_or origin k d) xs
iter_is origin xs k d l = get_or-map (λ f. value f xs) origin k d (pos 0) l

-- a multiple of coefficients added, one of them more
pub multiples_on : (cs new os xs : List ℤ) (k : ℕ) (f t v base : ℤ) → k < length cs → k < length os → t ≡ int_wrap w64 (f *ℤ get_or os k (pos 0))
    → v ≡ int_wrap w64 (get_or cs k (pos 0) +ℤ t) → new ≡ set cs k v → int_wrap w64 (dot cs xs) ≡ int_wrap w64 (base +ℤ f *ℤ dot (take k os) xs)
    → int_wrap w64 (dot new xs) ≡ int_wrap w64 (base +ℤ f *ℤ dot (take (k + 1) os) xs)
multiples_on cs new os xs k f t v base lc lo tt' vv nn h =
    let a : ℤ = get_or cs k (pos 0) in
    let o : ℤ = get_or os k (pos 0) in
    let x : ℤ = at xs k in
    let taken : ℤ = dot (take k os) xs in
    let sum : v ≡ int_wrap w64 (a +ℤ f *ℤ o) = vv ∙ ap (λ z. int_wrap w64 (a +ℤ z)) tt' ∙ int_wrap-add_right w64 a (f *ℤ o) in
    let times : int_wrap w64 (v *ℤ x) ≡ int_wrap w64 ((a +ℤ f *ℤ o) *ℤ x) = ap (λ z. int_wrap w64 (z *ℤ x)) sum ∙ int_wrap-mul_left w64 (a +ℤ f *ℤ o) x in
    let changed : dot (set cs k v) xs +ℤ a *ℤ x ≡ dot cs xs +ℤ v *ℤ x = dot_set cs xs k v lc in
    let lone : dot new xs ≡ dot cs xs +ℤ (v *ℤ x +ℤ neg_ℤ (a *ℤ x)) = ap (λ z. dot z xs) nn ∙ omega (arith, ints, changed) in
    let inner : int_wrap w64 (v *ℤ x +ℤ neg_ℤ (a *ℤ x)) ≡ int_wrap w64 ((a +ℤ f *ℤ o) *ℤ x +ℤ neg_ℤ (a *ℤ x)) =
    same_plus w64 (v *ℤ x) ((a +ℤ f *ℤ o) *ℤ x) (neg_ℤ (a *ℤ x)) (neg_ℤ (a *ℤ x)) times refl in
    let all : int_wrap w64 (dot cs xs +ℤ (v *ℤ x +ℤ neg_ℤ (a *ℤ x))) ≡ int_wrap w64 ((base +ℤ f *ℤ taken) +ℤ ((a +ℤ f *ℤ o) *ℤ x +ℤ neg_ℤ (a *ℤ x))) =
    same_plus w64 (dot cs xs) (base +ℤ f *ℤ taken) (v *ℤ x +ℤ neg_ℤ (a *ℤ x)) ((a +ℤ f *ℤ o) *ℤ x +ℤ neg_ℤ (a *ℤ x)) h inner in
    let ring : (base +ℤ f *ℤ taken) +ℤ ((a +ℤ f *ℤ o) *ℤ x +ℤ neg_ℤ (a *ℤ x)) ≡ base +ℤ f *ℤ (taken +ℤ o *ℤ x) =
    omega (arith, ints, plus_times a (f *ℤ o) x, times_assoc f o x, times_plus f taken (o *ℤ x)) in
    ap (int_wrap w64) lone ∙ all ∙ ap (int_wrap w64) ring ∙ ap (λ z. int_wrap w64 (base +ℤ f *ℤ z)) (sym (dot_more os xs k lo))

-- a constant and coefficients that were added up, together
pub form_added : (c d new dnew f m : ℤ) (form : Form) (xs : List ℤ) → m ≡ int_wrap w64 (f *ℤ form.constant) → new ≡ int_wrap w64 (c +ℤ m)
    → int_wrap w64 dnew ≡ int_wrap w64 (d +ℤ f *ℤ dot form.coefs xs) → int_wrap w64 (new +ℤ dnew) ≡ int_wrap w64 ((c +ℤ d) +ℤ f *ℤ value form xs)
form_added c d new dnew f m form xs mm nn h =
    let k : ℤ = form.constant in
    let e : ℤ = dot form.coefs xs in
    let sum : new ≡ int_wrap w64 (c +ℤ f *ℤ k) = nn ∙ ap (λ z. int_wrap w64 (c +ℤ z)) mm ∙ int_wrap-add_right w64 c (f *ℤ k) in
    let both = same_plus w64 new (c +ℤ f *ℤ k) dnew (d +ℤ f *ℤ e) (wrapped_same w64 new (c +ℤ f *ℤ k) sum) h in
    let ring : (c +ℤ f *ℤ k) +ℤ (d +ℤ f *ℤ e) ≡ (c +ℤ d) +ℤ f *ℤ (k +ℤ e) = omega (arith, ints, times_plus f k e) in
    both ∙ ap (int_wrap w64) ring

-- the constant of a composed form
pub composed_none : (c d new f m : ℤ) (form : Form) (iters : List ℤ) → m ≡ int_wrap w64 (f *ℤ form.constant) → new ≡ int_wrap w64 (c +ℤ m)
    → int_wrap w64 (new +ℤ d) ≡ int_wrap w64 ((c +ℤ d) +ℤ f *ℤ (form.constant +ℤ dot (take 0 form.coefs) iters))
composed_none c d new f m form iters mm nn =
    let k : ℤ = form.constant in
    let sum : new ≡ int_wrap w64 (c +ℤ f *ℤ k) = nn ∙ ap (λ z. int_wrap w64 (c +ℤ z)) mm ∙ int_wrap-add_right w64 c (f *ℤ k) in
    let both = same_plus w64 new (c +ℤ f *ℤ k) d d (wrapped_same w64 new (c +ℤ f *ℤ k) sum) refl in
    let none : k +ℤ pos 0 ≡ k = omega (arith, ints) in
    let ring : (c +ℤ f *ℤ k) +ℤ d ≡ (c +ℤ d) +ℤ f *ℤ (k +ℤ pos 0) = omega (arith, ints, ap (λ z. f *ℤ z) none) in
    both ∙ ap (int_wrap w64) ring

-- one iterator more
pub composed_on : (now next base f t : ℤ) (form g : Form) (origin : List Form) (xs : List ℤ) (k : ℕ) → k < length form.coefs → k < length origin → g ≡ get_or origin k g
    → t ≡ int_wrap w64 (f *ℤ get_or form.coefs k (pos 0)) → int_wrap w64 next ≡ int_wrap w64 (now +ℤ t *ℤ value g xs)
    → int_wrap w64 now ≡ int_wrap w64 (base +ℤ f *ℤ (form.constant +ℤ dot (take k form.coefs) (iters_at origin xs)))
    → int_wrap w64 next ≡ int_wrap w64 (base +ℤ f *ℤ (form.constant +ℤ dot (take (k + 1) form.coefs) (iters_at origin xs)))
composed_on now next base f t form g origin xs k lf lo gg tt' n h =
    let c : ℤ = form.constant in
    let o : ℤ = get_or form.coefs k (pos 0) in
    let x : ℤ = value g xs in
    let taken : ℤ = dot (take k form.coefs) (iters_at origin xs) in
    let here : at (iters_at origin xs) k ≡ x = iter_is origin xs k g lo ∙ ap (λ z. value z xs) (sym gg) in
    let times : int_wrap w64 (t *ℤ x) ≡ int_wrap w64 ((f *ℤ o) *ℤ x) = ap (λ z. int_wrap w64 (z *ℤ x)) tt' ∙ int_wrap-mul_left w64 (f *ℤ o) x in
    let both = same_plus w64 now (base +ℤ f *ℤ (c +ℤ taken)) (t *ℤ x) ((f *ℤ o) *ℤ x) h times in
    let split : c +ℤ (taken +ℤ o *ℤ x) ≡ (c +ℤ taken) +ℤ o *ℤ x = omega (arith, ints) in
    let ring : (base +ℤ f *ℤ (c +ℤ taken)) +ℤ (f *ℤ o) *ℤ x ≡ base +ℤ f *ℤ (c +ℤ (taken +ℤ o *ℤ x)) =
    omega (arith, ints, times_assoc f o x, ap (λ z. f *ℤ z) split, times_plus f (c +ℤ taken) (o *ℤ x)) in
    let more : dot (take (k + 1) form.coefs) (iters_at origin xs) ≡ taken +ℤ o *ℤ x =
    dot_more form.coefs (iters_at origin xs) k lf ∙ ap (λ z. taken +ℤ o *ℤ z) here in
    n ∙ both ∙ ap (int_wrap w64) ring ∙ ap (λ z. int_wrap w64 (base +ℤ f *ℤ (c +ℤ z))) (sym more)

-- how large the value of a form is

pub dot_small : (cs xs : List ℤ) → All (IsAtMost (2 ^ 60)) cs → All (IsAtMost (2 ^ 54)) xs → unsigned_abs (dot cs xs) ≤ length cs * 2 ^ 114
dot_small [] xs hc hx = omega arith
dot_small (c ∷ cs) [] hc hx = omega arith
dot_small (c ∷ cs) (x ∷ xs) hc hx =
    let a : unsigned_abs c ≤ 2 ^ 60 = All-head (IsAtMost (2 ^ 60)) c cs hc in
    let b : unsigned_abs x ≤ 2 ^ 54 = All-head (IsAtMost (2 ^ 54)) x xs hx in
    let m : unsigned_abs (c *ℤ x) ≤ 2 ^ 114 = rw (unsigned_abs-mul c x) (mul-le (unsigned_abs c) (unsigned_abs x) (2 ^ 60) (2 ^ 54) a b) in
    let more = dot_small cs xs (All-tail (IsAtMost (2 ^ 60)) c cs hc) (All-tail (IsAtMost (2 ^ 54)) x xs hx) in
    omega (arith, ints, m, more)

pub dot_replicate : (n : ℕ) (xs : List ℤ) → dot (replicate n (pos 0)) xs ≡ pos 0
dot_replicate zero xs = refl
dot_replicate (suc n) [] = refl
dot_replicate (suc n) (x ∷ xs) = omega (arith, ints, dot_replicate n xs)

-- coefficients written over a vector's elements
pub refilled : (n : ℕ) (ws old : List ℤ) → n ≡ length old → length ws ≡ length old → take n (ws ++ drop (length ws) old) ≡ ws
refilled n ws old e f =
    ap (λ zs. take n (ws ++ zs)) (drop_all (length ws) old (omega (arith, f))) ∙ ap (take n) (append-nil ws) ∙ take_all n ws (omega (arith, e, f))
