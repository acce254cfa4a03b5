-- Forms put in place of variables: the numbers of the new form, and its value.
use Rattle.std.proofs.Common.{◌≡◌, refl, sym, ap, ◌∙◌, subst, ℕ, zero, suc, ◌<◌, ◌≤◌, ℤ, pos, ◌+ℤ◌, ◌*ℤ◌, List, [], ◌∷◌, ◌++◌, length, take, drop, get_or, arith, take-append-drop, length-take-le}
use Rattle.std.proofs.lemmas.Int.{ints}
use Rattle.std.proofs.lemmas.List.{length-map}
use Rattle.std.proofs.lemmas.List.Elements.{All-head, All-tail}
use Rattle.ch_affine.specs.Form.{Form}
use Rattle.ch_affine.specs.Affine.{dot, form, value}
use Rattle.ch_affine.proofs.Integers.{plus_times as sum_times, times_plus, times_assoc, times_zero}
use Rattle.ch_moved.specs.Changed.{AllLong}
use Rattle.ch_moved.specs.Spread.{column, constants}
use Rattle.ch_moved.specs.Substituted.{combined, image, plus_times}
use Rattle.ch_space.specs.Built.{zeros}
use Rattle.ch_space.proofs.Rowed.{dot_zeros, dot_front}

pub length_zeros : (n : ℕ) → length (zeros n) ≡ n
length_zeros zero = refl
length_zeros (suc n) = ap suc (length_zeros n)

abbrev long_head : (n : ℕ) (g : Form) (gs : List Form) → AllLong n (g ∷ gs) → length g.coefs ≡ n
long_head n g gs h = All-head (λ f. length f.coefs ≡ n) g gs h

pub long_tail : (n : ℕ) (g : Form) (gs : List Form) → AllLong n (g ∷ gs) → AllLong n gs
long_tail n g gs h = All-tail (λ f. length f.coefs ≡ n) g gs h

abbrev next_sum : ℤ → Form → Form → Form
next_sum c g sum = form (plus_times c g.coefs sum.coefs) (sum.constant +ℤ c *ℤ g.constant)

length_plus : (c : ℤ) (gs sums : List ℤ) → length gs ≡ length sums → length (plus_times c gs sums) ≡ length sums
length_plus c [] sums e = refl
length_plus c (g ∷ gs) [] e = absurd (omega arith)
length_plus c (g ∷ gs) (s ∷ sums) e = ap suc (length_plus c gs sums (omega arith))

length_next : (c : ℤ) (g : Form) (gs : List Form) (sum : Form) → AllLong (length sum.coefs) (g ∷ gs) → length (next_sum c g sum).coefs ≡ length sum.coefs
length_next c g gs sum a = length_plus c g.coefs sum.coefs (long_head (length sum.coefs) g gs a)

long_next : (c : ℤ) (g : Form) (gs : List Form) (sum : Form) → AllLong (length sum.coefs) (g ∷ gs) → AllLong (length (next_sum c g sum).coefs) gs
long_next c g gs sum a = subst (λ n. AllLong n gs) (sym (length_next c g gs sum a)) (long_tail (length sum.coefs) g gs a)

pub length_combined : (cs : List ℤ) (gs : List Form) (sum : Form) → AllLong (length sum.coefs) gs → length (combined cs gs sum).coefs ≡ length sum.coefs
length_combined [] gs sum a = refl
length_combined (c ∷ cs) [] sum a = refl
length_combined (c ∷ cs) (g ∷ gs) sum a = length_combined cs gs (next_sum c g sum) (long_next c g gs sum a) ∙ length_next c g gs sum a

-- the numbers of the new form

plus_at : (c : ℤ) (gs sums : List ℤ) (k : ℕ) → length gs ≡ length sums → k < length sums
    → get_or (plus_times c gs sums) k (pos 0) ≡ get_or sums k (pos 0) +ℤ c *ℤ get_or gs k (pos 0)
plus_at c [] sums k e l = absurd (omega arith)
plus_at c (g ∷ gs) [] k e l = absurd (omega arith)
plus_at c (g ∷ gs) (s ∷ sums) zero e l = refl
plus_at c (g ∷ gs) (s ∷ sums) (suc k) e l = plus_at c gs sums k (omega arith) (omega arith)

combined_at : (cs : List ℤ) (gs : List Form) (sum : Form) (k : ℕ) → AllLong (length sum.coefs) gs → k < length sum.coefs
    → get_or (combined cs gs sum).coefs k (pos 0) ≡ get_or sum.coefs k (pos 0) +ℤ dot cs (column k gs)
combined_at [] gs sum k a l = omega (arith, ints)
combined_at (c ∷ cs) [] sum k a l = omega (arith, ints)
combined_at (c ∷ cs) (g ∷ gs) sum k a l =
    let more = combined_at cs gs (next_sum c g sum) k (long_next c g gs sum a) (subst (λ n. k < n) (sym (length_next c g gs sum a)) l) in
    let here = plus_at c g.coefs sum.coefs k (long_head (length sum.coefs) g gs a) l in
    omega (arith, ints, more, here)

combined_constant : (cs : List ℤ) (gs : List Form) (sum : Form) → (combined cs gs sum).constant ≡ sum.constant +ℤ dot cs (constants gs)
combined_constant [] gs sum = omega (arith, ints)
combined_constant (c ∷ cs) [] sum = omega (arith, ints)
combined_constant (c ∷ cs) (g ∷ gs) sum = omega (arith, ints, combined_constant cs gs (next_sum c g sum))

zero_at : (n k : ℕ) → get_or (zeros n) k (pos 0) ≡ pos 0
zero_at zero k = refl
zero_at (suc n) zero = refl
zero_at (suc n) (suc k) = zero_at n k

-- a sum of products goes only as far as both lists
dot_take : (n : ℕ) (cs xs : List ℤ) → length xs ≡ n → dot (take n cs) xs ≡ dot cs xs
dot_take zero cs [] e = dot_nil cs
  where
    dot_nil : (cs : List ℤ) → pos 0 ≡ dot cs []
    dot_nil [] = refl
    dot_nil (c ∷ cs) = refl
dot_take zero cs (x ∷ xs) e = absurd (omega arith)
dot_take (suc n) [] xs e = refl
dot_take (suc n) (c ∷ cs) [] e = refl
dot_take (suc n) (c ∷ cs) (x ∷ xs) e = ap (λ z. (c *ℤ x) +ℤ z) (dot_take n cs xs (omega arith))

-- the front of the substituted form
abbrev pub front : ℕ → List Form → Form → Form
front n gs f = combined (take (length gs) f.coefs) gs (form (zeros n) f.constant)

long_zeros : (n : ℕ) (gs : List Form) → AllLong n gs → AllLong (length (zeros n)) gs
long_zeros n gs a = subst (λ m. AllLong m gs) (sym (length_zeros n)) a

pub length_front : (n : ℕ) (gs : List Form) (f : Form) → AllLong n gs → length (front n gs f).coefs ≡ n
length_front n gs f a = length_combined (take (length gs) f.coefs) gs (form (zeros n) f.constant) (long_zeros n gs a) ∙ length_zeros n

pub coefficient_is : (n : ℕ) (gs : List Form) (f : Form) (k : ℕ) → AllLong n gs → k < n → dot f.coefs (column k gs) ≡ get_or (front n gs f).coefs k (pos 0)
coefficient_is n gs f k a l =
    let at = combined_at (take (length gs) f.coefs) gs (form (zeros n) f.constant) k (long_zeros n gs a) (subst (λ m. k < m) (sym (length_zeros n)) l) in
    let same = dot_take (length gs) f.coefs (column k gs) (length-map gs (λ g. get_or g.coefs k (pos 0))) in
    omega (arith, ints, at, same, zero_at n k)

pub constant_is : (n : ℕ) (gs : List Form) (f : Form) → f.constant +ℤ dot f.coefs (constants gs) ≡ (front n gs f).constant
constant_is n gs f =
    ap (λ z. f.constant +ℤ z) (sym (dot_take (length gs) f.coefs (constants gs) (length-map gs (λ g. g.constant))))
    ∙ sym (combined_constant (take (length gs) f.coefs) gs (form (zeros n) f.constant))

-- its value

dot_plus : (c : ℤ) (gs sums ys : List ℤ) → length gs ≡ length sums → dot (plus_times c gs sums) ys ≡ dot sums ys +ℤ (c *ℤ dot gs ys)
dot_plus c [] sums ys e = omega (arith, ints, times_zero c)
dot_plus c (g ∷ gs) [] ys e = absurd (omega arith)
dot_plus c (g ∷ gs) (s ∷ sums) [] e = omega (arith, ints, times_zero c)
dot_plus c (g ∷ gs) (s ∷ sums) (y ∷ ys) e =
    omega (arith, ints, dot_plus c gs sums ys (omega arith), sum_times s (c *ℤ g) y, times_assoc c g y, times_plus c (g *ℤ y) (dot gs ys))

value_next : (c : ℤ) (g sum : Form) (ys : List ℤ) → length g.coefs ≡ length sum.coefs → value (next_sum c g sum) ys ≡ value sum ys +ℤ (c *ℤ value g ys)
value_next c g sum ys e = omega (arith, ints, dot_plus c g.coefs sum.coefs ys e, times_plus c g.constant (dot g.coefs ys))

value_combined : (cs : List ℤ) (gs : List Form) (sum : Form) (ys : List ℤ) → AllLong (length sum.coefs) gs
    → value (combined cs gs sum) ys ≡ value sum ys +ℤ dot cs (image gs ys)
value_combined [] gs sum ys a = omega (arith, ints)
value_combined (c ∷ cs) [] sum ys a = omega (arith, ints)
value_combined (c ∷ cs) (g ∷ gs) sum ys a =
    let more = value_combined cs gs (next_sum c g sum) ys (long_next c g gs sum a) in
    let here = value_next c g sum ys (long_head (length sum.coefs) g gs a) in
    omega (arith, ints, more, here)

pub length_image : (gs : List Form) (ys : List ℤ) → length (image gs ys) ≡ length gs
length_image gs ys = length-map gs (λ g. value g ys)

value_front : (n : ℕ) (gs : List Form) (f : Form) (ys : List ℤ) → AllLong n gs
    → value (front n gs f) ys ≡ f.constant +ℤ dot (take (length gs) f.coefs) (image gs ys)
value_front n gs f ys a =
    let v = value_combined (take (length gs) f.coefs) gs (form (zeros n) f.constant) ys (long_zeros n gs a) in
    omega (arith, ints, v, dot_zeros n ys)

-- a form's value where its first coefficients and the others are told apart
value_parts : (d : ℕ) (f : Form) (xs hs : List ℤ) → length xs ≡ d → d ≤ length f.coefs
    → value f (xs ++ hs) ≡ f.constant +ℤ (dot (take d f.coefs) xs +ℤ dot (drop d f.coefs) hs)
value_parts d f xs hs e l =
    ap (λ z. f.constant +ℤ z)
    (ap (λ cs. dot cs (xs ++ hs)) (sym (take-append-drop d f.coefs)) ∙ dot_front (take d f.coefs) (drop d f.coefs) xs hs (length-take-le d f.coefs l ∙ sym e))

-- the form with the forms put in has the value of the form at their values
pub value_spread : (n between : ℕ) (gs : List Form) (f : Form) (ys mid hs : List ℤ) → length ys ≡ n → length mid ≡ between → AllLong n gs → length gs ≤ length f.coefs
    → value (form ((front n gs f).coefs ++ (zeros between ++ drop (length gs) f.coefs)) (front n gs f).constant) (ys ++ (mid ++ hs)) ≡ value f (image gs ys ++ hs)
value_spread n between gs f ys mid hs e m a l =
    let first = dot_front (front n gs f).coefs (zeros between ++ drop (length gs) f.coefs) ys (mid ++ hs) (length_front n gs f a ∙ sym e) in
    let second = dot_front (zeros between) (drop (length gs) f.coefs) mid hs (length_zeros between ∙ sym m) in
    let whole = value_parts (length gs) f (image gs ys) hs (length_image gs ys) l in
    omega (arith, ints, first, second, dot_zeros between mid, whole, value_front n gs f ys a)

pub value_kept : (n : ℕ) (f : Form) (ys zs : List ℤ) → length ys ≡ n → value (form (zeros n ++ f.coefs) f.constant) (ys ++ zs) ≡ value f zs
value_kept n f ys zs e = omega (arith, ints, dot_front (zeros n) f.coefs ys zs (length_zeros n ∙ sym e), dot_zeros n ys)
