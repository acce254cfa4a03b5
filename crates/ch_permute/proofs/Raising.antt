-- One loop value greater by a form, and back.
use Rattle.std.proofs.Common.{◌≡◌, refl, ap, ◌∙◌, ℕ, zero, suc, ◌+◌, ◌-◌, ◌<◌, ◌≤◌, ℤ, pos, ◌+ℤ◌, ◌-ℤ◌, ◌*ℤ◌, neg_ℤ, true, List, [], ◌∷◌, ◌++◌, map, length, get_or, set, arith}
use Rattle.std.proofs.lemmas.Int.{ints}
use Rattle.std.proofs.lemmas.Bool.{and_parts, and_from, both_ways}
use Rattle.std.proofs.lemmas.List.{ext_get_or, get_or-set_same, length-set, map-set, set-get_or, set-set}
use Rattle.ch_affine.specs.Affine.{dot, value}
use Rattle.ch_affine.specs.Form.{Form}
use Rattle.ch_affine.proofs.Integers.{plus_times}
use Rattle.ch_affine.specs.Rows.{lies_in}
use Rattle.ch_affine.specs.declared.system.Range.{Range}
use Rattle.ch_moved.specs.Substituted.{image}
use Rattle.ch_permute.specs.Lowered.{less, minus_forms, plus}
use Rattle.ch_permute.specs.Turned.{turned, turned_forms}
use Rattle.ch_space.specs.Built.{zeros}
use Rattle.ch_permute.proofs.Turning.{at_turned, image_turned, length_turned}
use Rattle.ch_moved.proofs.Values.{IsWithin, dot_set_past, dot_unit, le_to}

pub neg_times : (c y : ℤ) → neg_ℤ c *ℤ y ≡ neg_ℤ (c *ℤ y)
neg_times c y =
    let a = plus_times (neg_ℤ c) c y in
    let b : neg_ℤ c +ℤ c ≡ pos 0 = omega (arith, ints) in
    let d = ap (λ z. z *ℤ y) b in
    omega (arith, ints)

-- values that stay in their places
pub still : (ys : List ℤ) → turned (λ j. j) ys ≡ ys
still ys = ext_get_or (pos 0) (turned (λ j. j) ys) ys (length_turned (λ j. j) ys) (λ k l. at_turned (λ j. j) ys k (pos 0) (let e = length_turned (λ j. j) ys in omega arith))

dot_less : (cs : List ℤ) (gap after k : ℕ) (ys : List ℤ) → length cs + gap ≡ k → dot (map neg_ℤ cs ++ (zeros gap ++ pos 1 ∷ zeros after)) ys ≡ get_or ys k (pos 0) -ℤ dot cs ys
dot_less [] gap after k ys e =
    let f : gap ≡ k = omega arith in
    let u = dot_unit gap after ys ∙ ap (λ n. get_or ys n (pos 0)) f in
    omega (arith, ints)
dot_less (c ∷ cs) gap after zero ys e = absurd (omega arith)
dot_less (c ∷ cs) gap after (suc k) [] e = refl
dot_less (c ∷ cs) gap after (suc k) (y ∷ ys) e = omega (arith, ints, dot_less cs gap after k ys (omega arith), neg_times c y)

value_less : (f : Form) (k after : ℕ) (ys : List ℤ) → length f.coefs ≤ k → value (less f (k - length f.coefs) after) ys ≡ get_or ys k (pos 0) -ℤ value f ys
value_less f k after ys l = omega (arith, ints, dot_less f.coefs (k - length f.coefs) after k ys (omega arith))

-- the old values from the new ones
pub image_minus : (f : Form) (k n : ℕ) (ys : List ℤ) → length ys ≡ n → length f.coefs ≤ k → image (minus_forms f k n) ys ≡ set ys k (get_or ys k (pos 0) -ℤ value f ys)
image_minus f k n ys e l =
    map-set (λ g. value g ys) (turned_forms (λ j. j) n) k (less f (k - length f.coefs) (n - 1 - k))
    ∙ ap (λ xs. set xs k (value (less f (k - length f.coefs) (n - 1 - k)) ys)) (image_turned (λ j. j) n ys e ∙ still ys)
    ∙ ap (set ys k) (value_less f k (n - 1 - k) ys l)

value_set : (f : Form) (k : ℕ) (xs : List ℤ) (v : ℤ) → length f.coefs ≤ k → value f (set xs k v) ≡ value f xs
value_set f k xs v l = ap (λ z. f.constant +ℤ z) (dot_set_past f.coefs xs k v l)

away : (a v : ℤ) → (a +ℤ v) -ℤ v ≡ a
away a v = omega (arith, ints)

again : (a v : ℤ) → (a -ℤ v) +ℤ v ≡ a
again a v = omega (arith, ints)

pub plus_there : (f : Form) (k n : ℕ) (xs : List ℤ) → length xs ≡ n → k < n → length f.coefs ≤ k → image (minus_forms f k n) (plus f k xs) ≡ xs
plus_there f k n xs e m l =
    let v = get_or xs k (pos 0) +ℤ value f xs in
    image_minus f k n (plus f k xs) (length-set xs k v ∙ e) l
    ∙ set-set xs k v (get_or (set xs k v) k (pos 0) -ℤ value f (set xs k v))
    ∙ ap (λ z. set xs k (z -ℤ value f (set xs k v))) (get_or-set_same xs k v (pos 0) (omega arith))
    ∙ ap (λ z. set xs k (v -ℤ z)) (value_set f k xs v l)
    ∙ ap (set xs k) (away (get_or xs k (pos 0)) (value f xs))
    ∙ set-get_or xs k (pos 0)

pub plus_back : (f : Form) (k n : ℕ) (ys : List ℤ) → length ys ≡ n → k < n → length f.coefs ≤ k → plus f k (image (minus_forms f k n) ys) ≡ ys
plus_back f k n ys e m l =
    let v = get_or ys k (pos 0) -ℤ value f ys in
    ap (plus f k) (image_minus f k n ys e l)
    ∙ set-set ys k v (get_or (set ys k v) k (pos 0) +ℤ value f (set ys k v))
    ∙ ap (λ z. set ys k (z +ℤ value f (set ys k v))) (get_or-set_same ys k v (pos 0) (omega arith))
    ∙ ap (λ z. set ys k (v +ℤ z)) (value_set f k ys v l)
    ∙ ap (set ys k) (again (get_or ys k (pos 0)) (value f ys))
    ∙ set-get_or ys k (pos 0)

pub lies_set : (boxes : List Range) (xs : List ℤ) (k : ℕ) (r : Range) (v : ℤ) → lies_in boxes xs ≡ true → IsWithin r v → lies_in (set boxes k r) (set xs k v) ≡ true
lies_set [] [] k r v e w = refl
lies_set [] (x ∷ xs) k r v e w = absurd (both_ways _ refl e)
lies_set (b ∷ boxes) [] k r v e w = absurd (both_ways _ refl e)
lies_set (b ∷ boxes) (x ∷ xs) zero r v e w = and_from _ _ (and_from _ _ (le_to r.low v w.least) (le_to v r.high w.most)) (and_parts _ _ e).1
lies_set (b ∷ boxes) (x ∷ xs) (suc k) r v e w = and_from _ _ (and_parts _ _ e).0 (lies_set boxes xs k r v (and_parts _ _ e).1 w)
