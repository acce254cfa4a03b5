-- Coefficients of stretches of variables, and the value of a row that is made of them.
use Rattle.std.proofs.Common.{◌≡◌, refl, sym, ap, ◌∙◌, subst, ℕ, zero, suc, ◌+◌, ◌-◌, ◌≤◌, ◌^◌, ℤ, pos, ◌+ℤ◌, ◌-ℤ◌, ◌*ℤ◌, neg_ℤ, List, [], ◌∷◌, ◌++◌, length, map, drop, arith, append_assoc, append-nil, length-append}
use Rattle.std.specs.List.{All}
use Rattle.std.proofs.lemmas.Int.{ints}
use Rattle.std.proofs.lemmas.List.{length-map}
use Rattle.std.proofs.lemmas.List.Elements.{All-nil, All-cons, All-append, All-map}
use Rattle.std.proofs.Math.IntN.{zero-*ℤ}
use Rattle.ch_affine.specs.Affine.{IsAtMost, dot, form, value}
use Rattle.ch_affine.specs.Form.{Form}
use Rattle.ch_affine.proofs.Integers.{plus_times}
use Rattle.ch_poly.specs.Boxes.{at}
use Rattle.ch_space.specs.Built.{padded, zeros}
use Rattle.ch_space.proofs.Rowed.{dot_zeros}

dot_none : (cs : List ℤ) → dot cs [] ≡ pos 0
dot_none [] = refl
dot_none (c ∷ cs) = refl

pub dot_append : (cs ds z : List ℤ) → dot (cs ++ ds) z ≡ dot cs z +ℤ dot ds (drop (length cs) z)
dot_append [] ds z = omega (arith, ints)
dot_append (c ∷ cs) ds [] = omega (arith, ints, dot_none ds)
dot_append (c ∷ cs) ds (x ∷ z) = omega (arith, ints, dot_append cs ds z)

length_zeros : (n : ℕ) → length (zeros n) ≡ n
length_zeros zero = refl
length_zeros (suc n) = ap suc (length_zeros n)

pub length_padded : (n : ℕ) (cs : List ℤ) → length cs ≤ n → length (padded n cs) ≡ n
length_padded n cs l = length-append cs (zeros (n - length cs)) ∙ omega (arith, length_zeros (n - length cs))

dot_padded : (n : ℕ) (cs z : List ℤ) → dot (padded n cs) z ≡ dot cs z
dot_padded n cs z = omega (arith, ints, dot_append cs (zeros (n - length cs)) z, dot_zeros (n - length cs) (drop (length cs) z))

zeros_small : (n : ℕ) → All (IsAtMost (2 ^ 60)) (zeros n)
zeros_small zero = All-nil (IsAtMost (2 ^ 60))
zeros_small (suc n) = All-cons (IsAtMost (2 ^ 60)) (pos 0) (zeros n) (omega (arith, ints)) (zeros_small n)

pub padded_small : (n : ℕ) (cs : List ℤ) → All (IsAtMost (2 ^ 60)) cs → All (IsAtMost (2 ^ 60)) (padded n cs)
padded_small n cs s = All-append (IsAtMost (2 ^ 60)) cs (zeros (n - length cs)) s (zeros_small (n - length cs))

pub neg_times : (a x : ℤ) → neg_ℤ a *ℤ x ≡ neg_ℤ (a *ℤ x)
neg_times a x =
    let z : neg_ℤ a +ℤ a ≡ pos 0 = omega (arith, ints) in
    let e : (neg_ℤ a +ℤ a) *ℤ x ≡ pos 0 = ap (λ t. t *ℤ x) z ∙ zero-*ℤ x in
    omega (arith, ints, e, plus_times (neg_ℤ a) a x)

pub dot_neg : (cs xs : List ℤ) → dot (map neg_ℤ cs) xs ≡ neg_ℤ (dot cs xs)
dot_neg [] xs = refl
dot_neg (c ∷ cs) [] = refl
dot_neg (c ∷ cs) (x ∷ xs) = omega (arith, ints, dot_neg cs xs, neg_times c x)

pub negated_small : (cs : List ℤ) → All (IsAtMost (2 ^ 60)) cs → All (IsAtMost (2 ^ 60)) (map neg_ℤ cs)
negated_small cs s = All-map (IsAtMost (2 ^ 60)) neg_ℤ cs (λ k d l. small _ (s k d l))
  where
    small : (c : ℤ) → IsAtMost (2 ^ 60) c → IsAtMost (2 ^ 60) (neg_ℤ c)
    small c h = omega (arith, ints)

-- one coefficient
pub dot_one : (c : ℤ) (start : ℕ) (z : List ℤ) → dot (c ∷ []) (drop start z) ≡ c *ℤ at z start
dot_one c zero [] = sym (times_none c)
  where
    times_none : (c : ℤ) → c *ℤ pos 0 ≡ pos 0
    times_none c = Rattle.ch_affine.proofs.Integers.times_zero c
dot_one c zero (x ∷ z) = omega (arith, ints)
dot_one c (suc start) [] = sym (Rattle.ch_affine.proofs.Integers.times_zero c)
dot_one c (suc start) (x ∷ z) = dot_one c start z

-- coefficients one by one

zeros_more : (k : ℕ) → zeros (k + 1) ≡ zeros k ++ pos 0 ∷ []
zeros_more zero = refl
zeros_more (suc k) = let e : suc k + 1 ≡ suc (k + 1) = omega arith in ap zeros e ∙ ap (λ t. pos 0 ∷ t) (zeros_more k)

pub pad_none : (cs : List ℤ) → cs ≡ padded (length cs) cs
pad_none cs = let e : 0 ≡ length cs - length cs = omega arith in sym (append-nil cs) ∙ ap (λ n. cs ++ zeros n) e

pub pad_more : (first now next : List ℤ) (k : ℕ) → length first ≤ k → now ≡ padded k first → next ≡ now ++ pos 0 ∷ [] → next ≡ padded (k + 1) first
pad_more first now next k l e n =
    let s : k + 1 - length first ≡ k - length first + 1 = omega arith in
    n ∙ ap (λ t. t ++ pos 0 ∷ []) e ∙ append_assoc first (zeros (k - length first)) (pos 0 ∷ [])
    ∙ ap (λ t. first ++ t) (sym (zeros_more (k - length first)) ∙ ap zeros (sym s))

pub pad_end : (first now : List ℤ) (k n : ℕ) → k ≤ n → n ≤ k → now ≡ padded k first → now ≡ padded n first
pad_end first now k n l m e = e ∙ ap (λ j. padded j first) (omega arith)

pub opposite_small : (form : Form) (coefs : List ℤ) (constant : ℤ) → Rattle.ch_affine.specs.Affine.IsSmall form → coefs ≡ map neg_ℤ form.coefs → constant ≡ neg_ℤ form.constant
    → Rattle.ch_affine.specs.Affine.IsSmall (record { coefs = coefs; constant = constant })
opposite_small form coefs constant s e f = record {
  few = (let n = ap length e ∙ length-map form.coefs neg_ℤ in let h = s.few in omega arith);
  coefs = subst (All (IsAtMost (2 ^ 60))) (sym e) (negated_small form.coefs s.coefs);
  constant = (let h = s.constant in omega (arith, ints, f));
}

pub negated_number : (z : ℤ) → pos 0 -ℤ z ≡ neg_ℤ z
negated_number z = omega (arith, ints)

-- what is added to coefficients

module _ (old mid new more : List ℤ) (start : ℕ) (l : length old ≤ start) (m : mid ≡ padded start old) (e : new ≡ mid ++ more) where
  whole : new ≡ padded start old ++ more
  whole = e ∙ ap (λ t. t ++ more) m

  pub added_long : length new ≡ start + length more
  added_long = ap length whole ∙ length-append (padded start old) more ∙ ap (λ n. n + length more) (length_padded start old l)

  pub added_small : All (IsAtMost (2 ^ 60)) old → All (IsAtMost (2 ^ 60)) more → All (IsAtMost (2 ^ 60)) new
  added_small s t = subst (All (IsAtMost (2 ^ 60))) (sym whole) (All-append (IsAtMost (2 ^ 60)) (padded start old) more (padded_small start old s) t)

  pub added_sum : (z : List ℤ) → dot new z ≡ dot old z +ℤ dot more (drop start z)
  added_sum z =
      ap (λ t. dot t z) whole ∙ dot_append (padded start old) more z ∙ ap (λ k. dot (padded start old) z +ℤ dot more (drop k z)) (length_padded start old l)
      ∙ ap (λ t. t +ℤ dot more (drop start z)) (dot_padded start old z)

pub one_small : (c : ℤ) → IsAtMost (2 ^ 60) c → All (IsAtMost (2 ^ 60)) (c ∷ [])
one_small c h = All-cons (IsAtMost (2 ^ 60)) c [] h (All-nil (IsAtMost (2 ^ 60)))

pub row_small : (coefs padding : List ℤ) (m : ℕ) (constant : ℤ) → length coefs ≤ m → m ≤ 4096 → All (IsAtMost (2 ^ 60)) coefs → IsAtMost (2 ^ 60) constant → padding ≡ padded m coefs
    → Rattle.ch_affine.specs.Affine.IsSmall (record { coefs = padding; constant = constant })
row_small coefs padding m constant l few s h e = record {
  few = (let n = ap length e ∙ length_padded m coefs l in omega arith);
  coefs = subst (All (IsAtMost (2 ^ 60))) (sym e) (padded_small m coefs s);
  constant = h;
}

pub row_value : (coefs padding : List ℤ) (m : ℕ) (constant : ℤ) → padding ≡ padded m coefs → (z : List ℤ) → constant +ℤ dot padding z ≡ constant +ℤ dot coefs z
row_value coefs padding m constant e z = ap (λ t. constant +ℤ t) (ap (λ cs. dot cs z) e ∙ dot_padded m coefs z)

pub subtracted_sum : (old mid new more : List ℤ) (start : ℕ) → length old ≤ start → mid ≡ padded start old → new ≡ mid ++ map neg_ℤ more
    → (z : List ℤ) → dot new z ≡ dot old z -ℤ dot more (drop start z)
subtracted_sum old mid new more start l m e z =
    let s = added_sum old mid new (map neg_ℤ more) start l m e z in
    let d = dot_neg more (drop start z) in
    omega (arith, ints)

pub added_one_sum : (old mid new : List ℤ) (c : ℤ) (start : ℕ) → length old ≤ start → mid ≡ padded start old → new ≡ mid ++ c ∷ []
    → (z : List ℤ) → dot new z ≡ dot old z +ℤ (c *ℤ at z start)
added_one_sum old mid new c start l m e z = added_sum old mid new (c ∷ []) start l m e z ∙ ap (λ t. dot old z +ℤ t) (dot_one c start z)
