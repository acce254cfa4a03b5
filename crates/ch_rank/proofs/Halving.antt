-- The greatest size and how often it can be halved.
use Rattle.std.proofs.Common.{◌≡◌, ℕ, zero, suc, ◌+◌, ◌-◌, ◌*◌, ◌<◌, ◌≤◌, ◌^◌, max, Bool, true, false, cond, nat_le, List, [], ◌∷◌, length, drop, get_or, refl, sym, ap, ◌∙◌, subst, arith, drop-cons, add-one}
use Rattle.std.proofs.Math.Seq.{drop-length}
use Rattle.std.proofs.Math.Nat.{pow-suc}
use Rattle.std.proofs.lemmas.Bool.Decides.{nat_tests}
use Rattle.ch_rank.specs.Bound.{greatest, halvings, halvings_from}

max_swap : (m n r : ℕ) → max m (max n r) ≡ max (max m n) r
max_swap m n r = omega arith

pub greatest_start : (ns : List ℕ) → max 1 (greatest ns) ≡ greatest ns
greatest_start [] = refl
greatest_start (n ∷ ns) = let r = greatest_start ns in omega arith

pub greatest_next : (ns : List ℕ) (i m t : ℕ) → i < length ns → max m (greatest (drop i ns)) ≡ t → max (max m (get_or ns i 0)) (greatest (drop (i + 1) ns)) ≡ t
greatest_next ns i m t h e =
    let r : max m (greatest (get_or ns i 0 ∷ drop (suc i) ns)) ≡ t = let d = drop-cons ns i 0 h in rw d at e in
    rw add-one (sym (max_swap m (get_or ns i 0) (greatest (drop (suc i) ns))) ∙ r)

pub greatest_end : (ns : List ℕ) (i m t : ℕ) → i ≡ length ns → 1 ≤ m → max m (greatest (drop i ns)) ≡ t → m ≡ t
greatest_end ns i m t e some h =
    let n : drop i ns ≡ [] = ap (λ k. drop k ns) e ∙ drop-length ns in
    let r : max m (greatest []) ≡ t = rw n at h in omega (arith, r)

test_le : (n m : ℕ) → n ≤ m → nat_le n m ≡ true
test_le n m h = grind (arith, nat_tests)

test_more : (n m : ℕ) → m < n → nat_le n m ≡ false
test_more n m h = grind (arith, nat_tests)

pub halvings_here : (turns c n : ℕ) → n ≤ 2 ^ c → halvings_from turns c n ≡ c
halvings_here zero c n h = refl
halvings_here (suc turns) c n h = ap (λ (t : Bool). cond t c (halvings_from turns (suc c) n)) (test_le n (2 ^ c) h)

below_power : (c : ℕ) → c < 2 ^ c
below_power zero = omega arith
below_power (suc c) = let r = below_power c in let p = pow-suc 2 c in omega (arith, p)

-- what is left at c
pub record Halving (n c power : ℕ) : Type 0 where
  pub power_is : power ≡ 2 ^ c
  pub few : c ≤ n
  pub rest : halvings_from (n - c) c n ≡ halvings n

pub halving_start : (n : ℕ) → Halving n 0 1
unfolding halvings
halving_start n = record { power_is = refl; few = omega arith; rest = ap (λ k. halvings_from k 0 n) (less_none n) }
  where
    less_none : (n : ℕ) → n - 0 ≡ n
    less_none n = omega arith

pub halving_next : (n c power : ℕ) → Halving n c power → power < n → Halving n (c + 1) (power * 2)
halving_next n c power h lt =
    let low : 2 ^ c < n = omega (arith, h.power_is) in
    let b = below_power c in
    let turns : n - c ≡ suc (n - (c + 1)) = omega arith in
    let one : suc c ≡ c + 1 = omega arith in
    let r : halvings_from (suc (n - (c + 1))) c n ≡ halvings n = subst (λ k. halvings_from k c n ≡ halvings n) turns h.rest in
    let s : halvings_from (n - (c + 1)) (suc c) n ≡ halvings n = subst (λ (t : Bool). cond t c (halvings_from (n - (c + 1)) (suc c) n) ≡ halvings n) (test_more n (2 ^ c) low) r in
    record {
      power_is = let p = pow-suc 2 c in subst (λ k. power * 2 ≡ 2 ^ k) one (ap (λ k. k * 2) h.power_is ∙ sym p);
      few = omega arith;
      rest = subst (λ k. halvings_from (n - (c + 1)) k n ≡ halvings n) one s;
    }

pub halving_end : (n c power : ℕ) → Halving n c power → n ≤ power → c ≡ halvings n
halving_end n c power h le = sym (halvings_here (n - c) c n (omega (arith, h.power_is))) ∙ h.rest

-- the halvings suffice
enough : (turns c n : ℕ) → n ≤ turns + c → n ≤ 2 ^ halvings_from turns c n
enough zero c n h = let b = below_power c in omega arith
enough (suc turns) c n h = at (nat_le n (2 ^ c)) refl (enough turns (suc c) n (omega arith))
  where
    said : (x y : ℕ) → nat_le x y ≡ true → x ≤ y
    said x y e = grind (arith, nat_tests)

    at : (t : Bool) → nat_le n (2 ^ c) ≡ t → n ≤ 2 ^ halvings_from turns (suc c) n → n ≤ 2 ^ cond t c (halvings_from turns (suc c) n)
    at true e r = said n (2 ^ c) e
    at false e r = r

pub halvings_enough : (n : ℕ) → n ≤ 2 ^ halvings n
unfolding halvings
halvings_enough n = enough n 0 n (omega arith)
