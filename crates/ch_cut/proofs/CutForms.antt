-- Values of the forms that cut a loop.
use Rattle.std.proofs.Common.{◌≡◌, refl, sym, ap, subst, ℕ, zero, suc, ◌-◌, ◌≤◌, ◌^◌, ℤ, pos, negsuc, neg_ℤ, ◌+ℤ◌, ◌-ℤ◌, ◌*ℤ◌, int_le, not, List, [], ◌∷◌, ◌++◌, length, map, get_or, arith, length-append}
use Rattle.std.specs.List.{All}
use Rattle.std.proofs.lemmas.List.{length-map}
use Rattle.std.proofs.lemmas.List.Elements.{All-append, All-cons, All-map, All-nil}
use Rattle.ch_moved.proofs.Values.{length_zeros}
use Rattle.std.proofs.lemmas.Int.{ints}
use Rattle.ch_affine.specs.Affine.{dot}
use Rattle.ch_affine.specs.Form.{Form}
use Rattle.ch_affine.proofs.Integers.{plus_times}
use Rattle.ch_affine.specs.Affine.{IsAtMost, IsSmall}
use Rattle.ch_cut.specs.Forms.{IsModest, failing, holds_at}
use Rattle.ch_moved.specs.Spread.{widened}
use Rattle.ch_space.specs.Built.{zeros}
use Rattle.ch_space.proofs.Rowed.{dot_zeros}

dot_wider : (cs xs : List ℤ) (n : ℕ) → dot (cs ++ zeros n) xs ≡ dot cs xs
dot_wider [] xs n = dot_zeros n xs
dot_wider (c ∷ cs) [] n = refl
dot_wider (c ∷ cs) (x ∷ xs) n = ap (λ z. c *ℤ x +ℤ z) (dot_wider cs xs n)

pub holds_wider : (f : Form) (n : ℕ) (xs : List ℤ) → holds_at (widened n f) xs ≡ holds_at f xs
holds_wider f n xs = ap (λ z. int_le (pos 0) (f.constant +ℤ z)) (dot_wider f.coefs xs n)

times_opposite : (c x : ℤ) → neg_ℤ c *ℤ x ≡ neg_ℤ (c *ℤ x)
times_opposite c x = let e : c +ℤ neg_ℤ c ≡ pos 0 = omega (arith, ints) in let f = plus_times c (neg_ℤ c) x in let g = ap (λ z. z *ℤ x) e in omega (arith, ints)

dot_opposite : (cs xs : List ℤ) → dot (map neg_ℤ cs) xs ≡ neg_ℤ (dot cs xs)
dot_opposite [] xs = refl
dot_opposite (c ∷ cs) [] = refl
dot_opposite (c ∷ cs) (x ∷ xs) = omega (arith, ints, dot_opposite cs xs, times_opposite c x)

opposite_holds : (k d e : ℤ) → e ≡ neg_ℤ d → int_le (pos 0) ((neg_ℤ k -ℤ pos 1) +ℤ e) ≡ not (int_le (pos 0) (k +ℤ d))
opposite_holds k d e h = grind (arith, ints)

pub failing_holds : (f : Form) (xs : List ℤ) → holds_at (failing f) xs ≡ not (holds_at f xs)
failing_holds f xs = opposite_holds f.constant (dot f.coefs xs) (dot (map neg_ℤ f.coefs) xs) (dot_opposite f.coefs xs)

-- How large the numbers of the forms are.

small_zeros : (n : ℕ) → All (IsAtMost (2 ^ 60)) (zeros n)
small_zeros zero = All-nil (IsAtMost (2 ^ 60))
small_zeros (suc n) = All-cons (IsAtMost (2 ^ 60)) (pos 0) (zeros n) (omega arith) (small_zeros n)

pub failing_small : (f : Form) (made : List ℤ) (number : ℤ) → IsSmall f → IsModest f → made ≡ map neg_ℤ f.coefs → number ≡ neg_ℤ f.constant -ℤ pos 1
    → IsSmall (record { coefs = made; constant = number })
failing_small f made number small modest e n =
    let k = modest.constant in
    subst (λ z. IsSmall (record { coefs = z; constant = number })) (sym e) (record {
      few = let l = length-map f.coefs neg_ℤ in let s = small.few in omega arith;
      coefs = All-map (IsAtMost (2 ^ 60)) neg_ℤ f.coefs (λ i d l. let m = small.coefs i d l in opposite_small (get_or f.coefs i d) m);
      constant = omega (arith, ints);
    })
  where
    opposite_small : (z : ℤ) → IsAtMost (2 ^ 60) z → IsAtMost (2 ^ 60) (neg_ℤ z)
    opposite_small z h = grind (arith, ints)

pub wider_small : (f : Form) (made : List ℤ) (levels : ℕ) → IsSmall f → length f.coefs ≤ levels → levels ≤ 10 → made ≡ f.coefs ++ zeros (levels - length f.coefs)
    → IsSmall (record { coefs = made; constant = f.constant })
wider_small f made levels small short few e =
    subst (λ z. IsSmall (record { coefs = z; constant = f.constant })) (sym e) (record {
      few = let a = length-append f.coefs (zeros (levels - length f.coefs)) in let b = length_zeros (levels - length f.coefs) in omega arith;
      coefs = All-append (IsAtMost (2 ^ 60)) f.coefs (zeros (levels - length f.coefs)) small.coefs (small_zeros (levels - length f.coefs));
      constant = small.constant;
    })

pub at_most_small : (level : ℕ) (made : List ℤ) (number : ℤ) → level ≤ 10 → IsAtMost (2 ^ 59) number → made ≡ zeros (level - 1) ++ negsuc 0 ∷ []
    → IsSmall (record { coefs = made; constant = number })
at_most_small level made number few near e =
    subst (λ z. IsSmall (record { coefs = z; constant = number })) (sym e) (record {
      few = let a = length-append (zeros (level - 1)) (negsuc 0 ∷ []) in let b = length_zeros (level - 1) in omega arith;
      coefs = All-append (IsAtMost (2 ^ 60)) (zeros (level - 1)) (negsuc 0 ∷ []) (small_zeros (level - 1)) (All-cons (IsAtMost (2 ^ 60)) (negsuc 0) [] (omega arith) (All-nil (IsAtMost (2 ^ 60))));
      constant = omega arith;
    })
