-- The extents are enough for what is used with one prefix, and no greater than needed.
use Rattle.std.proofs.Common.{◌≡◌, ℕ, zero, suc, ◌+◌, ◌<◌, ◌≤◌, ℤ, pos, ◌-ℤ◌, unsigned_abs, List, [], ◌∷◌, length, get_or, arith}
use Rattle.ch_timed.specs.Members.{In}
use Rattle.ch_copied.specs.Uses.{IsExtent, Use, extents}
use Rattle.ch_copied.proofs.Attained.{extents_attained}
use Rattle.ch_copied.proofs.Sharing.{are_numbers, numbers_are}
use Rattle.ch_copied.proofs.Wide.{Within, extents_length, extents_within}

within_at : (cs ds : List ℤ) (es : List ℕ) (k : ℕ) → k < length es → Within cs ds es → unsigned_abs (get_or cs k (pos 0) -ℤ get_or ds k (pos 0)) + 1 ≤ get_or es k 0
within_at [] [] [] k l w = absurd (omega arith)
within_at [] [] (e ∷ es) k l w = absurd w
within_at [] (d ∷ ds) es k l w = absurd w
within_at (c ∷ cs) [] es k l w = absurd w
within_at (c ∷ cs) (d ∷ ds) [] k l w = absurd w
within_at (c ∷ cs) (d ∷ ds) (e ∷ es) zero l w = let n = w.0 in omega arith
within_at (c ∷ cs) (d ∷ ds) (e ∷ es) (suc k) l w = within_at cs ds es k (omega arith) w.1

pub exact_length : (dimensions : ℕ) (us : List Use) → ((u : Use) → In u us → length u.cell ≡ dimensions) → (u : Use) → In u us → length (extents us) ≡ dimensions
exact_length = extents_length

pub exact : (dimensions : ℕ) (us : List Use) → ((u : Use) → In u us → length u.cell ≡ dimensions) → (w : Use) → In w us → (k : ℕ) → k < dimensions
    → IsExtent us k (get_or (extents us) k 0)
exact m us long w i k l =
    let size = extents_length m us long w i in
    let a = extents_attained m us long w i k l in record {
      enough = λ u v a b h. within_at u.cell v.cell (extents us) k (omega (arith, size, l)) (extents_within m us long u v a b (are_numbers u.prefix v.prefix h));
      first = a.0;
      second = a.1.0;
      first_is = a.1.1.0;
      second_is = a.1.1.1.0;
      one_prefix = numbers_are a.0.prefix a.1.0.prefix a.1.1.1.1.0;
      needed = a.1.1.1.1.1;
    }

-- and there is one such number alone
pub one_extent : (us : List Use) (k e f : ℕ) → IsExtent us k e → IsExtent us k f → e ≡ f
one_extent us k e f a b =
    let l = a.enough b.first b.second b.first_is b.second_is b.one_prefix in
    let m = b.enough a.first a.second a.first_is a.second_is a.one_prefix in
    let p = a.needed in
    let q = b.needed in
    omega arith
