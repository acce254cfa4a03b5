-- What holds where no cause forbids a command.
use Rattle.std.proofs.Common.{◌≡◌, ℕ, ℤ, unsigned_abs, true, None, List, [], ◌∷◌, leb}
use Rattle.std.specs.List.{All}
use Rattle.ch_affine.specs.Affine.{IsAtMost}
use Rattle.ch_moved.specs.Arguments.{is_piece}
use Rattle.ch_moved.specs.Causes.{first_failing, named_twice, no_level, no_piece}
use Rattle.ch_permute.specs.Permuted.{is_permutation, moving, no_permutation, permute_cause, too_long, unshared_moving}
use Rattle.ch_permute.specs.Raised.{skew_cause, wrong_count}
use Rattle.ch_timed.specs.declared.element.Element.{Element}
use Rattle.ch_moved.proofs.Allowed.{all_small, none_first, test_of}

pub record MayPermute (list : List Element) (s : ℤ) (order : List ℤ) : Type 0 where
  pub piece : is_piece list s ≡ true
  pub permutation : is_permutation order ≡ true
  pub shared : unshared_moving list s (moving 1 order) ≡ None

pub may_permute : (list : List Element) (s : ℤ) (order : List ℤ) → permute_cause list s order ≡ None → MayPermute list s order
may_permute list s order e =
    let a = none_first (no_piece list (s ∷ [])) _ e in
    let b = none_first (too_long list s order) _ a.1 in
    let c = none_first (no_permutation order) _ b.1 in
    let d = none_first (unshared_moving list s (moving 1 order)) [] c.1 in
    record { piece = test_of (is_piece list s) _ a.0; permutation = test_of (is_permutation order) _ c.0; shared = d.0 }

pub amounts_small : (list : List Element) (weight : ℕ) (numbers : List ℤ) (level : ℤ) (amounts : List ℤ) → skew_cause list weight numbers level amounts ≡ None → All (IsAtMost 64) amounts
amounts_small list weight numbers level amounts e =
    let a = none_first (no_piece list numbers) _ e in
    let b = none_first (no_level list numbers level) _ a.1 in
    let c = none_first (named_twice numbers) _ b.1 in
    let d = none_first (wrong_count level amounts) _ c.1 in
    let f = none_first (first_failing 4 (λ z. leb (unsigned_abs z) 64) amounts) _ d.1 in
    all_small 64 amounts f.0
