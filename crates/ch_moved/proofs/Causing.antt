-- The causes of several numbers, number by number.
use Rattle.std.proofs.Common.{◌≡◌, refl, sym, ap, ◌∙◌, ℕ, ◌+◌, ◌-◌, ◌<◌, ℤ, pos, negsuc, Bool, true, false, List, Option, Some, None, length, drop, get_or, cond, unsigned_abs, arith}
use Rattle.std.proofs.lemmas.List.{at_drop_more}
use Rattle.ch_nest.specs.declared.cause.Shape.{Shape}
use Rattle.ch_moved.specs.Arguments.{depth, is_piece, natural}
use Rattle.ch_moved.specs.Causes.{cause, first_failing}
use Rattle.ch_timed.specs.declared.element.Element.{Element}
use Rattle.ch_timed.specs.Groups.{piece}
use Rattle.ch_timed.specs.Timed.{pieces}

by_test : (b : Bool) (c : Shape) (rest : Option Shape) → cond b rest (Some c) ≡ None → (b ≡ true) × (rest ≡ None)
by_test true c rest e = (refl, e)
by_test false c rest e = cc

-- where no number of a list fails, the first doesn't
pub head_passes : (code : ℕ) (holds : ℤ → Bool) (xs : List ℤ) (i : ℕ) → i < length xs → first_failing code holds (drop i xs) ≡ None
    → (holds (get_or xs i (pos 0)) ≡ true) × (first_failing code holds (drop (i + 1) xs) ≡ None)
head_passes code holds xs i l e = by_test (holds (get_or xs i (pos 0))) _ _ (sym (at_drop_more (first_failing code holds) xs i (pos 0) l) ∙ e)

pub first_fails : (code : ℕ) (holds : ℤ → Bool) (xs : List ℤ) (i : ℕ) (x : ℤ) → i < length xs → x ≡ get_or xs i (pos 0) → holds x ≡ false
    → first_failing code holds xs ≡ first_failing code holds (drop i xs) → Some (record { code = code; number = x }) ≡ first_failing code holds xs
first_fails code holds xs i x l e f r =
    let t : holds (get_or xs i (pos 0)) ≡ false = ap holds (sym e) ∙ f in
    sym (r ∙ at_drop_more (first_failing code holds) xs i (pos 0) l ∙ rw t (ap (λ z. cause code z) (sym e)))

-- the number of a piece
pub piece_number : (list : List Element) (z : ℤ) → is_piece list z ≡ true → (unsigned_abs z < length (pieces list)) × (natural z ≡ unsigned_abs z) × (z ≡ pos (unsigned_abs z))
piece_number list (pos n) e = (grind arith, refl, refl)
piece_number list (negsuc n) e = cc

pub depth_is : (list : List Element) (z : ℤ) (p : List ℤ) (n : ℕ) → is_piece list z ≡ true → p ≡ piece list (unsigned_abs z) → n ≡ length p - 1 → n ≡ depth list z
depth_is list z p n e s d = d ∙ ap (λ t. length t - 1) (s ∙ ap (piece list) (sym (piece_number list z e).1))
