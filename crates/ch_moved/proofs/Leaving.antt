-- The least piece of a group that doesn't share a level, piece by piece.
use Rattle.std.proofs.Common.{◌≡◌, refl, sym, ap, ◌∙◌, ℕ, suc, ◌+◌, ◌-◌, ◌<◌, ◌≤◌, ℤ, pos, Bool, true, false, not, ◌&&◌, Option, Some, None, List, ◌∷◌, map, arith}
use Rattle.std.specs.List.{filter, range_with_len}
use Rattle.ch_moved.specs.Causes.{cause, first_failing}
use Rattle.ch_nest.specs.declared.cause.Shape.{Shape}

module _ (holds : ℤ → Bool) (here : ℕ → Bool) (n : ℕ) where
  -- the first failing one of those from k on
  abbrev pub from : ℕ → Option Shape
  from k = first_failing 5 holds (map pos (filter here (range_with_len k (n - k))))

  first_from : (k : ℕ) → k < n → from k ≡ first_failing 5 holds (map pos (filter here (k ∷ range_with_len (k + 1) (n - (k + 1)))))
  first_from k l = let e : n - k ≡ suc (n - (k + 1)) = omega arith in ap (λ m. first_failing 5 holds (map pos (filter here (range_with_len k m)))) e

  by : (a b : Bool) (k : ℕ) (rest : List ℕ) (whole : Option Shape) → here k ≡ a → holds (pos k) ≡ b → false ≡ (a && not b) → first_failing 5 holds (map pos (filter here (k ∷ rest))) ≡ whole
      → first_failing 5 holds (map pos (filter here rest)) ≡ whole
  by false b k rest whole ea eb e h = rw ea at h
  by true true k rest whole ea eb e h = let g = rw ea at h in rw eb at g
  by true false k rest whole ea eb e h = absurd cc

  pub next_from : (k : ℕ) (whole : Option Shape) → k < n → false ≡ (here k && not (holds (pos k))) → whole ≡ from k → whole ≡ from (k + 1)
  next_from k whole l e h = sym (by (here k) (holds (pos k)) k (range_with_len (k + 1) (n - (k + 1))) whole refl refl e (sym (h ∙ first_from k l)))

  found_by : (a b : Bool) (k : ℕ) (z : ℤ) (rest : List ℕ) → here k ≡ a → holds (pos k) ≡ b → true ≡ (a && not b) → z ≡ pos k
      → first_failing 5 holds (map pos (filter here (k ∷ rest))) ≡ Some (record { code = 5; number = z })
  found_by true false k z rest ea eb e f = rw ea (rw eb (ap (cause 5) (sym f)))
  found_by true true k z rest ea eb e f = absurd cc
  found_by false b k z rest ea eb e f = absurd cc

  pub found_from : (k : ℕ) (z : ℤ) (whole : Option Shape) → k < n → true ≡ (here k && not (holds (pos k))) → z ≡ pos k → whole ≡ from k → Some (record { code = 5; number = z }) ≡ whole
  found_from k z whole l e f h = sym (h ∙ first_from k l ∙ found_by (here k) (holds (pos k)) k z (range_with_len (k + 1) (n - (k + 1))) refl refl e f)

  pub none_from : (k : ℕ) (whole : Option Shape) → n ≤ k → whole ≡ from k → None ≡ whole
  none_from k whole l h = let e : n - k ≡ 0 = omega arith in sym (h ∙ ap (λ m. first_failing 5 holds (map pos (filter here (range_with_len k m)))) e)
