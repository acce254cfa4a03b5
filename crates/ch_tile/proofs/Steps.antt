-- The steps of the code.
use Rattle.std.proofs.Common.{◌≡◌, refl, sym, ap, ap₂, ◌∙◌, subst, ℕ, zero, suc, ◌+◌, ◌-◌, ◌<◌, ◌≤◌, ◌^◌, ℤ, pos, Bool, true, false, cond, nat_lt, max, List, [], ◌∷◌, ◌++◌, map, length, get_or, take, drop, arith, append_assoc}
use Rattle.std.specs.List.{All}
use Rattle.std.specs.Int.{int_div_euclid}
use Rattle.std.specs.Ordering.{nat_cmp, ord_max}
use Rattle.std.proofs.lemmas.Bool.{ltb-false, ltb-true}
use Rattle.std.proofs.lemmas.Bool.Decides.{nat_tests}
use Rattle.std.proofs.lemmas.List.{get_or_default, map-append, take_all, take_more}
use Rattle.std.proofs.lemmas.List.Elements.{All-append, All-cons, All-nil}
use Rattle.ch_affine.specs.Affine.{IsAtMost, IsSmall, form}
use Rattle.ch_affine.specs.Form.{Form}
use Rattle.ch_affine.specs.Rows.{IsBox}
use Rattle.ch_affine.specs.declared.system.Range.{Range}
use Rattle.ch_space.specs.Built.{unit, units, zeros}
use Rattle.ch_tile.specs.Layout.{tiled_boxes, tiles_of, two_levels, untiled}
use Rattle.ch_tile.specs.Tiled.{greatest}
use Rattle.ch_tile.proofs.Insertions.{ahead, behind}
use Rattle.ch_tile.proofs.TiledForms.{length_two, length_untiled}
use Rattle.ch_tile.proofs.TiledPieces.{all_inserted, tiles_are_box}

-- forms one after another

units_at : (before n k : ℕ) (d : Form) → k < n → get_or (units before n) k d ≡ unit (before + k) (n - 1 - k)
units_at before zero k d l = absurd (omega arith)
units_at before (suc n) zero d l = ap₂ unit (omega arith) (omega arith)
units_at before (suc n) (suc k) d l = units_at (suc before) n k d (omega arith) ∙ ap₂ unit (omega arith) (omega arith)

next_form : (gs forms new : List Form) (k : ℕ) (g : Form) → k < length gs → get_or gs k g ≡ g → forms ≡ take k gs → new ≡ forms ++ g ∷ [] → new ≡ take (k + 1) gs
next_form gs forms new k g l e i n = n ∙ ap (λ t. t ++ g ∷ []) i ∙ sym (take_more gs k g l ∙ ap (λ t. take k gs ++ t ∷ []) e)

pub next_around : (n j k : ℕ) (forms : List Form) (g : Form) (new : List Form) → j < n → k < j → g ≡ unit k (n - k) → forms ≡ take k (untiled n j) → new ≡ forms ++ g ∷ [] → new ≡ take (k + 1) (untiled n j)
next_around n j k forms g new h l e i a =
    let m = length_untiled n j (omega arith) in
    next_form (untiled n j) forms new k g (omega arith) (ahead j k g (units 0 (suc n)) l ∙ units_at 0 (suc n) k g (omega arith) ∙ ap₂ unit (omega arith) (omega arith) ∙ sym e) i a

pub next_within : (n j k : ℕ) (forms : List Form) (g : Form) (new : List Form) → j ≤ k → k < n → g ≡ unit (k + 1) (n - 1 - k) → forms ≡ take k (untiled n j) → new ≡ forms ++ g ∷ [] → new ≡ take (k + 1) (untiled n j)
next_within n j k forms g new h l e i a =
    let m = length_untiled n j (omega arith) in
    next_form (untiled n j) forms new k g (omega arith) (behind j k g (units 0 (suc n)) h ∙ units_at 0 (suc n) (suc k) g (omega arith) ∙ ap₂ unit (omega arith) (omega arith) ∙ sym e) i a

pub all_untiled : (n j k : ℕ) (forms : List Form) → j < n → n ≤ k → forms ≡ take k (untiled n j) → forms ≡ untiled n j
all_untiled n j k forms h l i = let m = length_untiled n j (omega arith) in i ∙ take_all k (untiled n j) (omega arith)

-- one row of a tile

pub two_made : (n j l : ℕ) (a b k : ℤ) (none one two three four five : List ℤ) → none ≡ [] → one ≡ none ++ zeros j → two ≡ one ++ a ∷ [] → three ≡ two ++ zeros (l - j) → four ≡ three ++ b ∷ []
    → five ≡ four ++ zeros (n - 1 - l) → record { coefs = five; constant = k } ≡ two_levels n j l a b k
two_made n j l a b k none one two three four five e f g h i m =
    ap (λ t. form t k)
    (m ∙ ap (λ t. t ++ zeros (n - 1 - l)) (i ∙ ap (λ t. t ++ b ∷ []) (h ∙ ap (λ t. t ++ zeros (l - j)) (g ∙ ap (λ t. t ++ a ∷ []) (f ∙ ap (λ t. t ++ zeros j) e))))
    ∙ append_assoc ((zeros j ++ a ∷ []) ++ zeros (l - j)) (b ∷ []) (zeros (n - 1 - l)) ∙ append_assoc (zeros j ++ a ∷ []) (zeros (l - j)) (b ∷ zeros (n - 1 - l))
    ∙ append_assoc (zeros j) (a ∷ []) (zeros (l - j) ++ b ∷ zeros (n - 1 - l)))

small_zeros : (n : ℕ) → All (IsAtMost (2 ^ 60)) (zeros n)
small_zeros zero = All-nil (IsAtMost (2 ^ 60))
small_zeros (suc n) = All-cons (IsAtMost (2 ^ 60)) (pos 0) (zeros n) (omega arith) (small_zeros n)

pub two_small : (n j l : ℕ) (a b k : ℤ) → n ≤ 10 → j ≤ l → l < n → IsAtMost 4096 a → IsAtMost 4096 b → IsAtMost 4096 k → IsSmall (two_levels n j l a b k)
two_small n j l a b k few h m near tiled constant = record {
  few = let e = length_two n j l a b k h m in omega arith;
  coefs =
      All-append (IsAtMost (2 ^ 60)) (zeros j) (a ∷ (zeros (l - j) ++ b ∷ zeros (n - 1 - l))) (small_zeros j)
      (All-cons (IsAtMost (2 ^ 60)) a (zeros (l - j) ++ b ∷ zeros (n - 1 - l)) (omega arith)
      (All-append (IsAtMost (2 ^ 60)) (zeros (l - j)) (b ∷ zeros (n - 1 - l)) (small_zeros (l - j)) (All-cons (IsAtMost (2 ^ 60)) b (zeros (n - 1 - l)) (omega arith) (small_zeros (n - 1 - l)))));
  constant = omega arith;
}

-- the greatest of some numbers

greatest_by : (b : Bool) (d g : ℕ) → nat_lt d g ≡ b → cond b g d ≡ max d g
greatest_by true d g e = let h = ltb-true d g e in omega arith
greatest_by false d g e = let h = ltb-false d g e in omega arith

greatest_more : (ds : List ℕ) (d : ℕ) → greatest (ds ++ d ∷ []) ≡ max (greatest ds) d
greatest_more [] d = greatest_by (nat_lt d 0) d 0 refl ∙ omega arith
greatest_more (x ∷ xs) d =
    let h = greatest_more xs d in
    greatest_by (nat_lt x (greatest (xs ++ d ∷ []))) x (greatest (xs ++ d ∷ [])) refl ∙ (let a = greatest_by (nat_lt x (greatest xs)) x (greatest xs) refl in omega arith)

larger : (g d : ℕ) → ord_max nat_cmp g d ≡ max g d
larger g d = grind (arith, nat_tests)

pub next_greatest : (f : List ℤ → ℕ) (ps : List (List ℤ)) (k g d r : ℕ) → k < length ps → g ≡ greatest (map f (take k ps)) → d ≡ f (get_or ps k []) → r ≡ ord_max nat_cmp g d
    → r ≡ greatest (map f (take (k + 1) ps))
next_greatest f ps k g d r l e h i =
    i ∙ larger g d ∙ ap₂ max e h ∙ sym (greatest_more (map f (take k ps)) (f (get_or ps k []))) ∙ ap greatest (sym (map-append f (take k ps) (get_or ps k [] ∷ [])) ∙ ap (map f) (sym (take_more ps k [] l)))

-- ranges

pub box_made : (t : ℕ) (r : Range) (low high : ℤ) → 1 ≤ t → IsBox r → low ≡ int_div_euclid r.low (pos t) → high ≡ int_div_euclid r.high (pos t) → IsBox (record { low = low; high = high })
box_made t r low high some b e f = subst (λ z. IsBox (record { low = z; high = high })) (sym e) (subst (λ z. IsBox (record { low = int_div_euclid r.low (pos t); high = z })) (sym f) (tiles_are_box t r (omega arith) b))

pub boxes_made : (j l t : ℕ) (bs before within none one two three : List Range) (c d : Range) (s : Range) → l < length bs → before ≡ take j bs → within ≡ drop j bs → none ≡ [] → one ≡ none ++ before
    → s ≡ tiles_of t (get_or bs l c) → two ≡ one ++ s ∷ [] → three ≡ two ++ within → three ≡ tiled_boxes j l t bs d
boxes_made j l t bs before within none one two three c d s h e f n o i m k =
    let range : s ≡ tiles_of t (get_or bs l d) = i ∙ ap (tiles_of t) (get_or_default bs l c d h) in
    k ∙ ap₂ (λ x y. x ++ y) (m ∙ ap₂ (λ x y. x ++ y ∷ []) (o ∙ ap₂ (λ x y. x ++ y) n e) range) f
    ∙ append_assoc (take j bs) (tiles_of t (get_or bs l d) ∷ []) (drop j bs)

pub boxes_are : (j l t : ℕ) (bs new : List Range) (d : Range) → l < length bs → 1 ≤ t → All IsBox bs → new ≡ tiled_boxes j l t bs d → All IsBox new
boxes_are j l t bs new d h some b e = subst (All IsBox) (sym e) (all_inserted IsBox j (tiles_of t (get_or bs l d)) bs (tiles_are_box t (get_or bs l d) (omega arith) (b l d h)) b)
