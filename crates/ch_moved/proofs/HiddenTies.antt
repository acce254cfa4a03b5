-- Rows over new variables and hidden ones.
use Rattle.std.proofs.Common.{◌≡◌, refl, sym, ap, ap₂, ◌∙◌, ℕ, suc, ◌-◌, ◌≤◌, ℤ, pos, negsuc, neg_ℤ, ◌+ℤ◌, ◌-ℤ◌, ◌*ℤ◌, ◌≤ℤ◌, int_le, Bool, true, ◌&&◌, List, [], ◌∷◌, ◌++◌, map, length, arith, append_assoc, length-append}
use Rattle.std.specs.List.{All}
use Rattle.std.proofs.lemmas.Bool.{and_parts}
use Rattle.std.proofs.lemmas.Int.{ints}
use Rattle.std.proofs.lemmas.List.Elements.{All-head, All-tail}
use Rattle.std.proofs.lemmas.List.Folds.{list_all-append}
use Rattle.ch_affine.specs.Form.{Form}
use Rattle.ch_affine.specs.Affine.{value}
use Rattle.ch_affine.specs.Rows.{all_hold}
use Rattle.ch_moved.specs.Changed.{AllLong}
use Rattle.ch_moved.specs.Spread.{opposite, tied, ties, widened}
use Rattle.ch_moved.specs.Substituted.{image, substituted}
use Rattle.ch_moved.proofs.Bounded.{value_opposite}
use Rattle.ch_moved.proofs.Substitutes.{length_zeros, long_tail, value_spread}
use Rattle.ch_poly.proofs.Contradicts.{neg_times}
use Rattle.ch_space.specs.Built.{zeros}
use Rattle.ch_space.proofs.Rowed.{dot_zeros, dot_front, one_times}

pub rows_both : (fs gs : List Form) (p : List ℤ) → all_hold (fs ++ gs) p ≡ (all_hold fs p && all_hold gs p)
rows_both fs gs p = list_all-append (λ f. int_le (pos 0) (value f p)) fs gs

pub rows_parts : (fs gs : List Form) (p : List ℤ) → all_hold (fs ++ gs) p ≡ true → (all_hold fs p ≡ true) × (all_hold gs p ≡ true)
rows_parts fs gs p h = and_parts (all_hold fs p) (all_hold gs p) (sym (rows_both fs gs p) ∙ h)

both_true : (a b : Bool) → a ≡ true → b ≡ true → (a && b) ≡ true
both_true a b e f = rw (e, f) refl

pub rows_joined : (fs gs : List Form) (p : List ℤ) → all_hold fs p ≡ true → all_hold gs p ≡ true → all_hold (fs ++ gs) p ≡ true
rows_joined fs gs p h g = rows_both fs gs p ∙ both_true (all_hold fs p) (all_hold gs p) h g

-- the rows with the forms put in
pub rows_substituted : (n : ℕ) (gs fs : List Form) (ys hs : List ℤ) → length ys ≡ n → AllLong n gs → All (λ f. length gs ≤ length f.coefs) fs
    → all_hold (map (substituted n gs) fs) (ys ++ hs) ≡ all_hold fs (image gs ys ++ hs)
rows_substituted n gs [] ys hs e a w = refl
rows_substituted n gs (f ∷ fs) ys hs e a w =
    ap₂ (λ v t. int_le (pos 0) v && t) (value_spread n 0 gs f ys [] hs e refl a (All-head (λ f. length gs ≤ length f.coefs) f fs w))
    (rows_substituted n gs fs ys hs e a (All-tail (λ f. length gs ≤ length f.coefs) f fs w))

-- rows that do not depend on the last variables
value_widened : (more : ℕ) (f : Form) (ys zs : List ℤ) → length f.coefs ≡ length ys → value (widened more f) (ys ++ zs) ≡ value f ys
value_widened more f ys zs e = omega (arith, ints, dot_front f.coefs (zeros more) ys zs e, dot_zeros more zs)

pub rows_widened : (more : ℕ) (fs : List Form) (ys zs : List ℤ) → AllLong (length ys) fs → all_hold (map (widened more) fs) (ys ++ zs) ≡ all_hold fs ys
rows_widened more [] ys zs a = refl
rows_widened more (f ∷ fs) ys zs a =
    ap₂ (λ v t. int_le (pos 0) v && t) (value_widened more f ys zs (All-head (λ f. length f.coefs ≡ length ys) f fs a))
    (rows_widened more fs ys zs (long_tail (length ys) f fs a))

-- ties

value_tied : (f : Form) (k after : ℕ) (c x : ℤ) (ys us hs : List ℤ) → length f.coefs ≡ length ys → length us ≡ k
    → value (tied f k c after) (ys ++ (us ++ x ∷ hs)) ≡ value f ys +ℤ c *ℤ x
value_tied f k after c x ys us hs e l =
    let first = dot_front f.coefs (zeros k ++ c ∷ zeros after) ys (us ++ x ∷ hs) e in
    let second = dot_front (zeros k) (c ∷ zeros after) us (x ∷ hs) (length_zeros k ∙ sym l) in
    omega (arith, ints, first, second, dot_zeros k us, dot_zeros after hs)

minus_one : (x : ℤ) → negsuc 0 *ℤ x ≡ neg_ℤ x
minus_one x = let e = neg_times (pos 1) x in omega (arith, ints, one_times x)

pub length_opposite : (f : Form) → length (opposite f).coefs ≡ length f.coefs
length_opposite f = Rattle.std.proofs.lemmas.List.length-map f.coefs neg_ℤ

module _ (g : Form) (k after : ℕ) (x : ℤ) (ys us hs : List ℤ) (e : length g.coefs ≡ length ys) (l : length us ≡ k) where
  below : value (tied g k (negsuc 0) after) (ys ++ (us ++ x ∷ hs)) ≡ value g ys -ℤ x
  below = let v = value_tied g k after (negsuc 0) x ys us hs e l in omega (arith, ints, v, minus_one x)

  over : value (tied (opposite g) k (pos 1) after) (ys ++ (us ++ x ∷ hs)) ≡ x -ℤ value g ys
  over = let v = value_tied (opposite g) k after (pos 1) x ys us hs (length_opposite g ∙ e) l in omega (arith, ints, v, one_times x, value_opposite g ys)

same_from : (u v w x : ℤ) → u ≡ v -ℤ x → w ≡ x -ℤ v → int_le (pos 0) u ≡ true → int_le (pos 0) w ≡ true → x ≡ v
same_from u v w x e f a b =
    let l : pos 0 ≤ℤ u = grind (arith, ints) in
    let h : pos 0 ≤ℤ w = grind (arith, ints) in
    omega (arith, ints)

none_left : (u v x : ℤ) → u ≡ v -ℤ x → x ≡ v → int_le (pos 0) u ≡ true
none_left u v x e f = let z : pos 0 ≤ℤ u = omega (arith, ints) in grind (arith, ints)

shifted : (ys us rest : List ℤ) (x : ℤ) → ys ++ (us ++ x ∷ rest) ≡ ys ++ ((us ++ x ∷ []) ++ rest)
shifted ys us rest x = ap (λ t. ys ++ t) (sym (append_assoc us (x ∷ []) rest))

one_longer : (us : List ℤ) (x : ℤ) (k : ℕ) → length us ≡ k → length (us ++ x ∷ []) ≡ suc k
one_longer us x k l = let a = length-append us (x ∷ []) in omega arith

-- the hidden variables that are the forms' values satisfy the ties
pub ties_hold : (k hidden : ℕ) (gs : List Form) (ys us hs : List ℤ) → AllLong (length ys) gs → length us ≡ k
    → all_hold (ties k hidden gs) (ys ++ (us ++ (image gs ys ++ hs))) ≡ true
ties_hold k hidden [] ys us hs a l = refl
ties_hold k hidden (g ∷ gs) ys us hs a l =
    let e = All-head (λ f. length f.coefs ≡ length ys) g gs a in
    let x : ℤ = value g ys in
    let rest : List ℤ = image gs ys ++ hs in
    let more = ties_hold (suc k) hidden gs ys (us ++ x ∷ []) hs (long_tail (length ys) g gs a) (one_longer us x k l) in
    both_true _ _ (none_left _ x x (below g k (hidden - 1 - k) x ys us rest e l) refl)
    (both_true _ _ (none_left _ x x (over g k (hidden - 1 - k) x ys us rest e l) refl) (ap (all_hold (ties (suc k) hidden gs)) (shifted ys us rest x) ∙ more))

-- and only they do
pub ties_held : (k hidden : ℕ) (gs : List Form) (ys us xs hs : List ℤ) → AllLong (length ys) gs → length us ≡ k → length xs ≡ length gs
    → all_hold (ties k hidden gs) (ys ++ (us ++ (xs ++ hs))) ≡ true → xs ≡ image gs ys
ties_held k hidden [] ys us [] hs a l m h = refl
ties_held k hidden [] ys us (x ∷ xs) hs a l m h = absurd (omega arith)
ties_held k hidden (g ∷ gs) ys us [] hs a l m h = absurd (omega arith)
ties_held k hidden (g ∷ gs) ys us (x ∷ xs) hs a l m h =
    let e = All-head (λ f. length f.coefs ≡ length ys) g gs a in
    let rest : List ℤ = xs ++ hs in
    let p : List ℤ = ys ++ (us ++ x ∷ rest) in
    let after : ℕ = hidden - 1 - k in
    let t = and_parts (int_le (pos 0) (value (tied g k (negsuc 0) after) p)) (int_le (pos 0) (value (tied (opposite g) k (pos 1) after) p) && all_hold (ties (suc k) hidden gs) p) h in
    let u = and_parts (int_le (pos 0) (value (tied (opposite g) k (pos 1) after) p)) (all_hold (ties (suc k) hidden gs) p) t.1 in
    let more = ties_held (suc k) hidden gs ys (us ++ x ∷ []) xs hs (long_tail (length ys) g gs a) (one_longer us x k l) (omega arith)
    (ap (all_hold (ties (suc k) hidden gs)) (sym (shifted ys us rest x)) ∙ u.1) in
    ap₂ (λ z zs. z ∷ zs)
    (same_from _ (value g ys) _ x (below g k after x ys us rest e l) (over g k after x ys us rest e l) t.0 u.0) more
