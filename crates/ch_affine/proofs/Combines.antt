-- The value of a combination of two forms is the combination of their values; and the steps of its computation.
use Rattle.std.proofs.Common.{take, append_assoc, ◌≤◌, ◌^◌, ◌≤ℤ◌, true, false, cond, Option, Some, None, unsigned_abs, ◌≡◌, ℕ, suc, ◌+◌, ◌<◌, ℤ, pos, ◌+ℤ◌, ◌*ℤ◌, List, [], ◌∷◌, ◌++◌, length, get_or, drop, refl, sym, ap, ◌∙◌, arith}
use Rattle.std.specs.List.{All, find}
use Rattle.std.proofs.lemmas.Int.{ints}
use Rattle.std.proofs.lemmas.List.{drop_more, drop_all, take_at}
use Rattle.std.proofs.lemmas.List.Elements.{All-nil, All-cons, All-same, All-take}
use Rattle.ch_affine.specs.Form.{Form}
use Rattle.ch_affine.specs.Affine.{dot, value, IsAtMost}
use Rattle.ch_affine.specs.Combined.{combined, combined_coefs, is_wide, first_wide}
use Rattle.ch_affine.proofs.Integers.{plus_times, times_plus, times_assoc, times_zero}

pub dot_combined : (a b : ℤ) (cs ds p : List ℤ) → length cs ≡ length ds → dot (combined_coefs a cs b ds) p ≡ a *ℤ dot cs p +ℤ b *ℤ dot ds p
dot_combined a b [] [] p e = omega (arith, ints, times_zero a, times_zero b)
dot_combined a b [] (d ∷ ds) p e = absurd (omega arith)
dot_combined a b (c ∷ cs) [] p e = absurd (omega arith)
dot_combined a b (c ∷ cs) (d ∷ ds) [] e = omega (arith, ints, times_zero a, times_zero b)
dot_combined a b (c ∷ cs) (d ∷ ds) (x ∷ p) e =
    omega (
      arith,
      ints,
      plus_times (a *ℤ c) (b *ℤ d) x,
      times_assoc a c x,
      times_assoc b d x,
      times_plus a (c *ℤ x) (dot cs p),
      times_plus b (d *ℤ x) (dot ds p),
      dot_combined a b cs ds p (omega arith),
    )

pub value_combined : (a b : ℤ) (f g : Form) (p : List ℤ) → length f.coefs ≡ length g.coefs → value (combined a f b g) p ≡ a *ℤ value f p +ℤ b *ℤ value g p
value_combined a b f g p e =
    omega (
      arith,
      ints,
      dot_combined a b f.coefs g.coefs p e,
      times_plus a f.constant (dot f.coefs p),
      times_plus b g.constant (dot g.coefs p),
    )

pub combined_more : (a b : ℤ) (xs ys : List ℤ) (k : ℕ) → k < length xs → length xs ≡ length ys
    → combined_coefs a (drop k xs) b (drop k ys) ≡ (a *ℤ get_or xs k (pos 0) +ℤ b *ℤ get_or ys k (pos 0)) ∷ combined_coefs a (drop (k + 1) xs) b (drop (k + 1) ys)
combined_more a b xs ys k lt e =
    let lt' : k < length ys = omega arith in
    rw (drop_more xs k (pos 0) lt, drop_more ys k (pos 0) lt') refl

pub at_middle : (P : ℤ → Type 0) (before : List ℤ) (x : ℤ) (after : List ℤ) → All P (before ++ x ∷ after) → P x
at_middle P [] x after all = all 0 x (omega arith)
at_middle P (y ∷ before) x after all = at_middle P before x after (λ k d lt. all (suc k) d (omega arith))

-- the search for the first wide number, one coefficient on
module _ (a b limit constant : ℤ) (xs ys : List ℤ) (k : ℕ) (v : ℤ) (whole : Option ℤ) where
  from_here : k < length xs → length xs ≡ length ys → v ≡ a *ℤ get_or xs k (pos 0) +ℤ b *ℤ get_or ys k (pos 0)
      → find (is_wide limit) (combined_coefs a (drop k xs) b (drop k ys) ++ constant ∷ []) ≡ whole
      → cond (is_wide limit v) (Some v) (find (is_wide limit) (combined_coefs a (drop (k + 1) xs) b (drop (k + 1) ys) ++ constant ∷ [])) ≡ whole
  from_here lt e is h = rw is (rw (combined_more a b xs ys k lt e) at h)

  pub wide_here : k < length xs → length xs ≡ length ys → v ≡ a *ℤ get_or xs k (pos 0) +ℤ b *ℤ get_or ys k (pos 0) → is_wide limit v ≡ true
      → find (is_wide limit) (combined_coefs a (drop k xs) b (drop k ys) ++ constant ∷ []) ≡ whole → Some v ≡ whole
  wide_here lt e is t h = rw t at (from_here lt e is h)

  pub wide_later : k < length xs → length xs ≡ length ys → v ≡ a *ℤ get_or xs k (pos 0) +ℤ b *ℤ get_or ys k (pos 0) → is_wide limit v ≡ false
      → find (is_wide limit) (combined_coefs a (drop k xs) b (drop k ys) ++ constant ∷ []) ≡ whole
      → find (is_wide limit) (combined_coefs a (drop (k + 1) xs) b (drop (k + 1) ys) ++ constant ∷ []) ≡ whole
  wide_later lt e is t h = rw t at (from_here lt e is h)

-- and at its end
pub wide_last : (a b limit constant : ℤ) (xs ys : List ℤ) (k : ℕ) (whole : Option ℤ) → length xs ≤ k
    → find (is_wide limit) (combined_coefs a (drop k xs) b (drop k ys) ++ constant ∷ []) ≡ whole → cond (is_wide limit constant) (Some constant) None ≡ whole
wide_last a b limit constant xs ys k whole le h = rw (drop_all k xs le) at h

not_wide : (limit z : ℤ) → limit ≤ℤ pos (2 ^ 60) → is_wide limit z ≡ false → unsigned_abs z ≤ 2 ^ 60
not_wide limit z le f = grind (arith, ints)

none_in : (limit : ℤ) (zs : List ℤ) → limit ≤ℤ pos (2 ^ 60) → find (is_wide limit) zs ≡ None → All (IsAtMost (2 ^ 60)) zs
none_in limit [] le f = All-nil (IsAtMost (2 ^ 60))
none_in limit (z ∷ zs) le f = elim (is_wide limit z) as (λ t. is_wide limit z ≡ t → cond t (Some z) (find (is_wide limit) zs) ≡ None → All (IsAtMost (2 ^ 60)) (z ∷ zs)) [
  | true ↦ λ t g. absurd cc
  | false ↦ λ t g. All-cons (IsAtMost (2 ^ 60)) z zs (not_wide limit z le t) (none_in limit zs le g)
] refl f

-- no number of the form is wide: it is a small one
pub small_coefs : (limit : ℤ) (f : Form) → limit ≤ℤ pos (2 ^ 60) → first_wide limit f ≡ None → All (IsAtMost (2 ^ 60)) f.coefs
small_coefs limit f le none =
    let whole : List ℤ = f.coefs ++ f.constant ∷ [] in
    All-same (IsAtMost (2 ^ 60)) f.coefs (take (length f.coefs) whole) (sym (take_at f.coefs (f.constant ∷ []) (length f.coefs) refl))
    (All-take (IsAtMost (2 ^ 60)) (length f.coefs) whole (none_in limit whole le none))

pub small_constant : (limit : ℤ) (f : Form) → limit ≤ℤ pos (2 ^ 60) → first_wide limit f ≡ None → IsAtMost (2 ^ 60) f.constant
small_constant limit f le none = at_middle (IsAtMost (2 ^ 60)) f.coefs f.constant [] (none_in limit (f.coefs ++ f.constant ∷ []) le none)

pub length_combined : (a b : ℤ) (xs ys : List ℤ) → length xs ≡ length ys → length (combined_coefs a xs b ys) ≡ length xs
length_combined a b [] ys e = refl
length_combined a b (x ∷ xs) [] e = absurd (omega arith)
length_combined a b (x ∷ xs) (y ∷ ys) e = ap suc (length_combined a b xs ys (omega arith))

-- the numbers of a combination, one coefficient on: those before, and those to come
module _ (a b : ℤ) (xs ys : List ℤ) (k : ℕ) (v : ℤ) (before : List ℤ) where
  mixed_next : k < length xs → length xs ≡ length ys → v ≡ a *ℤ get_or xs k (pos 0) +ℤ b *ℤ get_or ys k (pos 0)
      → before ++ combined_coefs a (drop k xs) b (drop k ys) ≡ combined_coefs a xs b ys
      → before ++ v ∷ combined_coefs a (drop (k + 1) xs) b (drop (k + 1) ys) ≡ combined_coefs a xs b ys
  mixed_next lt e is h = rw is (rw (combined_more a b xs ys k lt e) at h)

  pub mixed_here : k < length xs → length xs ≡ length ys → v ≡ a *ℤ get_or xs k (pos 0) +ℤ b *ℤ get_or ys k (pos 0)
      → before ++ combined_coefs a (drop k xs) b (drop k ys) ≡ combined_coefs a xs b ys → All (IsAtMost (2 ^ 60)) (combined_coefs a xs b ys) → IsAtMost (2 ^ 60) v
  mixed_here lt e is h small =
      at_middle (IsAtMost (2 ^ 60)) before v _ (All-same (IsAtMost (2 ^ 60)) _ (combined_coefs a xs b ys) (mixed_next lt e is h) small)

  pub mixed_later : k < length xs → length xs ≡ length ys → v ≡ a *ℤ get_or xs k (pos 0) +ℤ b *ℤ get_or ys k (pos 0)
      → before ++ combined_coefs a (drop k xs) b (drop k ys) ≡ combined_coefs a xs b ys
      → (before ++ v ∷ []) ++ combined_coefs a (drop (k + 1) xs) b (drop (k + 1) ys) ≡ combined_coefs a xs b ys
  mixed_later lt e is h = append_assoc before (v ∷ []) _ ∙ mixed_next lt e is h

pub same_form : (cs ds : List ℤ) (m n : ℤ) → cs ≡ ds → m ≡ n → ◌≡◌ {A = Form} (record { coefs = cs; constant = m }) (record { coefs = ds; constant = n })
same_form cs ds m n e f = λ i. record { coefs = e i; constant = f i }
