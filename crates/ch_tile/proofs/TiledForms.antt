-- The forms that leave the new level out, and the rows of tiles: how long they are and how large.
use Rattle.std.proofs.Common.{◌≡◌, refl, sym, ap, ap₂, ◌∙◌, subst, ℕ, zero, suc, ◌+◌, ◌-◌, ◌*◌, ◌<◌, ◌≤◌, ◌^◌, ℤ, pos, negsuc, neg_ℤ, ◌+ℤ◌, ◌-ℤ◌, ◌*ℤ◌, List, [], ◌∷◌, ◌++◌, length, take, drop, get_or, arith, length-append}
use Rattle.std.specs.List.{All}
use Rattle.std.proofs.lemmas.Int.{ints}
use Rattle.std.proofs.lemmas.List.Elements.{All-append, All-cons, All-drop, All-head, All-nil, All-tail, All-take}
use Rattle.ch_affine.specs.Affine.{IsAtMost, IsSmall, dot}
use Rattle.ch_affine.specs.Form.{Form}
use Rattle.ch_affine.proofs.Integers.{times_zero}
use Rattle.ch_moved.specs.Changed.{AllLong}
use Rattle.ch_moved.specs.Spread.{column, constants}
use Rattle.ch_moved.specs.Substituted.{substituted}
use Rattle.ch_moved.proofs.Limits.{at_most_at, far_more, length_substituted, narrow_by, narrow_small}
use Rattle.ch_moved.proofs.UnitForms.{length_unit}
use Rattle.ch_moved.proofs.Values.{dot_nothing, dot_pick, length_zeros, unit_other, unit_same}
use Rattle.ch_space.specs.Built.{unit, units, zeros}
use Rattle.ch_space.specs.Keeps.{IsNarrow, farthest, most_commands, most_weight}
use Rattle.ch_tile.specs.Layout.{removed, tile_rows, two_levels, untiled}
use Rattle.ch_tile.proofs.Insertions.{length_removed, map_removed}

-- all forms of a list but one

pub all_removed : {A : Type 0} (P : A → Type 0) (k : ℕ) (xs : List A) → All P xs → All P (removed k xs)
all_removed P k xs h = All-append P (take k xs) (drop (suc k) xs) (All-take P k xs h) (All-drop P (suc k) xs h)

pub length_units : (before n : ℕ) → length (units before n) ≡ n
length_units before zero = refl
length_units before (suc n) = ap suc (length_units (suc before) n)

long_units : (before n all : ℕ) → before + n ≡ all → AllLong all (units before n)
long_units before zero all e = All-nil (λ f. length f.coefs ≡ all)
long_units before (suc n) all e =
    All-cons (λ f. length f.coefs ≡ all) (unit before n) (units (suc before) n) (let u = length_unit before n in omega arith) (long_units (suc before) n all (omega arith))

near_units : (before n : ℕ) → All (λ f. IsAtMost (2 ^ 59) f.constant) (units before n)
near_units before zero = All-nil (λ f. IsAtMost (2 ^ 59) f.constant)
near_units before (suc n) = All-cons (λ f. IsAtMost (2 ^ 59) f.constant) (unit before n) (units (suc before) n) (omega arith) (near_units (suc before) n)

pub length_untiled : (n j : ℕ) → j ≤ n → length (untiled n j) ≡ n
length_untiled n j l = let u = length_units 0 (suc n) in let r = length_removed j (units 0 (suc n)) (omega arith) in omega arith

pub long_untiled : (n j : ℕ) → AllLong (suc n) (untiled n j)
long_untiled n j = all_removed (λ f. length f.coefs ≡ suc n) j (units 0 (suc n)) (long_units 0 (suc n) (suc n) (omega arith))

pub near_untiled : (n j : ℕ) → All (λ f. IsAtMost (2 ^ 59) f.constant) (untiled n j)
near_untiled n j = all_removed (λ f. IsAtMost (2 ^ 59) f.constant) j (units 0 (suc n)) (near_units 0 (suc n))

-- their columns

column_before : (k before n : ℕ) → k < before → column k (units before n) ≡ zeros n
column_before k before zero l = refl
column_before k before (suc n) l =
    ap₂ (λ x xs. x ∷ xs) (unit_other before n k (λ e. absurd (omega arith))) (column_before k (suc before) n (omega arith))

column_at : (i before n : ℕ) → i < n → column (before + i) (units before n) ≡ zeros i ++ pos 1 ∷ zeros (n - 1 - i)
column_at i before zero l = absurd (omega arith)
column_at zero before (suc n) l =
    ap₂ (λ x xs. x ∷ xs) (unit_same before n (before + zero) (omega arith))
    (column_before (before + zero) (suc before) n (omega arith) ∙ (let e : n ≡ suc n - 1 - zero = omega arith in ap zeros e))
column_at (suc i) before (suc n) l =
    ap₂ (λ x xs. x ∷ xs) (unit_other before n (before + suc i) (λ e. absurd (omega arith)))
    ((let e : before + suc i ≡ suc before + i = omega arith in ap (λ k. column k (units (suc before) n)) e) ∙ column_at i (suc before) n (omega arith)
    ∙ (let e : n - 1 - i ≡ suc n - 1 - suc i = omega arith in ap (λ m. zeros i ++ pos 1 ∷ zeros m) e))

constants_units : (before n : ℕ) → constants (units before n) ≡ zeros n
constants_units before zero = refl
constants_units before (suc n) = ap (λ xs. pos 0 ∷ xs) (constants_units (suc before) n)

-- the sums that they give

dot_fewer : (j n : ℕ) (cs : List ℤ) → dot cs (removed j (zeros n)) ≡ pos 0
dot_fewer zero zero cs = dot_nothing cs 0
dot_fewer (suc j) zero cs = dot_nothing cs 0
dot_fewer zero (suc n) cs = dot_nothing cs n
dot_fewer (suc j) (suc n) [] = refl
dot_fewer (suc j) (suc n) (c ∷ cs) = omega (arith, ints, dot_fewer j n cs, times_zero c)

times_one : (c : ℤ) → c *ℤ pos 1 ≡ c
times_one c = omega (arith, ints)

at_most_dot : (w j before after : ℕ) (cs : List ℤ) → All (IsAtMost w) cs → IsAtMost w (dot cs (removed j (zeros before ++ pos 1 ∷ zeros after)))
at_most_dot w zero zero after cs h = subst (IsAtMost w) (sym (dot_nothing cs after)) (omega arith)
at_most_dot w zero (suc before) after cs h = subst (IsAtMost w) (sym (dot_pick cs before after)) (at_most_at w cs before h)
at_most_dot w (suc j) before after [] h = omega arith
at_most_dot w (suc j) zero after (c ∷ cs) h =
    let e : c *ℤ pos 1 +ℤ dot cs (removed j (zeros after)) ≡ c = omega (arith, ints, dot_fewer j after cs, times_one c) in
    subst (IsAtMost w) (sym e) (All-head (IsAtMost w) c cs h)
at_most_dot w (suc j) (suc before) after (c ∷ cs) h =
    let e : c *ℤ pos 0 +ℤ dot cs (removed j (zeros before ++ pos 1 ∷ zeros after)) ≡ dot cs (removed j (zeros before ++ pos 1 ∷ zeros after)) = omega (arith, ints, times_zero c) in
    subst (IsAtMost w) (sym e) (at_most_dot w j before after cs (All-tail (IsAtMost w) c cs h))

column_bounded : (w n j k : ℕ) (cs : List ℤ) → k < suc n → All (IsAtMost w) cs → IsAtMost w (dot cs (column k (untiled n j)))
column_bounded w n j k cs l h =
    let e = map_removed (λ (g : Form). get_or g.coefs k (pos 0)) j (units 0 (suc n)) in
    let i : k ≡ 0 + k = omega arith in
    let c = ap (λ m. column m (units 0 (suc n))) i ∙ column_at k 0 (suc n) l in
    subst (λ xs. IsAtMost w (dot cs xs)) (sym (e ∙ ap (removed j) c)) (at_most_dot w j k (suc n - 1 - k) cs h)

no_constant : (n j : ℕ) (cs : List ℤ) → dot cs (constants (untiled n j)) ≡ pos 0
no_constant n j cs =
    ap (dot cs) (map_removed (λ (g : Form). g.constant) j (units 0 (suc n)) ∙ ap (removed j) (constants_units 0 (suc n))) ∙ dot_fewer j (suc n) cs

-- one command more

pub far_on : (w c : ℕ) → 1 ≤ w → farthest w c ≤ farthest w (c + 1)
far_on w c s = let e : w * 1 ≡ w = omega arith in subst (λ v. farthest w c ≤ farthest v (c + 1)) e (far_more w c 1 s (omega arith))

-- the forms of iterators stay narrow

pub untiled_narrow : (n j w c : ℕ) (f : Form) → j ≤ n → 1 ≤ w → length f.coefs ≡ n → IsNarrow w c f → IsNarrow w (c + 1) (substituted (suc n) (untiled n j) f)
untiled_narrow n j w c f l s e narrow =
    let far = far_on w c s in
    narrow_by (suc n) (untiled n j) f w (c + 1) (long_untiled n j) (e ∙ sym (length_untiled n j l)) (λ k h. column_bounded w n j k f.coefs h narrow.coefs)
    (let z = no_constant n j f.coefs in
    let t : f.constant +ℤ dot f.coefs (constants (untiled n j)) ≡ f.constant = omega (arith, ints) in
    subst (IsAtMost (farthest w (c + 1))) (sym t) (let b = narrow.constant in omega arith))

pub untiled_small : (n j w c : ℕ) (f : Form) → j ≤ n → n < 10 → 1 ≤ w → w ≤ most_weight → c < most_commands → length f.coefs ≡ n → IsNarrow w c f → IsSmall (substituted (suc n) (untiled n j) f)
untiled_small n j w c f l few s light less e narrow =
    narrow_small (suc n) (substituted (suc n) (untiled n j) f) w (c + 1) (length_substituted (suc n) (untiled n j) f (long_untiled n j) (e ∙ sym (length_untiled n j l))) (omega arith) light (omega arith)
    (untiled_narrow n j w c f l s e narrow)

-- rows

pub length_two : (n j l : ℕ) (a b k : ℤ) → j ≤ l → l < n → length (two_levels n j l a b k).coefs ≡ suc n
length_two n j l a b k h m =
    let x = length-append (zeros j) (a ∷ (zeros (l - j) ++ b ∷ zeros (n - 1 - l))) in
    let y = length-append (zeros (l - j)) (b ∷ zeros (n - 1 - l)) in
    let u = length_zeros j in
    let v = length_zeros (l - j) in
    let w = length_zeros (n - 1 - l) in
    omega arith

pub long_rows : (n j l t : ℕ) → j ≤ l → l < n → AllLong (suc n) (tile_rows n j l t)
long_rows n j l t h m =
    let P = λ (f : Form). length f.coefs ≡ suc n in
    All-cons P (two_levels n j l (neg_ℤ (pos t)) (pos 1) (pos 0)) (two_levels n j l (pos t) (negsuc 0) (pos t -ℤ pos 1) ∷ []) (length_two n j l (neg_ℤ (pos t)) (pos 1) (pos 0) h m)
    (All-cons P (two_levels n j l (pos t) (negsuc 0) (pos t -ℤ pos 1)) [] (length_two n j l (pos t) (negsuc 0) (pos t -ℤ pos 1) h m) (All-nil P))
