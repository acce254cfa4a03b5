-- The rows and boxes of loops and conditions hold exactly at the values that the loops take, with the hidden values of their steps.
use Rattle.std.proofs.Common.{◌≡◌, refl, sym, ap, ap₂, ◌∙◌, subst, ℕ, zero, suc, ◌+◌, ◌-◌, ◌*◌, ◌<◌, ◌≤◌, ◌↔◌, ℤ, pos, negsuc, ◌+ℤ◌, ◌-ℤ◌, ◌*ℤ◌, neg_ℤ, ◌≤ℤ◌, unsigned_abs, Bool, true, false, ◌&&◌, ◌||◌, if◌then◌else◌, int_le, nat_eq, nat_le, List, [], ◌∷◌, ◌++◌, length, map, arith, append_assoc, append-nil, length-append}
use Rattle.std.specs.Bool.{IsTrue}
use Rattle.std.specs.List.{list_all}
use Rattle.std.proofs.lemmas.Bool.{and_parts, eqb-true, leb-true, or_cases}
use Rattle.std.proofs.lemmas.Int.{ints, clamps}
use Rattle.std.proofs.lemmas.List.Folds.{list_all-append}
use Rattle.std.proofs.Math.IntN.{*ℤ_comm, zero-*ℤ}
use Rattle.std.proofs.Math.Nat.{le-div_iff_mul-le}
use Rattle.ch_affine.specs.Affine.{dot, value}
use Rattle.ch_affine.specs.Form.{Form}
use Rattle.ch_affine.specs.Rows.{lies_in, all_hold}
use Rattle.ch_affine.specs.declared.system.Range.{Range}
use Rattle.ch_affine.proofs.Integers.{plus_times, times_zero}
use Rattle.ch_nest.specs.Limits.{most_forms}
use Rattle.ch_nest.specs.Run.{is_met, loop_values, low_of, high_of, values_at}
use Rattle.ch_nest.specs.Shape.{are_few, box_of, coefs_fit, constant_fits, head_fits, highs_fit, lows_fit, row_fits, step_fits}
use Rattle.ch_nest.proofs.Corners.{lies_first, lies_length, lies_push, low_above, high_below}
use Rattle.ch_nest.proofs.Fits.{head_lows, head_highs, head_step}
use Rattle.ch_nest.proofs.Turns.{form_coefs}
use Rattle.ch_space.specs.declared.level.Around.{Around}
use Rattle.ch_space.specs.declared.level.Around.TheVariants.{Inside, Where}
use Rattle.ch_space.specs.declared.level.Level.{Level}
use Rattle.ch_space.specs.Built.{zeros, padded, low_row, high_row, hidden_boxes, hidden_range, padded_row, rows_of, boxes_from, step_rows, steps_high, steps_low}
use Rattle.ch_space.specs.Fitting.{LevelsFit}
use Rattle.ch_space.specs.Statements.{loops}
use Rattle.ch_space.proofs.Builds.{length_padded}
use Rattle.ch_space.proofs.Turnings.{Between, length_between}
use Rattle.ch_timed.specs.Members.{In}
use Rattle.ch_timed.proofs.Listings.{in_values, values_in}

pub dot_zeros : (n : ℕ) (xs : List ℤ) → dot (zeros n) xs ≡ pos 0
dot_zeros zero xs = refl
dot_zeros (suc n) [] = refl
dot_zeros (suc n) (x ∷ xs) = omega (arith, ints, dot_zeros n xs, zero-*ℤ x)

pub dot_front : (cs ds pre xs : List ℤ) → length cs ≡ length pre → dot (cs ++ ds) (pre ++ xs) ≡ dot cs pre +ℤ dot ds xs
dot_front [] ds [] xs e = omega (arith, ints)
dot_front [] ds (p ∷ pre) xs e = absurd (omega arith)
dot_front (c ∷ cs) ds [] xs e = absurd (omega arith)
dot_front (c ∷ cs) ds (p ∷ pre) xs e = omega (arith, ints, dot_front cs ds pre xs (omega arith))

neg_times : (a x : ℤ) → neg_ℤ a *ℤ x ≡ neg_ℤ (a *ℤ x)
neg_times a x =
    let z : neg_ℤ a +ℤ a ≡ pos 0 = omega (arith, ints) in
    let e : (neg_ℤ a +ℤ a) *ℤ x ≡ pos 0 = ap (λ t. t *ℤ x) z ∙ zero-*ℤ x in
    omega (arith, ints, e, plus_times (neg_ℤ a) a x)

dot_neg : (cs xs : List ℤ) → dot (map neg_ℤ cs) xs ≡ neg_ℤ (dot cs xs)
dot_neg [] xs = refl
dot_neg (c ∷ cs) [] = refl
dot_neg (c ∷ cs) (x ∷ xs) = omega (arith, ints, dot_neg cs xs, neg_times c x)

pub one_times : (x : ℤ) → pos 1 *ℤ x ≡ x
one_times x = let e : (pos 1 +ℤ pos 0) *ℤ x ≡ pos 1 *ℤ x +ℤ pos 0 *ℤ x = plus_times (pos 1) (pos 0) x in omega (arith, ints)

minus_times : (x : ℤ) → negsuc 0 *ℤ x ≡ neg_ℤ x
minus_times x = neg_times (pos 1) x ∙ ap neg_ℤ (one_times x)

-- a row over the values before, one more, and those after it
dot_row : (n : ℕ) (cs pre post : List ℤ) (c x : ℤ) → length cs ≡ length pre → dot (padded n (cs ++ c ∷ [])) (pre ++ x ∷ post) ≡ dot cs pre +ℤ (c *ℤ x)
dot_row n cs pre post c x e =
    let l : length (cs ++ c ∷ []) ≡ length (pre ++ x ∷ []) = length-append cs (c ∷ []) ∙ ap (λ n. n + 1) e ∙ sym (length-append pre (x ∷ [])) in
    let a = ap (dot (padded n (cs ++ c ∷ []))) (sym (append_assoc pre (x ∷ []) post)) in
    let b = dot_front (cs ++ c ∷ []) (zeros (n - length (cs ++ c ∷ []))) (pre ++ x ∷ []) post l in
    let d = dot_front cs (c ∷ []) pre (x ∷ []) e in
    let z = dot_zeros (n - length (cs ++ c ∷ [])) post in
    a ∙ b ∙ omega (arith, ints, d, z)

length_negated : (cs : List ℤ) → length (map neg_ℤ cs) ≡ length cs
length_negated [] = refl
length_negated (c ∷ cs) = ap suc (length_negated cs)

pub value_low : (n : ℕ) (f : Form) (pre post : List ℤ) (x : ℤ) → length f.coefs ≡ length pre → value (low_row n f) (pre ++ x ∷ post) ≡ x -ℤ value f pre
value_low n f pre post x e =
    let a = dot_row n (map neg_ℤ f.coefs) pre post (pos 1) x (length_negated f.coefs ∙ e) in
    omega (arith, ints, a, dot_neg f.coefs pre, one_times x)

pub value_high : (n : ℕ) (f : Form) (pre post : List ℤ) (x : ℤ) → length f.coefs ≡ length pre → value (high_row n f) (pre ++ x ∷ post) ≡ value f pre -ℤ x
value_high n f pre post x e =
    let a = dot_row n f.coefs pre post (negsuc 0) x e in
    omega (arith, ints, a, minus_times x)

-- a form of a loop has a coefficient for each loop around it
abbrev AllFit : ℕ → List Form → Type 0
AllFit n fs = IsTrue (list_all (coefs_fit n) fs)

fit_first : (n : ℕ) (f : Form) (fs : List Form) → AllFit n (f ∷ fs) → length f.coefs ≡ n
fit_first n f fs h = sym (form_coefs n (f ∷ fs) 0 f (omega arith) h)

fit_others : (n : ℕ) (f : Form) (fs : List Form) → AllFit n (f ∷ fs) → AllFit n fs
fit_others n f fs h = (and_parts (coefs_fit n f) (list_all (coefs_fit n) fs) h).1

row_holds : (v w : ℤ) → v ≡ w → pos 0 ≤ℤ w → int_le (pos 0) v ≡ true
row_holds v w e l = let m : pos 0 ≤ℤ v = omega (arith, ints) in grind (arith, ints)

row_held : (v w : ℤ) → v ≡ w → int_le (pos 0) v ≡ true → pos 0 ≤ℤ w
row_held v w e h = let m : pos 0 ≤ℤ v = grind (arith, ints) in omega (arith, ints)

both_true : (a b : Bool) → a ≡ true → b ≡ true → IsTrue (a && b)
both_true a b e f = rw (e, f) refl

module _ (n : ℕ) (pre post : List ℤ) (x : ℤ) where
  lows_hold : (f : Form) (fs : List Form) → AllFit (length pre) (f ∷ fs) → low_of (f ∷ fs) pre ≤ℤ x → all_hold (map (low_row n) (f ∷ fs)) (pre ++ x ∷ post) ≡ true
  lows_hold f [] fit l = both_true _ true (row_holds _ _ (value_low n f pre post x (fit_first _ f [] fit)) (omega (arith, ints))) refl
  lows_hold f (g ∷ fs) fit l =
      both_true _ _ (row_holds _ _ (value_low n f pre post x (fit_first _ f (g ∷ fs) fit)) (omega (arith, ints, clamps)))
      (lows_hold g fs (fit_others _ f (g ∷ fs) fit) (omega (arith, ints, clamps)))

  lows_held : (f : Form) (fs : List Form) → AllFit (length pre) (f ∷ fs) → all_hold (map (low_row n) (f ∷ fs)) (pre ++ x ∷ post) ≡ true → low_of (f ∷ fs) pre ≤ℤ x
  lows_held f [] fit h =
      let a = row_held _ _ (value_low n f pre post x (fit_first _ f [] fit)) (and_parts (int_le (pos 0) (value (low_row n f) (pre ++ x ∷ post))) true h).0 in omega (arith, ints)
  lows_held f (g ∷ fs) fit h =
      let p = and_parts (int_le (pos 0) (value (low_row n f) (pre ++ x ∷ post))) (all_hold (map (low_row n) (g ∷ fs)) (pre ++ x ∷ post)) h in
      let a = row_held _ _ (value_low n f pre post x (fit_first _ f (g ∷ fs) fit)) p.0 in
      let b = lows_held g fs (fit_others _ f (g ∷ fs) fit) p.1 in
      omega (arith, ints, clamps)

  highs_hold : (f : Form) (fs : List Form) → AllFit (length pre) (f ∷ fs) → x ≤ℤ high_of (f ∷ fs) pre → all_hold (map (high_row n) (f ∷ fs)) (pre ++ x ∷ post) ≡ true
  highs_hold f [] fit l = both_true _ true (row_holds _ _ (value_high n f pre post x (fit_first _ f [] fit)) (omega (arith, ints))) refl
  highs_hold f (g ∷ fs) fit l =
      both_true _ _ (row_holds _ _ (value_high n f pre post x (fit_first _ f (g ∷ fs) fit)) (omega (arith, ints, clamps)))
      (highs_hold g fs (fit_others _ f (g ∷ fs) fit) (omega (arith, ints, clamps)))

  highs_held : (f : Form) (fs : List Form) → AllFit (length pre) (f ∷ fs) → all_hold (map (high_row n) (f ∷ fs)) (pre ++ x ∷ post) ≡ true → x ≤ℤ high_of (f ∷ fs) pre
  highs_held f [] fit h =
      let a = row_held _ _ (value_high n f pre post x (fit_first _ f [] fit)) (and_parts (int_le (pos 0) (value (high_row n f) (pre ++ x ∷ post))) true h).0 in omega (arith, ints)
  highs_held f (g ∷ fs) fit h =
      let p = and_parts (int_le (pos 0) (value (high_row n f) (pre ++ x ∷ post))) (all_hold (map (high_row n) (g ∷ fs)) (pre ++ x ∷ post)) h in
      let a = row_held _ _ (value_high n f pre post x (fit_first _ f (g ∷ fs) fit)) p.0 in
      let b = highs_held g fs (fit_others _ f (g ∷ fs) fit) p.1 in
      omega (arith, ints, clamps)

-- further coefficients of 0, and further values, change nothing

dot_ending : (cs : List ℤ) (m : ℕ) (xs : List ℤ) → dot (cs ++ zeros m) xs ≡ dot cs xs
dot_ending [] m xs = dot_zeros m xs
dot_ending (c ∷ cs) m [] = refl
dot_ending (c ∷ cs) m (x ∷ xs) = ap (λ t. (c *ℤ x) +ℤ t) (dot_ending cs m xs)

dot_within : (cs pre post : List ℤ) → length cs ≤ length pre → dot cs (pre ++ post) ≡ dot cs pre
dot_within [] pre post l = refl
dot_within (c ∷ cs) [] post l = absurd (omega arith)
dot_within (c ∷ cs) (x ∷ pre) post l = ap (λ t. (c *ℤ x) +ℤ t) (dot_within cs pre post (omega arith))

value_padded : (n : ℕ) (f : Form) (pre post : List ℤ) → length f.coefs ≡ length pre → value (padded_row n f) (pre ++ post) ≡ value f pre
value_padded n f pre post e =
    ap (λ z. f.constant +ℤ z) (dot_ending f.coefs (n - length f.coefs) (pre ++ post) ∙ dot_within f.coefs pre post (omega arith))

-- the rows of a step

-- a row over the values before, one more, those after it, and a hidden value
dot_steps : (n : ℕ) (cs pre mid back : List ℤ) (c x d h : ℤ) → length cs ≡ length pre
    → dot (padded n (padded (length (pre ++ x ∷ mid)) (cs ++ c ∷ []) ++ d ∷ [])) ((pre ++ x ∷ mid) ++ h ∷ back) ≡ (dot cs pre +ℤ (c *ℤ x)) +ℤ (d *ℤ h)
dot_steps n cs pre mid back c x d h e =
    let front : List ℤ = pre ++ x ∷ mid in
    let at : ℕ = length front in
    let a : List ℤ = padded at (cs ++ c ∷ []) in
    let l : length (cs ++ c ∷ []) ≤ at = let m = length-append cs (c ∷ []) in let k = length-append pre (x ∷ mid) in omega arith in
    let f = dot_ending (a ++ d ∷ []) (n - length (a ++ d ∷ [])) (front ++ h ∷ back) in
    let g = dot_front a (d ∷ []) front (h ∷ back) (length_padded at (cs ++ c ∷ []) l) in
    let i = dot_row at cs pre mid c x e in
    f ∙ g ∙ omega (arith, ints, i)

module _ (n : ℕ) (pre mid back : List ℤ) (x h : ℤ) (step : ℕ) (f : Form) (e : length f.coefs ≡ length pre) where
  value_steps_low : value (steps_low n (length (pre ++ x ∷ mid)) step f) ((pre ++ x ∷ mid) ++ h ∷ back) ≡ (x -ℤ value f pre) -ℤ (pos step *ℤ h)
  value_steps_low =
      let a = dot_steps n (map neg_ℤ f.coefs) pre mid back (pos 1) x (neg_ℤ (pos step)) h (length_negated f.coefs ∙ e) in
      omega (arith, ints, a, dot_neg f.coefs pre, one_times x, neg_times (pos step) h)

  value_steps_high : value (steps_high n (length (pre ++ x ∷ mid)) step f) ((pre ++ x ∷ mid) ++ h ∷ back) ≡ (value f pre +ℤ (pos step *ℤ h)) -ℤ x
  value_steps_high =
      let a = dot_steps n f.coefs pre mid back (negsuc 0) x (pos step) h e in
      omega (arith, ints, a, minus_times x)

step_product : (step k : ℕ) → pos step *ℤ pos k ≡ pos (k * step)
step_product step zero = let z : 0 * step ≡ 0 = omega arith in times_zero (pos step) ∙ ap pos (sym z)
step_product step (suc k) =
    let a = *ℤ_comm (pos step) (pos (suc k)) in
    let b = plus_times (pos k) (pos 1) (pos step) in
    let c = *ℤ_comm (pos k) (pos step) in
    let d = one_times (pos step) in
    let s : pos k +ℤ pos 1 ≡ pos (suc k) = omega (arith, ints) in
    let t = ap (λ z. z *ℤ pos step) s in
    let more : suc k * step ≡ k * step + step = omega arith in
    omega (arith, ints, a, b, c, d, t, step_product step k, more)

some_lows : (depth : ℕ) (lows highs : List Form) (step : ℕ) → IsTrue (head_fits depth lows highs step) → 1 ≤ length lows
some_lows depth lows highs step h =
    let ends = (and_parts (lows_fit depth lows && highs_fit depth highs) (step_fits step lows) (and_parts _ _ h).1).0 in
    let fit : IsTrue (lows_fit depth lows) = (and_parts (lows_fit depth lows) (highs_fit depth highs) ends).0 in
    let few : IsTrue (are_few lows) = (and_parts (are_few lows) (list_all (coefs_fit depth) lows && list_all constant_fits lows) fit).0 in
    leb-true 1 (length lows) (and_parts (nat_le 1 (length lows)) (nat_le (length lows) most_forms) few).0

some_highs : (depth : ℕ) (lows highs : List Form) (step : ℕ) → IsTrue (head_fits depth lows highs step) → 1 ≤ length highs
some_highs depth lows highs step h =
    let ends = (and_parts (lows_fit depth lows && highs_fit depth highs) (step_fits step lows) (and_parts _ _ h).1).0 in
    let fit : IsTrue (highs_fit depth highs) = (and_parts (lows_fit depth lows) (highs_fit depth highs) ends).1 in
    let few : IsTrue (are_few highs) = (and_parts (are_few highs) _ fit).0 in
    leb-true 1 (length highs) (and_parts (nat_le 1 (length highs)) (nat_le (length highs) most_forms) few).0

-- a loop with a step has one low end
one_low : (depth : ℕ) (lows highs : List Form) (step : ℕ) → IsTrue (head_fits depth lows highs step) → nat_eq step 1 ≡ false → length lows ≡ 1
one_low depth lows highs step h plain =
    let fits = (and_parts (lows_fit depth lows && highs_fit depth highs) (step_fits step lows) (and_parts _ _ h).1).1 in
    let or : (nat_eq step 1 || nat_eq (length lows) 1) ≡ true = (and_parts (nat_le 1 step && nat_le step 64) (nat_eq step 1 || nat_eq (length lows) 1) fits).1 in
    eqb-true (length lows) 1 (subst (λ b. (b || nat_eq (length lows) 1) ≡ true) plain or)

all_lows_hold : (n : ℕ) (pre post : List ℤ) (x : ℤ) (lows : List Form) → 1 ≤ length lows → AllFit (length pre) lows → low_of lows pre ≤ℤ x
    → all_hold (map (low_row n) lows) (pre ++ x ∷ post) ≡ true
all_lows_hold n pre post x [] some fit l = absurd (omega arith)
all_lows_hold n pre post x (f ∷ fs) some fit l = lows_hold n pre post x f fs fit l

all_lows_held : (n : ℕ) (pre post : List ℤ) (x : ℤ) (lows : List Form) → 1 ≤ length lows → AllFit (length pre) lows → all_hold (map (low_row n) lows) (pre ++ x ∷ post) ≡ true
    → low_of lows pre ≤ℤ x
all_lows_held n pre post x [] some fit h = absurd (omega arith)
all_lows_held n pre post x (f ∷ fs) some fit h = lows_held n pre post x f fs fit h

all_highs_hold : (n : ℕ) (pre post : List ℤ) (x : ℤ) (highs : List Form) → 1 ≤ length highs → AllFit (length pre) highs → x ≤ℤ high_of highs pre
    → all_hold (map (high_row n) highs) (pre ++ x ∷ post) ≡ true
all_highs_hold n pre post x [] some fit l = absurd (omega arith)
all_highs_hold n pre post x (f ∷ fs) some fit l = highs_hold n pre post x f fs fit l

all_highs_held : (n : ℕ) (pre post : List ℤ) (x : ℤ) (highs : List Form) → 1 ≤ length highs → AllFit (length pre) highs → all_hold (map (high_row n) highs) (pre ++ x ∷ post) ≡ true
    → x ≤ℤ high_of highs pre
all_highs_held n pre post x [] some fit h = absurd (omega arith)
all_highs_held n pre post x (f ∷ fs) some fit h = highs_held n pre post x f fs fit h

steps_hold : (n : ℕ) (pre mid back : List ℤ) (x : ℤ) (k step : ℕ) (lows : List Form) → length lows ≡ 1 → AllFit (length pre) lows → x ≡ low_of lows pre +ℤ pos (k * step)
    → all_hold (step_rows n (length (pre ++ x ∷ mid)) step lows) ((pre ++ x ∷ mid) ++ pos k ∷ back) ≡ true
steps_hold n pre mid back x k step [] one fit e = absurd (omega arith)
steps_hold n pre mid back x k step (f ∷ g ∷ fs) one fit e = absurd (omega arith)
steps_hold n pre mid back x k step (f ∷ []) one fit e =
    let l = fit_first (length pre) f [] fit in
    let m = step_product step k in
    both_true _ _ (row_holds _ _ (value_steps_low n pre mid back x (pos k) step f l) (omega (arith, ints, m)))
    (both_true _ true (row_holds _ _ (value_steps_high n pre mid back x (pos k) step f l) (omega (arith, ints, m))) refl)

steps_held : (n : ℕ) (pre mid back : List ℤ) (x h : ℤ) (step : ℕ) (lows : List Form) → length lows ≡ 1 → AllFit (length pre) lows → pos 0 ≤ℤ h
    → all_hold (step_rows n (length (pre ++ x ∷ mid)) step lows) ((pre ++ x ∷ mid) ++ h ∷ back) ≡ true → x ≡ low_of lows pre +ℤ pos (unsigned_abs h * step)
steps_held n pre mid back x h step [] one fit up a = absurd (omega arith)
steps_held n pre mid back x h step (f ∷ g ∷ fs) one fit up a = absurd (omega arith)
steps_held n pre mid back x h step (f ∷ []) one fit up a =
    let at : ℕ = length (pre ++ x ∷ mid) in
    let p : List ℤ = (pre ++ x ∷ mid) ++ h ∷ back in
    let l = fit_first (length pre) f [] fit in
    let q = and_parts (int_le (pos 0) (value (steps_low n at step f) p)) (int_le (pos 0) (value (steps_high n at step f) p) && true) a in
    let r = and_parts (int_le (pos 0) (value (steps_high n at step f) p)) true q.1 in
    let low = row_held _ _ (value_steps_low n pre mid back x h step f l) q.0 in
    let high = row_held _ _ (value_steps_high n pre mid back x h step f l) r.0 in
    let is : pos (unsigned_abs h) ≡ h = omega (arith, ints) in
    let m : pos step *ℤ h ≡ pos (unsigned_abs h * step) = ap (λ z. pos step *ℤ z) (sym is) ∙ step_product step (unsigned_abs h) in
    omega (arith, ints, low, high, m)

hold_parts : (rs qs : List Form) (p : List ℤ) → all_hold (rs ++ qs) p ≡ true → (all_hold rs p ≡ true) × (all_hold qs p ≡ true)
hold_parts rs qs p h = and_parts (all_hold rs p) (all_hold qs p) (sym (list_all-append (λ f. int_le (pos 0) (value f p)) rs qs) ∙ h)

hold_both : (rs qs : List Form) (p : List ℤ) → all_hold rs p ≡ true → all_hold qs p ≡ true → all_hold (rs ++ qs) p ≡ true
hold_both rs qs p h g = list_all-append (λ f. int_le (pos 0) (value f p)) rs qs ∙ both_true _ _ h g

-- boxes

pub record InLevelBox (boxes : List Range) (l : Level) (x : ℤ) : Type 0 where
  pub low : (box_of boxes l.lows l.highs).low ≤ℤ x
  pub high : x ≤ℤ (box_of boxes l.lows l.highs).high

pub in_level_box : (boxes : List Range) (l : Level) (pre : List ℤ) (x : ℤ) → IsTrue (head_fits (length boxes) l.lows l.highs l.step) → IsTrue (lies_in boxes pre)
    → low_of l.lows pre ≤ℤ x → x ≤ℤ high_of l.highs pre → InLevelBox boxes l x
in_level_box boxes l pre x head inside from to =
    let low = low_above boxes l.lows pre (head_lows (length boxes) l.lows l.highs l.step head) inside in
    let high = high_below boxes l.highs pre (head_highs (length boxes) l.lows l.highs l.step head) inside in
    record { low = omega (arith, ints, low); high = omega (arith, ints, clamps, high, to) }

-- a value is between the ends
pub value_ends : (low high x : ℤ) (step : ℕ) → In x (loop_values low high step) → (low ≤ℤ x) × (x ≤ℤ high)
value_ends low high x step i =
    let r = in_values low high x step i in
    let e = r.1.0 in
    (omega (arith, ints), r.1.1)

pub value_in_box : (boxes : List Range) (l : Level) (pre : List ℤ) (x : ℤ) → IsTrue (head_fits (length boxes) l.lows l.highs l.step) → IsTrue (lies_in boxes pre)
    → In x (values_at l.lows l.highs l.step pre) → InLevelBox boxes l x
value_in_box boxes l pre x head inside i =
    let e = value_ends (low_of l.lows pre) (high_of l.highs pre) x l.step i in
    in_level_box boxes l pre x head inside e.0 e.1

lies_all : (boxes : List Range) (ps : List Around) (pre xs : List ℤ) → LevelsFit boxes ps → IsTrue (lies_in boxes pre) → Between pre ps xs
    → IsTrue (lies_in (boxes ++ boxes_from boxes ps) (pre ++ xs))
lies_all boxes [] pre [] fit inside b = subst (λ z. IsTrue (lies_in z (pre ++ []))) (sym (append-nil boxes)) (subst (λ z. IsTrue (lies_in boxes z)) (sym (append-nil pre)) inside)
lies_all boxes [] pre (x ∷ xs) fit inside b = absurd b
lies_all boxes (Inside l ∷ ps) pre [] fit inside b = absurd b
lies_all boxes (Inside l ∷ ps) pre (x ∷ xs) fit inside b =
    let box : Range = box_of boxes l.lows l.highs in
    let here = value_in_box boxes l pre x fit.0 inside b.0 in
    let more = lies_all (boxes ++ box ∷ []) ps (pre ++ x ∷ []) xs fit.2 (lies_push boxes box pre x inside here.low here.high) b.1 in
    subst (λ z. IsTrue (lies_in z (pre ++ x ∷ xs))) (append_assoc boxes (box ∷ []) (boxes_from (boxes ++ box ∷ []) ps))
    (subst (λ z. IsTrue (lies_in ((boxes ++ box ∷ []) ++ boxes_from (boxes ++ box ∷ []) ps) z)) (append_assoc pre (x ∷ []) xs) more)
lies_all boxes (Where row ∷ ps) pre xs fit inside b = lies_all boxes ps pre xs fit.1 inside b.1

-- the values that loops take lie in their boxes
pub lies_between : (ps : List Around) (xs : List ℤ) → LevelsFit [] ps → Between [] ps xs → IsTrue (lies_in (boxes_from [] ps) xs)
lies_between ps xs fit b = lies_all [] ps [] xs fit refl b

pub lies_more : (r : Range) (rs : List Range) (x : ℤ) (xs : List ℤ) → r.low ≤ℤ x → x ≤ℤ r.high → IsTrue (lies_in rs xs) → IsTrue (lies_in (r ∷ rs) (x ∷ xs))
lies_more r rs x xs l h o =
    let a : int_le r.low x ≡ true = grind (arith, ints) in
    let b : int_le x r.high ≡ true = grind (arith, ints) in
    rw (a, b) o

pub lies_both : (rs qs : List Range) (xs ys : List ℤ) → IsTrue (lies_in rs xs) → IsTrue (lies_in qs ys) → IsTrue (lies_in (rs ++ qs) (xs ++ ys))
lies_both [] qs [] ys h g = g
lies_both [] qs (x ∷ xs) ys h g = absurd cc
lies_both (r ∷ rs) qs [] ys h g = absurd cc
lies_both (r ∷ rs) qs (x ∷ xs) ys h g =
    let f = lies_first r rs x xs h in
    lies_more r (rs ++ qs) x (xs ++ ys) f.low f.high (lies_both rs qs xs ys f.others g)

pub lies_parts : (rs qs : List Range) (xs ys : List ℤ) → length xs ≡ length rs → IsTrue (lies_in (rs ++ qs) (xs ++ ys)) → IsTrue (lies_in qs ys)
lies_parts [] qs [] ys e h = h
lies_parts [] qs (x ∷ xs) ys e h = absurd (omega arith)
lies_parts (r ∷ rs) qs [] ys e h = absurd (omega arith)
lies_parts (r ∷ rs) qs (x ∷ xs) ys e h = lies_parts rs qs xs ys (omega arith) (lies_first r (rs ++ qs) x (xs ++ ys) h).others

-- all rows

module _ (n : ℕ) where
  abbrev rows_if : Bool → ℕ → Level → List Form
  rows_if b at l = (if b then map (low_row n) l.lows else step_rows n at l.step l.lows) ++ map (high_row n) l.highs

  abbrev hidden_if : Bool → Range → Level → List Range → List Range
  hidden_if b box l more = if b then more else hidden_range box l.step ∷ more

  -- hidden values with which the rows hold, behind those before
  abbrev With : List Range → List Form → List ℤ → List ℤ → Type 0
  With boxes rows front before = (hs : List ℤ) × (IsTrue (lies_in boxes hs) × (all_hold rows (front ++ (before ++ hs)) ≡ true))

  -- where a loop has come, whose value is known
  record At (boxes : List Range) (l : Level) (pre xs before : List ℤ) (x : ℤ) (at : ℕ) : Type 0 where
    head : IsTrue (head_fits (length boxes) l.lows l.highs l.step)
    same : length pre ≡ length boxes
    count : at ≡ length (pre ++ x ∷ xs) + length before

  level_holds : (b : Bool) (boxes : List Range) (l : Level) (ps : List Around) (more : List Range) (pre xs before : List ℤ) (x : ℤ) (at : ℕ) → nat_eq l.step 1 ≡ b → At boxes l pre xs before x at
      → IsTrue (lies_in boxes pre) → In x (values_at l.lows l.highs l.step pre)
      → ((before : List ℤ) (at : ℕ) → at ≡ length (pre ++ x ∷ xs) + length before → With more (rows_of n at ps) (pre ++ x ∷ xs) before)
      → With (hidden_if b (box_of boxes l.lows l.highs) l more) (rows_if b at l ++ rows_of n (at + (if b then 0 else 1)) ps) (pre ++ x ∷ xs) before
  level_holds true boxes l ps more pre xs before x at is a inside i rest =
      let head : IsTrue (head_fits (length pre) l.lows l.highs l.step) = subst (λ m. IsTrue (head_fits m l.lows l.highs l.step)) (sym a.same) a.head in
      let v = value_ends (low_of l.lows pre) (high_of l.highs pre) x l.step i in
      let c = a.count in
      let r = rest before (at + 0) (omega arith) in
      let post : List ℤ = xs ++ (before ++ r.0) in
      let e : pre ++ x ∷ post ≡ (pre ++ x ∷ xs) ++ (before ++ r.0) = sym (append_assoc pre (x ∷ xs) (before ++ r.0)) in
      let low = all_lows_hold n pre post x l.lows (some_lows _ l.lows l.highs l.step head) (head_lows _ l.lows l.highs l.step head) v.0 in
      let high = all_highs_hold n pre post x l.highs (some_highs _ l.lows l.highs l.step head) (head_highs _ l.lows l.highs l.step head) v.1 in (
        r.0,
        (
          r.1.0,
          hold_both (rows_if true at l) (rows_of n (at + 0) ps) ((pre ++ x ∷ xs) ++ (before ++ r.0))
              (subst (λ p. all_hold (rows_if true at l) p ≡ true) e (hold_both (map (low_row n) l.lows) (map (high_row n) l.highs) (pre ++ x ∷ post) low high)) r.1.1,
        ),
      )
  level_holds false boxes l ps more pre xs before x at is a inside i rest =
      let head : IsTrue (head_fits (length pre) l.lows l.highs l.step) = subst (λ m. IsTrue (head_fits m l.lows l.highs l.step)) (sym a.same) a.head in
      let steps = in_values (low_of l.lows pre) (high_of l.highs pre) x l.step i in
      let k : ℕ = steps.0 in
      let at_step = steps.1.0 in
      let v = value_ends (low_of l.lows pre) (high_of l.highs pre) x l.step i in
      let c = a.count in
      let box : Range = box_of boxes l.lows l.highs in
      let here = in_level_box boxes l pre x a.head inside v.0 v.1 in
      let first = in_level_box boxes l pre (low_of l.lows pre) a.head inside (omega (arith, ints)) (let w = v.0 in let z = v.1 in omega (arith, ints)) in
      let hx = here.high in
      let fx = first.low in
      let far : k * l.step ≤ unsigned_abs (box.high -ℤ box.low) = omega (arith, ints, at_step, hx, fx) in
      let rises = (head_step (length pre) l.lows l.highs l.step head).0 in
      let few = (le-div_iff_mul-le {k = l.step} {x = k} {y = unsigned_abs (box.high -ℤ box.low)} (omega arith)).1 far in
      let r = rest (before ++ pos k ∷ []) (at + 1) (let m = length-append before (pos k ∷ []) in omega arith) in
      let hs : List ℤ = r.0 in
      let front : List ℤ = pre ++ x ∷ xs in
      let p : List ℤ = front ++ (before ++ pos k ∷ hs) in
      let mid : List ℤ = xs ++ before in
      let cut : (pre ++ x ∷ mid) ++ pos k ∷ hs ≡ p = ap (λ t. t ++ pos k ∷ hs) (sym (append_assoc pre (x ∷ xs) before)) ∙ append_assoc front before (pos k ∷ hs) in
      let number : length (pre ++ x ∷ mid) ≡ at = ap length (sym (append_assoc pre (x ∷ xs) before)) ∙ length-append front before ∙ sym c in
      let low : all_hold (step_rows n at l.step l.lows) p ≡ true =
      subst (λ m. all_hold (step_rows n m l.step l.lows) p ≡ true) number
      (subst (λ q. all_hold (step_rows n (length (pre ++ x ∷ mid)) l.step l.lows) q ≡ true) cut
      (steps_hold n pre mid hs x k l.step l.lows (one_low _ l.lows l.highs l.step head is) (head_lows _ l.lows l.highs l.step head) at_step)) in
      let high : all_hold (map (high_row n) l.highs) p ≡ true =
      subst (λ q. all_hold (map (high_row n) l.highs) q ≡ true) (sym (append_assoc pre (x ∷ xs) (before ++ pos k ∷ hs)))
      (all_highs_hold n pre (xs ++ (before ++ pos k ∷ hs)) x l.highs (some_highs _ l.lows l.highs l.step head) (head_highs _ l.lows l.highs l.step head) v.1) in
      let others : all_hold (rows_of n (at + 1) ps) p ≡ true =
      subst (λ q. all_hold (rows_of n (at + 1) ps) (front ++ q) ≡ true) (append_assoc before (pos k ∷ []) hs) r.1.1 in (
        pos k ∷ hs,
        (
          lies_more (hidden_range box l.step) more (pos k) hs (omega (arith, ints)) (omega (arith, ints, few)) r.1.0,
          hold_both (rows_if false at l) (rows_of n (at + 1) ps) p (hold_both (step_rows n at l.step l.lows) (map (high_row n) l.highs) p low high) others,
        ),
      )

  row_long : (boxes : List Range) (pre : List ℤ) (row : Form) → length pre ≡ length boxes → IsTrue (row_fits (length boxes) row) → length row.coefs ≡ length pre
  row_long boxes pre row e h = eqb-true (length row.coefs) (length boxes) (and_parts (nat_eq (length row.coefs) (length boxes)) _ h).0 ∙ sym e

  pub rows_hold : (boxes : List Range) (ps : List Around) (pre xs before : List ℤ) (at : ℕ) → length pre ≡ length boxes → at ≡ length (pre ++ xs) + length before
      → LevelsFit boxes ps → IsTrue (lies_in boxes pre) → Between pre ps xs → With (hidden_boxes (boxes_from boxes ps) ps) (rows_of n at ps) (pre ++ xs) before
  rows_hold boxes [] pre [] before at e c fit inside b = ([], (refl, refl))
  rows_hold boxes [] pre (x ∷ xs) before at e c fit inside b = absurd b
  rows_hold boxes (Inside l ∷ ps) pre [] before at e c fit inside b = absurd b
  rows_hold boxes (Inside l ∷ ps) pre (x ∷ xs) before at e c fit inside b =
      let box : Range = box_of boxes l.lows l.highs in
      let here = value_in_box boxes l pre x fit.0 inside b.0 in
      let m : length (pre ++ x ∷ []) ≡ length (boxes ++ box ∷ []) = length-append pre (x ∷ []) ∙ ap (λ k. k + 1) e ∙ sym (length-append boxes (box ∷ [])) in
      level_holds (nat_eq l.step 1) boxes l ps (hidden_boxes (boxes_from (boxes ++ box ∷ []) ps) ps) pre xs before x at refl (record { head = fit.0; same = e; count = c }) inside b.0
      (λ later next d.
      subst (λ f. With (hidden_boxes (boxes_from (boxes ++ box ∷ []) ps) ps) (rows_of n next ps) f later) (append_assoc pre (x ∷ []) xs)
      (rows_hold (boxes ++ box ∷ []) ps (pre ++ x ∷ []) xs later next m (d ∙ ap (λ f. length f + length later) (sym (append_assoc pre (x ∷ []) xs))) fit.2
      (lies_push boxes box pre x inside here.low here.high) b.1))
  rows_hold boxes (Where row ∷ ps) pre xs before at e c fit inside b =
      let r = rows_hold boxes ps pre xs before (at + 0) e (omega arith) fit.1 inside b.1 in
      let post : List ℤ = xs ++ (before ++ r.0) in
      let fits : length row.coefs ≡ length pre = row_long boxes pre row e fit.0 in
      let v : value (padded_row n row) ((pre ++ xs) ++ (before ++ r.0)) ≡ value row pre = ap (value (padded_row n row)) (append_assoc pre xs (before ++ r.0)) ∙ value_padded n row pre post fits in
      (r.0, (r.1.0, both_true _ _ (ap (int_le (pos 0)) v ∙ b.0) r.1.1))

  level_held : (b : Bool) (boxes : List Range) (l : Level) (ps : List Around) (more : List Range) (pre xs before hs : List ℤ) (x : ℤ) (at : ℕ) → nat_eq l.step 1 ≡ b → At boxes l pre xs before x at
      → IsTrue (lies_in (hidden_if b (box_of boxes l.lows l.highs) l more) hs)
      → all_hold (rows_if b at l ++ rows_of n (at + (if b then 0 else 1)) ps) ((pre ++ x ∷ xs) ++ (before ++ hs)) ≡ true
      → ((before hs : List ℤ) (at : ℕ) → at ≡ length (pre ++ x ∷ xs) + length before → IsTrue (lies_in more hs) → all_hold (rows_of n at ps) ((pre ++ x ∷ xs) ++ (before ++ hs)) ≡ true
      → Between (pre ++ x ∷ []) ps xs)
      → In x (values_at l.lows l.highs l.step pre) × Between (pre ++ x ∷ []) ps xs
  level_held true boxes l ps more pre xs before hs x at is a lies h rest =
      let head : IsTrue (head_fits (length pre) l.lows l.highs l.step) = subst (λ m. IsTrue (head_fits m l.lows l.highs l.step)) (sym a.same) a.head in
      let p : List ℤ = (pre ++ x ∷ xs) ++ (before ++ hs) in
      let post : List ℤ = xs ++ (before ++ hs) in
      let e : p ≡ pre ++ x ∷ post = append_assoc pre (x ∷ xs) (before ++ hs) in
      let q = hold_parts (rows_if true at l) (rows_of n (at + 0) ps) p h in
      let r = hold_parts (map (low_row n) l.lows) (map (high_row n) l.highs) p q.0 in
      let low = all_lows_held n pre post x l.lows (some_lows _ l.lows l.highs l.step head) (head_lows _ l.lows l.highs l.step head) (subst (λ z. all_hold (map (low_row n) l.lows) z ≡ true) e r.0) in
      let high = all_highs_held n pre post x l.highs (some_highs _ l.lows l.highs l.step head) (head_highs _ l.lows l.highs l.step head) (subst (λ z. all_hold (map (high_row n) l.highs) z ≡ true) e r.1) in
      let one : l.step ≡ 1 = eqb-true l.step 1 is in
      let rises = (head_step (length pre) l.lows l.highs l.step head).0 in
      let k : ℕ = unsigned_abs (x -ℤ low_of l.lows pre) in
      let by_one : k * l.step ≡ k = ap (λ s. k * s) one ∙ omega arith in
      let far : pos k ≡ x -ℤ low_of l.lows pre = omega (arith, ints, low) in
      let c = a.count in (
        values_in (low_of l.lows pre) (high_of l.highs pre) x l.step k rises (omega (arith, ints, far) ∙ ap (λ m. low_of l.lows pre +ℤ pos m) (sym by_one)) high,
        rest before hs (at + 0) (omega arith) lies q.1,
      )
  level_held false boxes l ps more pre xs before [] x at is a lies h rest = absurd cc
  level_held false boxes l ps more pre xs before (g ∷ hs) x at is a lies h rest =
      let head : IsTrue (head_fits (length pre) l.lows l.highs l.step) = subst (λ m. IsTrue (head_fits m l.lows l.highs l.step)) (sym a.same) a.head in
      let front : List ℤ = pre ++ x ∷ xs in
      let p : List ℤ = front ++ (before ++ g ∷ hs) in
      let mid : List ℤ = xs ++ before in
      let c = a.count in
      let f = lies_first (hidden_range (box_of boxes l.lows l.highs) l.step) more g hs lies in
      let cut : (pre ++ x ∷ mid) ++ g ∷ hs ≡ p = ap (λ t. t ++ g ∷ hs) (sym (append_assoc pre (x ∷ xs) before)) ∙ append_assoc front before (g ∷ hs) in
      let number : length (pre ++ x ∷ mid) ≡ at = ap length (sym (append_assoc pre (x ∷ xs) before)) ∙ length-append front before ∙ sym c in
      let q = hold_parts (rows_if false at l) (rows_of n (at + 1) ps) p h in
      let r = hold_parts (step_rows n at l.step l.lows) (map (high_row n) l.highs) p q.0 in
      let low = steps_held n pre mid hs x g l.step l.lows (one_low _ l.lows l.highs l.step head is) (head_lows _ l.lows l.highs l.step head) f.low
      (subst (λ z. all_hold (step_rows n (length (pre ++ x ∷ mid)) l.step l.lows) z ≡ true) (sym cut)
      (subst (λ m. all_hold (step_rows n m l.step l.lows) p ≡ true) (sym number) r.0)) in
      let high = all_highs_held n pre (xs ++ (before ++ g ∷ hs)) x l.highs (some_highs _ l.lows l.highs l.step head) (head_highs _ l.lows l.highs l.step head)
      (subst (λ z. all_hold (map (high_row n) l.highs) z ≡ true) (append_assoc pre (x ∷ xs) (before ++ g ∷ hs)) r.1) in
      let rises = (head_step (length pre) l.lows l.highs l.step head).0 in (
        values_in (low_of l.lows pre) (high_of l.highs pre) x l.step (unsigned_abs g) rises low high,
        rest (before ++ g ∷ []) hs (at + 1) (let m = length-append before (g ∷ []) in omega arith) f.others
            (subst (λ z. all_hold (rows_of n (at + 1) ps) (front ++ z) ≡ true) (sym (append_assoc before (g ∷ []) hs)) q.1),
      )

  pub rows_held : (boxes : List Range) (ps : List Around) (pre xs before hs : List ℤ) (at : ℕ) → length pre ≡ length boxes → length xs ≡ loops ps → at ≡ length (pre ++ xs) + length before
      → LevelsFit boxes ps → IsTrue (lies_in (hidden_boxes (boxes_from boxes ps) ps) hs) → all_hold (rows_of n at ps) ((pre ++ xs) ++ (before ++ hs)) ≡ true → Between pre ps xs
  rows_held boxes [] pre [] before hs at e s c fit lies h = tt
  rows_held boxes [] pre (x ∷ xs) before hs at e s c fit lies h = absurd (omega arith)
  rows_held boxes (Inside l ∷ ps) pre [] before hs at e s c fit lies h = absurd (omega arith)
  rows_held boxes (Inside l ∷ ps) pre (x ∷ xs) before hs at e s c fit lies h =
      let box : Range = box_of boxes l.lows l.highs in
      let m : length (pre ++ x ∷ []) ≡ length (boxes ++ box ∷ []) = length-append pre (x ∷ []) ∙ ap (λ k. k + 1) e ∙ sym (length-append boxes (box ∷ [])) in
      level_held (nat_eq l.step 1) boxes l ps (hidden_boxes (boxes_from (boxes ++ box ∷ []) ps) ps) pre xs before hs x at refl (record { head = fit.0; same = e; count = c }) lies h
      (λ later gs next d ls k.
      rows_held (boxes ++ box ∷ []) ps (pre ++ x ∷ []) xs later gs next m (omega arith) (d ∙ ap (λ f. length f + length later) (sym (append_assoc pre (x ∷ []) xs))) fit.2 ls
      (subst (λ f. all_hold (rows_of n next ps) (f ++ (later ++ gs)) ≡ true) (sym (append_assoc pre (x ∷ []) xs)) k))
  rows_held boxes (Where row ∷ ps) pre xs before hs at e s c fit lies h =
      let p : List ℤ = (pre ++ xs) ++ (before ++ hs) in
      let q = and_parts (int_le (pos 0) (value (padded_row n row) p)) (all_hold (rows_of n (at + 0) ps) p) h in
      let v : value (padded_row n row) p ≡ value row pre = ap (value (padded_row n row)) (append_assoc pre xs (before ++ hs)) ∙ value_padded n row pre (xs ++ (before ++ hs)) (row_long boxes pre row e fit.0) in
      (sym (ap (int_le (pos 0)) v) ∙ q.0, rows_held boxes ps pre xs before hs (at + 0) e s (omega arith) fit.1 lies q.1)
