-- Lists that are built one by one, one step on.
use Rattle.std.proofs.Common.{◌≡◌, refl, sym, ap, ap₂, ◌∙◌, subst, ℕ, zero, suc, ◌+◌, ◌-◌, ◌*◌, ◌^◌, ◌<◌, ◌≤◌, unsigned_abs, SFits, w64, Bool, true, false, if◌then◌else◌, nat_eq, ℤ, pos, negsuc, neg_ℤ, ◌-ℤ◌, ◌≤ℤ◌, List, [], ◌∷◌, ◌++◌, length, map, take, drop, get_or, arith, append_assoc, append-nil, length-append}
use Rattle.std.specs.Bool.{IsTrue}
use Rattle.std.specs.List.{All, list_all}
use Rattle.std.proofs.Math.Nat.{div-le_self}
use Rattle.std.proofs.lemmas.Bool.{and_parts, eqb-true, leb-true}
use Rattle.std.proofs.lemmas.Int.{ints, clamps}
use Rattle.std.proofs.lemmas.List.{take_more, drop_more, drop_all, map-append, length-map}
use Rattle.std.proofs.lemmas.List.Elements.{All-nil, All-cons, All-push, All-append, All-head, All-map, All-tail, All-weaker}
use Rattle.ch_affine.specs.Affine.{IsAtMost, IsSmall as IsSmallForm}
use Rattle.ch_affine.specs.Form.{Form}
use Rattle.ch_affine.specs.Rows.{IsBox, IsSystem, system}
use Rattle.ch_affine.specs.declared.system.Range.{Range}
use Rattle.ch_nest.specs.Limits.{deepest, most_step}
use Rattle.ch_nest.specs.Shape.{box_of, coefs_fit, row_fits, IsSmall}
use Rattle.ch_nest.proofs.Fits.{head_lows, head_highs, head_depth, head_step}
use Rattle.ch_nest.proofs.Turns.{form_coefs}
use Rattle.ch_space.specs.declared.level.Around.{Around}
use Rattle.ch_space.specs.declared.level.Around.TheVariants.{Inside, Where}
use Rattle.ch_space.specs.declared.level.Level.{Level}
use Rattle.ch_space.specs.Built.{zeros, padded, low_row, high_row, hidden_boxes, hidden_range, level_rows, padded_row, part_rows, rows_of, boxes_from, step_rows, steps_high, steps_low, system_of, unit, units}
use Rattle.ch_space.specs.Fitting.{IsShort, IsShortPart, LevelsFit}
use Rattle.ch_space.specs.Statements.{hidden_of, loops, steps}
use Rattle.ch_space.proofs.Bodies.{all_from_each}
use Rattle.ch_space.proofs.Shapes.{length_boxes}
use Rattle.ch_timed.specs.Members.{Each}

zeros_more : (k : ℕ) → zeros (k + 1) ≡ zeros k ++ pos 0 ∷ []
zeros_more zero = refl
zeros_more (suc k) = let e : suc k + 1 ≡ suc (k + 1) = omega arith in ap zeros e ∙ ap (λ t. pos 0 ∷ t) (zeros_more k)

pub push_zero : (first now next : List ℤ) (k : ℕ) → now ≡ first ++ zeros k → next ≡ now ++ pos 0 ∷ [] → next ≡ first ++ zeros (k + 1)
push_zero first now next k e n = n ∙ ap (λ t. t ++ pos 0 ∷ []) e ∙ append_assoc first (zeros k) (pos 0 ∷ []) ∙ ap (λ t. first ++ t) (sym (zeros_more k))

pub push_mapped : {X Y : Type 0} (f : X → Y) (first now next : List Y) (xs : List X) (k : ℕ) (d : X) (y : Y) → k < length xs → y ≡ f (get_or xs k d)
    → now ≡ first ++ map f (take k xs) → next ≡ now ++ y ∷ [] → next ≡ first ++ map f (take (k + 1) xs)
push_mapped f first now next xs k d y l is e n =
    n ∙ ap₂ (λ t z. t ++ z ∷ []) e is ∙ append_assoc first (map f (take k xs)) (f (get_or xs k d) ∷ [])
    ∙ ap (λ t. first ++ t) (sym (map-append f (take k xs) (get_or xs k d ∷ [])) ∙ ap (map f) (sym (take_more xs k d l)))

pub units_next : (n k : ℕ) (now next : List Form) (f : Form) → k < n → f ≡ unit k (n - 1 - k) → now ++ units k (n - k) ≡ units 0 n → next ≡ now ++ f ∷ []
    → next ++ units (k + 1) (n - (k + 1)) ≡ units 0 n
units_next n k now next f l is e h =
    let m : n - k ≡ suc (n - 1 - k) = omega arith in
    let a : n - (k + 1) ≡ n - 1 - k = omega arith in
    let b : k + 1 ≡ suc k = omega arith in
    ap (λ t. t ++ units (k + 1) (n - (k + 1))) (h ∙ ap (λ g. now ++ g ∷ []) is) ∙ append_assoc now (unit k (n - 1 - k) ∷ []) (units (k + 1) (n - (k + 1)))
    ∙ ap (λ t. now ++ unit k (n - 1 - k) ∷ t) (ap₂ units b a) ∙ ap (λ m. now ++ units k m) (sym m) ∙ e

pub units_end : (n k : ℕ) (now : List Form) → n ≤ k → now ++ units k (n - k) ≡ units 0 n → now ≡ units 0 n
units_end n k now l e = let z : n - k ≡ 0 = omega arith in sym (append-nil now) ∙ ap (λ m. now ++ units k m) (sym z) ∙ e

-- loops and conditions one by one

abbrev loops_of : Around → ℕ
loops_of (Inside l) = 1
loops_of (Where row) = 0

loops_first : (p : Around) (more : List Around) → loops (p ∷ more) ≡ loops_of p + loops more
loops_first (Inside l) more = omega arith
loops_first (Where row) more = omega arith

pub loops_next : (around : List Around) (k now : ℕ) (part d : Around) → k < length around → part ≡ get_or around k d → now + loops (drop k around) ≡ loops around
    → now + loops_of part + loops (drop (k + 1) around) ≡ loops around
loops_next around k now part d l is h =
    let a = ap loops (drop_more around k d l) ∙ loops_first (get_or around k d) (drop (k + 1) around) in
    let b = ap loops_of is in
    omega arith

pub loops_inside : (around : List Around) (k now : ℕ) (part d : Around) (level : Level) → k < length around → part ≡ get_or around k d → part ≡ Inside level
    → now + loops (drop k around) ≡ loops around → now + 1 + loops (drop (k + 1) around) ≡ loops around
loops_inside around k now part d level l is at h = let a = loops_next around k now part d l is h in let b = ap loops_of at in omega arith

pub loops_where : (around : List Around) (k now : ℕ) (part d : Around) (row : Form) → k < length around → part ≡ get_or around k d → part ≡ Where row
    → now + loops (drop k around) ≡ loops around → now + loops (drop (k + 1) around) ≡ loops around
loops_where around k now part d row l is at h = let a = loops_next around k now part d l is h in let b = ap loops_of at in omega arith

pub loops_end : (around : List Around) (k now : ℕ) → length around ≤ k → now + loops (drop k around) ≡ loops around → now ≡ loops around
loops_end around k now l h = let a = ap loops (drop_all k around l) in omega arith

pub steps_next : (around : List Around) (k now total : ℕ) (part d : Around) → k < length around → part ≡ get_or around k d → now + steps (drop k around) ≡ total
    → now + hidden_of part + steps (drop (k + 1) around) ≡ total
steps_next around k now total part d l is h =
    let a = ap steps (drop_more around k d l) in
    let b = ap hidden_of is in
    omega arith

pub steps_end : (around : List Around) (k now total : ℕ) → length around ≤ k → now + steps (drop k around) ≡ total → now ≡ total
steps_end around k now total l h = let a = ap steps (drop_all k around l) in omega arith

pub hidden_one : (p : Around) → hidden_of p ≤ loops_of p
hidden_one (Inside l) = by (nat_eq l.step 1)
  where
    by : (b : Bool) → (if b then 0 else 1) ≤ 1
    by true = omega arith
    by false = omega arith
hidden_one (Where row) = omega arith

pub steps_few : (around : List Around) → steps around ≤ loops around
steps_few [] = omega arith
steps_few (p ∷ more) = let a = hidden_one p in let b = steps_few more in let c = loops_first p more in omega arith

pub hidden_some : (l : Level) → (l.step ≡ 1 → ⊥) → ◌≡◌ {A = ℕ} (hidden_of (Inside l)) 1
hidden_some l h = by (nat_eq l.step 1) refl
  where
    by : (b : Bool) → nat_eq l.step 1 ≡ b → ◌≡◌ {A = ℕ} (if b then 0 else 1) 1
    by true e = absurd (h (eqb-true l.step 1 e))
    by false e = refl

pub rows_next : (n at k : ℕ) (around : List Around) (now next total : List Form) (part d : Around) → k < length around → part ≡ get_or around k d
    → now ++ rows_of n at (drop k around) ≡ total → next ≡ now ++ part_rows n at part
    → next ++ rows_of n (at + hidden_of part) (drop (k + 1) around) ≡ total
rows_next n at k around now next total part d l is h e =
    let more : List Form = rows_of n (at + hidden_of part) (drop (k + 1) around) in
    ap (λ t. t ++ more) e ∙ append_assoc now (part_rows n at part) more
    ∙ ap (λ (p : Around). now ++ rows_of n at (p ∷ drop (k + 1) around)) is
    ∙ ap (λ ps. now ++ rows_of n at ps) (sym (drop_more around k d l)) ∙ h

pub rows_end : (n at k : ℕ) (around : List Around) (now total : List Form) → length around ≤ k → now ++ rows_of n at (drop k around) ≡ total → now ≡ total
rows_end n at k around now total l h = sym (append-nil now) ∙ ap (λ ps. now ++ rows_of n at ps) (sym (drop_all k around l)) ∙ h

-- the two branches of a loop's rows
pub rows_plain : (n at : ℕ) (l : Level) (old low next : List Form) → l.step ≡ 1 → low ≡ old ++ map (low_row n) l.lows → next ≡ low ++ map (high_row n) l.highs
    → next ≡ old ++ level_rows n at l
rows_plain n at l old low next one a b =
    let e : nat_eq l.step 1 ≡ true = ap (λ m. nat_eq m 1) one in
    b ∙ ap (λ t. t ++ map (high_row n) l.highs) a ∙ append_assoc old (map (low_row n) l.lows) (map (high_row n) l.highs)
    ∙ ap (λ c. old ++ ((if c then map (low_row n) l.lows else step_rows n at l.step l.lows) ++ map (high_row n) l.highs)) (sym e)

pub rows_stepped : (n at : ℕ) (l : Level) (old low next : List Form) → (l.step ≡ 1 → ⊥) → low ≡ old ++ step_rows n at l.step l.lows → next ≡ low ++ map (high_row n) l.highs
    → next ≡ old ++ level_rows n at l
rows_stepped n at l old low next some a b =
    b ∙ ap (λ t. t ++ map (high_row n) l.highs) a ∙ append_assoc old (step_rows n at l.step l.lows) (map (high_row n) l.highs)
    ∙ ap (λ c. old ++ ((if c then map (low_row n) l.lows else step_rows n at l.step l.lows) ++ map (high_row n) l.highs)) (sym (by (nat_eq l.step 1) refl))
  where
    by : (b : Bool) → nat_eq l.step 1 ≡ b → b ≡ false
    by true e = absurd (some (eqb-true l.step 1 e))
    by false e = refl

pub step_rows_next : (n at step k : ℕ) (lows : List Form) (now one next total : List Form) (f d : Form) → k < length lows → f ≡ get_or lows k d
    → now ++ step_rows n at step (drop k lows) ≡ total → one ≡ now ++ steps_low n at step f ∷ [] → next ≡ one ++ steps_high n at step f ∷ []
    → next ++ step_rows n at step (drop (k + 1) lows) ≡ total
step_rows_next n at step k lows now one next total f d l is h a b =
    let more : List Form = step_rows n at step (drop (k + 1) lows) in
    ap (λ t. t ++ more) (b ∙ ap (λ t. t ++ steps_high n at step f ∷ []) a ∙ append_assoc now (steps_low n at step f ∷ []) (steps_high n at step f ∷ []))
    ∙ append_assoc now (steps_low n at step f ∷ steps_high n at step f ∷ []) more
    ∙ ap (λ (g : Form). now ++ step_rows n at step (g ∷ drop (k + 1) lows)) is
    ∙ ap (λ fs. now ++ step_rows n at step fs) (sym (drop_more lows k d l)) ∙ h

pub step_rows_end : (n at step k : ℕ) (lows now total : List Form) → length lows ≤ k → now ++ step_rows n at step (drop k lows) ≡ total → now ≡ total
step_rows_end n at step k lows now total l h = sym (append-nil now) ∙ ap (λ fs. now ++ step_rows n at step fs) (sym (drop_all k lows l)) ∙ h

-- loops and conditions that fit

pub levels_few : (boxes : List Range) (ps : List Around) → LevelsFit boxes ps → length boxes ≤ deepest → length boxes + loops ps ≤ deepest
levels_few boxes [] fit h = omega arith
levels_few boxes (Inside l ∷ ps) fit h =
    let b : List Range = boxes ++ box_of boxes l.lows l.highs ∷ [] in
    let a = head_depth (length boxes) l.lows l.highs l.step fit.0 in
    let n : length b ≡ length boxes + 1 = length-append boxes (box_of boxes l.lows l.highs ∷ []) in
    let r = levels_few b ps fit.2 (omega arith) in
    omega arith
levels_few boxes (Where row ∷ ps) fit h = levels_few boxes ps fit.1 h

abbrev AllShort : ℕ → List Form → Type 0
AllShort n = All (λ f. length f.coefs < n)

short_forms : (n depth : ℕ) (fs : List Form) → depth < n → IsTrue (list_all (coefs_fit depth) fs) → AllShort n fs
short_forms n depth [] l h = All-nil (λ f. length f.coefs < n)
short_forms n depth (f ∷ fs) l h =
    let e = form_coefs depth (f ∷ fs) 0 f (omega arith) h in
    All-cons (λ f. length f.coefs < n) f fs (omega arith) (short_forms n depth fs l (and_parts (coefs_fit depth f) (list_all (coefs_fit depth) fs) h).1)

pub row_length : (n : ℕ) (row : Form) → IsTrue (row_fits n row) → length row.coefs ≡ n
row_length n row h = eqb-true (length row.coefs) n (and_parts (nat_eq (length row.coefs) n) _ h).0

shorts : (n : ℕ) (boxes : List Range) (ps : List Around) → length boxes + loops ps ≤ n → LevelsFit boxes ps → Each (IsShortPart n) ps
shorts n boxes [] e fit = tt
shorts n boxes (Inside l ∷ ps) e fit =
    let b : List Range = boxes ++ box_of boxes l.lows l.highs ∷ [] in
    let m : length b ≡ length boxes + 1 = length-append boxes (box_of boxes l.lows l.highs ∷ []) in (
      record {
        lows = short_forms n (length boxes) l.lows (omega arith) (head_lows (length boxes) l.lows l.highs l.step fit.0);
        highs = short_forms n (length boxes) l.highs (omega arith) (head_highs (length boxes) l.lows l.highs l.step fit.0);
        step = (head_step (length boxes) l.lows l.highs l.step fit.0).1;
      },
      shorts n b ps (omega arith) fit.2,
    )
shorts n boxes (Where row ∷ ps) e fit =
    let a = row_length (length boxes) row fit.0 in
    (omega arith, shorts n boxes ps e fit.1)

pub short_at : (ps : List Around) (n k : ℕ) (part d : Around) → LevelsFit [] ps → loops ps ≤ n → k < length ps → part ≡ get_or ps k d → IsShortPart n part
short_at ps n k part d fit few l is = subst (IsShortPart n) (sym is) (all_from_each (IsShortPart n) ps (shorts n [] ps (omega arith) fit) k d l)

pub shorter : (m n : ℕ) (fs : List Form) → m ≤ n → AllShort m fs → AllShort n fs
shorter m n fs l h = All-weaker (λ f. length f.coefs < m) (λ f. length f.coefs < n) (λ f k. omega arith) fs h

-- the boxes of the loops so far, and the loops that are left
pub record BoxesSoFar (around : List Around) (k : ℕ) (now : List Range) : Type 0 where
  pub whole : now ++ boxes_from now (drop k around) ≡ boxes_from [] around
  pub fit : LevelsFit now (drop k around)
  pub small : All IsSmall now
  pub few : length now + loops (drop k around) ≤ deepest

pub boxes_begin : (around : List Around) → LevelsFit [] around → loops around ≤ deepest → BoxesSoFar around 0 []
boxes_begin around fit few = record { whole = refl; fit = fit; small = All-nil IsSmall; few = omega arith }

pub record BoxNext (boxes : List Range) (l : Level) : Type 0 where
  pub lows : IsTrue (list_all (coefs_fit (length boxes)) l.lows)
  pub highs : IsTrue (list_all (coefs_fit (length boxes)) l.highs)
  pub small : IsSmall (box_of boxes l.lows l.highs)

next_part : (around : List Around) (k : ℕ) (now : List Range) (part d : Around) (level : Around) → k < length around → part ≡ get_or around k d → part ≡ level → BoxesSoFar around k now
    → LevelsFit now (level ∷ drop (k + 1) around)
next_part around k now part d level l is at s = subst (λ p. LevelsFit now (p ∷ drop (k + 1) around)) (sym is ∙ at) (subst (LevelsFit now) (drop_more around k d l) s.fit)

pub box_next : (around : List Around) (k : ℕ) (now : List Range) (part d : Around) (level : Level) → k < length around → part ≡ get_or around k d → part ≡ Inside level
    → BoxesSoFar around k now → BoxNext now level
box_next around k now part d level l is at s =
    let fit = next_part around k now part d (Inside level) l is at s in
    record { lows = head_lows (length now) level.lows level.highs level.step fit.0; highs = head_highs (length now) level.lows level.highs level.step fit.0; small = fit.1 }

pub boxes_next : (around : List Around) (k : ℕ) (now next : List Range) (box : Range) (part d : Around) (level : Level) → k < length around → part ≡ get_or around k d → part ≡ Inside level
    → BoxesSoFar around k now → box ≡ box_of now level.lows level.highs → next ≡ now ++ box ∷ [] → BoxesSoFar around (k + 1) next
boxes_next around k now next box part d level l is at s eb n =
    let more : List Around = drop (k + 1) around in
    let b : Range = box_of now level.lows level.highs in
    let e : next ≡ now ++ b ∷ [] = n ∙ ap (λ z. now ++ z ∷ []) eb in
    let fit = next_part around k now part d (Inside level) l is at s in
    let shape : drop k around ≡ Inside level ∷ more = drop_more around k d l ∙ ap (λ p. p ∷ more) (sym is ∙ at) in
    let few = s.few in
    let m = ap loops shape in
    let c = length-append now (b ∷ []) in
    subst (BoxesSoFar around (k + 1)) (sym e)
    (record {
      whole = append_assoc now (b ∷ []) (boxes_from (now ++ b ∷ []) more) ∙ ap (λ ps. now ++ boxes_from now ps) (sym shape) ∙ s.whole;
      fit = fit.2;
      small = All-push IsSmall now b s.small fit.1;
      few = omega arith;
    })

pub boxes_pass : (around : List Around) (k : ℕ) (now : List Range) (part d : Around) (row : Form) → k < length around → part ≡ get_or around k d → part ≡ Where row
    → BoxesSoFar around k now → BoxesSoFar around (k + 1) now
boxes_pass around k now part d row l is at s =
    let more : List Around = drop (k + 1) around in
    let fit = next_part around k now part d (Where row) l is at s in
    let shape : drop k around ≡ Where row ∷ more = drop_more around k d l ∙ ap (λ p. p ∷ more) (sym is ∙ at) in
    let few = s.few in
    let m = ap loops shape in
    record { whole = ap (λ ps. now ++ boxes_from now ps) (sym shape) ∙ s.whole; fit = fit.1; small = s.small; few = omega arith }

pub boxes_end : (around : List Around) (k : ℕ) (now : List Range) → length around ≤ k → BoxesSoFar around k now → now ≡ boxes_from [] around
boxes_end around k now l s = sym (ap (λ ps. now ++ boxes_from now ps) (drop_all k around l) ∙ append-nil now) ∙ s.whole

-- the boxes of hidden values so far

pub record HiddenSoFar (around : List Around) (k : ℕ) (boxes all : List Range) (next : ℕ) : Type 0 where
  pub whole : all ++ hidden_boxes (drop next boxes) (drop k around) ≡ boxes ++ hidden_boxes boxes around
  pub left : next + loops (drop k around) ≡ length boxes

pub hidden_begins : (around : List Around) (boxes all : List Range) → boxes ≡ boxes_from [] around → all ≡ boxes → HiddenSoFar around 0 boxes all 0
hidden_begins around boxes all e a = record { whole = ap (λ t. t ++ hidden_boxes boxes around) a; left = let n = ap length e in let m = length_boxes [] around in omega arith }

shape_of : (around : List Around) (k : ℕ) (part d now : Around) → k < length around → part ≡ get_or around k d → part ≡ now → drop k around ≡ now ∷ drop (k + 1) around
shape_of around k part d now l is at = drop_more around k d l ∙ ap (λ p. p ∷ drop (k + 1) around) (sym is ∙ at)

pub hidden_there : (around : List Around) (k : ℕ) (boxes all : List Range) (next : ℕ) (part d : Around) (level : Level) → k < length around → part ≡ get_or around k d → part ≡ Inside level
    → HiddenSoFar around k boxes all next → next < length boxes
hidden_there around k boxes all next part d level l is at s =
    let m = ap loops (shape_of around k part d (Inside level) l is at) in
    let e = s.left in
    omega arith

hidden_split : (b : Range) (bs : List Range) (level : Level) (more : List Around) (c : Bool) → nat_eq level.step 1 ≡ c
    → hidden_boxes (b ∷ bs) (Inside level ∷ more) ≡ (if c then hidden_boxes bs more else hidden_range b level.step ∷ hidden_boxes bs more)
hidden_split b bs level more c e = ap (λ c. if c then hidden_boxes bs more else hidden_range b level.step ∷ hidden_boxes bs more) e

is_plain : (step : ℕ) → step ≡ 1 → nat_eq step 1 ≡ true
is_plain step e = ap (λ m. nat_eq m 1) e

is_stepped : (step : ℕ) → (step ≡ 1 → ⊥) → nat_eq step 1 ≡ false
is_stepped step some = by (nat_eq step 1) refl
  where
    by : (b : Bool) → nat_eq step 1 ≡ b → b ≡ false
    by true e = absurd (some (eqb-true step 1 e))
    by false e = refl

pub hidden_plain : (around : List Around) (k : ℕ) (boxes all : List Range) (next : ℕ) (part d : Around) (level : Level) → k < length around → part ≡ get_or around k d → part ≡ Inside level
    → level.step ≡ 1 → HiddenSoFar around k boxes all next → HiddenSoFar around (k + 1) boxes all (next + 1)
hidden_plain around k boxes all next part d level l is at one s =
    let more : List Around = drop (k + 1) around in
    let shape = shape_of around k part d (Inside level) l is at in
    let m = ap loops shape in
    let e = s.left in
    let there : next < length boxes = omega arith in
    let b : Range = get_or boxes next (record { low = pos 0; high = pos 0 }) in
    record {
      whole = ap (λ t. all ++ t) (sym (ap₂ hidden_boxes (drop_more boxes next (record { low = pos 0; high = pos 0 }) there) shape ∙ hidden_split b (drop (next + 1) boxes) level more true (is_plain level.step one))) ∙ s.whole;
      left = omega arith;
    }

pub hidden_more : (around : List Around) (k : ℕ) (boxes all new : List Range) (next : ℕ) (box d : Range) (part e : Around) (level : Level) → k < length around → part ≡ get_or around k e → part ≡ Inside level
    → (level.step ≡ 1 → ⊥) → box ≡ get_or boxes next d → new ≡ all ++ hidden_range box level.step ∷ [] → HiddenSoFar around k boxes all next → HiddenSoFar around (k + 1) boxes new (next + 1)
hidden_more around k boxes all new next box d part e level l is at some eb n s =
    let more : List Around = drop (k + 1) around in
    let shape = shape_of around k part e (Inside level) l is at in
    let m = ap loops shape in
    let f = s.left in
    let there : next < length boxes = omega arith in
    let b : Range = get_or boxes next d in
    let rest : List Range = hidden_boxes (drop (next + 1) boxes) more in
    record {
      whole = ap (λ t. t ++ rest) (n ∙ ap (λ z. all ++ hidden_range z level.step ∷ []) eb) ∙ append_assoc all (hidden_range b level.step ∷ []) rest
          ∙ ap (λ t. all ++ t) (sym (ap₂ hidden_boxes (drop_more boxes next d there) shape ∙ hidden_split b (drop (next + 1) boxes) level more false (is_stepped level.step some))) ∙ s.whole;
      left = omega arith;
    }

pub hidden_pass : (around : List Around) (k : ℕ) (boxes all : List Range) (next : ℕ) (part d : Around) (row : Form) → k < length around → part ≡ get_or around k d → part ≡ Where row
    → HiddenSoFar around k boxes all next → HiddenSoFar around (k + 1) boxes all next
hidden_pass around k boxes all next part d row l is at s =
    let shape = shape_of around k part d (Where row) l is at in
    let m = ap loops shape in
    let e = s.left in
    record { whole = ap (λ t. all ++ t) (sym (ap (hidden_boxes (drop next boxes)) shape ∙ hidden_where (drop next boxes) row (drop (k + 1) around))) ∙ s.whole; left = omega arith }
  where
    hidden_where : (bs : List Range) (row : Form) (more : List Around) → hidden_boxes bs (Where row ∷ more) ≡ hidden_boxes bs more
    hidden_where [] row more = refl
    hidden_where (b ∷ bs) row more = refl

pub hidden_end : (around : List Around) (k : ℕ) (boxes all : List Range) (next : ℕ) → boxes ≡ boxes_from [] around → length around ≤ k → HiddenSoFar around k boxes all next
    → all ≡ boxes_from [] around ++ hidden_boxes (boxes_from [] around) around
hidden_end around k boxes all next e l s =
    sym (append-nil all) ∙ ap (λ t. all ++ t) (sym (ap (hidden_boxes (drop next boxes)) (drop_all k around l) ∙ hidden_none (drop next boxes))) ∙ s.whole
    ∙ ap (λ bs. bs ++ hidden_boxes bs around) e
  where
    hidden_none : (bs : List Range) → hidden_boxes bs [] ≡ []
    hidden_none [] = refl
    hidden_none (b ∷ bs) = refl

-- a box has a number, and small ends
pub record IsGood (b : Range) : Type 0 where
  pub small : IsSmall b
  pub some : b.low ≤ℤ b.high

good_of : (boxes : List Range) (l : Level) → IsSmall (box_of boxes l.lows l.highs) → IsGood (box_of boxes l.lows l.highs)
good_of boxes l h = record { small = h; some = omega (arith, ints, clamps) }

good_boxes : (boxes : List Range) (ps : List Around) → LevelsFit boxes ps → All IsGood (boxes_from boxes ps)
good_boxes boxes [] fit = All-nil IsGood
good_boxes boxes (Inside l ∷ ps) fit =
    let b : Range = box_of boxes l.lows l.highs in
    All-cons IsGood b (boxes_from (boxes ++ b ∷ []) ps) (good_of boxes l fit.1) (good_boxes (boxes ++ b ∷ []) ps fit.2)
good_boxes boxes (Where row ∷ ps) fit = good_boxes boxes ps fit.1

pub good_at : (around : List Around) (boxes : List Range) (next : ℕ) (d : Range) → LevelsFit [] around → boxes ≡ boxes_from [] around → next < length boxes → IsGood (get_or boxes next d)
good_at around boxes next d fit e l = subst (All IsGood) (sym e) (good_boxes [] around fit) next d l

abbrev Rises : Around → Type 0
Rises (Inside l) = 1 ≤ l.step
Rises (Where row) = Unit {0}

all_rise : (boxes : List Range) (ps : List Around) → LevelsFit boxes ps → Each Rises ps
all_rise boxes [] fit = tt
all_rise boxes (Inside l ∷ ps) fit = ((head_step (length boxes) l.lows l.highs l.step fit.0).0, all_rise (boxes ++ box_of boxes l.lows l.highs ∷ []) ps fit.2)
all_rise boxes (Where row ∷ ps) fit = (tt, all_rise boxes ps fit.1)

pub rises_at : (around : List Around) (k : ℕ) (part d : Around) (level : Level) → LevelsFit [] around → k < length around → part ≡ get_or around k d → part ≡ Inside level → 1 ≤ level.step
rises_at around k part d level fit l is at = subst Rises (sym is ∙ at) (all_from_each Rises around (all_rise [] around fit) k d l)

-- the system of loops

length_zeros : (n : ℕ) → length (zeros n) ≡ n
length_zeros zero = refl
length_zeros (suc n) = ap suc (length_zeros n)

pub length_padded : (n : ℕ) (cs : List ℤ) → length cs ≤ n → length (padded n cs) ≡ n
length_padded n cs l = let a = length-append cs (zeros (n - length cs)) in let b = length_zeros (n - length cs) in omega arith

low_long : (n : ℕ) (f : Form) → length f.coefs < n → length (low_row n f).coefs ≡ n
low_long n f l =
    length_padded n (map neg_ℤ f.coefs ++ pos 1 ∷ []) (let a = length-append (map neg_ℤ f.coefs) (pos 1 ∷ []) in let b = length-map f.coefs neg_ℤ in omega arith)

high_long : (n : ℕ) (f : Form) → length f.coefs < n → length (high_row n f).coefs ≡ n
high_long n f l = length_padded n (f.coefs ++ negsuc 0 ∷ []) (let a = length-append f.coefs (negsuc 0 ∷ []) in omega arith)

small_neg : (z : ℤ) → IsAtMost (2 ^ 60) z → IsAtMost (2 ^ 60) (neg_ℤ z)
small_neg z s = grind (arith, ints)

small_zeros : (n : ℕ) → All (IsAtMost (2 ^ 60)) (zeros n)
small_zeros zero = All-nil (IsAtMost (2 ^ 60))
small_zeros (suc n) = All-cons (IsAtMost (2 ^ 60)) (pos 0) (zeros n) (omega arith) (small_zeros n)

small_negated : (xs : List ℤ) → All (IsAtMost (2 ^ 60)) xs → All (IsAtMost (2 ^ 60)) (map neg_ℤ xs)
small_negated xs s = All-map (IsAtMost (2 ^ 60)) neg_ℤ xs (λ k d l. small_neg (get_or xs k d) (s k d l))

small_padded : (n : ℕ) (cs : List ℤ) (constant : ℤ) → length cs ≤ n → n ≤ 2 * deepest → All (IsAtMost (2 ^ 60)) cs → IsAtMost (2 ^ 60) constant
    → IsSmallForm (record { coefs = padded n cs; constant = constant })
small_padded n cs constant l few s k = record {
  few = let e = length_padded n cs l in omega arith;
  coefs = All-append (IsAtMost (2 ^ 60)) cs (zeros (n - length cs)) s (small_zeros (n - length cs));
  constant = k;
}

last_small : (cs : List ℤ) (c : ℤ) → All (IsAtMost (2 ^ 60)) cs → IsAtMost (2 ^ 60) c → All (IsAtMost (2 ^ 60)) (cs ++ c ∷ [])
last_small cs c s k = All-push (IsAtMost (2 ^ 60)) cs c s k

-- the numbers of the rows are small
pub low_small : (loops : ℕ) (f now : Form) (xs coefs pushed made : List ℤ) (k : ℤ) → IsSmallForm f → f ≡ now → length now.coefs < loops → loops ≤ 2 * deepest
    → xs ≡ f.coefs → coefs ≡ map neg_ℤ xs → pushed ≡ coefs ++ pos 1 ∷ [] → made ≡ padded loops pushed → k ≡ neg_ℤ f.constant
    → IsSmallForm (record { coefs = made; constant = k })
low_small loops f now xs coefs pushed made k s view around few ex ec ep em ek =
    let cs : List ℤ = map neg_ℤ f.coefs ++ pos 1 ∷ [] in
    let e : made ≡ padded loops cs = em ∙ ap (padded loops) (ep ∙ ap (λ t. t ++ pos 1 ∷ []) (ec ∙ ap (map neg_ℤ) ex)) in
    let v = ap (λ (g : Form). length g.coefs) view in
    let a = length-append (map neg_ℤ f.coefs) (pos 1 ∷ []) in
    let b = length-map f.coefs neg_ℤ in
    subst (λ t. IsSmallForm (record { coefs = t; constant = k })) (sym e)
    (small_padded loops cs k (omega arith) few (last_small (map neg_ℤ f.coefs) (pos 1) (small_negated f.coefs s.coefs) (omega arith))
    (subst (IsAtMost (2 ^ 60)) (sym ek) (small_neg f.constant s.constant)))

pub high_small : (loops : ℕ) (f now : Form) (xs coefs pushed made : List ℤ) (k : ℤ) → IsSmallForm f → f ≡ now → length now.coefs < loops → loops ≤ 2 * deepest
    → xs ≡ f.coefs → coefs ≡ xs → pushed ≡ coefs ++ negsuc 0 ∷ [] → made ≡ padded loops pushed → k ≡ f.constant
    → IsSmallForm (record { coefs = made; constant = k })
high_small loops f now xs coefs pushed made k s view around few ex ec ep em ek =
    let cs : List ℤ = f.coefs ++ negsuc 0 ∷ [] in
    let e : made ≡ padded loops cs = em ∙ ap (padded loops) (ep ∙ ap (λ t. t ++ negsuc 0 ∷ []) (ec ∙ ex)) in
    let v = ap (λ (g : Form). length g.coefs) view in
    let a = length-append f.coefs (negsuc 0 ∷ []) in
    subst (λ t. IsSmallForm (record { coefs = t; constant = k })) (sym e)
    (small_padded loops cs k (omega arith) few (last_small f.coefs (negsuc 0) s.coefs (omega arith)) (subst (IsAtMost (2 ^ 60)) (sym ek) s.constant))

-- the numbers of a row with a step

step_coefs : (at step : ℕ) (cs : List ℤ) (c : ℤ) → All (IsAtMost (2 ^ 60)) cs → IsAtMost (2 ^ 60) c → All (IsAtMost (2 ^ 60)) (padded at cs ++ c ∷ [])
step_coefs at step cs c s k = last_small (padded at cs) c (All-append (IsAtMost (2 ^ 60)) cs (zeros (at - length cs)) s (small_zeros (at - length cs))) k

pub step_long : (at : ℕ) (cs : List ℤ) (c : ℤ) → length cs ≤ at → length (padded at cs ++ c ∷ []) ≡ at + 1
step_long at cs c l = length-append (padded at cs) (c ∷ []) ∙ ap (λ n. n + 1) (length_padded at cs l)

pub low_front : (f : Form) (xs coefs pushed : List ℤ) (at : ℕ) → length f.coefs < at → xs ≡ f.coefs → coefs ≡ map neg_ℤ xs → pushed ≡ coefs ++ pos 1 ∷ [] → length pushed ≤ at
low_front f xs coefs pushed at l ex ec ep =
    let e : pushed ≡ map neg_ℤ f.coefs ++ pos 1 ∷ [] = ep ∙ ap (λ t. t ++ pos 1 ∷ []) (ec ∙ ap (map neg_ℤ) ex) in
    let n = ap length e in
    let a = length-append (map neg_ℤ f.coefs) (pos 1 ∷ []) in
    let b = length-map f.coefs neg_ℤ in
    omega arith

pub high_front : (f : Form) (xs coefs pushed : List ℤ) (at : ℕ) → length f.coefs < at → xs ≡ f.coefs → coefs ≡ xs → pushed ≡ coefs ++ negsuc 0 ∷ [] → length pushed ≤ at
high_front f xs coefs pushed at l ex ec ep =
    let e : pushed ≡ f.coefs ++ negsuc 0 ∷ [] = ep ∙ ap (λ t. t ++ negsuc 0 ∷ []) (ec ∙ ex) in
    let n = ap length e in
    let a = length-append f.coefs (negsuc 0 ∷ []) in
    omega arith

pub step_back : (at loops : ℕ) (pushed padding stepped : List ℤ) (c : ℤ) → length pushed ≤ at → at < loops → padding ≡ padded at pushed → stepped ≡ padding ++ c ∷ [] → length stepped ≤ loops
step_back at loops pushed padding stepped c l below ep es =
    let n = ap length (es ∙ ap (λ t. t ++ c ∷ []) ep) in
    let a = step_long at pushed c l in
    omega arith

pub steps_small : (loops at step : ℕ) (f : Form) (front pushed padding stepped made : List ℤ) (c k : ℤ) → at < loops → loops ≤ 2 * deepest → All (IsAtMost (2 ^ 60)) front → length front ≤ at → IsAtMost (2 ^ 60) c
    → IsAtMost (2 ^ 60) k → pushed ≡ front → padding ≡ padded at pushed → stepped ≡ padding ++ c ∷ [] → made ≡ padded loops stepped → IsSmallForm (record { coefs = made; constant = k })
steps_small loops at step f front pushed padding stepped made c k below few s l cs ks ep ea es em =
    let e : stepped ≡ padded at front ++ c ∷ [] = es ∙ ap (λ t. t ++ c ∷ []) (ea ∙ ap (padded at) ep) in
    let n = step_long at front c l in
    subst (λ t. IsSmallForm (record { coefs = t; constant = k })) (sym (em ∙ ap (padded loops) e))
    (small_padded loops (padded at front ++ c ∷ []) k (omega arith) few (step_coefs at step front c s cs) ks)

pub steps_low_small : (loops at step : ℕ) (f now : Form) (xs coefs pushed padding stepped made : List ℤ) (c k : ℤ) → IsSmallForm f → f ≡ now → length now.coefs < at → at < loops → loops ≤ 2 * deepest
    → step ≤ most_step → xs ≡ f.coefs → coefs ≡ map neg_ℤ xs → pushed ≡ coefs ++ pos 1 ∷ [] → padding ≡ padded at pushed → c ≡ neg_ℤ (pos step) → stepped ≡ padding ++ c ∷ []
    → made ≡ padded loops stepped → k ≡ neg_ℤ f.constant → IsSmallForm (record { coefs = made; constant = k })
steps_low_small loops at step f now xs coefs pushed padding stepped made c k s view around below few small ex ec ep ea eq es em ek =
    let front : List ℤ = map neg_ℤ f.coefs ++ pos 1 ∷ [] in
    let v = ap (λ (g : Form). length g.coefs) view in
    let a = length-append (map neg_ℤ f.coefs) (pos 1 ∷ []) in
    let b = length-map f.coefs neg_ℤ in
    steps_small loops at step f front pushed padding stepped made c k below few (last_small (map neg_ℤ f.coefs) (pos 1) (small_negated f.coefs s.coefs) (omega arith)) (omega arith)
    (subst (IsAtMost (2 ^ 60)) (sym eq) (omega (arith, ints))) (subst (IsAtMost (2 ^ 60)) (sym ek) (small_neg f.constant s.constant))
    (ep ∙ ap (λ t. t ++ pos 1 ∷ []) (ec ∙ ap (map neg_ℤ) ex)) ea es em

pub steps_high_small : (loops at step : ℕ) (f now : Form) (xs coefs pushed padding stepped made : List ℤ) (c k : ℤ) → IsSmallForm f → f ≡ now → length now.coefs < at → at < loops → loops ≤ 2 * deepest
    → step ≤ most_step → xs ≡ f.coefs → coefs ≡ xs → pushed ≡ coefs ++ negsuc 0 ∷ [] → padding ≡ padded at pushed → c ≡ pos step → stepped ≡ padding ++ c ∷ []
    → made ≡ padded loops stepped → k ≡ f.constant → IsSmallForm (record { coefs = made; constant = k })
steps_high_small loops at step f now xs coefs pushed padding stepped made c k s view around below few small ex ec ep ea eq es em ek =
    let front : List ℤ = f.coefs ++ negsuc 0 ∷ [] in
    let v = ap (λ (g : Form). length g.coefs) view in
    let a = length-append f.coefs (negsuc 0 ∷ []) in
    steps_small loops at step f front pushed padding stepped made c k below few (last_small f.coefs (negsuc 0) s.coefs (omega arith)) (omega arith)
    (subst (IsAtMost (2 ^ 60)) (sym eq) (omega (arith, ints))) (subst (IsAtMost (2 ^ 60)) (sym ek) s.constant)
    (ep ∙ ap (λ t. t ++ negsuc 0 ∷ []) (ec ∙ ex)) ea es em

pub padded_small : (loops : ℕ) (f now : Form) (xs coefs made : List ℤ) (k : ℤ) → IsSmallForm f → f ≡ now → length now.coefs ≤ loops → loops ≤ 2 * deepest → xs ≡ f.coefs → coefs ≡ xs
    → made ≡ padded loops coefs → k ≡ f.constant → IsSmallForm (record { coefs = made; constant = k })
padded_small loops f now xs coefs made k s view around few ex ec em ek =
    let v = ap (λ (g : Form). length g.coefs) view in
    subst (λ t. IsSmallForm (record { coefs = t; constant = k })) (sym (em ∙ ap (padded loops) (ec ∙ ex)))
    (small_padded loops f.coefs k (omega arith) few s.coefs (subst (IsAtMost (2 ^ 60)) (sym ek) s.constant))

pub unit_small : (before after : ℕ) (first one made : List ℤ) → before + after + 1 ≤ deepest → first ≡ zeros before → one ≡ first ++ pos 1 ∷ [] → made ≡ one ++ zeros after
    → IsSmallForm (record { coefs = made; constant = pos 0 })
unit_small before after first one made few ef eo em =
    let e : made ≡ (zeros before ++ pos 1 ∷ []) ++ zeros after = em ∙ ap (λ t. t ++ zeros after) (eo ∙ ap (λ t. t ++ pos 1 ∷ []) ef) in
    subst (λ t. IsSmallForm (record { coefs = t; constant = pos 0 })) (sym e) (record {
      few =
          let a = length-append (zeros before ++ pos 1 ∷ []) (zeros after) in
          let b = length-append (zeros before) (pos 1 ∷ []) in
          let c = length_zeros before in
          let d = length_zeros after in
          omega arith;
      coefs = All-append (IsAtMost (2 ^ 60)) (zeros before ++ pos 1 ∷ []) (zeros after) (last_small (zeros before) (pos 1) (small_zeros before) (omega arith)) (small_zeros after);
      constant = omega arith;
    })

-- the system of a piece

box_of_small : (b : Range) → IsSmall b → b.low ≤ℤ b.high → IsBox b
box_of_small b s o =
    let l : unsigned_abs b.low ≤ 2 ^ 30 = leb-true _ _ (and_parts _ _ s).0 in
    let h : unsigned_abs b.high ≤ 2 ^ 30 = leb-true _ _ (and_parts _ _ s).1 in
    record { low = omega arith; high = omega arith; some = o }

box_ordered : (boxes : List Range) (lows highs : List Form) → (box_of boxes lows highs).low ≤ℤ (box_of boxes lows highs).high
box_ordered boxes lows highs = omega (arith, ints, clamps)

each_box : (boxes : List Range) (ps : List Around) → LevelsFit boxes ps → All IsBox (boxes_from boxes ps)
each_box boxes [] fit = All-nil IsBox
each_box boxes (Inside l ∷ ps) fit =
    let b : Range = box_of boxes l.lows l.highs in
    All-cons IsBox b (boxes_from (boxes ++ b ∷ []) ps) (box_of_small b fit.1 (box_ordered boxes l.lows l.highs)) (each_box (boxes ++ b ∷ []) ps fit.2)
each_box boxes (Where row ∷ ps) fit = each_box boxes ps fit.1

hidden_is_box : (b : Range) (step : ℕ) → IsSmall b → IsBox (hidden_range b step)
hidden_is_box b step s =
    let l : unsigned_abs b.low ≤ 2 ^ 30 = leb-true _ _ (and_parts _ _ s).0 in
    let h : unsigned_abs b.high ≤ 2 ^ 30 = leb-true _ _ (and_parts _ _ s).1 in
    let d = div-le_self (unsigned_abs (b.high -ℤ b.low)) step in
    record { low = omega arith; high = omega (arith, ints, d, l, h); some = omega (arith, ints) }

hidden_are_boxes : (bs : List Range) (ps : List Around) → All IsSmall bs → All IsBox (hidden_boxes bs ps)
hidden_are_boxes bs [] s = subst (All IsBox) (sym (none bs)) (All-nil IsBox)
  where
    none : (bs : List Range) → hidden_boxes bs [] ≡ []
    none [] = refl
    none (b ∷ bs) = refl
hidden_are_boxes [] (Inside l ∷ ps) s = All-nil IsBox
hidden_are_boxes (b ∷ bs) (Inside l ∷ ps) s =
    by (nat_eq l.step 1) (hidden_are_boxes bs ps (All-tail IsSmall b bs s))
  where
    by : (c : Bool) → All IsBox (hidden_boxes bs ps) → All IsBox (if c then hidden_boxes bs ps else hidden_range b l.step ∷ hidden_boxes bs ps)
    by true more = more
    by false more = All-cons IsBox (hidden_range b l.step) (hidden_boxes bs ps) (hidden_is_box b l.step (All-head IsSmall b bs s)) more
hidden_are_boxes [] (Where row ∷ ps) s = hidden_are_boxes [] ps s
hidden_are_boxes (b ∷ bs) (Where row ∷ ps) s = hidden_are_boxes (b ∷ bs) ps s

pub length_hidden : (boxes : List Range) (ps : List Around) → length (hidden_boxes (boxes_from boxes ps) ps) ≡ steps ps
length_hidden boxes [] = refl
length_hidden boxes (Inside l ∷ ps) =
    let b : Range = box_of boxes l.lows l.highs in
    by (nat_eq l.step 1) (steps ps) (hidden_boxes (boxes_from (boxes ++ b ∷ []) ps) ps) (hidden_range b l.step) (length_hidden (boxes ++ b ∷ []) ps)
  where
    by : (c : Bool) (n : ℕ) (more : List Range) (r : Range) → length more ≡ n → length (if c then more else r ∷ more) ≡ (if c then 0 else 1) + n
    by true n more r e = omega arith
    by false n more r e = omega arith
length_hidden boxes (Where row ∷ ps) = let a = pass (boxes_from boxes ps) in let b = length_hidden boxes ps in omega arith
  where
    pass : (bs : List Range) → length (hidden_boxes bs (Where row ∷ ps)) ≡ length (hidden_boxes bs ps)
    pass [] = refl
    pass (b ∷ bs) = refl

pub small_boxes : (boxes : List Range) (ps : List Around) → LevelsFit boxes ps → All IsSmall (boxes_from boxes ps)
small_boxes boxes [] fit = All-nil IsSmall
small_boxes boxes (Inside l ∷ ps) fit =
    All-cons IsSmall (box_of boxes l.lows l.highs) (boxes_from (boxes ++ box_of boxes l.lows l.highs ∷ []) ps) fit.1 (small_boxes (boxes ++ box_of boxes l.lows l.highs ∷ []) ps fit.2)
small_boxes boxes (Where row ∷ ps) fit = small_boxes boxes ps fit.1

abbrev AllLong : ℕ → List Form → Type 0
AllLong n = All (λ f. length f.coefs ≡ n)

lows_long : (n : ℕ) (fs : List Form) → AllShort n fs → AllLong n (map (low_row n) fs)
lows_long n fs s = All-map (λ f. length f.coefs ≡ n) (low_row n) fs (λ k d l. low_long n (get_or fs k d) (s k d l))

highs_long : (n : ℕ) (fs : List Form) → AllShort n fs → AllLong n (map (high_row n) fs)
highs_long n fs s = All-map (λ f. length f.coefs ≡ n) (high_row n) fs (λ k d l. high_long n (get_or fs k d) (s k d l))

one_step_long : (n at : ℕ) (cs : List ℤ) (c : ℤ) → length cs ≤ at → at < n → length (padded n (padded at cs ++ c ∷ [])) ≡ n
one_step_long n at cs c l b = length_padded n (padded at cs ++ c ∷ []) (let e = step_long at cs c l in omega arith)

steps_long : (n at step : ℕ) (fs : List Form) → AllShort at fs → at < n → AllLong n (step_rows n at step fs)
steps_long n at step [] s b = All-nil (λ f. length f.coefs ≡ n)
steps_long n at step (f ∷ fs) s b =
    let l : length f.coefs < at = All-head (λ f. length f.coefs < at) f fs s in
    let i = length-append (map neg_ℤ f.coefs) (pos 1 ∷ []) in
    let j = length-map f.coefs neg_ℤ in
    let k = length-append f.coefs (negsuc 0 ∷ []) in
    All-cons (λ f. length f.coefs ≡ n) (steps_low n at step f) (steps_high n at step f ∷ step_rows n at step fs)
    (one_step_long n at (map neg_ℤ f.coefs ++ pos 1 ∷ []) (neg_ℤ (pos step)) (omega arith) b)
    (All-cons (λ f. length f.coefs ≡ n) (steps_high n at step f) (step_rows n at step fs)
    (one_step_long n at (f.coefs ++ negsuc 0 ∷ []) (pos step) (omega arith) b)
    (steps_long n at step fs (All-tail (λ f. length f.coefs < at) f fs s) b))

level_long : (n at : ℕ) (l : Level) → IsShort at l → at + hidden_of (Inside l) ≤ n → AllLong n (level_rows n at l)
level_long n at l s b =
    All-append (λ f. length f.coefs ≡ n) (if nat_eq l.step 1 then map (low_row n) l.lows else step_rows n at l.step l.lows) (map (high_row n) l.highs)
    (by (nat_eq l.step 1) b) (highs_long n l.highs (shorter at n l.highs (omega arith) s.highs))
  where
    by : (c : Bool) → at + (if c then 0 else 1) ≤ n → AllLong n (if c then map (low_row n) l.lows else step_rows n at l.step l.lows)
    by true b = lows_long n l.lows (shorter at n l.lows (omega arith) s.lows)
    by false b = steps_long n at l.step l.lows s.lows (omega arith)

part_long : (n at m : ℕ) (p : Around) → m ≤ at → IsShortPart m p → at + hidden_of p ≤ n → AllLong n (part_rows n at p)
part_long n at m (Inside l) le s b =
    level_long n at l (record { lows = shorter m at l.lows le s.lows; highs = shorter m at l.highs le s.highs; step = s.step }) b
part_long n at m (Where row) le s b =
    All-cons (λ f. length f.coefs ≡ n) (padded_row n row) [] (length_padded n row.coefs (omega arith)) (All-nil (λ f. length f.coefs ≡ n))

rows_long : (n at m : ℕ) (ps : List Around) → m ≤ at → at + steps ps ≤ n → Each (IsShortPart m) ps → AllLong n (rows_of n at ps)
rows_long n at m [] le b s = All-nil (λ f. length f.coefs ≡ n)
rows_long n at m (p ∷ ps) le b s =
    All-append (λ f. length f.coefs ≡ n) (part_rows n at p) (rows_of n (at + hidden_of p) ps)
    (part_long n at m p le s.0 (omega arith)) (rows_long n (at + hidden_of p) m ps (omega arith) (omega arith) s.1)

pub system_fits : (ps : List Around) (n : ℕ) (rows : List Form) (boxes : List Range) → LevelsFit [] ps → loops ps ≤ deepest → n ≡ loops ps + steps ps → rows ≡ rows_of (loops ps + steps ps) (loops ps) ps
    → boxes ≡ boxes_from [] ps ++ hidden_boxes (boxes_from [] ps) ps → IsSystem (record { vars = n; rows = rows; boxes = boxes })
system_fits ps n rows boxes fit few en er eb =
    let h = steps_few ps in
    let a = length-append (boxes_from [] ps) (hidden_boxes (boxes_from [] ps) ps) in
    let b = length_boxes [] ps in
    let c = length_hidden [] ps in
    let s : IsSystem (system_of ps) = record {
      few = omega arith;
      rows = rows_long (loops ps + steps ps) (loops ps) (loops ps) ps (omega arith) (omega arith) (shorts (loops ps) [] ps (omega arith) fit);
      boxes = omega arith;
      each = All-append IsBox (boxes_from [] ps) (hidden_boxes (boxes_from [] ps) ps) (each_box [] ps fit) (hidden_are_boxes (boxes_from [] ps) ps (small_boxes [] ps fit));
    } in
    subst (λ m. IsSystem (system m rows boxes)) (sym en) (subst (λ r. IsSystem (system (loops ps + steps ps) r boxes)) (sym er)
    (subst (λ b. IsSystem (system (loops ps + steps ps) (rows_of (loops ps + steps ps) (loops ps) ps) b)) (sym eb) s))

pub negated_number : (z : ℤ) → pos 0 -ℤ z ≡ neg_ℤ z
negated_number z = omega (arith, ints)

pub negated_step : (z : ℤ) (step : ℕ) → z ≡ pos step → step ≤ most_step → SFits w64 (pos 0 -ℤ z)
negated_step z step e l = omega (arith, ints)

pub steps_here : (around : List Around) (k at : ℕ) → at + steps (drop k around) ≡ loops around + steps around → loops around ≤ at
steps_here around k at e = let a = steps_fewer around k in omega arith
  where
    steps_fewer : (around : List Around) (k : ℕ) → steps (drop k around) ≤ steps around
    steps_fewer around zero = omega arith
    steps_fewer [] (suc k) = omega arith
    steps_fewer (p ∷ ps) (suc k) = let a = steps_fewer ps k in omega arith

pub all_few : (around : List Around) (levels hidden : ℕ) → levels ≡ loops around → hidden ≡ steps around → loops around ≤ deepest → levels + hidden ≤ 12
all_few around levels hidden e f l = let s = steps_few around in omega arith

pub hidden_few : (around : List Around) (k now n : ℕ) (part : Around) → n ≡ hidden_of part → now + steps (drop k around) ≡ steps around → loops around ≤ deepest → now + n ≤ 7
hidden_few around k now n part e h l = let s = steps_few around in let a = hidden_one part in let b = loops_of_one part in omega arith
  where
    loops_of_one : (p : Around) → loops_of p ≤ 1
    loops_of_one (Inside l) = omega arith
    loops_of_one (Where row) = omega arith

pub loops_few : (around : List Around) (k now : ℕ) → now + loops (drop k around) ≡ loops around → loops around ≤ deepest → now + 1 ≤ 7
loops_few around k now h l = omega arith
