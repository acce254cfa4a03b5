-- Turns of loops one inside another, counted value by value.
use Rattle.std.proofs.Common.{◌≡◌, refl, sym, ap, ap₂, ◌∙◌, subst, ℕ, zero, suc, ◌+◌, ◌-◌, ◌<◌, ◌≤◌, ◌^◌, unsigned_abs, ℤ, pos, ◌+ℤ◌, ◌≤ℤ◌, ◌<ℤ◌, Bool, true, false, if◌then◌else◌, List, [], ◌∷◌, ◌++◌, length, take, drop, get_or, arith, ◌==◌}
use Rattle.std.proofs.lemmas.Bool.{eqb-true}
use Rattle.std.specs.Bool.{IsTrue}
use Rattle.std.specs.List.{All, list_all}
use Rattle.std.proofs.lemmas.Int.{ints, clamps}
use Rattle.std.proofs.lemmas.List.Elements.{All-push}
use Rattle.ch_affine.specs.Affine.{IsAtMost}
use Rattle.ch_affine.specs.Form.{Form}
use Rattle.ch_affine.specs.Rows.{lies_in}
use Rattle.ch_affine.specs.declared.system.Range.{Range}
use Rattle.ch_nest.specs.Limits.{deepest}
use Rattle.ch_nest.specs.Run.{is_met, loop_values, low_of, high_of}
use Rattle.ch_nest.specs.Shape.{box_of, coefs_fit, head_fits, row_fits, IsSmall}
use Rattle.ch_nest.proofs.Corners.{lies_length, lies_push, lies_small, low_above, high_below}
use Rattle.ch_nest.proofs.Fits.{head_depth, head_lows, head_highs, head_step}
use Rattle.ch_nest.proofs.Rests.{rest-cons}
use Rattle.ch_nest.proofs.Turns.{LoopAt, value_small}
use Rattle.ch_nest.proofs.Values.{values_next, values_none}
use Rattle.ch_space.specs.declared.level.Around.{Around}
use Rattle.ch_space.specs.declared.level.Around.TheVariants.{Inside, Where}
use Rattle.ch_space.specs.declared.level.Level.{Level}
use Rattle.ch_space.specs.Fitting.{capped, LevelsAt, LevelsFit}
use Rattle.ch_space.specs.Statements.{sum_over, turns_below}
use Rattle.ch_space.proofs.Rowed.{in_level_box}

-- the first of some loops and conditions

pub first_at : (around : List Around) (point : List ℤ) (part now : Around) → 1 ≤ length around → part ≡ get_or around 0 part → part ≡ now → LevelsAt around point
    → LevelsAt (now ∷ take (length around - 1) (drop 1 around)) point
first_at [] point part now some is at a = absurd (omega arith)
first_at (p ∷ ps) point part now some is at a =
    subst (λ q. LevelsAt (q ∷ take (length (p ∷ ps) - 1) (drop 1 (p ∷ ps))) point) (sym is ∙ at) (subst (λ z. LevelsAt (p ∷ z) point) (sym (rest-cons p ps)) a)

pub first_below : (around : List Around) (point : List ℤ) (part now : Around) (r : ℕ) → 1 ≤ length around → part ≡ get_or around 0 part → part ≡ now
    → r ≡ capped (turns_below (now ∷ take (length around - 1) (drop 1 around)) point) → r ≡ capped (turns_below around point)
first_below [] point part now r some is at h = absurd (omega arith)
first_below (p ∷ ps) point part now r some is at h =
    h ∙ ap (λ q. capped (turns_below (q ∷ take (length (p ∷ ps) - 1) (drop 1 (p ∷ ps))) point)) (sym (sym is ∙ at)) ∙ ap (λ z. capped (turns_below (p ∷ z) point)) (sym (sym (rest-cons p ps)))

pub row_at : (row : Form) (inner : List Around) (point : List ℤ) → LevelsAt (Where row ∷ inner) point → IsTrue (row_fits (length point) row)
row_at row inner point a = subst (λ n. IsTrue (row_fits n row)) (sym (lies_length a.boxes point a.inside)) a.fit.0

pub met_at : (row : Form) (inner : List Around) (point : List ℤ) → LevelsAt (Where row ∷ inner) point → LevelsAt inner point
met_at row inner point a = record { boxes = a.boxes; small = a.small; inside = a.inside; fit = a.fit.1 }

pub met_below : (row : Form) (inner : List Around) (point : List ℤ) (r : ℕ) → true ≡ is_met row point → r ≡ capped (turns_below inner point) → r ≡ capped (turns_below (Where row ∷ inner) point)
met_below row inner point r m h = h ∙ ap (λ b. capped (if b then turns_below inner point else 0)) m

pub unmet_below : (row : Form) (inner : List Around) (point : List ℤ) → false ≡ is_met row point → 0 ≡ capped (turns_below (Where row ∷ inner) point)
unmet_below row inner point m = ap (λ b. capped (if b then turns_below inner point else 0)) m

pub no_parts : (around : List Around) (point : List ℤ) → length around ≡ 0 → 1 ≡ capped (turns_below around point)
no_parts [] point e = omega arith
no_parts (p ∷ ps) point e = absurd (omega arith)

pub small_at : (around : List Around) (point : List ℤ) → LevelsAt around point → All (IsAtMost (2 ^ 54)) point
small_at around point a = lies_small a.boxes point a.small a.inside

-- a loop

head_at : (l : Level) (inner : List Around) (point : List ℤ) → LevelsAt (Inside l ∷ inner) point → head_fits (length point) l.lows l.highs l.step ≡ true
head_at l inner point a = subst (λ n. head_fits n l.lows l.highs l.step ≡ true) (sym (lies_length a.boxes point a.inside)) a.fit.0

pub lows_at : (l : Level) (inner : List Around) (point : List ℤ) → LevelsAt (Inside l ∷ inner) point → IsTrue (list_all (coefs_fit (length point)) l.lows)
lows_at l inner point a = head_lows (length point) l.lows l.highs l.step (head_at l inner point a)

pub highs_at : (l : Level) (inner : List Around) (point : List ℤ) → LevelsAt (Inside l ∷ inner) point → IsTrue (list_all (coefs_fit (length point)) l.highs)
highs_at l inner point a = head_highs (length point) l.lows l.highs l.step (head_at l inner point a)

loop_of : (l : Level) (inner : List Around) (point : List ℤ) → LevelsAt (Inside l ∷ inner) point → LoopAt [] l.lows l.highs l.step [] point
loop_of l inner point a =
    let above = high_below a.boxes l.highs point (head_highs (length a.boxes) l.lows l.highs l.step a.fit.0) a.inside in
    record {
      boxes = a.boxes;
      small = a.small;
      inside = a.inside;
      head = head_at l inner point a;
      box = a.fit.1;
      fit = refl;
      low = low_above a.boxes l.lows point (head_lows (length a.boxes) l.lows l.highs l.step a.fit.0) a.inside;
      high = omega (arith, ints, clamps, above);
    }

-- what is known of a turn
pub record TurnAt (l : Level) (inner : List Around) (point : List ℤ) (x : ℤ) : Type 0 where
  pub depth : length point < deepest
  pub rises : 1 ≤ l.step
  pub small : unsigned_abs x ≤ 2 ^ 30
  pub there : (next : List ℤ) → next ≡ point ++ x ∷ [] → LevelsAt inner next

pub turn_of : (l : Level) (inner : List Around) (point : List ℤ) (low high x : ℤ) → LevelsAt (Inside l ∷ inner) point → low ≡ low_of l.lows point → high ≡ high_of l.highs point
    → low ≤ℤ x → x ≤ℤ high → TurnAt l inner point x
turn_of l inner point low high x a el eh from to =
    let head = head_at l inner point a in
    let from' : low_of l.lows point ≤ℤ x = subst (λ z. z ≤ℤ x) el from in
    let to' : x ≤ℤ high_of l.highs point = subst (λ z. x ≤ℤ z) eh to in
    let here = in_level_box a.boxes l point x a.fit.0 a.inside from' to' in
    let box : Range = box_of a.boxes l.lows l.highs in
    record {
      depth = head_depth (length point) l.lows l.highs l.step head;
      rises = (head_step (length point) l.lows l.highs l.step head).0;
      small = value_small [] l.lows l.highs l.step [] point x (loop_of l inner point a) from' to';
      there = λ next e. record {
        boxes = a.boxes ++ box ∷ [];
        small = All-push IsSmall a.boxes box a.small a.fit.1;
        inside = subst (λ z. IsTrue (lies_in (a.boxes ++ box ∷ []) z)) (sym e) (lies_push a.boxes box point x a.inside here.low here.high);
        fit = a.fit.2;
      };
    }

pub ends_at : (l : Level) (inner : List Around) (point : List ℤ) (low high : ℤ) → LevelsAt (Inside l ∷ inner) point → low ≡ low_of l.lows point → high ≡ high_of l.highs point → low ≤ℤ high
    → IsAtMost (2 ^ 30) low × IsAtMost (2 ^ 30) high
ends_at l inner point low high a el eh o =
    ((turn_of l inner point low high low a el eh (omega (arith, ints)) o).small, (turn_of l inner point low high high a el eh o (omega (arith, ints))).small)

pub rises_at : (l : Level) (inner : List Around) (point : List ℤ) → LevelsAt (Inside l ∷ inner) point → 1 ≤ l.step
rises_at l inner point a = (head_step (length point) l.lows l.highs l.step (head_at l inner point a)).0

-- counts

over_each : (xs : List ℤ) → sum_over xs (λ i. 1) ≡ length xs
over_each [] = refl
over_each (x ∷ xs) = let a = over_each xs in omega arith

pub innermost : (l : Level) (inner : List Around) (point : List ℤ) (n r : ℕ) (low high : ℤ) → inner ≡ [] → low ≡ low_of l.lows point → high ≡ high_of l.highs point
    → n ≡ length (loop_values low high l.step) → r ≡ capped n → r ≡ capped (turns_below (Inside l ∷ inner) point)
innermost l inner point n r low high none el eh en er =
    let f = ap (λ ps. turns_below (Inside l ∷ ps) point) none in
    let g = over_each (loop_values (low_of l.lows point) (high_of l.highs point) l.step) in
    let c : n ≡ length (loop_values (low_of l.lows point) (high_of l.highs point) l.step) = en ∙ ap₂ (λ a b. length (loop_values a b l.step)) el eh in
    er ∙ ap capped (c ∙ sym g ∙ sym f)

-- a loop that has come to a value
abbrev pub Counting : Level → List Around → List ℤ → ℤ → ℤ → ℕ → Type 0
Counting l inner point value high sum =
    capped (sum + sum_over (loop_values value high l.step) (λ i. turns_below inner (point ++ i ∷ []))) ≡ capped (turns_below (Inside l ∷ inner) point)

pub count_begins : (l : Level) (inner : List Around) (point : List ℤ) (low high : ℤ) → low ≡ low_of l.lows point → high ≡ high_of l.highs point → Counting l inner point low high 0
count_begins l inner point low high el eh =
    ap capped (ap₂ (λ a b. 0 + sum_over (loop_values a b l.step) (λ i. turns_below inner (point ++ i ∷ []))) el eh ∙ omega arith)

capped_both : (sum a b : ℕ) → capped (capped (sum + capped a) + b) ≡ capped (sum + (a + b))
capped_both sum a b = omega arith

pub count_goes_on : (l : Level) (inner : List Around) (point next : List ℤ) (value high : ℤ) (sum here r : ℕ) → 1 ≤ l.step → value ≤ℤ high → next ≡ point ++ value ∷ []
    → here ≡ capped (turns_below inner next) → r ≡ capped (sum + here) → Counting l inner point value high sum → Counting l inner point (value +ℤ pos l.step) high r
count_goes_on l inner point next value high sum here r s o e h is before =
    let f : ℤ → ℕ = λ i. turns_below inner (point ++ i ∷ []) in
    let more : ℕ = sum_over (loop_values (value +ℤ pos l.step) high l.step) f in
    let first : sum_over (loop_values value high l.step) f ≡ f value + more = ap (λ xs. sum_over xs f) (values_next value high l.step s o) in
    ap (λ m. capped (m + more)) (is ∙ ap (λ m. capped (sum + m)) (h ∙ ap (λ p. capped (turns_below inner p)) e))
    ∙ capped_both sum (f value) more ∙ ap (λ m. capped (sum + m)) (sym first) ∙ before

pub count_ends : (l : Level) (inner : List Around) (point : List ℤ) (value high : ℤ) (sum : ℕ) → high <ℤ value → sum ≡ capped sum → Counting l inner point value high sum
    → sum ≡ capped (turns_below (Inside l ∷ inner) point)
count_ends l inner point value high sum past small before =
    let none = ap (λ xs. sum_over xs (λ i. turns_below inner (point ++ i ∷ []))) (values_none value high l.step past) in
    small ∙ ap capped (omega arith) ∙ before

pub nothing_left : (ps : List Around) → true ≡ (length ps == 0) → ps ≡ []
nothing_left [] e = refl
nothing_left (p ∷ ps) e = let n : length (p ∷ ps) ≡ 0 = eqb-true (length (p ∷ ps)) 0 (sym e) in absurd (omega arith)

pub stays_capped : (n r : ℕ) → r ≡ capped n → r ≡ capped r
stays_capped n r e = omega arith
