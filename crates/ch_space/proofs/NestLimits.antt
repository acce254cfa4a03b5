-- The pieces of a well formed nest keep the limits of a space.
use Rattle.std.proofs.Common.{◌≡◌, refl, sym, ap, ◌∙◌, subst, ℕ, zero, suc, ◌+◌, ◌≤◌, ℤ, pos, Bool, true, false, cond, nat_eq, nat_lt, Some, List, [], ◌∷◌, ◌++◌, length, map, arith, append-nil, length-append}
use Rattle.std.specs.Bool.{IsTrue}
use Rattle.std.specs.List.{All, filter}
use Rattle.std.proofs.lemmas.Bool.{and_parts, leb-true, ltb-true}
use Rattle.std.proofs.lemmas.List.Elements.{All-nil, All-cons, All-append}
use Rattle.ch_affine.specs.Affine.{IsAtMost}
use Rattle.ch_affine.specs.Form.{Form}
use Rattle.ch_affine.specs.declared.system.Range.{Range}
use Rattle.ch_nest.specs.declared.nest.ArrayDecl.{ArrayDecl}
use Rattle.ch_nest.specs.declared.nest.Body.{Body}
use Rattle.ch_nest.specs.declared.nest.Item.{Item}
use Rattle.ch_nest.specs.declared.nest.Item.TheVariants.{Loop, If, Assign}
use Rattle.ch_nest.specs.Limits.{most_affine, most_statements}
use Rattle.ch_nest.specs.LoopNest.{LoopNest}
use Rattle.ch_nest.specs.Shape.{IsSmall, all_numbered, box_of, each_numbered, is_at_most, is_nest, numbered}
use Rattle.ch_space.specs.declared.level.Around.{Around}
use Rattle.ch_space.specs.declared.level.Around.TheVariants.{Inside, Where}
use Rattle.ch_space.specs.declared.piece.Piece.{Piece}
use Rattle.ch_space.specs.Built.{boxes_from, piece_of, unit, units, zeros}
use Rattle.ch_space.specs.Fitting.{LevelsFit}
use Rattle.ch_space.specs.Keeps.{IsBody, IsBounded, IsLimited, IsNarrow, IsWrapped, accesses, farthest, most_pieces}
use Rattle.ch_space.specs.Pieces.{listed}
use Rattle.ch_space.specs.Statements.{Statement, at_numbers, executed, findings, findings_of, instances_of, loops, statements}
use Rattle.ch_space.proofs.Bodies.{nest_numbered}
use Rattle.ch_space.proofs.Builds.{levels_few, steps_few}
use Rattle.ch_space.proofs.Counted.{level_boxes}
use Rattle.ch_space.proofs.EndsOf.{at_all}
use Rattle.ch_space.proofs.FindingCases.{findings_assign, findings_if, findings_loop, numbers_append, numbers_met}
use Rattle.ch_space.proofs.PieceNumbers.{all_in, in_listed}
use Rattle.ch_space.proofs.Shapes.{IsFit}
use Rattle.ch_space.proofs.Short.{after_some, label_next, numbered_assign, numbered_if, numbered_loop, some_number, some_same}
use Rattle.ch_timed.specs.Members.{Each}
use Rattle.ch_timed.proofs.ItemCases.{each_item}

-- The labels count the statements.

record Counts (k m n : ℕ) : Type 0 where
  few : m ≤ most_statements
  same : k + n ≡ m

abbrev Counted : Item → Type 0
Counted item = (k m j : ℕ) (around : List Around) (places : List ℕ) → k ≤ most_statements → numbered item k ≡ Some m → Counts k m (length (at_numbers j (findings_of item) around places))

items_counted : (items : List Item) → Each Counted items → (k m j : ℕ) (around : List Around) (places : List ℕ) → k ≤ most_statements → all_numbered items k ≡ Some m
    → Counts k m (length (at_numbers j (findings items) around places))
items_counted [] h k m j around places l e = let s = some_same k m e in record { few = omega arith; same = omega arith }
items_counted (i ∷ is) h k m j around places l e =
    let a = after_some (numbered i k) (each_numbered (map numbered is)) m e in
    let next : ℕ = j + length (findings_of i) in
    let here = h.0 k a.j j around places l a.first in
    let more = items_counted is h.1 a.j m next around places here.few a.rest in
    let x = here.same in
    let y = more.same in
    let n = ap length (numbers_append j (findings_of i) (findings is) around places) ∙ length-append (at_numbers j (findings_of i) around places) (at_numbers next (findings is) around places) in
    record { few = more.few; same = omega arith }

loop_counted : (lows highs : List Form) (step : ℕ) (items : List Item) → Each Counted items → Counted (Loop lows highs step items)
loop_counted lows highs step items h k m j around places l e =
    let inner = at_numbers 0 (findings items) (around ++ Inside (record { lows = lows; highs = highs; step = step }) ∷ []) (places ++ j ∷ []) in
    let r = items_counted items h k m 0 (around ++ Inside (record { lows = lows; highs = highs; step = step }) ∷ []) (places ++ j ∷ []) l (sym (numbered_loop lows highs step items k) ∙ e) in
    let n = ap (λ fs. length (at_numbers j fs around places)) (findings_loop lows highs step items) ∙ ap length (append-nil inner) in
    let x = r.same in
    record { few = r.few; same = omega arith }

if_counted : (row : Form) (items : List Item) → Each Counted items → Counted (If row items)
if_counted row items h k m j around places l e =
    let r = items_counted items h k m j (around ++ Where row ∷ []) places l (sym (numbered_if row items k) ∙ e) in
    let n = ap (λ fs. length (at_numbers j fs around places)) (findings_if row items) ∙ ap length (numbers_met row j (findings items) around places) in
    let x = r.same in
    record { few = r.few; same = omega arith }

assign_counted : (label : ℕ) (body : Body) → Counted (Assign label body)
assign_counted label body k m j around places l e =
    let p = label_next (nat_eq label k) (nat_lt k most_statements) k m (sym (numbered_assign label body k) ∙ e) in
    let q = ltb-true k most_statements p.0 in
    let n = ap (λ fs. length (at_numbers j fs around places)) (findings_assign label body) in
    let r = p.1 in
    record { few = omega arith; same = omega arith }

few_statements : (nest : LoopNest) → IsTrue (is_nest nest) → length (statements nest.items) ≤ most_statements
few_statements nest known =
    let m = some_number (all_numbered nest.items 0) (nest_numbered nest known) in
    let r = items_counted nest.items (each_item Counted loop_counted if_counted assign_counted nest.items) 0 m.0 0 [] [] (omega arith) m.1 in
    let few = r.few in
    let same = r.same in
    omega arith

filter_by : {X : Type 0} (b : Bool) (x : X) (rest : List X) (n : ℕ) → length rest ≤ n → length (cond b (x ∷ rest) rest) ≤ suc n
filter_by true x rest n h = omega arith
filter_by false x rest n h = omega arith

filter_fewer : {X : Type 0} (t : X → Bool) (xs : List X) → length (filter t xs) ≤ length xs
filter_fewer t [] = omega arith
filter_fewer t (x ∷ xs) = filter_by (t x) x (filter t xs) (length xs) (filter_fewer t xs)

pub few_executed : (nest : LoopNest) → IsTrue (is_nest nest) → length (executed (statements nest.items)) ≤ most_pieces
few_executed nest known =
    let a = few_statements nest known in
    let b = filter_fewer (λ s. nat_lt 0 (instances_of s)) (statements nest.items) in
    omega arith

-- The pieces are small.

bounded : (b : Range) → IsSmall b → IsBounded (farthest 1 0) b
bounded b h =
    let p = and_parts (is_at_most most_affine b.low) (is_at_most most_affine b.high) h in
    let l = leb-true _ most_affine p.0 in
    let m = leb-true _ most_affine p.1 in
    record { low = omega arith; high = omega arith }

boxes_bounded : (boxes : List Range) (ps : List Around) → LevelsFit boxes ps → All (IsBounded (farthest 1 0)) (boxes_from boxes ps)
boxes_bounded boxes [] fit = All-nil (IsBounded (farthest 1 0))
boxes_bounded boxes (Inside l ∷ ps) fit =
    All-cons (IsBounded (farthest 1 0)) (box_of boxes l.lows l.highs) (boxes_from (boxes ++ box_of boxes l.lows l.highs ∷ []) ps) (bounded (box_of boxes l.lows l.highs) fit.1)
    (boxes_bounded (boxes ++ box_of boxes l.lows l.highs ∷ []) ps fit.2)
boxes_bounded boxes (Where row ∷ ps) fit = boxes_bounded boxes ps fit.1

pub length_units : (before n : ℕ) → length (units before n) ≡ n
length_units before zero = refl
length_units before (suc n) = ap suc (length_units (suc before) n)

zeros_narrow : (n : ℕ) → All (IsAtMost 1) (zeros n)
zeros_narrow zero = All-nil (IsAtMost 1)
zeros_narrow (suc n) = All-cons (IsAtMost 1) (pos 0) (zeros n) (omega arith) (zeros_narrow n)

unit_narrow : (before after : ℕ) → IsNarrow 1 0 (unit before after)
unit_narrow before after = record {
  coefs = All-append (IsAtMost 1) (zeros before) (pos 1 ∷ zeros after) (zeros_narrow before)
      (All-cons (IsAtMost 1) (pos 1) (zeros after) (omega arith) (zeros_narrow after));
  constant = omega arith;
}

units_narrow : (before n : ℕ) → All (IsNarrow 1 0) (units before n)
units_narrow before zero = All-nil (IsNarrow 1 0)
units_narrow before (suc n) = All-cons (IsNarrow 1 0) (unit before n) (units (suc before) n) (unit_narrow before n) (units_narrow (suc before) n)

pub limited : (arrays : List ArrayDecl) (s : Statement) → IsFit arrays s → IsLimited 1 0 (piece_of s)
limited arrays s fit =
    let few = levels_few [] s.around fit.levels (omega arith) in
    let hidden = steps_few s.around in
    let units = length_units 0 (loops s.around) in
    record {
      levels = omega arith;
      iterators = omega arith;
      variables = omega arith;
      boxes = subst (All (IsBounded (farthest 1 0))) (sym (level_boxes s.around)) (boxes_bounded [] s.around fit.levels);
      origin = units_narrow 0 (loops s.around);
    }

-- Where there are no buffers no subscript has a modulus.

body_unwrapped : (arrays n : ℕ) (b : Body) (iters : List ℤ) → IsBody arrays 0 n b → All (λ a. All (IsWrapped iters) a.subs) (accesses b)
body_unwrapped arrays n b iters h k d l =
    let a = h.accesses k d l in
    let below = a.array in
    λ j e m some. absurd (some (a.plain (omega arith) j e m))

pub unwrapped : (arrays : ℕ) (ps : List Piece) → All (λ p. IsBody arrays 0 (length p.origin) p.body) ps
    → All (λ e. All (λ a. All (IsWrapped e.identity.iters) a.subs) (accesses e.body)) (listed ps)
unwrapped arrays ps h =
    all_in (λ e. All (λ a. All (IsWrapped e.identity.iters) a.subs) (accesses e.body)) (listed ps)
    (λ e i.
    let s = in_listed ps e i in
    subst (λ z. All (λ a. All (IsWrapped z.identity.iters) a.subs) (accesses z.body)) s.is
    (body_unwrapped arrays (length s.piece.origin) s.piece.body _ (at_all (λ p. IsBody arrays 0 (length p.origin) p.body) ps s.piece h s.is_piece)))
