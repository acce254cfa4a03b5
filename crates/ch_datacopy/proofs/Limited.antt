-- How large the new pieces and their elements are.
use Rattle.std.proofs.Common.{◌≡◌, refl, sym, ap, ap₂, ◌∙◌, subst, ℕ, zero, suc, ◌+◌, ◌*◌, ◌≤◌, ◌^◌, ℤ, pos, ◌≤ℤ◌, Bool, true, false, if◌then◌else◌, List, [], ◌∷◌, ◌++◌, length, take, drop, ◌⊎◌, inl, inr, take-append-drop, arith}
use Rattle.std.specs.List.{All}
use Rattle.std.proofs.lemmas.Int.{ints}
use Rattle.std.proofs.lemmas.List.Elements.{All-append, All-head, All-tail, All-take, All-weaker}
use Rattle.ch_affine.specs.Affine.{IsAtMost, value}
use Rattle.ch_affine.specs.Form.{Form}
use Rattle.ch_affine.specs.Rows.{Rows}
use Rattle.ch_affine.specs.declared.system.Range.{Range}
use Rattle.ch_copied.specs.Bodies.{moved_cell, redirected, redirected_access, variables}
use Rattle.ch_copied.specs.Plans.{Plan, free_label, next_label}
use Rattle.ch_copied.proofs.Lists.{in_append}
use Rattle.ch_copied.proofs.Moving.{variables_are}
use Rattle.ch_datacopy.specs.declared.cells.Cells.{Cells}
use Rattle.ch_datacopy.specs.Cells.{cell_at, iterators_at}
use Rattle.ch_datacopy.specs.Used.{IsCellsOf}
use Rattle.ch_datacopy.specs.Works.{kept_body, move_body}
use Rattle.ch_datacopy.proofs.Bodied.{redirected_accesses, redirected_from, variables_from}
use Rattle.ch_datacopy.proofs.Instances.{take_less}
use Rattle.ch_moved.proofs.Limits.{far_least, far_most, more_limits}
use Rattle.ch_nest.specs.declared.nest.Access.{Access}
use Rattle.ch_nest.specs.declared.nest.Body.{Body}
use Rattle.ch_nest.specs.Run.{modulo, sub_value}
use Rattle.ch_poly.proofs.Firsts.{InBox}
use Rattle.ch_space.specs.declared.piece.Piece.{Piece}
use Rattle.ch_space.specs.Built.{unit, units, zeros}
use Rattle.ch_space.specs.Keeps.{IsBounded, IsLimited, IsMoveBelow, IsNarrow, IsReached, farthest, most_commands, most_levels, most_variables, most_weight, places_of}
use Rattle.ch_space.specs.Pieces.{instances}
use Rattle.ch_space.proofs.EndsOf.{at_all}
use Rattle.ch_space.proofs.Membership.{in_instances}
use Rattle.ch_space.proofs.NestLimits.{length_units}
use Rattle.ch_space.proofs.PieceNumbers.{all_in}
use Rattle.ch_timed.specs.Conflict.{accesses}
use Rattle.ch_timed.specs.declared.element.Element.{Element}
use Rattle.ch_timed.specs.declared.element.Label.{Label}
use Rattle.ch_timed.specs.declared.element.Label.TheVariants.{Stmt, Move}
use Rattle.ch_timed.specs.Members.{In}
use Rattle.ch_timed.specs.Vectors.{shares}
use Rattle.ch_timed.proofs.Orders.{in_map, map_in}

-- pieces that differ in body, label and places alone

pub same_limits : (w c : ℕ) (q r : Piece) → r.levels ≡ q.levels → r.hidden ≡ q.hidden → r.system ≡ q.system → r.origin ≡ q.origin → IsLimited w c q → IsLimited w c r
same_limits w c q r l h s o limits = record {
  levels = subst (λ n. n ≤ most_levels) (sym l) limits.levels;
  iterators = subst (λ (fs : List Form). length fs ≤ most_levels) (sym o) limits.iterators;
  variables = subst (λ n. n ≤ most_variables c) (sym (ap₂ (λ x y. x + y) l h)) limits.variables;
  boxes = subst (All (IsBounded (farthest w c))) (sym (ap₂ (λ n (t : Rows). take n t.boxes) l s)) limits.boxes;
  origin = subst (All (IsNarrow w c)) (sym o) limits.origin;
}

pub kept_limits : (w c : ℕ) (q r : Piece) → 1 ≤ w → r.levels ≡ q.levels → r.hidden ≡ q.hidden → r.system ≡ q.system → r.origin ≡ q.origin → IsLimited w c q → IsLimited w (c + 1) r
kept_limits w c q r some l h s o limits =
    same_limits w (c + 1) q r l h s o
    (subst (λ n. IsLimited n (c + 1) q) (let e : w * 1 ≡ w = omega arith in e) (more_limits w c 1 q some (omega arith) limits))

-- the piece of a move

in_zeros : (n : ℕ) (x : ℤ) → In x (zeros n) → x ≡ pos 0
in_zeros zero x i = absurd i
in_zeros (suc n) x (inl e) = sym e
in_zeros (suc n) x (inr i) = in_zeros n x i

unit_narrow : (w c before after : ℕ) → 1 ≤ w → IsNarrow w c (unit before after)
unit_narrow w c before after some = record {
  coefs = all_in (IsAtMost w) (zeros before ++ pos 1 ∷ zeros after) (λ x i. elim (in_append (zeros before) (pos 1 ∷ zeros after) x i) as (λ _. IsAtMost w x) [
    | inl j ↦ subst (IsAtMost w) (sym (in_zeros before x j)) (omega arith)
    | inr j ↦ elim j as (λ _. IsAtMost w x) [
      | inl e ↦ subst (IsAtMost w) e some
      | inr k ↦ subst (IsAtMost w) (sym (in_zeros after x k)) (omega arith)
    ]
  ]);
  constant = omega arith;
}

units_narrow : (w c before n : ℕ) → 1 ≤ w → (f : Form) → In f (units before n) → IsNarrow w c f
units_narrow w c before zero some f i = absurd i
units_narrow w c before (suc n) some f (inl e) = subst (IsNarrow w c) e (unit_narrow w c before n some)
units_narrow w c before (suc n) some f (inr i) = units_narrow w c (suc before) n some f i

farther : (m n : ℕ) (b : Range) → m ≤ n → IsBounded m b → IsBounded n b
farther m n b l h = record { low = let x = h.low in omega arith; high = let x = h.high in omega arith }

pub move_limits : (w c around : ℕ) (fs : List Form) (q : Piece) (u : Cells) (r : Piece) → 1 ≤ w → w ≤ most_weight → around ≤ q.levels → length fs ≤ 4 → u.levels ≤ most_levels → IsLimited w c q → IsCellsOf q around fs u
    → r.levels ≡ u.levels → r.hidden ≡ u.hidden → r.system ≡ u.system → r.origin ≡ units 0 u.levels → IsLimited w (c + 1) r
move_limits w c around fs q u r some light inside few deep limits is l h s o =
    let wider = more_limits w c 1 q some (omega arith) limits in
    let again : IsLimited w (c + 1) q = subst (λ n. IsLimited n (c + 1) q) (let e : w * 1 ≡ w = omega arith in e) wider in
    let far = far_least w (c + 1) some in
    let vars = is.few in
    let old = limits.variables in
    let iters = limits.iterators in
    let dims = is.framed.levels in
    let short : around ≤ u.levels = omega arith in
    let front : All (IsBounded (farthest w (c + 1))) (take around (take u.levels u.system.boxes)) =
    subst (All (IsBounded (farthest w (c + 1)))) (take_less around q.levels q.system.boxes inside ∙ sym is.front ∙ sym (take_less around u.levels u.system.boxes short))
    (All-take (IsBounded (farthest w (c + 1))) around (take q.levels q.system.boxes) again.boxes) in
    let cells : All (IsBounded (farthest w (c + 1))) (drop around (take u.levels u.system.boxes)) =
    All-weaker (IsBounded (2 ^ 18)) (IsBounded (farthest w (c + 1))) (λ b g. farther (2 ^ 18) (farthest w (c + 1)) b (omega arith) g) (drop around (take u.levels u.system.boxes)) is.cells in
    let boxes : All (IsBounded (farthest w (c + 1))) (take u.levels u.system.boxes) =
    subst (All (IsBounded (farthest w (c + 1)))) (take-append-drop around (take u.levels u.system.boxes))
    (All-append (IsBounded (farthest w (c + 1))) (take around (take u.levels u.system.boxes)) (drop around (take u.levels u.system.boxes)) front cells) in
    let many = length_units 0 u.levels in
    record {
      levels = subst (λ n. n ≤ most_levels) (sym l) deep;
      iterators = subst (λ (gs : List Form). length gs ≤ most_levels) (sym o) (omega (arith, many, deep));
      variables = subst (λ n. n ≤ most_variables (c + 1)) (sym (ap₂ (λ x y. x + y) l h)) (omega arith);
      boxes = subst (All (IsBounded (farthest w (c + 1)))) (sym (ap₂ (λ n (t : Rows). take n t.boxes) l s)) boxes;
      origin = subst (All (IsNarrow w (c + 1))) (sym o) (all_in (IsNarrow w (c + 1)) (units 0 u.levels) (units_narrow w (c + 1) 0 u.levels some));
    }

-- labels

pub label_stays : (l : Label) (n : ℕ) → IsMoveBelow (256 * n) l → IsMoveBelow (256 * (n + 1)) l
label_stays (Stmt k) n h = tt
label_stays (Move k) n h = omega arith

label_next : (l : Label) (n m : ℕ) → IsMoveBelow m l → n ≤ m → next_label l n ≤ m
label_next (Stmt k) n m h g = g
label_next (Move k) n m h g = omega arith

pub free_below : (list : List Element) (m : ℕ) → ((e : Element) → In e list → IsMoveBelow m e.identity.label) → free_label list ≤ m
free_below [] m h = omega arith
free_below (e ∷ es) m h = label_next e.identity.label (free_label es) m (h e (inl refl)) (free_below es m (λ f i. h f (inr i)))

-- iterators

bounded_point : (most : ℕ) (rs : List Range) (xs : List ℤ) → InBox rs xs → All (IsBounded most) rs → (x : ℤ) → In x xs → IsAtMost most x
bounded_point most [] [] b h x i = absurd i
bounded_point most [] (y ∷ xs) b h x i = absurd b
bounded_point most (r ∷ rs) [] b h x i = absurd b
bounded_point most (r ∷ rs) (y ∷ xs) b h x (inl e) =
    let here = All-head (IsBounded most) r rs h in
    subst (IsAtMost most) e (between r.low r.high y here.low here.high b.0 b.1)
  where
    between : (low high z : ℤ) → IsAtMost most low → IsAtMost most high → low ≤ℤ z → z ≤ℤ high → IsAtMost most z
    between low high z l g m n = omega (arith, ints)
bounded_point most (r ∷ rs) (y ∷ xs) b h x (inr i) = bounded_point most rs xs b.2 (All-tail (IsBounded most) r rs h) x i

in_take : {X : Type 0} (n : ℕ) (xs : List X) (x : X) → In x (take n xs) → In x xs
in_take zero xs x i = absurd i
in_take (suc n) [] x i = absurd i
in_take (suc n) (y ∷ ys) x (inl e) = inl e
in_take (suc n) (y ∷ ys) x (inr i) = inr (in_take n ys x i)

-- the values around and the cell are small
pub use_near : (w c around : ℕ) (fs : List Form) (q : Piece) (xs : List ℤ) → w ≤ most_weight → c ≤ most_commands → IsLimited w c q → In xs (instances q)
    → ((z : ℤ) → In z (cell_at fs (iterators_at q xs)) → IsAtMost (2 ^ 18) z) → All (IsAtMost (2 ^ 54)) (take around xs ++ cell_at fs (iterators_at q xs))
use_near w c around fs q xs light short limits i cells =
    all_in (IsAtMost (2 ^ 54)) (take around xs ++ cell_at fs (iterators_at q xs)) (λ x j. elim (in_append (take around xs) (cell_at fs (iterators_at q xs)) x j) as (λ _. IsAtMost (2 ^ 54) x) [
      | inl k ↦
          let b = bounded_point (farthest w c) (take q.levels q.system.boxes) xs (in_instances q xs i).inside limits.boxes x (in_take around xs x k) in
          let f = far_most w c light short in
          omega arith
      | inr k ↦ let b = cells x k in omega arith
    ])

-- subscripts

abbrev pub AllReached : List ℤ → Body → Type 0
AllReached iters b = All (λ a. All (IsReached iters) a.subs) (accesses b)

redirected_reached : (p : Plan) (iters : List ℤ) (a : Access) → All (IsReached iters) a.subs → All (IsReached iters) (redirected_access p a).subs
redirected_reached p iters a h = all_in (IsReached iters) (redirected_access p a).subs (λ s i.
    let o = redirected_from p a s i in
    subst (λ (f : Form). IsAtMost (2 ^ 18) (value f iters)) (sym o.1.1) (at_all (IsReached iters) a.subs o.0 h o.1.0))

pub kept_reached : (p : Plan) (iters : List ℤ) (q : Piece) → AllReached iters q.body → AllReached iters (kept_body p q)
kept_reached p iters q h = by (shares (suc p.around) p.ours (places_of q))
  where
    by : (b : Bool) → AllReached iters (if b then redirected p q.body else q.body)
    by false = h
    by true = all_in (λ (a : Access). All (IsReached iters) a.subs) (accesses (redirected p q.body)) (λ a i.
        let m = in_map (redirected_access p) (accesses q.body) a (subst (In a) (redirected_accesses p q.body) i) in
        subst (λ (z : Access). All (IsReached iters) z.subs) m.1.1 (redirected_reached p iters m.0 (at_all (λ (z : Access). All (IsReached iters) z.subs) (accesses q.body) m.0 h m.1.0)))

cell_reached : (p : Plan) (pre cell : List ℤ) → length pre ≡ p.around → length cell ≡ length p.extents → ((z : ℤ) → In z cell → IsAtMost (2 ^ 18) z)
    → All (IsReached (pre ++ cell)) (moved_cell p).subs
cell_reached p pre cell h g small = all_in (IsReached (pre ++ cell)) (variables p.around p.extents) (λ s i.
    let plain = (variables_from p.around p.extents s i).0 in
    let there : In (sub_value (pre ++ cell) s) cell =
    subst (In (sub_value (pre ++ cell) s)) (variables_are p.around p.extents pre cell h g) (map_in (sub_value (pre ++ cell)) (variables p.around p.extents) s i) in
    subst (IsAtMost (2 ^ 18)) (ap (λ m. modulo m (value s.form (pre ++ cell))) plain) (small (sub_value (pre ++ cell) s) there))

pub move_reached : (p : Plan) (k : ℕ) (pre cell : List ℤ) → length pre ≡ p.around → length cell ≡ length p.extents → ((z : ℤ) → In z cell → IsAtMost (2 ^ 18) z)
    → ((a : Access) → In a (accesses (move_body p k)) → (a ≡ moved_cell p) ⊎ (a ≡ redirected_access p (moved_cell p))) → AllReached (pre ++ cell) (move_body p k)
move_reached p k pre cell h g small two = all_in (λ (a : Access). All (IsReached (pre ++ cell)) a.subs) (accesses (move_body p k)) (λ a i.
    elim (two a i) as (λ _. All (IsReached (pre ++ cell)) a.subs) [
      | inl e ↦ subst (λ (z : Access). All (IsReached (pre ++ cell)) z.subs) (sym e) (cell_reached p pre cell h g small)
      | inr e ↦ subst (λ (z : Access). All (IsReached (pre ++ cell)) z.subs) (sym e) (redirected_reached p (pre ++ cell) (moved_cell p) (cell_reached p pre cell h g small))
    ])
