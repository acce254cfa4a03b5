-- The system of the cells that an access uses is a system, and its first variables have those cells.
use Rattle.std.proofs.Common.{◌≡◌, refl, sym, ap, ap₂, ◌∙◌, subst, ℕ, zero, suc, ◌+◌, ◌-◌, ◌≤◌, ◌^◌, ℤ, negsuc, neg_ℤ, List, [], ◌∷◌, ◌++◌, map, length, take, drop, arith, append_assoc}
use Rattle.std.specs.Bool.{IsTrue}
use Rattle.std.specs.List.{All}
use Rattle.std.proofs.lemmas.List.{take_rest}
use Rattle.std.proofs.lemmas.List.Elements.{All-append, All-cons, All-drop, All-head, All-nil, All-same, All-tail, All-take}
use Rattle.ch_affine.specs.Form.{Form}
use Rattle.ch_affine.specs.Negatives.{negative}
use Rattle.ch_affine.specs.Rows.{IsBox, IsSystem, lies_in, system}
use Rattle.ch_affine.specs.declared.system.Range.{Range}
use Rattle.ch_datacopy.specs.Cells.{at_one, cell_row, cell_ties, inner_of, iterator_row, iterator_ties, iterators_at, kept_row, spliced, use_boxes, use_rows}
use Rattle.ch_datacopy.specs.Pairs.{used}
use Rattle.ch_datacopy.specs.Ranges.{AreRangesOf, HasSmall}
use Rattle.ch_datacopy.specs.Used.{AreNear, IsCellsOf}
use Rattle.ch_datacopy.specs.declared.cells.Cells.{Cells}
use Rattle.ch_datacopy.proofs.Instances.{append_length, drop_front, is_used, map_length, take_few, take_front, used as used_by}
use Rattle.ch_datacopy.proofs.Ranged.{ranges_bounded, ranges_boxes, ranges_inside, ranges_many, smalls}
use Rattle.ch_datacopy.proofs.UseRows.{spliced_long, use_rows_are, zeros_long}
use Rattle.ch_moved.specs.Changed.{fronts}
use Rattle.ch_moved.proofs.Fronts.{inside_lies}
use Rattle.ch_space.specs.Built.{zeros}
use Rattle.ch_space.specs.Keeps.{IsBounded, IsWhole}
use Rattle.ch_space.specs.Pieces.{instances}
use Rattle.ch_space.specs.declared.piece.Piece.{Piece}
use Rattle.ch_space.proofs.Membership.{in_instances}
use Rattle.ch_space.proofs.PieceNumbers.{some_in}
use Rattle.ch_timed.specs.Members.{In}

-- ranges of the same forms over the same box
pub ranges_same : (most : ℕ) (boxes others : List Range) (fs gs : List Form) (ranges : List Range) → boxes ≡ others → fs ≡ gs → AreRangesOf most boxes fs ranges → AreRangesOf most others gs ranges
ranges_same most boxes others fs gs ranges e f h = subst (λ b. AreRangesOf most b gs ranges) e (subst (λ z. AreRangesOf most boxes z ranges) f h)

-- how long the rows are

abbrev AreLong : ℕ → List Form → Type 0
AreLong n fs = All (λ (f : Form). length f.coefs ≡ n) fs

one_long : (before : ℕ) (c : ℤ) (after : ℕ) → length (at_one before c after) ≡ before + (1 + after)
one_long before c after =
    let e = append_length (zeros before) (c ∷ zeros after) in
    let f = zeros_long before in
    let g = zeros_long after in
    omega arith

kept_long : (a m n l : ℕ) (f : Form) → length f.coefs ≡ l → a ≤ l → length (kept_row a m n f).coefs ≡ l + (m + n)
kept_long a m n l f e h =
    let g = append_length (spliced a m f.coefs) (zeros n) in
    let s = spliced_long a m f.coefs (omega (arith, e, h)) in
    let z = zeros_long n in
    omega (arith, e, g, s, z)

pub all_kept_long : (a m n l : ℕ) (fs : List Form) → a ≤ l → AreLong l fs → AreLong (l + (m + n)) (map (kept_row a m n) fs)
all_kept_long a m n l [] h w = All-nil (λ (f : Form). length f.coefs ≡ l + (m + n))
all_kept_long a m n l (f ∷ fs) h w =
    All-cons (λ (f : Form). length f.coefs ≡ l + (m + n)) (kept_row a m n f) (map (kept_row a m n) fs) (kept_long a m n l f (All-head (λ (f : Form). length f.coefs ≡ l) f fs w) h)
    (all_kept_long a m n l fs h (All-tail (λ (f : Form). length f.coefs ≡ l) f fs w))

negative_long : (n : ℕ) (f : Form) → length f.coefs ≡ n → length (negative f).coefs ≡ n
negative_long n f e = map_length neg_ℤ f.coefs ∙ e

iterator_long : (a m h before after l : ℕ) (o : Form) → length o.coefs ≡ l → a ≤ l → length (iterator_row a m h before after o).coefs ≡ (l + m) + (h + (before + (1 + after)))
iterator_long a m h before after l o e f =
    let d = append_length (spliced a m o.coefs ++ zeros h) (at_one before (negsuc 0) after) in
    let b = append_length (spliced a m o.coefs) (zeros h) in
    let s = spliced_long a m o.coefs (omega (arith, e, f)) in
    let z = zeros_long h in
    let y = one_long before (negsuc 0) after in
    omega (arith, e, d, b, s, z, y)

iterators_long : (a m h before l n : ℕ) (os : List Form) → a ≤ l → AreLong l os → (l + m) + (h + (before + length os)) ≡ n → AreLong n (iterator_ties a m h before os)
iterators_long a m h before l n [] f w e = All-nil (λ (f : Form). length f.coefs ≡ n)
iterators_long a m h before l n (o ∷ os) f w e =
    let here : length (iterator_row a m h before (length os) o).coefs ≡ n = iterator_long a m h before (length os) l o (All-head (λ (f : Form). length f.coefs ≡ l) o os w) f ∙ omega (arith, e) in
    All-cons (λ (f : Form). length f.coefs ≡ n) (iterator_row a m h before (length os) o) (negative (iterator_row a m h before (length os) o) ∷ iterator_ties a m h (suc before) os) here
    (All-cons (λ (f : Form). length f.coefs ≡ n) (negative (iterator_row a m h before (length os) o)) (iterator_ties a m h (suc before) os) (negative_long n (iterator_row a m h before (length os) o) here)
    (iterators_long a m h (suc before) l n os f (All-tail (λ (f : Form). length f.coefs ≡ l) o os w) (omega (arith, e))))

cell_long : (a inner before after l : ℕ) (f : Form) → length f.coefs ≡ l → length (cell_row a inner before after f).coefs ≡ (a + (before + (1 + after))) + (inner + l)
cell_long a inner before after l f e =
    let d = append_length (zeros a ++ at_one before (negsuc 0) after) (zeros inner ++ f.coefs) in
    let b = append_length (zeros a) (at_one before (negsuc 0) after) in
    let g = append_length (zeros inner) f.coefs in
    let x = zeros_long a in
    let z = zeros_long inner in
    let y = one_long before (negsuc 0) after in
    omega (arith, e, d, b, g, x, z, y)

cells_long : (a inner before l n : ℕ) (fs : List Form) → AreLong l fs → (a + (before + length fs)) + (inner + l) ≡ n → AreLong n (cell_ties a inner before fs)
cells_long a inner before l n [] w e = All-nil (λ (f : Form). length f.coefs ≡ n)
cells_long a inner before l n (f ∷ fs) w e =
    let here : length (cell_row a inner before (length fs) f).coefs ≡ n = cell_long a inner before (length fs) l f (All-head (λ (f : Form). length f.coefs ≡ l) f fs w) ∙ omega (arith, e) in
    All-cons (λ (f : Form). length f.coefs ≡ n) (cell_row a inner before (length fs) f) (negative (cell_row a inner before (length fs) f) ∷ cell_ties a inner (suc before) fs) here
    (All-cons (λ (f : Form). length f.coefs ≡ n) (negative (cell_row a inner before (length fs) f)) (cell_ties a inner (suc before) fs) (negative_long n (cell_row a inner before (length fs) f) here)
    (cells_long a inner (suc before) l n fs (All-tail (λ (f : Form). length f.coefs ≡ l) f fs w) (omega (arith, e))))

-- an instance of a piece lies in the ranges of its levels
pub instance_lies : (q : Piece) (xs : List ℤ) → In xs (instances q) → IsTrue (lies_in (take q.levels q.system.boxes) xs)
instance_lies q xs i = inside_lies (take q.levels q.system.boxes) xs (in_instances q xs i).inside

module _ (q : Piece) (around : ℕ) (fs : List Form) (sys : IsSystem q.system) (whole : IsWhole q) (deep : around ≤ q.levels) (few : q.levels + q.hidden ≤ 1024)
    (iterators : length q.origin ≤ 10) (dimensions : length fs ≤ 4) (long : All (λ (f : Form). length f.coefs ≡ length q.origin) fs) (near : AreNear q fs) where
  some : (xs : List ℤ) × In xs (instances q)
  some = some_in (instances q) near.some

  pub origin_small : All (HasSmall (2 ^ 54) (take q.levels q.system.boxes)) q.origin
  origin_small = smalls (2 ^ 54) (take q.levels q.system.boxes) q.origin some.0 (instance_lies q some.0 some.1) (near.iterators some.0 some.1)

  pub level_boxes : All IsBox (take q.levels q.system.boxes)
  level_boxes = All-take IsBox q.levels q.system.boxes sys.each

  pub levels_long : length (take q.levels q.system.boxes) ≡ q.levels
  levels_long = take_few q.levels q.system.boxes (let e = whole.boxes in omega (arith, e))

  module _ (iters : List Range) (are_iters : AreRangesOf (2 ^ 54) (take q.levels q.system.boxes) q.origin iters) where
    pub iterators_lie : (xs : List ℤ) → In xs (instances q) → IsTrue (lies_in iters (iterators_at q xs))
    iterators_lie xs i = inside_lies iters (iterators_at q xs)
        (ranges_inside (2 ^ 54) (take q.levels q.system.boxes) q.origin iters xs are_iters (instance_lies q xs i) (near.iterators xs i))

    pub forms_small : All (HasSmall (2 ^ 18) iters) fs
    forms_small = smalls (2 ^ 18) iters fs (iterators_at q some.0) (iterators_lie some.0 some.1) (near.cells some.0 some.1)

    pub iters_boxes : All IsBox iters
    iters_boxes = ranges_boxes (2 ^ 54) (take q.levels q.system.boxes) q.origin iters (omega arith) are_iters

    pub iters_many : length iters ≡ length q.origin
    iters_many = ranges_many (2 ^ 54) (take q.levels q.system.boxes) q.origin iters are_iters

    module _ (cells : List Range) (are_cells : AreRangesOf (2 ^ 18) iters fs cells) where
      cells_many : length cells ≡ length fs
      cells_many = ranges_many (2 ^ 18) iters fs cells are_cells

      abbrev vars : ℕ
      vars = (around + length fs) + (inner_of q around + length q.origin)

      pub boxes_many : length (use_boxes q around cells iters) ≡ (around + length fs) + (inner_of q around + length q.origin)
      boxes_many =
          let a = append_length (take around q.system.boxes ++ cells) (drop around q.system.boxes ++ iters) in
          let b = append_length (take around q.system.boxes) cells in
          let c = append_length (drop around q.system.boxes) iters in
          let w = whole.boxes in
          let t = take_few around q.system.boxes (omega (arith, w, deep)) in
          let d = drop_many around q.system.boxes in
          let m = cells_many in
          let n = iters_many in
          omega (arith, a, b, c, t, d, m, n, w, deep)
        where
          drop_many : (n : ℕ) (rs : List Range) → length (drop n rs) ≡ length rs - n
          drop_many zero rs = omega arith
          drop_many (suc n) [] = omega arith
          drop_many (suc n) (r ∷ rs) = let e = drop_many n rs in omega (arith, e)

      abbrev rows : List Form
      rows = use_rows q around fs

      rows_long : All (λ (f : Form). length f.coefs ≡ (around + length fs) + (inner_of q around + length q.origin)) (use_rows q around fs)
      rows_long =
          let P : Form → Type 0 = λ (f : Form). length f.coefs ≡ (around + length fs) + (inner_of q around + length q.origin) in
          let old : AreLong (q.levels + q.hidden) q.system.rows = subst (λ n. AreLong n q.system.rows) whole.variables sys.rows in
          All-append (λ (f : Form). length f.coefs ≡ (around + length fs) + (inner_of q around + length q.origin)) (map (kept_row around (length fs) (length q.origin)) q.system.rows)
          (iterator_ties around (length fs) q.hidden 0 q.origin ++ cell_ties around (inner_of q around) 0 fs)
          (subst (λ n. AreLong n (map (kept_row around (length fs) (length q.origin)) q.system.rows)) (omega (arith, deep))
          (all_kept_long around (length fs) (length q.origin) (q.levels + q.hidden) q.system.rows (omega (arith, deep)) old))
          (All-append (λ (f : Form). length f.coefs ≡ (around + length fs) + (inner_of q around + length q.origin)) (iterator_ties around (length fs) q.hidden 0 q.origin) (cell_ties around (inner_of q around) 0 fs)
          (iterators_long around (length fs) q.hidden 0 q.levels ((around + length fs) + (inner_of q around + length q.origin)) q.origin deep whole.origin (omega (arith, deep)))
          (cells_long around (inner_of q around) 0 (length q.origin) ((around + length fs) + (inner_of q around + length q.origin)) fs long (omega arith)))

      pub all_boxes : All IsBox (use_boxes q around cells iters)
      all_boxes =
          All-append IsBox (take around q.system.boxes ++ cells) (drop around q.system.boxes ++ iters)
          (All-append IsBox (take around q.system.boxes) cells (All-take IsBox around q.system.boxes sys.each) (ranges_boxes (2 ^ 18) iters fs cells (omega arith) are_cells))
          (All-append IsBox (drop around q.system.boxes) iters (All-drop IsBox around q.system.boxes sys.each) iters_boxes)

      pub made_system : (n : ℕ) (rs : List Form) (boxes : List Range) → n ≡ length boxes → rs ≡ use_rows q around fs → boxes ≡ use_boxes q around cells iters → IsSystem (system n rs boxes)
      made_system n rs boxes e r b =
          let m = boxes_many in
          let l : n ≡ (around + length fs) + (inner_of q around + length q.origin) = e ∙ ap length b ∙ m in
          record {
            few = omega (arith, l, few, iterators, dimensions, deep);
            rows = subst (λ k. All (λ (f : Form). length f.coefs ≡ k) rs) (sym l) (All-same (λ (f : Form). length f.coefs ≡ (around + length fs) + (inner_of q around + length q.origin)) rs (use_rows q around fs) r rows_long);
            boxes = sym e;
            each = All-same IsBox boxes (use_boxes q around cells iters) b all_boxes;
          }

      pub made_cells : (u : Cells) → u.levels ≡ around + length fs → u.hidden ≡ inner_of q around + length q.origin → u.system.vars ≡ length u.system.boxes
          → u.system.rows ≡ use_rows q around fs → u.system.boxes ≡ use_boxes q around cells iters → IsCellsOf q around fs u
      made_cells u levels hidden vars rs bs =
          let m = boxes_many in
          let c = ap length bs in
          let are = use_rows_are q around fs deep (subst (λ n. All (λ (f : Form). length f.coefs ≡ n) q.system.rows) whole.variables sys.rows) whole.origin in
          record {
            framed = record {
              levels = levels;
              boxes = omega (arith, c, m, levels, hidden);
              rows = subst (λ n. All (λ (f : Form). length f.coefs ≡ n) u.system.rows) (omega (arith, levels, hidden))
                  (All-same (λ (f : Form). length f.coefs ≡ (around + length fs) + (inner_of q around + length q.origin)) u.system.rows (use_rows q around fs) rs rows_long);
            };
            vars = omega (arith, vars, c, m, levels, hidden);
            few = omega (arith, levels, hidden, deep);
            exact = λ ys. (
              λ i. let x = is_used q around fs (use_rows q around fs) cells iters u.system.vars whole deep are cells_many iters_many ys (subst (In ys) (used_is u levels rs bs) i) in (x.0, x.1.0, x.1.1),
              λ x. subst (In ys) (sym (used_is u levels rs bs)) (subst (λ z. In z (fronts (around + length fs) (system u.system.vars (use_rows q around fs) (use_boxes q around cells iters)))) (sym x.2)
                  (used_by q around fs (use_rows q around fs) cells iters u.system.vars whole deep are cells_many iters_many x.0 x.1
                  (ranges_inside (2 ^ 54) (take q.levels q.system.boxes) q.origin iters x.0 are_iters (instance_lies q x.0 x.1) (near.iterators x.0 x.1))
                  (ranges_inside (2 ^ 18) iters fs cells (iterators_at q x.0) are_cells (iterators_lie x.0 x.1) (near.cells x.0 x.1)))),
            );
            front = ap (take around) bs ∙ take_short;
            cells = subst (All (IsBounded (2 ^ 18))) (sym (ap₂ (λ n z. drop around (take n z)) levels bs ∙ middle)) (ranges_bounded (2 ^ 18) iters fs cells are_cells);
          }
        where
          used_is : (u : Cells) → u.levels ≡ around + length fs → u.system.rows ≡ use_rows q around fs → u.system.boxes ≡ use_boxes q around cells iters
              → used u ≡ fronts (around + length fs) (system u.system.vars (use_rows q around fs) (use_boxes q around cells iters))
          used_is v l r b = λ i. fronts (l i) (system v.system.vars (r i) (b i))

          front_many : length (take around q.system.boxes) ≡ around
          front_many = take_few around q.system.boxes (let w = whole.boxes in omega (arith, w, deep))

          take_short : take around (use_boxes q around cells iters) ≡ take around q.system.boxes
          take_short =
              ap (take around) (append_assoc (take around q.system.boxes) cells (drop around q.system.boxes ++ iters))
              ∙ take_front around (take around q.system.boxes) (cells ++ (drop around q.system.boxes ++ iters)) front_many

          both_many : length (take around q.system.boxes ++ cells) ≡ around + length fs
          both_many = let a = append_length (take around q.system.boxes) cells in let b = front_many in let c = cells_many in omega (arith, a, b, c)

          middle : drop around (take (around + length fs) (use_boxes q around cells iters)) ≡ cells
          middle =
              ap (drop around) (take_front (around + length fs) (take around q.system.boxes ++ cells) (drop around q.system.boxes ++ iters) both_many)
              ∙ drop_front around (take around q.system.boxes) cells front_many

pub kept_many : (a m n : ℕ) (f : Form) → a ≤ length f.coefs → length (kept_row a m n f).coefs ≡ length f.coefs + (m + n)
kept_many a m n f h = kept_long a m n (length f.coefs) f refl h

-- the ranges of the variables as they are put one behind another
pub boxes_made : (q : Piece) (around : ℕ) (cells iters old none one two three last : List Range) → old ≡ q.system.boxes → none ≡ [] → one ≡ none ++ take around old → two ≡ one ++ cells
    → three ≡ two ++ take (length old - around) (drop around old) → last ≡ three ++ iters → last ≡ use_boxes q around cells iters
boxes_made q around cells iters old none one two three last o e a b c d =
    d ∙ ap (λ z. z ++ iters) (c ∙ ap₂ (λ x y. x ++ y) (b ∙ ap (λ z. z ++ cells) (a ∙ ap₂ (λ x y. x ++ take around y) e o)) (take_rest old around ∙ ap (drop around) o))
    ∙ append_assoc (take around q.system.boxes ++ cells) (drop around q.system.boxes) iters
