-- The rows of the system of an access say of its variables what they are to say.
use Rattle.std.proofs.Common.{◌≡◌, refl, sym, ap, ap₂, ◌∙◌, subst, ℕ, zero, suc, ◌+◌, ◌-◌, ◌≤◌, ℤ, pos, negsuc, neg_ℤ, ◌+ℤ◌, ◌*ℤ◌, ◌≤ℤ◌, int_le, Bool, true, ◌&&◌, List, [], ◌∷◌, ◌++◌, map, length, take, drop, arith, append_assoc, take-append-drop}
use Rattle.std.proofs.lemmas.Int.{ints}
use Rattle.std.proofs.lemmas.Bool.{and_parts, and_from}
use Rattle.ch_affine.specs.Affine.{dot, value}
use Rattle.ch_affine.specs.Form.{Form}
use Rattle.ch_affine.specs.Rows.{all_hold}
use Rattle.std.specs.List.{All}
use Rattle.std.proofs.lemmas.List.Elements.{All-head, All-tail}
use Rattle.ch_moved.proofs.HiddenTies.{rows_joined, rows_parts}
use Rattle.ch_affine.proofs.Integers.{plus_times}
use Rattle.ch_space.specs.Built.{zeros}
use Rattle.ch_copied.proofs.Lists.{parts_same}
use Rattle.ch_space.specs.declared.piece.Piece.{Piece}
use Rattle.ch_affine.specs.Negatives.{negative}
use Rattle.ch_affine.proofs.Negated.{value_negative}
use Rattle.ch_datacopy.specs.Cells.{at_one, cell_at, cell_row, cell_ties, iterator_row, iterator_ties, iterators_at, kept_row, spliced, use_rows}

-- what the rows are to say of the parts of a point: the values around, the cell, the inner and hidden ones, the iterators
pub record AreUseRows (q : Piece) (around : ℕ) (fs rows : List Form) : Type 0 where
  pub hold : (pre cells inner iters : List ℤ) → length pre ≡ around → length cells ≡ length fs → length (pre ++ inner) ≡ q.levels + q.hidden → length iters ≡ length q.origin
      → (all_hold rows ((pre ++ cells) ++ (inner ++ iters)) ≡ true → (all_hold q.system.rows (pre ++ inner) ≡ true) × (iters ≡ iterators_at q (take q.levels (pre ++ inner))) × (cells ≡ cell_at fs iters))
      × ((all_hold q.system.rows (pre ++ inner) ≡ true) → (iters ≡ iterators_at q (take q.levels (pre ++ inner))) → (cells ≡ cell_at fs iters) → all_hold rows ((pre ++ cells) ++ (inner ++ iters)) ≡ true)

-- sums of products

zero_times : (x : ℤ) → (pos 0 *ℤ x) ≡ pos 0
zero_times x = omega (arith, ints)

pub dot_zeros : (n : ℕ) (xs : List ℤ) → dot (zeros n) xs ≡ pos 0
dot_zeros zero xs = refl
dot_zeros (suc n) [] = refl
dot_zeros (suc n) (x ∷ xs) = let a = zero_times x in let b = dot_zeros n xs in omega (arith, ints)

pub dot_both : (cs ds xs ys : List ℤ) → length cs ≡ length xs → dot (cs ++ ds) (xs ++ ys) ≡ dot cs xs +ℤ dot ds ys
dot_both [] ds [] ys e = omega (arith, ints)
dot_both [] ds (x ∷ xs) ys e = absurd (omega arith)
dot_both (c ∷ cs) ds [] ys e = absurd (omega arith)
dot_both (c ∷ cs) ds (x ∷ xs) ys e = let r = dot_both cs ds xs ys (omega arith) in omega (arith, ints)

pub neg_times : (c x : ℤ) → (neg_ℤ c *ℤ x) ≡ neg_ℤ (c *ℤ x)
neg_times c x =
    let z : neg_ℤ c +ℤ c ≡ pos 0 = omega (arith, ints) in
    let e : (neg_ℤ c +ℤ c) *ℤ x ≡ pos 0 = ap (λ t. t *ℤ x) z ∙ zero_times x in
    let f = plus_times (neg_ℤ c) c x in
    omega (arith, ints)

pub zeros_long : (n : ℕ) → length (zeros n) ≡ n
zeros_long zero = refl
zeros_long (suc n) = ap (λ m. suc m) (zeros_long n)

pub dot_spliced : (a m : ℕ) (cs pre cells inner : List ℤ) → length pre ≡ a → length cells ≡ m → length cs ≡ length (pre ++ inner)
    → dot (spliced a m cs) ((pre ++ cells) ++ inner) ≡ dot cs (pre ++ inner)
dot_spliced zero m cs [] cells inner e f g =
    let a = dot_both (zeros m) cs cells inner (zeros_long m ∙ sym f) in
    let b = dot_zeros m cells in
    omega (arith, ints)
dot_spliced zero m cs (x ∷ pre) cells inner e f g = absurd (omega arith)
dot_spliced (suc a) m cs [] cells inner e f g = absurd (omega arith)
dot_spliced (suc a) m [] (x ∷ pre) cells inner e f g = absurd (omega arith)
dot_spliced (suc a) m (c ∷ cs) (x ∷ pre) cells inner e f g = let r = dot_spliced a m cs pre cells inner (omega arith) f (omega arith) in omega (arith, ints)

pub spliced_long : (a m : ℕ) (cs : List ℤ) → a ≤ length cs → length (spliced a m cs) ≡ length cs + m
spliced_long zero m cs h = let z = zeros_long m in let e = append_long (zeros m) cs in omega arith
  where
    append_long : {X : Type 0} (xs ys : List X) → length (xs ++ ys) ≡ length xs + length ys
    append_long [] ys = omega arith
    append_long (x ∷ xs) ys = let r = append_long xs ys in omega arith
spliced_long (suc a) m [] h = absurd (omega arith)
spliced_long (suc a) m (c ∷ cs) h = let r = spliced_long a m cs (omega arith) in omega arith

append_length : {X : Type 0} (xs ys : List X) → length (xs ++ ys) ≡ length xs + length ys
append_length [] ys = omega arith
append_length (x ∷ xs) ys = let r = append_length xs ys in omega arith

-- more numbers behind are more numbers behind
spliced_wider : (a m : ℕ) (cs ds : List ℤ) → a ≤ length cs → spliced a m (cs ++ ds) ≡ spliced a m cs ++ ds
spliced_wider zero m cs ds l = sym (append_assoc (zeros m) cs ds)
spliced_wider (suc a) m [] ds l = absurd (omega arith)
spliced_wider (suc a) m (c ∷ cs) ds l = ap (λ z. c ∷ z) (spliced_wider a m cs ds (omega arith))

-- one variable among others
pub dot_one : (before : ℕ) (c : ℤ) (after : ℕ) (xs : List ℤ) (x : ℤ) (ys : List ℤ) → length xs ≡ before → dot (at_one before c after) (xs ++ x ∷ ys) ≡ c *ℤ x
dot_one zero c after [] x ys e = let b = dot_zeros after ys in omega (arith, ints)
dot_one zero c after (w ∷ xs) x ys e = absurd (omega arith)
dot_one (suc n) c after [] x ys e = absurd (omega arith)
dot_one (suc n) c after (w ∷ xs) x ys e = let a = zero_times w in let b = dot_one n c after xs x ys (omega arith) in omega (arith, ints)

-- rows

pub minus_one : (x : ℤ) → negsuc 0 *ℤ x ≡ neg_ℤ x
minus_one x = let e = neg_times (pos 1) x in let f : pos 1 *ℤ x ≡ x = omega (arith, ints) in omega (arith, ints)

pub plus_one : (x : ℤ) → pos 1 *ℤ x ≡ x
plus_one x = omega (arith, ints)

low_of : (u v : ℤ) → int_le u v ≡ true → u ≤ℤ v
low_of u v t = grind (arith, ints)

of_low : (u v : ℤ) → u ≤ℤ v → int_le u v ≡ true
of_low u v t = grind (arith, ints)

-- two rows that tie a number to a value
tied_from : (v w x y : ℤ) (t : Bool) → v ≡ x +ℤ neg_ℤ y → w ≡ neg_ℤ x +ℤ y → (int_le (pos 0) v && (int_le (pos 0) w && t)) ≡ true → (y ≡ x) × (t ≡ true)
tied_from v w x y t e f h =
    let a = and_parts (int_le (pos 0) v) (int_le (pos 0) w && t) h in
    let b = and_parts (int_le (pos 0) w) t a.1 in
    let m = low_of (pos 0) v a.0 in
    let n = low_of (pos 0) w b.0 in
    (omega (arith, ints), b.1)

tied_to : (v w x y : ℤ) (t : Bool) → v ≡ x +ℤ neg_ℤ y → w ≡ neg_ℤ x +ℤ y → y ≡ x → t ≡ true → (int_le (pos 0) v && (int_le (pos 0) w && t)) ≡ true
tied_to v w x y t e f h g = and_from _ _ (of_low (pos 0) v (omega (arith, ints))) (and_from _ _ (of_low (pos 0) w (omega (arith, ints))) g)

module _ (pre cells inner is : List ℤ) where
  abbrev point : List ℤ
  point = (pre ++ cells) ++ (inner ++ is)

  reassociated : ((pre ++ cells) ++ inner) ++ is ≡ (pre ++ cells) ++ (inner ++ is)
  reassociated = append_assoc (pre ++ cells) inner is

  -- a row over the old variables, and a row over the iterators
  parts : (a m : ℕ) (cs ds : List ℤ) → length pre ≡ a → length cells ≡ m → length cs ≡ length (pre ++ inner)
      → dot (spliced a m cs ++ ds) point ≡ dot cs (pre ++ inner) +ℤ dot ds is
  parts a m cs ds e f g =
      let l = spliced_long a m cs (let p = append_length pre inner in omega arith) in
      let n : length (spliced a m cs) ≡ length ((pre ++ cells) ++ inner) =
      let p = append_length pre inner in let q = append_length pre cells in let r = append_length (pre ++ cells) inner in omega arith in
      ap (dot (spliced a m cs ++ ds)) (sym reassociated) ∙ dot_both (spliced a m cs) ds ((pre ++ cells) ++ inner) is n
      ∙ ap (λ z. z +ℤ dot ds is) (dot_spliced a m cs pre cells inner e f g)

  -- the rows of the piece
  pub rows_kept : (a m n : ℕ) (rows : List Form) → length pre ≡ a → length cells ≡ m → All (λ f. length f.coefs ≡ length (pre ++ inner)) rows
      → all_hold (map (kept_row a m n) rows) point ≡ all_hold rows (pre ++ inner)
  rows_kept a m n [] e f w = refl
  rows_kept a m n (r ∷ rs) e f w =
      ap₂ (λ v t. int_le (pos 0) v && t) one (rows_kept a m n rs e f (All-tail (λ g. length g.coefs ≡ length (pre ++ inner)) r rs w))
    where
      one : value (kept_row a m n r) point ≡ value r (pre ++ inner)
      one =
          let p = parts a m r.coefs (zeros n) e f (All-head (λ g. length g.coefs ≡ length (pre ++ inner)) r rs w) in
          let z = dot_zeros n is in
          omega (arith, ints)

  -- a form over the first of the old variables
  over_levels : (levels hidden : ℕ) (cs : List ℤ) → length cs ≡ levels → length (pre ++ inner) ≡ levels + hidden → dot (cs ++ zeros hidden) (pre ++ inner) ≡ dot cs (take levels (pre ++ inner))
  over_levels levels hidden cs e n =
      let a = ap (dot (cs ++ zeros hidden)) (sym (take-append-drop levels (pre ++ inner))) in
      let b = dot_both cs (zeros hidden) (take levels (pre ++ inner)) (drop levels (pre ++ inner)) (e ∙ sym (take_few levels (pre ++ inner) (omega arith))) in
      let c = dot_zeros hidden (drop levels (pre ++ inner)) in
      omega (arith, ints)
    where
      take_few : (k : ℕ) (xs : List ℤ) → k ≤ length xs → length (take k xs) ≡ k
      take_few zero xs h = refl
      take_few (suc k) [] h = absurd (omega arith)
      take_few (suc k) (x ∷ xs) h = ap (λ m. suc m) (take_few k xs (omega arith))

  padded_long : (levels hidden : ℕ) (cs : List ℤ) → length cs ≡ levels → length (pre ++ inner) ≡ levels + hidden → length (cs ++ zeros hidden) ≡ length (pre ++ inner)
  padded_long levels hidden cs e n = let a = append_length cs (zeros hidden) in let b = zeros_long hidden in omega arith

  module _ (a m levels hidden : ℕ) (pre_long : length pre ≡ a) (cells_long : length cells ≡ m) (full_long : length (pre ++ inner) ≡ levels + hidden) (few : a ≤ levels) where
    upper : (o : Form) (before after : ℕ) (front : List ℤ) (x : ℤ) (behind : List ℤ) → length o.coefs ≡ levels → is ≡ front ++ x ∷ behind → length front ≡ before
        → value (iterator_row a m hidden before after o) point ≡ value o (take levels (pre ++ inner)) +ℤ neg_ℤ x
    upper o before after front x behind l e n =
        let wide = spliced_wider a m o.coefs (zeros hidden) (omega (arith, few, l)) in
        let p = ap (λ z. dot (z ++ at_one before (negsuc 0) after) point) (sym wide)
        ∙ parts a m (o.coefs ++ zeros hidden) (at_one before (negsuc 0) after) pre_long cells_long (padded_long levels hidden o.coefs l full_long) in
        let q = over_levels levels hidden o.coefs l full_long in
        let r = ap (dot (at_one before (negsuc 0) after)) e ∙ dot_one before (negsuc 0) after front x behind n ∙ minus_one x in
        omega (arith, ints)

    lower : (o : Form) (before after : ℕ) (front : List ℤ) (x : ℤ) (behind : List ℤ) → length o.coefs ≡ levels → is ≡ front ++ x ∷ behind → length front ≡ before
        → value (negative (iterator_row a m hidden before after o)) point ≡ neg_ℤ (value o (take levels (pre ++ inner))) +ℤ x
    lower o before after front x behind l e n =
        let u = upper o before after front x behind l e n in
        let v = value_negative (iterator_row a m hidden before after o) point in
        omega (arith, ints, u, v)

    iterators_from : (os : List Form) (before : ℕ) (front rest : List ℤ) → All (λ o. length o.coefs ≡ levels) os → is ≡ front ++ rest → length front ≡ before → length rest ≡ length os
        → all_hold (iterator_ties a m hidden before os) point ≡ true → rest ≡ map (λ o. value o (take levels (pre ++ inner))) os
    iterators_from [] before front [] w e n l h = refl
    iterators_from [] before front (x ∷ rest) w e n l h = absurd (omega arith)
    iterators_from (o ∷ os) before front [] w e n l h = absurd (omega arith)
    iterators_from (o ∷ os) before front (x ∷ rest) w e n l h =
        let lo = All-head (λ o. length o.coefs ≡ levels) o os w in
        let t = tied_from _ _ (value o (take levels (pre ++ inner))) x (all_hold (iterator_ties a m hidden (suc before) os) point)
        (upper o before (length os) front x rest lo e n) (lower o before (length os) front x rest lo e n) h in
        ap₂ (λ y ys. y ∷ ys) t.0
        (iterators_from os (suc before) (front ++ x ∷ []) rest (All-tail (λ o. length o.coefs ≡ levels) o os w) (e ∙ sym (append_assoc front (x ∷ []) rest))
        (let k = append_length front (x ∷ []) in omega arith) (omega arith) t.1)

    iterators_to : (os : List Form) (before : ℕ) (front rest : List ℤ) → All (λ o. length o.coefs ≡ levels) os → is ≡ front ++ rest → length front ≡ before → length rest ≡ length os
        → rest ≡ map (λ o. value o (take levels (pre ++ inner))) os → all_hold (iterator_ties a m hidden before os) point ≡ true
    iterators_to [] before front [] w e n l h = refl
    iterators_to [] before front (x ∷ rest) w e n l h = absurd (omega arith)
    iterators_to (o ∷ os) before front [] w e n l h = absurd (omega arith)
    iterators_to (o ∷ os) before front (x ∷ rest) w e n l h =
        let lo = All-head (λ o. length o.coefs ≡ levels) o os w in
        let p = parts_same x (value o (take levels (pre ++ inner))) rest (map (λ o. value o (take levels (pre ++ inner))) os) h in
        tied_to _ _ (value o (take levels (pre ++ inner))) x (all_hold (iterator_ties a m hidden (suc before) os) point)
        (upper o before (length os) front x rest lo e n) (lower o before (length os) front x rest lo e n) p.0
        (iterators_to os (suc before) (front ++ x ∷ []) rest (All-tail (λ o. length o.coefs ≡ levels) o os w) (e ∙ sym (append_assoc front (x ∷ []) rest))
        (let k = append_length front (x ∷ []) in omega arith) (omega arith) p.1)

  -- the cell's subscripts

  module _ (a inner_vars : ℕ) (pre_long : length pre ≡ a) (inner_long : length inner ≡ inner_vars) where
    one_long : (before : ℕ) (c : ℤ) (after : ℕ) → length (at_one before c after) ≡ before + (1 + after)
    one_long before c after = let e = append_length (zeros before) (c ∷ zeros after) in let f = zeros_long before in let g = zeros_long after in omega arith

    -- one subscript and a form over the iterators
    of_cell : (before : ℕ) (c : ℤ) (after : ℕ) (cs front : List ℤ) (x : ℤ) (behind : List ℤ) → cells ≡ front ++ x ∷ behind → length front ≡ before → length behind ≡ after
        → dot ((zeros a ++ at_one before c after) ++ (zeros inner_vars ++ cs)) point ≡ c *ℤ x +ℤ dot cs is
    of_cell before c after cs front x behind e n l =
        let long : length (zeros a ++ at_one before c after) ≡ length (pre ++ cells) =
        let p = append_length (zeros a) (at_one before c after) in let q = append_length pre cells in let r = zeros_long a in let s = one_long before c after in
        let t = ap (λ zs. length zs) e in let u = append_length front (x ∷ behind) in omega arith in
        let p = dot_both (zeros a ++ at_one before c after) (zeros inner_vars ++ cs) (pre ++ cells) (inner ++ is) long in
        let q = dot_both (zeros a) (at_one before c after) pre cells (zeros_long a ∙ sym pre_long) in
        let r = dot_both (zeros inner_vars) cs inner is (zeros_long inner_vars ∙ sym inner_long) in
        let s = dot_zeros a pre in
        let t = dot_zeros inner_vars inner in
        let u = ap (dot (at_one before c after)) e ∙ dot_one before c after front x behind n in
        omega (arith, ints)

    cell_upper : (f : Form) (before after : ℕ) (front : List ℤ) (x : ℤ) (behind : List ℤ) → cells ≡ front ++ x ∷ behind → length front ≡ before → length behind ≡ after
        → value (cell_row a inner_vars before after f) point ≡ value f is +ℤ neg_ℤ x
    cell_upper f before after front x behind e n l =
        let p = of_cell before (negsuc 0) after f.coefs front x behind e n l in let q = minus_one x in omega (arith, ints)

    cell_lower : (f : Form) (before after : ℕ) (front : List ℤ) (x : ℤ) (behind : List ℤ) → cells ≡ front ++ x ∷ behind → length front ≡ before → length behind ≡ after
        → value (negative (cell_row a inner_vars before after f)) point ≡ neg_ℤ (value f is) +ℤ x
    cell_lower f before after front x behind e n l =
        let u = cell_upper f before after front x behind e n l in
        let v = value_negative (cell_row a inner_vars before after f) point in
        omega (arith, ints, u, v)

    cells_from : (fs : List Form) (before : ℕ) (front rest : List ℤ) → cells ≡ front ++ rest → length front ≡ before → length rest ≡ length fs
        → all_hold (cell_ties a inner_vars before fs) point ≡ true → rest ≡ cell_at fs is
    cells_from [] before front [] e n l h = refl
    cells_from [] before front (x ∷ rest) e n l h = absurd (omega arith)
    cells_from (f ∷ fs) before front [] e n l h = absurd (omega arith)
    cells_from (f ∷ fs) before front (x ∷ rest) e n l h =
        let t = tied_from _ _ (value f is) x (all_hold (cell_ties a inner_vars (suc before) fs) point)
        (cell_upper f before (length fs) front x rest e n (omega arith)) (cell_lower f before (length fs) front x rest e n (omega arith)) h in
        ap₂ (λ y ys. y ∷ ys) t.0
        (cells_from fs (suc before) (front ++ x ∷ []) rest (e ∙ sym (append_assoc front (x ∷ []) rest)) (let k = append_length front (x ∷ []) in omega arith) (omega arith) t.1)

    cells_to : (fs : List Form) (before : ℕ) (front rest : List ℤ) → cells ≡ front ++ rest → length front ≡ before → length rest ≡ length fs
        → rest ≡ cell_at fs is → all_hold (cell_ties a inner_vars before fs) point ≡ true
    cells_to [] before front [] e n l h = refl
    cells_to [] before front (x ∷ rest) e n l h = absurd (omega arith)
    cells_to (f ∷ fs) before front [] e n l h = absurd (omega arith)
    cells_to (f ∷ fs) before front (x ∷ rest) e n l h =
        let p = parts_same x (value f is) rest (cell_at fs is) h in
        tied_to _ _ (value f is) x (all_hold (cell_ties a inner_vars (suc before) fs) point)
        (cell_upper f before (length fs) front x rest e n (omega arith)) (cell_lower f before (length fs) front x rest e n (omega arith)) p.0
        (cells_to fs (suc before) (front ++ x ∷ []) rest (e ∙ sym (append_assoc front (x ∷ []) rest)) (let k = append_length front (x ∷ []) in omega arith) (omega arith) p.1)

-- the rows of a move's system are as they are to be
pub use_rows_are : (q : Piece) (around : ℕ) (fs : List Form) → around ≤ q.levels → All (λ f. length f.coefs ≡ q.levels + q.hidden) q.system.rows
    → All (λ o. length o.coefs ≡ q.levels) q.origin → AreUseRows q around fs (use_rows q around fs)
use_rows_are q around fs few rows origin = record {
  hold = λ pre cells inner iters pre_long cells_long full_long iters_long.
      let point : List ℤ = (pre ++ cells) ++ (inner ++ iters) in
      let kept : all_hold (map (kept_row around (length fs) (length q.origin)) q.system.rows) ((pre ++ cells) ++ (inner ++ iters)) ≡ all_hold q.system.rows (pre ++ inner) =
      rows_kept pre cells inner iters around (length fs) (length q.origin) q.system.rows pre_long cells_long
      (subst (λ n. All (λ f. length f.coefs ≡ n) q.system.rows) (sym full_long) rows) in
      let inner_long : length inner ≡ (q.levels + q.hidden) - around = let e = append_length pre inner in omega arith in (
        λ h.
            let a = rows_parts (map (kept_row around (length fs) (length q.origin)) q.system.rows) (iterator_ties around (length fs) q.hidden 0 q.origin ++ cell_ties around ((q.levels + q.hidden) - around) 0 fs) ((pre ++ cells) ++ (inner ++ iters)) h in
            let b = rows_parts (iterator_ties around (length fs) q.hidden 0 q.origin) (cell_ties around ((q.levels + q.hidden) - around) 0 fs) ((pre ++ cells) ++ (inner ++ iters)) a.1 in (
              sym kept ∙ a.0,
              iterators_from pre cells inner iters around (length fs) q.levels q.hidden pre_long cells_long full_long few q.origin 0 [] iters origin refl refl iters_long b.0,
              cells_from pre cells inner iters around ((q.levels + q.hidden) - around) pre_long inner_long fs 0 [] cells refl refl cells_long b.1,
            ),
        λ k i c.
            rows_joined (map (kept_row around (length fs) (length q.origin)) q.system.rows) (iterator_ties around (length fs) q.hidden 0 q.origin ++ cell_ties around ((q.levels + q.hidden) - around) 0 fs) ((pre ++ cells) ++ (inner ++ iters))
            (kept ∙ k)
            (rows_joined (iterator_ties around (length fs) q.hidden 0 q.origin) (cell_ties around ((q.levels + q.hidden) - around) 0 fs) ((pre ++ cells) ++ (inner ++ iters))
            (iterators_to pre cells inner iters around (length fs) q.levels q.hidden pre_long cells_long full_long few q.origin 0 [] iters origin refl refl iters_long i)
            (cells_to pre cells inner iters around ((q.levels + q.hidden) - around) pre_long inner_long fs 0 [] cells refl refl cells_long c)),
      );
}
