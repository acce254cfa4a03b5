-- The points of a pair of uses are cells of both behind one prefix.
use Rattle.std.proofs.Common.{◌≡◌, refl, sym, ap, ap₂, ◌∙◌, subst, ℕ, zero, suc, ◌+◌, ◌<◌, ◌≤◌, ℤ, pos, negsuc, ◌+ℤ◌, ◌-ℤ◌, ◌≤ℤ◌, int_le, true, ◌&&◌, Some, None, ◌⊎◌, get_or, List, [], ◌∷◌, ◌++◌, map, length, take, drop, inl, inr, arith, append_assoc, append-nil, take-append-drop}
use Rattle.std.specs.Int.{int_max, int_min}
use Rattle.std.specs.List.{All, fold}
use Rattle.std.proofs.lemmas.Int.{ints}
use Rattle.std.proofs.lemmas.List.Elements.{All-head, All-tail}
use Rattle.ch_affine.specs.Affine.{dot, value}
use Rattle.ch_affine.specs.Form.{Form}
use Rattle.ch_affine.specs.Rows.{Rows, all_hold}
use Rattle.ch_affine.specs.declared.system.Range.{Range}
use Rattle.ch_space.specs.Built.{zeros}
use Rattle.ch_moved.proofs.Fronts.{in_fronts, fronts_in}
use Rattle.ch_moved.specs.Changed.{fronts}
use Rattle.ch_moved.proofs.HiddenTies.{rows_joined, rows_parts}
use Rattle.ch_poly.proofs.Firsts.{InBox}
use Rattle.ch_poly.specs.Points.{box_points, greatest_of, points}
use Rattle.ch_space.proofs.Membership.{box_points_in, filter_in, in_box_points, in_filter, length_inside}
use Rattle.ch_datacopy.specs.declared.cells.Cells.{Cells}
use Rattle.ch_timed.specs.Members.{In}
use Rattle.ch_datacopy.specs.Cells.{at_one, kept_row, spliced}
use Rattle.ch_datacopy.specs.Pairs.{IsFramed, all_shared, difference, pair_system, second_row, used}
use Rattle.ch_datacopy.proofs.Instances.{append_length, inside_join, inside_split, take_few, take_less}
use Rattle.ch_datacopy.proofs.UseRows.{dot_both, dot_one, dot_spliced, dot_zeros, minus_one, plus_one, rows_kept, spliced_long, zeros_long}

-- ranges that both have

shared_from : (rs qs : List Range) (xs : List ℤ) → length rs ≡ length qs → InBox (all_shared rs qs) xs → InBox rs xs × InBox qs xs
shared_from [] [] [] e b = (tt, tt)
shared_from [] [] (x ∷ xs) e b = absurd b
shared_from [] (q ∷ qs) xs e b = absurd (omega arith)
shared_from (r ∷ rs) [] xs e b = absurd (omega arith)
shared_from (r ∷ rs) (q ∷ qs) [] e b = absurd b
shared_from (r ∷ rs) (q ∷ qs) (x ∷ xs) e b =
    let m = shared_from rs qs xs (omega arith) b.2 in
    let l = lows r.low q.low x b.0 in
    let h = highs r.high q.high x b.1 in
    ((l.0, h.0, m.0), (l.1, h.1, m.1))
  where
    lows : (c d y : ℤ) → int_max c d ≤ℤ y → (c ≤ℤ y) × (d ≤ℤ y)
    lows c d y k = grind (arith, ints)

    highs : (c d y : ℤ) → y ≤ℤ int_min c d → (y ≤ℤ c) × (y ≤ℤ d)
    highs c d y k = grind (arith, ints)

shared_to : (rs qs : List Range) (xs : List ℤ) → InBox rs xs → InBox qs xs → InBox (all_shared rs qs) xs
shared_to [] [] [] b c = tt
shared_to [] qs (x ∷ xs) b c = absurd b
shared_to [] (q ∷ qs) [] b c = tt
shared_to (r ∷ rs) [] [] b c = absurd b
shared_to (r ∷ rs) [] (x ∷ xs) b c = absurd c
shared_to (r ∷ rs) (q ∷ qs) [] b c = absurd b
shared_to (r ∷ rs) (q ∷ qs) (x ∷ xs) b c = (low r.low q.low x b.0 c.0, high r.high q.high x b.1 c.1, shared_to rs qs xs b.2 c.2)
  where
    low : (c d y : ℤ) → c ≤ℤ y → d ≤ℤ y → int_max c d ≤ℤ y
    low c d y k l = grind (arith, ints)

    high : (c d y : ℤ) → y ≤ℤ c → y ≤ℤ d → y ≤ℤ int_min c d
    high c d y k l = grind (arith, ints)

-- rows of the second piece

module _ (pre cu cv hu hv : List ℤ) where
  abbrev pair : List ℤ
  pair = ((pre ++ cu) ++ cv) ++ (hu ++ hv)

  second_value : (a m h : ℕ) (f : Form) → length pre ≡ a → length cu ≡ m → length cv ≡ m → length hu ≡ h → length f.coefs ≡ length ((pre ++ cv) ++ hv)
      → value (second_row a m h f) pair ≡ value f ((pre ++ cv) ++ hv)
  second_value a m h f e g k l n =
      let lengths = append_length (pre ++ cv) hv in
      let lengths2 = append_length pre cv in
      let spliced_is = spliced_long a m f.coefs (omega arith) in
      let all = append_length ((pre ++ cu) ++ cv) hv in
      let all2 = append_length (pre ++ cu) cv in
      let all3 = append_length pre cu in
      let bare : dot (second_row a m h f).coefs pair ≡ dot (spliced ((a + m) + m) h (spliced a m f.coefs)) pair =
      ap (λ z. dot z pair) (append-nil (spliced ((a + m) + m) h (spliced a m f.coefs ++ [])) ∙ ap (spliced ((a + m) + m) h) (append-nil (spliced a m f.coefs))) in
      let outer = ap (dot (spliced ((a + m) + m) h (spliced a m f.coefs))) (sym (append_assoc ((pre ++ cu) ++ cv) hu hv))
      ∙ dot_spliced ((a + m) + m) h (spliced a m f.coefs) ((pre ++ cu) ++ cv) hu hv (omega arith) l (omega arith) in
      let again = ap (dot (spliced a m f.coefs)) (append_assoc (pre ++ cu) cv hv) in
      let third = append_length cv hv in
      let fourth = append_length pre (cv ++ hv) in
      let inner = dot_spliced a m f.coefs pre cu (cv ++ hv) e g (omega arith) in
      let last = ap (dot f.coefs) (sym (append_assoc pre cv hv)) in
      ap (λ z. f.constant +ℤ z) (bare ∙ outer ∙ again ∙ inner ∙ last)

  rows_second : (a m h : ℕ) (rows : List Form) → length pre ≡ a → length cu ≡ m → length cv ≡ m → length hu ≡ h → All (λ f. length f.coefs ≡ length ((pre ++ cv) ++ hv)) rows
      → all_hold (map (second_row a m h) rows) pair ≡ all_hold rows ((pre ++ cv) ++ hv)
  rows_second a m h [] e g k l w = refl
  rows_second a m h (r ∷ rs) e g k l w =
      ap₂ (λ x t. int_le (pos 0) x && t) (second_value a m h r e g k l (All-head (λ f. length f.coefs ≡ length ((pre ++ cv) ++ hv)) r rs w))
      (rows_second a m h rs e g k l (All-tail (λ f. length f.coefs ≡ length ((pre ++ cv) ++ hv)) r rs w))

-- points

module _ (a m : ℕ) (u v : Cells) (wu : IsFramed a m u) (wv : IsFramed a m v) where
  abbrev joint : Rows
  joint = pair_system a m u v

  boxes_split : (q : Cells) → a + m ≤ length q.system.boxes → take a q.system.boxes ++ drop a (take (a + m) q.system.boxes) ≡ take (a + m) q.system.boxes
  boxes_split q l = ap (λ z. z ++ drop a (take (a + m) q.system.boxes)) (sym (take_less a (a + m) q.system.boxes (omega arith))) ∙ take-append-drop a (take (a + m) q.system.boxes)

  long_u : a + m ≤ length u.system.boxes
  long_u = let e = wu.boxes in let l = wu.levels in omega arith

  long_v : a + m ≤ length v.system.boxes
  long_v = let e = wv.boxes in let l = wv.levels in omega arith

  same_long : length (take a u.system.boxes) ≡ length (take a v.system.boxes)
  same_long = let l = long_u in let k = long_v in take_few a u.system.boxes (omega arith) ∙ sym (take_few a v.system.boxes (omega arith))

  drop_long : (q : Cells) → a + m ≤ length q.system.boxes → length (drop a (take (a + m) q.system.boxes)) ≡ m
  drop_long q l =
      let e = append_length (take a (take (a + m) q.system.boxes)) (drop a (take (a + m) q.system.boxes)) in
      let f = ap (λ zs. length zs) (take-append-drop a (take (a + m) q.system.boxes)) in
      let g = take_few (a + m) q.system.boxes l in
      let h = ap (λ zs. length zs) (take_less a (a + m) q.system.boxes (omega arith)) in
      let k = take_few a q.system.boxes (omega arith) in
      omega arith

  hidden_long : (q : Cells) → IsFramed a m q → length (drop (a + m) q.system.boxes) ≡ q.hidden
  hidden_long q w =
      let b = w.boxes in
      let l = w.levels in
      let e = append_length (take (a + m) q.system.boxes) (drop (a + m) q.system.boxes) in
      let f = ap (λ zs. length zs) (take-append-drop (a + m) q.system.boxes) in
      let g = take_few (a + m) q.system.boxes (omega arith) in
      omega arith

  in_joint : (pre cu cv hu hv : List ℤ) → length pre ≡ a → length cu ≡ m → length cv ≡ m → length hu ≡ u.hidden → length hv ≡ v.hidden
      → (all_hold joint.rows (pair pre cu cv hu hv) ≡ true → (all_hold u.system.rows ((pre ++ cu) ++ hu) ≡ true) × (all_hold v.system.rows ((pre ++ cv) ++ hv) ≡ true))
      × ((all_hold u.system.rows ((pre ++ cu) ++ hu) ≡ true) → (all_hold v.system.rows ((pre ++ cv) ++ hv) ≡ true) → all_hold joint.rows (pair pre cu cv hu hv) ≡ true)
  in_joint pre cu cv hu hv e g k l n =
      let p1 = append_length pre cu in
      let p2 = append_length (pre ++ cu) hu in
      let p3 = append_length pre cv in
      let p4 = append_length (pre ++ cv) hv in
      let first = rows_kept (pre ++ cu) cv hu hv (a + m) m v.hidden u.system.rows (omega arith) k (subst (λ c. All (λ f. length f.coefs ≡ c) u.system.rows) (omega arith) wu.rows) in
      let second = rows_second pre cu cv hu hv a m u.hidden v.system.rows e g k l (subst (λ c. All (λ f. length f.coefs ≡ c) v.system.rows) (omega arith) wv.rows) in (
        λ h. let r = rows_parts (map (kept_row (a + m) m v.hidden) u.system.rows) (map (second_row a m u.hidden) v.system.rows) (pair pre cu cv hu hv) h in (sym first ∙ r.0, sym second ∙ r.1),
        λ x y. rows_joined (map (kept_row (a + m) m v.hidden) u.system.rows) (map (second_row a m u.hidden) v.system.rows) (pair pre cu cv hu hv) (first ∙ x) (second ∙ y),
      )

  -- a point is a cell of each move behind one prefix
  pub record IsPair (pt : List ℤ) : Type 0 where
    pub prefix : List ℤ
    pub first : List ℤ
    pub second : List ℤ
    pub hidden : List ℤ
    pub prefix_long : length prefix ≡ a
    pub first_long : length first ≡ m
    pub second_long : length second ≡ m
    pub in_first : In (prefix ++ first) (used u)
    pub in_second : In (prefix ++ second) (used v)
    pub is : pt ≡ ((prefix ++ first) ++ second) ++ hidden
    pub hidden_long : length hidden ≡ u.hidden + v.hidden

  pub pair_from : (pt : List ℤ) → In pt (points joint) → IsPair pt
  pair_from pt i =
      let f = in_filter (all_hold joint.rows) (box_points joint.boxes) pt i in
      let shared_boxes = all_shared (take a u.system.boxes) (take a v.system.boxes) in
      let bu = drop a (take (a + m) u.system.boxes) in
      let bv = drop a (take (a + m) v.system.boxes) in
      let s1 = inside_split ((shared_boxes ++ bu) ++ bv) (drop (a + m) u.system.boxes ++ drop (a + m) v.system.boxes) pt (in_box_points joint.boxes pt f.0) in
      let s2 = inside_split (shared_boxes ++ bu) bv s1.0 s1.1.1.1.0 in
      let s3 = inside_split shared_boxes bu s2.0 s2.1.1.1.0 in
      let s4 = inside_split (drop (a + m) u.system.boxes) (drop (a + m) v.system.boxes) s1.1.0 s1.1.1.1.1 in
      let both = shared_from (take a u.system.boxes) (take a v.system.boxes) s3.0 same_long s3.1.1.1.0 in
      let pl : length s3.0 ≡ a = let l = long_u in length_inside (take a u.system.boxes) s3.0 both.0 ∙ take_few a u.system.boxes (omega arith) in
      let cul : length s3.1.0 ≡ m = length_inside bu s3.1.0 s3.1.1.1.1 ∙ drop_long u long_u in
      let cvl : length s2.1.0 ≡ m = length_inside bv s2.1.0 s2.1.1.1.1 ∙ drop_long v long_v in
      let hul : length s4.0 ≡ u.hidden = length_inside (drop (a + m) u.system.boxes) s4.0 s4.1.1.1.0 ∙ hidden_long u wu in
      let hvl : length s4.1.0 ≡ v.hidden = length_inside (drop (a + m) v.system.boxes) s4.1.0 s4.1.1.1.1 ∙ hidden_long v wv in
      let made : pt ≡ ((s3.0 ++ s3.1.0) ++ s2.1.0) ++ (s4.0 ++ s4.1.0) =
      s1.1.1.0 ∙ ap₂ (λ x y. x ++ y) (s2.1.1.0 ∙ ap (λ z. z ++ s2.1.0) s3.1.1.0) s4.1.1.0 in
      let rows = (in_joint s3.0 s3.1.0 s2.1.0 s4.0 s4.1.0 pl cul cvl hul hvl).0 (ap (all_hold joint.rows) (sym made) ∙ f.1) in
      record {
        prefix = s3.0;
        first = s3.1.0;
        second = s2.1.0;
        hidden = s4.0 ++ s4.1.0;
        prefix_long = pl;
        first_long = cul;
        second_long = cvl;
        in_first = subst (λ n. In (s3.0 ++ s3.1.0) (fronts n u.system)) (sym wu.levels) (fronts_in (a + m) u.system long_u (s3.0 ++ s3.1.0) (record {
          inside = subst (λ rs. InBox rs (s3.0 ++ s3.1.0)) (boxes_split u long_u) (inside_join (take a u.system.boxes) bu s3.0 s3.1.0 both.0 s3.1.1.1.1);
          hidden = s4.0;
          hidden_inside = s4.1.1.1.0;
          holds = rows.0;
        }));
        in_second = subst (λ n. In (s3.0 ++ s2.1.0) (fronts n v.system)) (sym wv.levels) (fronts_in (a + m) v.system long_v (s3.0 ++ s2.1.0) (record {
          inside = subst (λ rs. InBox rs (s3.0 ++ s2.1.0)) (boxes_split v long_v) (inside_join (take a v.system.boxes) bv s3.0 s2.1.0 both.1 s2.1.1.1.1);
          hidden = s4.1.0;
          hidden_inside = s4.1.1.1.1;
          holds = rows.1;
        }));
        is = made;
        hidden_long = append_length s4.0 s4.1.0 ∙ ap₂ (λ x y. x + y) hul hvl;
      }

  pub pair_to : (prefix first second : List ℤ) → length prefix ≡ a → length first ≡ m → length second ≡ m → In (prefix ++ first) (used u) → In (prefix ++ second) (used v)
      → (hidden : List ℤ) × ((length hidden ≡ u.hidden + v.hidden) × In (((prefix ++ first) ++ second) ++ hidden) (points joint))
  pair_to prefix first second pl fl sl i j =
      let f = in_fronts (a + m) u.system long_u (prefix ++ first) (subst (λ n. In (prefix ++ first) (fronts n u.system)) wu.levels i) in
      let g = in_fronts (a + m) v.system long_v (prefix ++ second) (subst (λ n. In (prefix ++ second) (fronts n v.system)) wv.levels j) in
      let hul : length f.hidden ≡ u.hidden = length_inside (drop (a + m) u.system.boxes) f.hidden f.hidden_inside ∙ hidden_long u wu in
      let hvl : length g.hidden ≡ v.hidden = length_inside (drop (a + m) v.system.boxes) g.hidden g.hidden_inside ∙ hidden_long v wv in
      let bu = drop a (take (a + m) u.system.boxes) in
      let bv = drop a (take (a + m) v.system.boxes) in
      let fs = parts_of prefix first (take a u.system.boxes) bu (take_few a u.system.boxes (let l = long_u in omega arith) ∙ sym pl) (subst (λ rs. InBox rs (prefix ++ first)) (sym (boxes_split u long_u)) f.inside) in
      let gs = parts_of prefix second (take a v.system.boxes) bv (take_few a v.system.boxes (let l = long_v in omega arith) ∙ sym pl) (subst (λ rs. InBox rs (prefix ++ second)) (sym (boxes_split v long_v)) g.inside) in
      let box : InBox joint.boxes (((prefix ++ first) ++ second) ++ (f.hidden ++ g.hidden)) =
      inside_join ((all_shared (take a u.system.boxes) (take a v.system.boxes) ++ bu) ++ bv) (drop (a + m) u.system.boxes ++ drop (a + m) v.system.boxes) ((prefix ++ first) ++ second) (f.hidden ++ g.hidden)
      (inside_join (all_shared (take a u.system.boxes) (take a v.system.boxes) ++ bu) bv (prefix ++ first) second
      (inside_join (all_shared (take a u.system.boxes) (take a v.system.boxes)) bu prefix first (shared_to (take a u.system.boxes) (take a v.system.boxes) prefix fs.0 gs.0) fs.1) gs.1)
      (inside_join (drop (a + m) u.system.boxes) (drop (a + m) v.system.boxes) f.hidden g.hidden f.hidden_inside g.hidden_inside) in (
        f.hidden ++ g.hidden,
        (
          append_length f.hidden g.hidden ∙ ap₂ (λ x y. x + y) hul hvl,
          filter_in (all_hold joint.rows) (box_points joint.boxes) (((prefix ++ first) ++ second) ++ (f.hidden ++ g.hidden)) (box_points_in joint.boxes _ box)
              ((in_joint prefix first second f.hidden g.hidden pl fl sl hul hvl).1 f.holds g.holds),
        ),
      )
    where
      parts_of : (xs ys : List ℤ) (rs qs : List Range) → length rs ≡ length xs → InBox (rs ++ qs) (xs ++ ys) → InBox rs xs × InBox qs ys
      parts_of [] ys [] qs e b = (tt, b)
      parts_of [] ys (r ∷ rs) qs e b = absurd (omega arith)
      parts_of (x ∷ xs) ys [] qs e b = absurd (omega arith)
      parts_of (x ∷ xs) ys (r ∷ rs) qs e b = let p = parts_of xs ys rs qs (omega arith) b.2 in ((b.0, b.1, p.0), p.1)

-- how far two cells stand apart

split_at : (k : ℕ) (xs : List ℤ) → k < length xs → xs ≡ take k xs ++ get_or xs k (pos 0) ∷ drop (suc k) xs
split_at k [] l = absurd (omega arith)
split_at zero (x ∷ xs) l = refl
split_at (suc k) (x ∷ xs) l = ap (λ z. x ∷ z) (split_at k xs (omega arith))

one_long : (before : ℕ) (c : ℤ) (after : ℕ) → length (at_one before c after) ≡ before + (1 + after)
one_long before c after = let e = append_length (zeros before) (c ∷ zeros after) in let f = zeros_long before in let g = zeros_long after in omega arith

pub difference_is : (a k after h : ℕ) (pre cu cv hidden : List ℤ) → length pre ≡ a → length cu ≡ (k + 1) + after → length cv ≡ (k + 1) + after → length hidden ≡ h
    → value (difference a k after h) (((pre ++ cu) ++ cv) ++ hidden) ≡ get_or cu k (pos 0) -ℤ get_or cv k (pos 0)
difference_is a k after h pre cu cv hidden e f g l =
    let z = zeros_long a in
    let up = one_long k (pos 1) after in
    let down = one_long k (negsuc 0) after in
    let n1 = append_length (zeros a) (at_one k (pos 1) after) in
    let n2 = append_length (zeros a ++ at_one k (pos 1) after) (at_one k (negsuc 0) after) in
    let m1 = append_length pre cu in
    let m2 = append_length (pre ++ cu) cv in
    let d1 = dot_both ((zeros a ++ at_one k (pos 1) after) ++ at_one k (negsuc 0) after) (zeros h) ((pre ++ cu) ++ cv) hidden (omega arith) in
    let d2 = dot_both (zeros a ++ at_one k (pos 1) after) (at_one k (negsuc 0) after) (pre ++ cu) cv (omega arith) in
    let d3 = dot_both (zeros a) (at_one k (pos 1) after) pre cu (omega arith) in
    let v1 = dot_zeros a pre in
    let v2 = dot_zeros h hidden in
    let one_first = ap (dot (at_one k (pos 1) after)) (split_at k cu (omega arith)) ∙ dot_one k (pos 1) after (take k cu) (get_or cu k (pos 0)) (drop (suc k) cu) (take_few k cu (omega arith)) ∙ plus_one (get_or cu k (pos 0)) in
    let one_second = ap (dot (at_one k (negsuc 0) after)) (split_at k cv (omega arith)) ∙ dot_one k (negsuc 0) after (take k cv) (get_or cv k (pos 0)) (drop (suc k) cv) (take_few k cv (omega arith)) ∙ minus_one (get_or cv k (pos 0)) in
    omega (arith, ints)

-- the greatest of some numbers

abbrev IsGreatest : ℤ → List ℤ → Type 0
IsGreatest g zs = In g zs × ((z : ℤ) → In z zs → z ≤ℤ g)

fold_greatest : (z : ℤ) (zs : List ℤ) → IsGreatest (fold int_max z zs) (z ∷ zs)
fold_greatest z [] = (inl refl, λ w i. elim i as (λ _. w ≤ℤ z) [ inl e ↦ at_most w z e | inr j ↦ absurd j ])
  where
    at_most : (x y : ℤ) → y ≡ x → x ≤ℤ y
    at_most x y e = omega (arith, ints)
fold_greatest z (y ∷ ys) =
    let r = fold_greatest (int_max z y) ys in (
      elim r.0 as (λ _. In (fold int_max (int_max z y) ys) (z ∷ y ∷ ys)) [
        | inl e ↦ elim (one_of z y) as (λ _. In (fold int_max (int_max z y) ys) (z ∷ y ∷ ys)) [ inl f ↦ inl (sym f ∙ e) | inr f ↦ inr (inl (sym f ∙ e)) ]
        | inr j ↦ inr (inr j)
      ],
      λ w i.
          let top = r.1 (int_max z y) (inl refl) in
          elim i as (λ _. w ≤ℤ fold int_max (int_max z y) ys) [
            | inl e ↦ first z y w (fold int_max (int_max z y) ys) e top
            | inr j ↦ elim j as (λ _. w ≤ℤ fold int_max (int_max z y) ys) [
              | inl e ↦ second z y w (fold int_max (int_max z y) ys) e top
              | inr k ↦ r.1 w (inr k)
            ]
          ],
    )
  where
    one_of : (x u : ℤ) → (int_max x u ≡ x) ⊎ (int_max x u ≡ u)
    one_of x u = grind (arith, ints)

    first : (x u w g : ℤ) → x ≡ w → int_max x u ≤ℤ g → w ≤ℤ g
    first x u w g e h = grind (arith, ints)

    second : (x u w g : ℤ) → u ≡ w → int_max x u ≤ℤ g → w ≤ℤ g
    second x u w g e h = grind (arith, ints)

pub greatest_is : (zs : List ℤ) (g : ℤ) → greatest_of zs ≡ Some g → IsGreatest g zs
greatest_is [] g h = cc
greatest_is (z ∷ zs) g h = let e : fold int_max z zs ≡ g = some_same (fold int_max z zs) g h in subst (λ y. IsGreatest y (z ∷ zs)) e (fold_greatest z zs)
  where
    some_same : (x y : ℤ) → Some x ≡ Some y → x ≡ y
    some_same x y e = cc

pub none_greatest : (zs : List ℤ) → greatest_of zs ≡ None → (z : ℤ) → In z zs → ⊥
none_greatest [] h z i = i
none_greatest (y ∷ ys) h z i = cc
