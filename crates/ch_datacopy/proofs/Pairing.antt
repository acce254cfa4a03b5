-- The system of the pairs of two uses is a system, and where their prefixes have no range in common there is no pair.
use Rattle.std.proofs.Common.{◌≡◌, refl, sym, ap, ap₂, ◌∙◌, subst, ℕ, zero, suc, ◌+◌, ◌-◌, ◌<◌, ◌≤◌, ◌^◌, ℤ, ◌≤ℤ◌, Option, None, List, [], ◌∷◌, ◌++◌, map, length, take, drop, get_or, arith, append_assoc, append-nil}
use Rattle.std.specs.Int.{int_max, int_min}
use Rattle.std.specs.List.{All}
use Rattle.std.proofs.lemmas.Int.{ints}
use Rattle.std.proofs.lemmas.List.{drop-take, drop_all, drop_more, take_rest}
use Rattle.std.proofs.lemmas.List.Elements.{All-append, All-drop, All-same, All-take}
use Rattle.ch_affine.specs.Affine.{IsAtMost, value}
use Rattle.ch_affine.specs.Form.{Form}
use Rattle.ch_affine.specs.Rows.{IsBox, IsSystem, all_hold, system}
use Rattle.ch_affine.specs.declared.system.Range.{Range}
use Rattle.ch_datacopy.specs.Cells.{kept_row}
use Rattle.ch_datacopy.specs.Pairs.{IsFramed, IsWidest, all_shared, difference, pair_boxes, pair_rows, pair_system, second_row}
use Rattle.ch_datacopy.specs.Widths.{HaveNone}
use Rattle.ch_datacopy.specs.declared.cells.Cells.{Cells}
use Rattle.ch_datacopy.proofs.Celled.{all_kept_long}
use Rattle.ch_datacopy.proofs.Instances.{append_length, inside_split, take_few}
use Rattle.ch_datacopy.proofs.PairLaw.{are_widest}
use Rattle.ch_datacopy.proofs.PairPoints.{pair_to}
use Rattle.ch_moved.proofs.Fronts.{inside_lies, lies_inside}
use Rattle.ch_poly.proofs.Firsts.{InBox}
use Rattle.ch_poly.specs.Points.{box_points, greatest_of, points}
use Rattle.ch_space.specs.Following.{shared}
use Rattle.ch_space.proofs.Membership.{in_box_points, in_filter}

-- ranges that both have

shared_next : (rs qs : List Range) (k : ℕ) (d e r : Range) → k < length rs → k < length qs → r ≡ shared (get_or rs k d) (get_or qs k e)
    → all_shared (drop k rs) (drop k qs) ≡ r ∷ all_shared (drop (k + 1) rs) (drop (k + 1) qs)
shared_next rs qs k d e r l m g =
    ap₂ all_shared (drop_more rs k d l) (drop_more qs k e m)
    ∙ ap (λ z. z ∷ all_shared (drop (k + 1) rs) (drop (k + 1) qs)) (sym g)

pub shared_more : (rs qs front next total : List Range) (k : ℕ) (d e r : Range) → k < length rs → k < length qs → r ≡ shared (get_or rs k d) (get_or qs k e)
    → front ++ all_shared (drop k rs) (drop k qs) ≡ total → next ≡ front ++ r ∷ [] → next ++ all_shared (drop (k + 1) rs) (drop (k + 1) qs) ≡ total
shared_more rs qs front next total k d e r l m g h n =
    ap (λ z. z ++ all_shared (drop (k + 1) rs) (drop (k + 1) qs)) n
    ∙ append_assoc front (r ∷ []) (all_shared (drop (k + 1) rs) (drop (k + 1) qs))
    ∙ ap (λ z. front ++ z) (sym (shared_next rs qs k d e r l m g))
    ∙ h

pub shared_end : (rs qs front total : List Range) (k : ℕ) → length rs ≤ k → front ++ all_shared (drop k rs) (drop k qs) ≡ total → front ≡ total
shared_end rs qs front total k l h = sym (append-nil front) ∙ ap (λ z. front ++ z) (sym (ap (λ z. all_shared z (drop k qs)) (drop_all k rs l))) ∙ h

not_in : (front rest : List Range) (r : Range) (xs : List ℤ) → (r.low ≤ℤ r.high → ⊥) → InBox (front ++ r ∷ rest) xs → ⊥
not_in front rest r xs none b =
    let s = inside_split front (r ∷ rest) xs b in
    last s.1.0 s.1.1.1.1
  where
    last : (ys : List ℤ) → InBox (r ∷ rest) ys → ⊥
    last [] b = b
    last (y ∷ ys) b = none (omega (arith, ints, b.0, b.1))

pub empty_none : (rs qs front total : List Range) (k : ℕ) (d e r : Range) → k < length rs → k < length qs → r ≡ shared (get_or rs k d) (get_or qs k e)
    → front ++ all_shared (drop k rs) (drop k qs) ≡ total → (r.low ≤ℤ r.high → ⊥) → HaveNone total
empty_none rs qs front total k d e r l m g h none = λ xs t.
    not_in front (all_shared (drop (k + 1) rs) (drop (k + 1) qs)) r xs none
    (subst (λ z. InBox z xs) (sym h ∙ ap (λ z. front ++ z) (shared_next rs qs k d e r l m g)) (lies_inside total xs t))

pub shared_box : (a b r : Range) → IsBox a → IsBox b → r ≡ shared a b → r.low ≤ℤ r.high → IsBox r
shared_box a b r x y e some = record {
  low = subst (λ (z : Range). IsAtMost (2 ^ 54) z.low) (sym e) (both_low a.low b.low x.low y.low);
  high = subst (λ (z : Range). IsAtMost (2 ^ 54) z.high) (sym e) (both_high a.high b.high x.high y.high);
  some = some;
}
  where
    both_low : (c d : ℤ) → IsAtMost (2 ^ 54) c → IsAtMost (2 ^ 54) d → IsAtMost (2 ^ 54) (int_max c d)
    both_low c d k l = grind (arith, ints)

    both_high : (c d : ℤ) → IsAtMost (2 ^ 54) c → IsAtMost (2 ^ 54) d → IsAtMost (2 ^ 54) (int_min c d)
    both_high c d k l = grind (arith, ints)

-- no pair

pub none_widest : (a m k : ℕ) (u v : Cells) → IsFramed a m u → IsFramed a m v → HaveNone (all_shared (take a u.system.boxes) (take a v.system.boxes)) → IsWidest a m k u v None
none_widest a m k u v wu wv none = λ prefix first second p.
    let q = pair_to a m u v wu wv prefix first second p.prefix_long p.first_long p.second_long p.in_first p.in_second in
    let f = in_filter (all_hold (pair_system a m u v).rows) (box_points (pair_system a m u v).boxes) (((prefix ++ first) ++ second) ++ q.0) q.1.1 in
    let shared_boxes = all_shared (take a u.system.boxes) (take a v.system.boxes) in
    let bu = drop a (take (a + m) u.system.boxes) in
    let bv = drop a (take (a + m) v.system.boxes) in
    let s1 = inside_split ((shared_boxes ++ bu) ++ bv) (drop (a + m) u.system.boxes ++ drop (a + m) v.system.boxes) (((prefix ++ first) ++ second) ++ q.0) (in_box_points (pair_system a m u v).boxes (((prefix ++ first) ++ second) ++ q.0) f.0) in
    let s2 = inside_split (shared_boxes ++ bu) bv s1.0 s1.1.1.1.0 in
    let s3 = inside_split shared_boxes bu s2.0 s2.1.1.1.0 in
    none s3.0 (inside_lies shared_boxes s3.0 s3.1.1.1.0)

-- the greatest difference

pub widest_is : (a m k : ℕ) (u v : Cells) (found : Option ℤ) (vars : ℕ) (rows : List Form) (boxes : List Range) (f : Form) → k < m → IsFramed a m u → IsFramed a m v
    → rows ≡ pair_rows a m u v → boxes ≡ pair_boxes a m u v → f ≡ difference a k (m - 1 - k) (u.hidden + v.hidden)
    → found ≡ greatest_of (map (value f) (points (system vars rows boxes))) → IsWidest a m k u v found
widest_is a m k u v found vars rows boxes f l wu wv r b d e =
    subst (IsWidest a m k u v) (sym (e ∙ same))
    (subst (λ n. IsFramed a n u → IsFramed a n v → IsWidest a n k u v (greatest_of (map (value (difference a k (m - 1 - k) (u.hidden + v.hidden))) (points (pair_system a n u v)))))
    whole (are_widest a k (m - 1 - k) u v) wu wv)
  where
    whole : (k + 1) + (m - 1 - k) ≡ m
    whole = omega (arith, l)

    same : greatest_of (map (value f) (points (system vars rows boxes)))
        ≡ greatest_of (map (value (difference a k (m - 1 - k) (u.hidden + v.hidden))) (points (pair_system a m u v)))
    same = λ i. greatest_of (map (value (d i)) (points (system vars (r i) (b i))))

-- the system

shared_many : (rs qs : List Range) → length rs ≡ length qs → length (all_shared rs qs) ≡ length rs
shared_many [] [] e = refl
shared_many [] (q ∷ qs) e = refl
shared_many (r ∷ rs) [] e = absurd (omega (arith, e))
shared_many (r ∷ rs) (q ∷ qs) e = ap suc (shared_many rs qs (omega (arith, e)))

drop_many : (n : ℕ) (rs : List Range) → length (drop n rs) ≡ length rs - n
drop_many zero rs = omega arith
drop_many (suc n) [] = omega arith
drop_many (suc n) (r ∷ rs) = let e = drop_many n rs in omega (arith, e)

module _ (a m : ℕ) (u v : Cells) (wu : IsFramed a m u) (wv : IsFramed a m v) where
  deep_u : a + m ≤ length u.system.boxes
  deep_u = let e = wu.boxes in let l = wu.levels in omega (arith, e, l)

  deep_v : a + m ≤ length v.system.boxes
  deep_v = let e = wv.boxes in let l = wv.levels in omega (arith, e, l)

  front_u : length (take a u.system.boxes) ≡ a
  front_u = take_few a u.system.boxes (let l = deep_u in omega (arith, l))

  front_v : length (take a v.system.boxes) ≡ a
  front_v = take_few a v.system.boxes (let l = deep_v in omega (arith, l))

  pub fronts_same : length (take a u.system.boxes) ≡ length (take a v.system.boxes)
  fronts_same = front_u ∙ sym front_v

  pub boxes_many : length (pair_boxes a m u v) ≡ ((a + m) + m) + (u.hidden + v.hidden)
  boxes_many =
      let shared_boxes = all_shared (take a u.system.boxes) (take a v.system.boxes) in
      let bu = drop a (take (a + m) u.system.boxes) in
      let bv = drop a (take (a + m) v.system.boxes) in
      let e1 = append_length ((shared_boxes ++ bu) ++ bv) (drop (a + m) u.system.boxes ++ drop (a + m) v.system.boxes) in
      let e2 = append_length (shared_boxes ++ bu) bv in
      let e3 = append_length shared_boxes bu in
      let e4 = append_length (drop (a + m) u.system.boxes) (drop (a + m) v.system.boxes) in
      let e5 = shared_many (take a u.system.boxes) (take a v.system.boxes) fronts_same in
      let e6 = front_u in
      let e7 = drop_many a (take (a + m) u.system.boxes) in
      let e8 = drop_many a (take (a + m) v.system.boxes) in
      let e9 = take_few (a + m) u.system.boxes deep_u in
      let e10 = take_few (a + m) v.system.boxes deep_v in
      let e11 = drop_many (a + m) u.system.boxes in
      let e12 = drop_many (a + m) v.system.boxes in
      let l1 = wu.boxes in
      let l2 = wv.boxes in
      let l3 = wu.levels in
      let l4 = wv.levels in
      omega (arith, e1, e2, e3, e4, e5, e6, e7, e8, e9, e10, e11, e12, l1, l2, l3, l4)

  second_long : (h l n : ℕ) (fs : List Form) → a + m ≤ l → All (λ (f : Form). length f.coefs ≡ l) fs → (l + m) + h ≡ n → All (λ (f : Form). length f.coefs ≡ n) (map (second_row a m h) fs)
  second_long h l n fs deep w e =
      subst (λ z. All (λ (f : Form). length f.coefs ≡ n) z) (twice fs)
      (subst (λ k. All (λ (f : Form). length f.coefs ≡ k) (map (kept_row ((a + m) + m) h 0) (map (kept_row a m 0) fs))) (omega (arith, e))
      (all_kept_long ((a + m) + m) h 0 (l + (m + 0)) (map (kept_row a m 0) fs) (omega (arith, deep)) (all_kept_long a m 0 l fs (omega (arith, deep)) w)))
    where
      twice : (gs : List Form) → map (kept_row ((a + m) + m) h 0) (map (kept_row a m 0) gs) ≡ map (second_row a m h) gs
      twice [] = refl
      twice (g ∷ gs) = ap (λ z. second_row a m h g ∷ z) (twice gs)

  rows_long : All (λ (f : Form). length f.coefs ≡ ((a + m) + m) + (u.hidden + v.hidden)) (pair_rows a m u v)
  rows_long =
      let l1 = wu.levels in
      let l2 = wv.levels in
      All-append (λ (f : Form). length f.coefs ≡ ((a + m) + m) + (u.hidden + v.hidden)) (map (kept_row (a + m) m v.hidden) u.system.rows) (map (second_row a m u.hidden) v.system.rows)
      (subst (λ n. All (λ (f : Form). length f.coefs ≡ n) (map (kept_row (a + m) m v.hidden) u.system.rows)) (omega (arith, l1))
      (all_kept_long (a + m) m v.hidden (u.levels + u.hidden) u.system.rows (omega (arith, l1)) wu.rows))
      (second_long u.hidden (v.levels + v.hidden) (((a + m) + m) + (u.hidden + v.hidden)) v.system.rows (omega (arith, l2)) wv.rows (omega (arith, l2)))

  pub pair_is_system : (vars : ℕ) (rows : List Form) (boxes : List Range) → u.levels + u.hidden ≤ 1024 → v.levels + v.hidden ≤ 1024 → vars ≡ length boxes → rows ≡ pair_rows a m u v → boxes ≡ pair_boxes a m u v
      → All IsBox boxes → IsSystem (system vars rows boxes)
  pair_is_system vars rows boxes fu fv n r b each =
      let e = boxes_many in
      let l1 = wu.levels in
      let l2 = wv.levels in
      let same : vars ≡ ((a + m) + m) + (u.hidden + v.hidden) = n ∙ ap length b ∙ e in
      record {
        few = omega (arith, same, fu, fv, l1, l2);
        rows = subst (λ k. All (λ (f : Form). length f.coefs ≡ k) rows) (sym same) (All-same (λ (f : Form). length f.coefs ≡ ((a + m) + m) + (u.hidden + v.hidden)) rows (pair_rows a m u v) r rows_long);
        boxes = sym n;
        each = each;
      }

-- the ranges as they are put one behind another

part_of : (a m : ℕ) (rs : List Range) → take ((a + m) - a) (drop a rs) ≡ drop a (take (a + m) rs)
part_of a m rs = ap (λ n. take n (drop a rs)) many ∙ sym (drop-take a m rs)
  where
    many : (a + m) - a ≡ m
    many = omega arith

pub pair_made : (a m : ℕ) (u v : Cells) (firsts seconds both one two three last : List Range) → firsts ≡ u.system.boxes → seconds ≡ v.system.boxes → both ≡ all_shared (take a firsts) (take a seconds)
    → one ≡ both ++ take ((a + m) - a) (drop a firsts) → two ≡ one ++ take ((a + m) - a) (drop a seconds) → three ≡ two ++ take (length firsts - (a + m)) (drop (a + m) firsts)
    → last ≡ three ++ take (length seconds - (a + m)) (drop (a + m) seconds) → last ≡ pair_boxes a m u v
pair_made a m u v firsts seconds both one two three last f s b c d e g =
    let front = b ∙ ap₂ (λ x y. all_shared (take a x) (take a y)) f s in
    let first = c ∙ ap₂ (λ x y. x ++ y) front (part_of a m firsts ∙ ap (λ z. drop a (take (a + m) z)) f) in
    let second = d ∙ ap₂ (λ x y. x ++ y) first (part_of a m seconds ∙ ap (λ z. drop a (take (a + m) z)) s) in
    let hidden = e ∙ ap₂ (λ x y. x ++ y) second (take_rest firsts (a + m) ∙ ap (drop (a + m)) f) in
    g ∙ ap₂ (λ x y. x ++ y) hidden (take_rest seconds (a + m) ∙ ap (drop (a + m)) s)
    ∙ append_assoc ((all_shared (take a u.system.boxes) (take a v.system.boxes) ++ drop a (take (a + m) u.system.boxes)) ++ drop a (take (a + m) v.system.boxes)) (drop (a + m) u.system.boxes) (drop (a + m) v.system.boxes)

pub pair_each : (a m : ℕ) (u v : Cells) → All IsBox (all_shared (take a u.system.boxes) (take a v.system.boxes)) → All IsBox u.system.boxes → All IsBox v.system.boxes → All IsBox (pair_boxes a m u v)
pair_each a m u v s x y =
    let shared_boxes = all_shared (take a u.system.boxes) (take a v.system.boxes) in
    let bu = drop a (take (a + m) u.system.boxes) in
    let bv = drop a (take (a + m) v.system.boxes) in
    All-append IsBox ((shared_boxes ++ bu) ++ bv) (drop (a + m) u.system.boxes ++ drop (a + m) v.system.boxes)
    (All-append IsBox (shared_boxes ++ bu) bv
    (All-append IsBox shared_boxes bu s (All-drop IsBox a (take (a + m) u.system.boxes) (All-take IsBox (a + m) u.system.boxes x)))
    (All-drop IsBox a (take (a + m) v.system.boxes) (All-take IsBox (a + m) v.system.boxes y)))
    (All-append IsBox (drop (a + m) u.system.boxes) (drop (a + m) v.system.boxes) (All-drop IsBox (a + m) u.system.boxes x) (All-drop IsBox (a + m) v.system.boxes y))
