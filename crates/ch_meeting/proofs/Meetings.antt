-- Pairs whose accesses name one cell, and the points that stand for them.
use Rattle.std.proofs.Common.{◌≡◌, ◌≢◌, refl, sym, ap, ap₂, ◌∙◌, subst, ℕ, zero, suc, ◌+◌, ◌<◌, ◌≤◌, ℤ, pos, ◌-ℤ◌, ◌*ℤ◌, ◌≤ℤ◌, ◌<ℤ◌, Bool, Option, List, [], ◌∷◌, ◌++◌, length, map, take, drop, get_or, is_some, arith, ◌↔◌, length-append}
use Rattle.std.specs.Bool.{IsTrue}
use Rattle.std.specs.List.{All}
use Rattle.std.proofs.lemmas.Int.{ints}
use Rattle.std.proofs.lemmas.List.{same_lists, length-map, get_or-map, get_or-drop, get_or-take}
use Rattle.std.proofs.lemmas.List.Elements.{All-append, All-head, All-tail}
use Rattle.ch_affine.specs.Affine.{value}
use Rattle.ch_affine.specs.Rows.{IsBox, IsSystem, lies_in}
use Rattle.ch_affine.specs.declared.system.Range.{Range}
use Rattle.ch_nest.specs.declared.nest.Access.{Access}
use Rattle.ch_nest.specs.declared.nest.Sub.{Sub}
use Rattle.ch_nest.specs.Run.{sub_value, subscripts}
use Rattle.ch_poly.specs.Boxes.{at}
use Rattle.ch_poly.proofs.Firsts.{InBox}
use Rattle.ch_timed.specs.Conflict.{cell_of}
use Rattle.ch_timed.specs.Members.{In}
use Rattle.ch_timed.proofs.Orders.{map_in}
use Rattle.ch_meeting.specs.declared.draft.Draft.{Draft}
use Rattle.ch_meeting.specs.declared.orders.Order.{Order}
use Rattle.ch_meeting.specs.Asked.{AreMeeting, AreMeetingBy, Asks, IsMeetingBy, MeetsBy, first_site, meeting_boxes, pair_size, second_site}
use Rattle.ch_meeting.specs.Cases.{InOrder, IsWithin}
use Rattle.ch_meeting.specs.Drafts.{IsLeastFit, NoneFits, part}
use Rattle.ch_meeting.specs.Meeting.{IsAccessOf, IsPlain, iters_at}
use Rattle.ch_meeting.specs.Placed.{InModulus, IsSame, SameUpTo, cell_boxes, left, only, pair_boxes, turn_range, wides}
use Rattle.ch_meeting.proofs.Commons.{held_there, iters_long, iters_small, none_before, pair_long, some_fits, tied_there}
use Rattle.ch_meeting.proofs.Layouts.{cell_each, length_wides, near_inside, pair_each}
use Rattle.ch_meeting.proofs.Least.{inside_lies, lies_inside}
use Rattle.ch_meeting.proofs.Parts.{at_part, behind_at, both_inside, hidden_long, hidden_of, levels_long, pair_instances, pair_joined, split_at, value_part}
use Rattle.ch_meeting.proofs.Remainders.{subscript_has, subscript_is}
use Rattle.ch_space.specs.declared.piece.Piece.{Piece}
use Rattle.ch_space.specs.Keeps.{IsWhole, IsWrapped}
use Rattle.ch_space.specs.Pieces.{element_at, elements, instances}
use Rattle.ch_space.proofs.EndsOf.{at_all}
use Rattle.ch_space.proofs.Membership.{length_inside}

-- subscripts

same_values : (s t : Sub) (i j x y : List ℤ) (q r : ℤ) → value s.form i ≡ value s.form x → value t.form j ≡ value t.form y → IsSame s t i j q r → IsSame s t x y q r
same_values s t i j x y q r e f h =
    subst (λ u. ((s.modulus ≢ 0) → (pos 0 ≤ℤ (u -ℤ pos s.modulus *ℤ q)) × ((u -ℤ pos s.modulus *ℤ q) <ℤ pos s.modulus)) × InModulus t y r × ((u -ℤ pos s.modulus *ℤ q) ≡ left t y r)) e
    (subst (λ u. InModulus s i q × ((t.modulus ≢ 0) → (pos 0 ≤ℤ (u -ℤ pos t.modulus *ℤ r)) × ((u -ℤ pos t.modulus *ℤ r) <ℤ pos t.modulus)) × (left s i q ≡ (u -ℤ pos t.modulus *ℤ r))) f h)

same_subscripts : (s t : Sub) (i j : List ℤ) (q r : ℤ) → IsSame s t i j q r → sub_value i s ≡ sub_value j t
same_subscripts s t i j q r h = subscript_is s i q h.0 ∙ h.2 ∙ sym (subscript_is t j r h.1)

-- turns for all subscripts

pub record Turns (subs : List Sub) (i ts : List ℤ) : Type 0 where
  pub long : length ts ≡ length subs
  pub inside : InBox (map (λ s. turn_range s.modulus) subs) ts
  pub each : (k : ℕ) (d : Sub) → k < length subs → InModulus (get_or subs k d) i (at ts k)

some_turns : (subs : List Sub) (i : List ℤ) → All (IsWrapped i) subs → (ts : List ℤ) × Turns subs i ts
some_turns [] i h = ([], record { long = refl; inside = tt; each = λ k d l. absurd (omega arith) })
some_turns (s ∷ subs) i h =
    let q = subscript_has s i (All-head (IsWrapped i) s subs h) in
    let r = some_turns subs i (All-tail (IsWrapped i) s subs h) in (
      q.0 ∷ r.0,
      record {
        long = ap suc r.1.long;
        inside = (q.1.1.0, q.1.1.1, r.1.inside);
        each = turns_each s subs i q.0 r.0 q.1.0 r.1.each;
      },
    )
  where
    turns_each : (s : Sub) (subs : List Sub) (i : List ℤ) (q : ℤ) (ts : List ℤ) → InModulus s i q → ((k : ℕ) (d : Sub) → k < length subs → InModulus (get_or subs k d) i (at ts k))
        → (k : ℕ) (d : Sub) → k < suc (length subs) → InModulus (get_or (s ∷ subs) k d) i (at (q ∷ ts) k)
    turns_each s subs i q ts h g zero d l = h
    turns_each s subs i q ts h g (suc k) d l = g k d (omega arith)

-- the cells

module _ (p q : Piece) (a b : Access) (w : IsPlain p) (v : IsPlain q) (f : IsAccessOf p a) (g : IsAccessOf q b) (array : a.array ≡ b.array) (same : length a.subs ≡ length b.subs) where
  cells_same : (iters : ℕ) (z xs ys : List ℤ) → part iters (length p.origin) z ≡ iters_at p xs → part (iters + length p.origin) (length q.origin) z ≡ iters_at q ys
      → SameUpTo (length a.subs) a b (first_site p q iters) (second_site p q a iters) z → cell_of (iters_at p xs) a ≡ cell_of (iters_at q ys) b
  cells_same iters z xs ys e i h =
      ap₂ (λ n ns. record { array = n; subs = ns }) array
      (same_lists (subscripts a (iters_at p xs)) (subscripts b (iters_at q ys)) (length-map a.subs (sub_value (iters_at p xs)) ∙ same ∙ sym (length-map b.subs (sub_value (iters_at q ys))))
      (λ k d l. (let m : k < length a.subs = simp length-map at l in
      let n : k < length b.subs = omega arith in
      get_or-map (sub_value (iters_at p xs)) a.subs k nothing d m
      ∙ same_subscripts (get_or a.subs k nothing) (get_or b.subs k nothing) (iters_at p xs) (iters_at q ys) (at z (iters + length p.origin + length q.origin + k))
      (at z (iters + length p.origin + length q.origin + length a.subs + k))
      (same_values (get_or a.subs k nothing) (get_or b.subs k nothing) (drop iters z) (drop (iters + length p.origin) z) (iters_at p xs) (iters_at q ys)
      (at z (iters + length p.origin + length q.origin + k)) (at z (iters + length p.origin + length q.origin + length a.subs + k))
      (sym (value_part (get_or a.subs k nothing).form iters (length p.origin) z (let c = f.forms k nothing m in omega arith)) ∙ ap (value (get_or a.subs k nothing).form) e)
      (sym (value_part (get_or b.subs k nothing).form (iters + length p.origin) (length q.origin) z (let c = g.forms k nothing n in omega arith)) ∙ ap (value (get_or b.subs k nothing).form) i)
      (h k nothing nothing m))
      ∙ sym (get_or-map (sub_value (iters_at q ys)) b.subs k nothing d n))))
    where
      nothing : Sub
      nothing = record { form = record { coefs = []; constant = pos 0 }; modulus = 0 }

  same_cells : (iters : ℕ) (z xs ys ts us : List ℤ) → part iters (length p.origin) z ≡ iters_at p xs → part (iters + length p.origin) (length q.origin) z ≡ iters_at q ys
      → part (iters + length p.origin + length q.origin) (length a.subs) z ≡ ts → part (iters + length p.origin + length q.origin + length a.subs) (length a.subs) z ≡ us
      → Turns a.subs (iters_at p xs) ts → Turns b.subs (iters_at q ys) us → cell_of (iters_at p xs) a ≡ cell_of (iters_at q ys) b
      → SameUpTo (length a.subs) a b (first_site p q iters) (second_site p q a iters) z
  same_cells iters z xs ys ts us e i j o t u c k d x m =
      let n : k < length b.subs = omega arith in
      let s : Sub = get_or a.subs k d in
      let r : Sub = get_or b.subs k x in
      let first : at ts k ≡ at z (iters + length p.origin + length q.origin + k) =
      ap (λ y. at y k) (sym j) ∙ at_part (iters + length p.origin + length q.origin) (length a.subs) k z m in
      let second : at us k ≡ at z (iters + length p.origin + length q.origin + length a.subs + k) =
      ap (λ y. at y k) (sym o) ∙ at_part (iters + length p.origin + length q.origin + length a.subs) (length a.subs) k z m in
      let here = t.each k d m in
      let there = u.each k x n in
      let equal : sub_value (iters_at p xs) (get_or a.subs k d) ≡ sub_value (iters_at q ys) (get_or b.subs k x) =
      sym (get_or-map (sub_value (iters_at p xs)) a.subs k d (pos 0) m) ∙ ap (λ y. get_or y k (pos 0)) (ap (λ y. y.subs) c) ∙ get_or-map (sub_value (iters_at q ys)) b.subs k x (pos 0) n in
      let lefts : left (get_or a.subs k d) (iters_at p xs) (at ts k) ≡ left (get_or b.subs k x) (iters_at q ys) (at us k) =
      sym (subscript_is (get_or a.subs k d) (iters_at p xs) (at ts k) here) ∙ equal ∙ subscript_is (get_or b.subs k x) (iters_at q ys) (at us k) there in
      same_values (get_or a.subs k d) (get_or b.subs k x) (iters_at p xs) (iters_at q ys) (drop iters z) (drop (iters + length p.origin) z)
      (at z (iters + length p.origin + length q.origin + k)) (at z (iters + length p.origin + length q.origin + length a.subs + k))
      (sym (ap (value (get_or a.subs k d).form) e) ∙ value_part (get_or a.subs k d).form iters (length p.origin) z (let c = f.forms k d m in omega arith))
      (sym (ap (value (get_or b.subs k x).form) i) ∙ value_part (get_or b.subs k x).form (iters + length p.origin) (length q.origin) z (let c = g.forms k x n in omega arith))
      (subst (λ y. IsSame (get_or a.subs k d) (get_or b.subs k x) (iters_at p xs) (iters_at q ys) y (at z (iters + length p.origin + length q.origin + length a.subs + k))) first
      (subst (λ y. IsSame (get_or a.subs k d) (get_or b.subs k x) (iters_at p xs) (iters_at q ys) (at ts k) y) second (here, there, lefts)))

-- values in an order, in a point and in its parts

pub parts_in : (o : Order) (n m first second : ℕ) (z : List ℤ) → IsWithin n m o → InOrder o (drop first z) (drop second z) → InOrder o (part first n z) (part second m z)
parts_in o n m first second z w i = record {
  same = λ k l. get_or-take n (drop first z) k (pos 0) (let x = w.first in omega arith) ∙ i.same k l ∙ sym (get_or-take m (drop second z) k (pos 0) (let x = w.second in omega arith));
  less = λ t. (let x = get_or-take n (drop first z) o.equal (pos 0) (w.next_first t) in let y = get_or-take m (drop second z) o.equal (pos 0) (w.next_second t) in let h = i.less t in omega (arith, ints));
}

pub in_parts : (o : Order) (n m first second : ℕ) (z : List ℤ) → IsWithin n m o → InOrder o (part first n z) (part second m z) → InOrder o (drop first z) (drop second z)
in_parts o n m first second z w i = record {
  same = λ k l. sym (get_or-take n (drop first z) k (pos 0) (let x = w.first in omega arith)) ∙ i.same k l ∙ get_or-take m (drop second z) k (pos 0) (let x = w.second in omega arith);
  less = λ t. (let x = get_or-take n (drop first z) o.equal (pos 0) (w.next_first t) in let y = get_or-take m (drop second z) o.equal (pos 0) (w.next_second t) in let h = i.less t in omega (arith, ints));
}

-- the variable that is 1

last_one : (z : List ℤ) (k : ℕ) → InBox (only (pos 1) ∷ []) (drop k z) → at z k ≡ pos 1
last_one z k i = (let e = get_or-drop k z 0 (pos 0) in let n : k + 0 ≡ k = omega arith in sym (ap (at z) n) ∙ sym e ∙ one (drop k z) i)
  where
    one : (w : List ℤ) → InBox (only (pos 1) ∷ []) w → at w 0 ≡ pos 1
    one [] i = absurd i
    one (x ∷ w) i = (let l = i.0 in let h = i.1 in omega (arith, ints))

pub cell_one : (n m : ℕ) (a b : Access) (o : ℕ) (z : List ℤ) → InBox (cell_boxes n m a b) (drop o z) → at z (o + n + m + length a.subs + length b.subs) ≡ pos 1
cell_one n m a b o z i =
    let ta : List Range = map (λ s. turn_range s.modulus) a.subs in
    let tb : List Range = map (λ s. turn_range s.modulus) b.subs in
    let x = split_at (wides n) (wides m ++ (ta ++ (tb ++ only (pos 1) ∷ []))) o n z (length_wides n) i in
    let y = split_at (wides m) (ta ++ (tb ++ only (pos 1) ∷ [])) (o + n) m z (length_wides m) x.1 in
    let s = split_at ta (tb ++ only (pos 1) ∷ []) (o + n + m) (length a.subs) z (length-map a.subs (λ s. turn_range s.modulus)) y.1 in
    let t = split_at tb (only (pos 1) ∷ []) (o + n + m + length a.subs) (length b.subs) z (length-map b.subs (λ s. turn_range s.modulus)) s.1 in
    last_one z (o + n + m + length a.subs + length b.subs) t.1

-- points and pairs

pub cell_long : (n m : ℕ) (a b : Access) → length (cell_boxes n m a b) ≡ n + m + length a.subs + length b.subs + 1
cell_long n m a b =
    let ta : List Range = map (λ s. turn_range s.modulus) a.subs in
    let tb : List Range = map (λ s. turn_range s.modulus) b.subs in
    let x : length ta ≡ length a.subs = length-map a.subs (λ s. turn_range s.modulus) in
    let y : length tb ≡ length b.subs = length-map b.subs (λ s. turn_range s.modulus) in
    length-append (wides n) (wides m ++ (ta ++ (tb ++ only (pos 1) ∷ [])))
    ∙ omega (arith, length-append (wides m) (ta ++ (tb ++ only (pos 1) ∷ [])), length-append ta (tb ++ only (pos 1) ∷ []), length-append tb (only (pos 1) ∷ []), length_wides n, length_wides m)

cells_inside : (n m : ℕ) (a b : Access) (is js ts us : List ℤ) → InBox (wides n) is → InBox (wides m) js → InBox (map (λ s. turn_range s.modulus) a.subs) ts
    → InBox (map (λ s. turn_range s.modulus) b.subs) us → InBox (cell_boxes n m a b) (is ++ (js ++ (ts ++ (us ++ pos 1 ∷ []))))
cells_inside n m a b is js ts us i j t u =
    let ta : List Range = map (λ s. turn_range s.modulus) a.subs in
    let tb : List Range = map (λ s. turn_range s.modulus) b.subs in
    both_inside (wides n) (wides m ++ (ta ++ (tb ++ only (pos 1) ∷ []))) is (js ++ (ts ++ (us ++ pos 1 ∷ []))) i
    (both_inside (wides m) (ta ++ (tb ++ only (pos 1) ∷ [])) js (ts ++ (us ++ pos 1 ∷ [])) j
    (both_inside ta (tb ++ only (pos 1) ∷ []) ts (us ++ pos 1 ∷ []) t
    (both_inside tb (only (pos 1) ∷ []) us (pos 1 ∷ []) u (omega (arith, ints), omega (arith, ints), tt))))

-- what an instance brings to a point
pub record Brought (p : Piece) (xs : List ℤ) : Type 0 where
  pub hidden : List ℤ
  pub levels : InBox (take p.levels p.system.boxes) xs
  pub inside : InBox (drop p.levels p.system.boxes) hidden
  pub rows : IsTrue (Rattle.ch_affine.specs.Rows.all_hold p.system.rows (xs ++ hidden))
  pub long : length xs ≡ p.levels
  pub hidden_long : length hidden ≡ p.hidden

pub brought : (p : Piece) (xs : List ℤ) → IsWhole p → In xs (instances p) → Brought p xs
brought p xs w i =
    let f = hidden_of p w xs i in
    record {
      hidden = f.0;
      levels = f.1.0;
      inside = f.1.1.0;
      rows = f.1.1.1;
      long = length_inside (take p.levels p.system.boxes) xs f.1.0 ∙ levels_long p w;
      hidden_long = length_inside (drop p.levels p.system.boxes) f.0 f.1.1.0 ∙ hidden_long p w;
    }

pub pair_inside : (p q : Piece) (xs ys rest : List ℤ) (boxes : List Range) (f : Brought p xs) (g : Brought q ys) → InBox boxes rest → InBox (pair_boxes p q ++ boxes) (xs ++ (ys ++ (f.hidden ++ (g.hidden ++ rest))))
pair_inside p q xs ys rest boxes f g i =
    let b : List Range = take q.levels q.system.boxes in
    let c : List Range = drop p.levels p.system.boxes in
    let d : List Range = drop q.levels q.system.boxes in
    subst (λ bs. InBox bs (xs ++ (ys ++ (f.hidden ++ (g.hidden ++ rest))))) (sym (pair_joined p q boxes))
    (both_inside (take p.levels p.system.boxes) (b ++ (c ++ (d ++ boxes))) xs (ys ++ (f.hidden ++ (g.hidden ++ rest))) f.levels
    (both_inside b (c ++ (d ++ boxes)) ys (f.hidden ++ (g.hidden ++ rest)) g.levels
    (both_inside c (d ++ boxes) f.hidden (g.hidden ++ rest) f.inside
    (both_inside d boxes g.hidden rest g.inside i))))

module _ (o : Order) (p q : Piece) (a b : Access) (w : IsPlain p) (v : IsPlain q) (f : IsAccessOf p a) (g : IsAccessOf q b) (array : a.array ≡ b.array) (same : length a.subs ≡ length b.subs)
    (within : IsWithin p.levels q.levels o) where
  pub meeting_here : (rest : List Range) (iters : ℕ) (z : List ℤ) → InBox (pair_boxes p q ++ rest) (drop 0 z) → InOrder o (drop 0 z) (drop p.levels z) → AreMeeting p q a b iters z
      → IsMeetingBy o p q a b (part 0 p.levels z) (part p.levels q.levels z)
  meeting_here rest iters z i order h =
      let s = pair_instances p q w.whole v.whole rest 0 z i h.2 in
      record {
        first = s.0;
        second = subst (λ n. In (part n q.levels z) (instances q)) (none_before p.levels) s.1;
        order = parts_in o p.levels q.levels 0 p.levels z within order;
        cell = cells_same p q a b w v f g array same iters z (part 0 p.levels z) (part p.levels q.levels z) h.0.0 (h.0.1 ∙ ap (λ n. iters_at q (part n q.levels z)) (none_before p.levels)) h.1;
      }

  module _ (xs ys : List ℤ) (m : IsMeetingBy o p q a b xs ys) where
    pub first_turns : (ts : List ℤ) × Turns a.subs (iters_at p xs) ts
    first_turns =
        some_turns a.subs (iters_at p xs) (at_all (λ e. All (IsWrapped e.identity.iters) a.subs) (elements p) (element_at p xs) f.wrapped (map_in (element_at p) (instances p) xs m.first))

    pub second_turns : (us : List ℤ) × Turns b.subs (iters_at q ys) us
    second_turns =
        some_turns b.subs (iters_at q ys) (at_all (λ e. All (IsWrapped e.identity.iters) b.subs) (elements q) (element_at q ys) g.wrapped (map_in (element_at q) (instances q) ys m.second))

    -- A point has the parts of the pair, where its iterators stand there.
    pub meeting_there : (iters : ℕ) (z ts us : List ℤ) (e : Brought p xs) (h : Brought q ys) → part 0 p.levels z ≡ xs → part p.levels q.levels z ≡ ys
        → part (p.levels + q.levels) p.hidden z ≡ e.hidden → part (p.levels + q.levels + p.hidden) q.hidden z ≡ h.hidden
        → part iters (length p.origin) z ≡ iters_at p xs → part (iters + length p.origin) (length q.origin) z ≡ iters_at q ys
        → part (iters + length p.origin + length q.origin) (length a.subs) z ≡ ts → part (iters + length p.origin + length q.origin + length a.subs) (length a.subs) z ≡ us
        → Turns a.subs (iters_at p xs) ts → Turns b.subs (iters_at q ys) us → InOrder o (drop 0 z) (drop p.levels z) × AreMeeting p q a b iters z
    meeting_there iters z ts us e h first second third fourth fifth sixth seventh eighth t u =
        let zero_first : 0 + p.levels ≡ p.levels = omega arith in
        let second' : part (0 + p.levels) q.levels z ≡ ys = ap (λ n. part n q.levels z) zero_first ∙ second in
        let third' : part (0 + p.levels + q.levels) p.hidden z ≡ e.hidden = ap (λ n. part (n + q.levels) p.hidden z) zero_first ∙ third in
        let fourth' : part (0 + p.levels + q.levels + p.hidden) q.hidden z ≡ h.hidden = ap (λ n. part (n + q.levels + p.hidden) q.hidden z) zero_first ∙ fourth in (
          in_parts o p.levels q.levels 0 p.levels z within (subst (λ x. InOrder o x (part p.levels q.levels z)) (sym first) (subst (InOrder o xs) (sym second) m.order)),
          (
            (tied_there p 0 iters z xs (iters_at p xs) first fifth refl, tied_there q (0 + p.levels) (iters + length p.origin) z ys (iters_at q ys) second' sixth refl),
            same_cells p q a b w v f g array same iters z xs ys ts us fifth sixth seventh eighth t u m.cell,
            (held_there p 0 (0 + p.levels + q.levels) z xs e.hidden first third' e.rows, held_there q (0 + p.levels) (0 + p.levels + q.levels + p.hidden) z ys h.hidden second' fourth' h.rows),
          ),
        )

    pub rest_inside : (ts us : List ℤ) → Turns a.subs (iters_at p xs) ts → Turns b.subs (iters_at q ys) us
        → InBox (cell_boxes (length p.origin) (length q.origin) a b) (iters_at p xs ++ (iters_at q ys ++ (ts ++ (us ++ pos 1 ∷ []))))
    rest_inside ts us t u =
        cells_inside (length p.origin) (length q.origin) a b (iters_at p xs) (iters_at q ys) ts us
        (near_inside (length p.origin) (iters_at p xs) (iters_long p xs) (iters_small p xs w m.first)) (near_inside (length q.origin) (iters_at q ys) (iters_long q ys) (iters_small q ys v m.second))
        t.inside u.inside

  pub meeting_to : (z : List ℤ) → IsTrue (lies_in (meeting_boxes p q a b) z) → AreMeetingBy o p q a b z → MeetsBy o p q a b
  meeting_to z i h = record {
    first = part 0 p.levels z;
    second = part p.levels q.levels z;
    meeting = meeting_here (cell_boxes (length p.origin) (length q.origin) a b) (pair_size p q) z (lies_inside (meeting_boxes p q a b) z i) h.1 h.0;
  }

  pub meeting_from : MeetsBy o p q a b → (z : List ℤ) × (IsTrue (lies_in (meeting_boxes p q a b) z) × AreMeetingBy o p q a b z)
  meeting_from k = at_point k.first k.second k.meeting (brought p k.first w.whole k.meeting.first) (brought q k.second v.whole k.meeting.second) (first_turns k.first k.second k.meeting)
      (second_turns k.first k.second k.meeting)
    where
      at_point : (xs ys : List ℤ) (m : IsMeetingBy o p q a b xs ys) (e : Brought p xs) (h : Brought q ys) → (ts : List ℤ) × Turns a.subs (iters_at p xs) ts → (us : List ℤ) × Turns b.subs (iters_at q ys) us
          → (z : List ℤ) × (IsTrue (lies_in (meeting_boxes p q a b) z) × AreMeetingBy o p q a b z)
      at_point xs ys m e h t u =
          (let is : List ℤ = iters_at p xs in
          let js : List ℤ = iters_at q ys in
          let ws : List (List ℤ) = xs ∷ ys ∷ e.hidden ∷ h.hidden ∷ iters_at p xs ∷ iters_at q ys ∷ t.0 ∷ u.0 ∷ (pos 1 ∷ []) ∷ [] in
          let z : List ℤ = xs ++ (ys ++ (e.hidden ++ (h.hidden ++ (iters_at p xs ++ (iters_at q ys ++ (t.0 ++ (u.0 ++ pos 1 ∷ []))))))) in
          let l1 = e.long in
          let l2 = h.long in
          let l3 = e.hidden_long in
          let l4 = h.hidden_long in
          let l5 : length (iters_at p xs) ≡ length p.origin = iters_long p xs in
          let l6 : length (iters_at q ys) ≡ length q.origin = iters_long q ys in
          let l7 = t.1.long in
          let l8 : length u.0 ≡ length a.subs = u.1.long ∙ sym same in
          let there = meeting_there xs ys m (pair_size p q) z t.0 u.0 e h
          (behind_at ws 0 0 p.levels refl (omega arith) (sym l1)) (behind_at ws 1 p.levels q.levels (omega arith) (omega arith) (sym l2))
          (behind_at ws 2 (p.levels + q.levels) p.hidden (omega arith) (omega arith) (sym l3)) (behind_at ws 3 (p.levels + q.levels + p.hidden) q.hidden (omega arith) (omega arith) (sym l4))
          (behind_at ws 4 (pair_size p q) (length p.origin) (omega arith) (omega arith) (sym l5)) (behind_at ws 5 (pair_size p q + length p.origin) (length q.origin) (omega arith) (omega arith) (sym l6))
          (behind_at ws 6 (pair_size p q + length p.origin + length q.origin) (length a.subs) (omega arith) (omega arith) (sym l7))
          (behind_at ws 7 (pair_size p q + length p.origin + length q.origin + length a.subs) (length a.subs) (omega arith) (omega arith) (sym l8))
          t.1 u.1 in (
            z,
            (
              inside_lies (meeting_boxes p q a b) z (pair_inside p q xs ys (iters_at p xs ++ (iters_at q ys ++ (t.0 ++ (u.0 ++ pos 1 ∷ [])))) (cell_boxes (length p.origin) (length q.origin) a b) e h
                  (rest_inside xs ys m t.0 u.0 t.1 u.1)),
              (there.1, there.0),
            ),
          ))

  pub meeting_answer : (d : Draft) (point : Option (List ℤ)) (r : Bool) → Asks d (meeting_boxes p q a b) (AreMeetingBy o p q a b) → IsLeastFit d point → r ≡ is_some point → IsTrue r ↔ MeetsBy o p q a b
  meeting_answer d point r k l e = some_fits d (meeting_boxes p q a b) (AreMeetingBy o p q a b) (MeetsBy o p q a b) point r k l e meeting_to meeting_from

  -- where no point fits what is asked in whatever order, none meet
  pub meeting_none : (d : Draft) → Asks d (meeting_boxes p q a b) (AreMeeting p q a b (pair_size p q)) → NoneFits d → MeetsBy o p q a b → ⊥
  meeting_none d k n m = let z = meeting_from m in n z.0 ((k.exact z.0).1 (z.1.0, z.1.1.0))

-- the draft of a meeting

pub meeting_long : (p q : Piece) (a b : Access) → IsWhole p → IsWhole q → length (meeting_boxes p q a b) ≡ pair_size p q + (length p.origin + length q.origin + length a.subs + length b.subs + 1)
meeting_long p q a b w v =
    length-append (pair_boxes p q) (cell_boxes (length p.origin) (length q.origin) a b) ∙ ap₂ (λ x y. x + y) (pair_long p q w v) (cell_long (length p.origin) (length q.origin) a b)

pub meeting_few : (p q : Piece) (a b : Access) → IsPlain p → IsPlain q → IsAccessOf p a → IsAccessOf q b → length (meeting_boxes p q a b) ≤ 4096
meeting_few p q a b w v f g =
    let n = meeting_long p q a b w.whole v.whole in
    let x = w.variables in
    let y = v.variables in
    let c = w.iterators in
    let d = v.iterators in
    let s = f.few in
    let t = g.few in
    omega arith

pub meeting_each : (p q : Piece) (a b : Access) → IsSystem p.system → IsSystem q.system → All IsBox (meeting_boxes p q a b)
meeting_each p q a b s t =
    All-append IsBox (pair_boxes p q) (cell_boxes (length p.origin) (length q.origin) a b) (pair_each p q s t) (cell_each (length p.origin) (length q.origin) a b)

pub meeting_one : (p q : Piece) (a b : Access) (boxes : List Range) → IsWhole p → IsWhole q → boxes ≡ meeting_boxes p q a b → (z : List ℤ) → IsTrue (lies_in boxes z)
    → at z (Rattle.ch_meeting.specs.Asked.cells_end p q a b (pair_size p q)) ≡ pos 1
meeting_one p q a b boxes w v e z i =
    let s = split_at (pair_boxes p q) (cell_boxes (length p.origin) (length q.origin) a b) 0 (pair_size p q) z (pair_long p q w v)
    (lies_inside (meeting_boxes p q a b) z (subst (λ bs. IsTrue (lies_in bs z)) e i)) in
    let n : 0 + pair_size p q ≡ pair_size p q = omega arith in
    cell_one (length p.origin) (length q.origin) a b (pair_size p q) z (subst (λ k. InBox (cell_boxes (length p.origin) (length q.origin) a b) (drop k z)) n s.1)
