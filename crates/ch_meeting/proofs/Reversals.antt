-- Pairs that two other pieces have the other way round, the points that stand for them, and the least of them.
use Rattle.std.proofs.Common.{◌≡◌, refl, sym, ap, ap₂, ◌∙◌, subst, ℕ, ◌+◌, ◌<◌, ◌≤◌, ℤ, pos, Bool, true, false, Option, Some, None, List, [], ◌∷◌, ◌++◌, length, take, drop, get_or, ◌⊎◌, inl, inr, arith, append_assoc, length-append, Result, Ok, Err, IfOk}
use Rattle.std.specs.declared.alloc.AllocError.{AllocError}
use Rattle.std.specs.Bool.{IsTrue}
use Rattle.std.specs.List.{All}
use Rattle.std.specs.Cmp.{IsTotalOrder, int_cmp_total}
use Rattle.std.specs.Cmp.Lexicographic.{slice_cmp}
use Rattle.std.specs.Ordering.{int_cmp, is_lt, ordering_reverse}
use Rattle.std.specs.declared.cmp.Ordering.{Ordering}
use Rattle.std.specs.declared.cmp.Ordering.TheVariants.{Less, Equal, Greater}
use Rattle.std.proofs.lemmas.Cmp.{lists_total}
use Rattle.std.proofs.lemmas.List.{take_at, take-take, drop-take, length-take-le, take_more, take_all}
use Rattle.std.proofs.lemmas.List.Elements.{All-append}
use Rattle.ch_affine.specs.Rows.{IsBox, IsSystem, lies_in}
use Rattle.ch_affine.specs.declared.system.Range.{Range}
use Rattle.ch_nest.specs.declared.nest.Access.{Access}
use Rattle.ch_poly.proofs.Firsts.{InBox}
use Rattle.ch_poly.specs.Boxes.{at}
use Rattle.ch_timed.specs.Members.{In}
use Rattle.ch_timed.specs.Vectors.{comes_before}
use Rattle.ch_meeting.specs.declared.draft.Draft.{Draft}
use Rattle.ch_meeting.specs.declared.orders.Order.{Order}
use Rattle.ch_meeting.specs.declared.question.FourPieces.{FourPieces}
use Rattle.ch_meeting.specs.Asked.{AreMeeting, AreReversal, AreReversalBy, AreTurned, Asks, InOrders, IsMeetingBy, IsReversalAmong, IsReversalBy, IsTurnedAmong, IsTurnedBy, MeetsBy, cells_end, lesser, pair_size, reversal_boxes, reversal_iters, second_if}
use Rattle.ch_meeting.specs.Cases.{InOrder, IsWithin, OneOf}
use Rattle.ch_meeting.specs.Drafts.{IsLeastFit, Narrows, part}
use Rattle.ch_meeting.specs.Meeting.{AreComparable, IsAccessOf, IsLeastPair, IsPlain, IsReversal, IsTurned, iters_at}
use Rattle.ch_meeting.specs.Placed.{cell_boxes, pair_boxes}
use Rattle.ch_meeting.proofs.Commons.{held_there, iters_long, none_before, pair_long, tied_there}
use Rattle.ch_meeting.proofs.Comparisons.{Exact}
use Rattle.ch_meeting.proofs.Layouts.{cell_each, pair_each}
use Rattle.ch_meeting.proofs.Least.{inside_lies, lies_inside, narrowed_twice}
use Rattle.ch_meeting.proofs.Meetings.{Brought, Turns, brought, cell_long, cell_one, first_turns, in_parts, meeting_here, meeting_there, pair_inside, parts_in, rest_inside, second_turns}
use Rattle.ch_meeting.proofs.Parts.{behind_at, pair_instances, split_at}
use Rattle.ch_meeting.proofs.Steps.{long_point}
use Rattle.ch_space.specs.declared.piece.Piece.{Piece}
use Rattle.ch_space.specs.Following.{UpTo}
use Rattle.ch_space.specs.Keeps.{IsWhole}
use Rattle.ch_space.specs.Pieces.{instances}
use Rattle.ch_space.proofs.EndsOf.{at_all, take_up_to}
use Rattle.ch_space.proofs.Followings.{is_less}
use Rattle.ch_space.proofs.Membership.{append_left, append_right, in_append}
use Rattle.ch_space.proofs.PieceElements.{levels_of}
use Rattle.std.specs.FinMap.{int_cmp-IsAntisymmetric}

module _ (o t : Order) (p q r s : Piece) (a b : Access) (w : IsPlain p) (v : IsPlain q) (x : IsPlain r) (y : IsPlain s) (f : IsAccessOf p a) (g : IsAccessOf q b) (array : a.array ≡ b.array)
    (same : length a.subs ≡ length b.subs) (same_first : length r.origin ≡ length p.origin) (same_second : length s.origin ≡ length q.origin) (within : IsWithin p.levels q.levels o)
    (turned_within : IsWithin s.levels r.levels t) where
  abbrev Base : ℕ
  Base = pair_size p q

  abbrev Iters : ℕ
  Iters = reversal_iters p q r s

  abbrev Cells : List Range
  Cells = cell_boxes (length p.origin) (length q.origin) a b

  reversal_to : (z : List ℤ) → IsTrue (lies_in (reversal_boxes p q r s a b) z) → AreReversalBy o t p q r s a b z → IsReversalBy o t p q r s a b (part 0 p.levels z) (part p.levels q.levels z)
  reversal_to z i h =
      let inside = lies_inside (reversal_boxes p q r s a b) z i in
      let pair = pair_instances p q w.whole v.whole (pair_boxes s r ++ Cells) 0 z inside h.0.0.2 in
      let start : 0 + p.levels + q.levels + p.hidden + q.hidden ≡ Base = omega arith in
      let behind = subst (λ n. InBox (pair_boxes s r ++ Cells) (drop n z)) start pair.2 in
      let new = pair_instances s r y.whole x.whole Cells Base z behind h.0.1.2 in (
        meeting_here o p q a b w v f g array same within (pair_boxes s r ++ Cells) Iters z inside h.1.0 h.0.0,
        record {
          first = part (Base + s.levels) r.levels z;
          second = part Base s.levels z;
          is_first = new.1;
          is_second = new.0;
          same_first = sym h.0.1.1 ∙ ap (λ n. part Iters n z) same_first ∙ h.0.0.0.0;
          same_second = sym h.0.1.0 ∙ ap (λ n. part (Iters + length p.origin) n z) same_second ∙ h.0.0.0.1 ∙ ap (λ n. iters_at q (part n q.levels z)) (none_before p.levels);
          order = parts_in t s.levels r.levels Base (Base + s.levels) z turned_within h.1.1;
        },
      )

  abbrev Stands : List ℤ → List ℤ → Type 0
  Stands xs ys = (z : List ℤ) × (IsTrue (lies_in (reversal_boxes p q r s a b) z) × (AreReversalBy o t p q r s a b z × (take (p.levels + q.levels) z ≡ xs ++ ys)))

  stands_at : (xs ys : List ℤ) (m : IsMeetingBy o p q a b xs ys) (k : IsTurnedBy t p q r s xs ys) → Brought p xs → Brought q ys → Brought s k.second → Brought r k.first
      → (ts : List ℤ) × Turns a.subs (iters_at p xs) ts → (us : List ℤ) × Turns b.subs (iters_at q ys) us → Stands xs ys
  stands_at xs ys m k e h i j ta tb =
      let tail : List ℤ = iters_at p xs ++ (iters_at q ys ++ (ta.0 ++ (tb.0 ++ pos 1 ∷ []))) in
      let new : List ℤ = k.second ++ (k.first ++ (i.hidden ++ (j.hidden ++ (iters_at p xs ++ (iters_at q ys ++ (ta.0 ++ (tb.0 ++ pos 1 ∷ []))))))) in
      let z : List ℤ = xs ++ (ys ++ (e.hidden ++ (h.hidden ++ (k.second ++ (k.first ++ (i.hidden ++ (j.hidden ++ (iters_at p xs ++ (iters_at q ys ++ (ta.0 ++ (tb.0 ++ pos 1 ∷ []))))))))))) in
      let ws : List (List ℤ) = xs ∷ ys ∷ e.hidden ∷ h.hidden ∷ k.second ∷ k.first ∷ i.hidden ∷ j.hidden ∷ iters_at p xs ∷ iters_at q ys ∷ ta.0 ∷ tb.0 ∷ (pos 1 ∷ []) ∷ [] in
      let l1 = e.long in
      let l2 = h.long in
      let l3 = e.hidden_long in
      let l4 = h.hidden_long in
      let n1 = i.long in
      let n2 = j.long in
      let n3 = i.hidden_long in
      let n4 = j.hidden_long in
      let l5 : length (iters_at p xs) ≡ length p.origin = iters_long p xs in
      let l6 : length (iters_at q ys) ≡ length q.origin = iters_long q ys in
      let l7 = ta.1.long in
      let l8 : length tb.0 ≡ length a.subs = tb.1.long ∙ sym same in
      let b8 : (c : ℕ) → c ≡ length p.origin → part Iters c z ≡ iters_at p xs = λ c d. behind_at ws 8 Iters c (omega arith) (omega arith) (d ∙ sym l5) in
      let b9 : (c : ℕ) → c ≡ length q.origin → part (Iters + length p.origin) c z ≡ iters_at q ys = λ c d. behind_at ws 9 (Iters + length p.origin) c (omega arith) (omega arith) (d ∙ sym l6) in
      let b4 : part Base s.levels z ≡ k.second = behind_at ws 4 Base s.levels (omega arith) (omega arith) (sym n1) in
      let b5 : part (Base + s.levels) r.levels z ≡ k.first = behind_at ws 5 (Base + s.levels) r.levels (omega arith) (omega arith) (sym n2) in
      let there = meeting_there o p q a b w v f g array same within xs ys m Iters z ta.0 tb.0 e h
      (behind_at ws 0 0 p.levels refl (omega arith) (sym l1)) (behind_at ws 1 p.levels q.levels (omega arith) (omega arith) (sym l2))
      (behind_at ws 2 (p.levels + q.levels) p.hidden (omega arith) (omega arith) (sym l3)) (behind_at ws 3 (p.levels + q.levels + p.hidden) q.hidden (omega arith) (omega arith) (sym l4))
      (b8 (length p.origin) refl) (b9 (length q.origin) refl)
      (behind_at ws 10 (Iters + length p.origin + length q.origin) (length a.subs) (omega arith) (omega arith) (sym l7))
      (behind_at ws 11 (Iters + length p.origin + length q.origin + length a.subs) (length a.subs) (omega arith) (omega arith) (sym l8)) ta.1 tb.1 in (
        z,
        (
          inside_lies (reversal_boxes p q r s a b) z (pair_inside p q xs ys new (pair_boxes s r ++ Cells) e h (pair_inside s r k.second k.first tail Cells i j
              (rest_inside o p q a b w v f g array same within xs ys m ta.0 tb.0 ta.1 tb.1))),
          (
            (
              (
                there.1,
                (
                  tied_there s Base (Iters + length p.origin) z k.second (iters_at q ys) b4 (b9 (length s.origin) same_second) (sym k.same_second),
                  tied_there r (Base + s.levels) Iters z k.first (iters_at p xs) b5 (b8 (length r.origin) same_first) (sym k.same_first),
                  (
                    held_there s Base (Base + s.levels + r.levels) z k.second i.hidden b4 (behind_at ws 6 (Base + s.levels + r.levels) s.hidden (omega arith) (omega arith) (sym n3)) i.rows,
                    held_there r (Base + s.levels) (Base + s.levels + r.levels + s.hidden) z k.first j.hidden b5
                        (behind_at ws 7 (Base + s.levels + r.levels + s.hidden) r.hidden (omega arith) (omega arith) (sym n4)) j.rows,
                  ),
                ),
              ),
              (
                there.0,
                in_parts t s.levels r.levels Base (Base + s.levels) z turned_within
                    (subst (λ c. InOrder t c (part (Base + s.levels) r.levels z)) (sym b4) (subst (InOrder t k.second) (sym b5) k.order)),
              ),
            ),
            ap (take (p.levels + q.levels)) (sym (append_assoc xs ys (e.hidden ++ (h.hidden ++ new)))) ∙ take_at (xs ++ ys) (e.hidden ++ (h.hidden ++ new)) (p.levels + q.levels)
                (length-append xs ys ∙ ap₂ (λ c d. c + d) l1 l2),
          ),
        ),
      )

  pub reversal_from : (xs ys : List ℤ) → IsReversalBy o t p q r s a b xs ys → Stands xs ys
  reversal_from xs ys k =
      stands_at xs ys k.0 k.1 (brought p xs w.whole k.0.first) (brought q ys v.whole k.0.second) (brought s k.1.second y.whole k.1.is_second) (brought r k.1.first x.whole k.1.is_first)
      (first_turns o p q a b w v f g array same within xs ys k.0) (second_turns o p q a b w v f g array same within xs ys k.0)

  module _ (d : Draft) (asks : Asks d (reversal_boxes p q r s a b) (AreReversalBy o t p q r s a b)) where
    pub none_reversed : (point : Option (List ℤ)) → point ≡ None → IsLeastFit d point → IsLeastPair p.levels (IsReversalBy o t p q r s a b) None
    none_reversed None e l xs ys k = let z = reversal_from xs ys k in l z.0 ((asks.exact z.0).1 (z.1.0, z.1.1.0))
    none_reversed (Some m) e l xs ys k = absurd cc

    reversal_sized : (z : List ℤ) → IsTrue (lies_in (reversal_boxes p q r s a b) z) → length z ≡ length (reversal_boxes p q r s a b)
    reversal_sized z i = long_point (reversal_boxes p q r s a b) z i

    pub reversal_long : (point : Option (List ℤ)) (m : List ℤ) → point ≡ Some m → IsLeastFit d point → p.levels + q.levels ≤ length m
    reversal_long None m e l = absurd cc
    reversal_long (Some n) m e l =
        let same : n ≡ m = cc in
        let fits = (asks.exact n).0 l.0 in
        let sized = reversal_sized n fits.0 in
        let pair = pair_long p q w.whole v.whole in
        let all = length-append (pair_boxes p q) (pair_boxes s r ++ Cells) in
        subst (λ c. p.levels + q.levels ≤ length c) same (omega arith)

    pub some_reversed : (point : Option (List ℤ)) (m cut : List ℤ) → point ≡ Some m → cut ≡ take (p.levels + q.levels) m → IsLeastFit d point
        → IsLeastPair p.levels (IsReversalBy o t p q r s a b) (Some cut)
    some_reversed None m cut e c l = absurd cc
    some_reversed (Some n) m cut e c l =
        let same : n ≡ m = cc in
        let here : cut ≡ take (p.levels + q.levels) n = c ∙ ap (take (p.levels + q.levels)) (sym same) in
        let fits = (asks.exact n).0 l.0 in
        let front : take p.levels cut ≡ part 0 p.levels n = ap (take p.levels) here ∙ take-take p.levels (p.levels + q.levels) n (omega arith) in
        let back : drop p.levels cut ≡ part p.levels q.levels n = ap (drop p.levels) here ∙ drop-take p.levels q.levels n in
        let pair = reversal_to n fits.0 fits.1 in (
          subst (λ xs. IsReversalBy o t p q r s a b xs (drop p.levels cut)) (sym front) (subst (IsReversalBy o t p q r s a b (part 0 p.levels n)) (sym back) pair),
          λ xs ys k.
              let z = reversal_from xs ys k in
              let up = l.1 z.0 ((asks.exact z.0).1 (z.1.0, z.1.1.0)) in
              subst (UpTo cut) z.1.1.1 (subst (λ h. UpTo h (take (p.levels + q.levels) z.0)) (sym here)
              (take_up_to (p.levels + q.levels) n z.0 (reversal_sized n fits.0 ∙ sym (reversal_sized z.0 z.1.0)) up)),
        )

-- the lesser of two least pairs

order : IsTotalOrder (slice_cmp int_cmp)
order = lists_total int_cmp_total

not_less : (a b : List ℤ) (o : Ordering) → slice_cmp int_cmp b a ≡ o → is_lt o ≡ false → UpTo a b
not_less a b Less c h = cc
not_less a b Equal c h = inl (sym (Rattle.std.specs.FinMap.slice_cmp-IsAntisymmetric int_cmp-IsAntisymmetric b a c))
not_less a b Greater c h = inr (order.antisymm a b ∙ ap ordering_reverse c)

up_to_both : (a b c : List ℤ) → UpTo a b → UpTo b c → UpTo a c
up_to_both a b c (inl e) h = subst (λ z. UpTo z c) (sym e) h
up_to_both a b c (inr l) (inl e) = inr (subst (λ z. slice_cmp int_cmp a z ≡ Less) e l)
up_to_both a b c (inr l) (inr m) = inr (order.trans a b c l m)

module _ (n : ℕ) (P Q R : List ℤ → List ℤ → Type 0) (left : (xs ys : List ℤ) → P xs ys → R xs ys) (right : (xs ys : List ℤ) → Q xs ys → R xs ys)
    (split : (xs ys : List ℤ) → R xs ys → P xs ys ⊎ Q xs ys) where
  lesser_by : (c : Bool) (a b : List ℤ) → comes_before b a ≡ c → IsLeastPair n P (Some a) → IsLeastPair n Q (Some b) → IsLeastPair n R (Some (second_if c a b))
  lesser_by true a b e h g = (
    right (take n b) (drop n b) g.0,
    λ xs ys k. elim (split xs ys k) as (λ _. UpTo b (xs ++ ys)) [
      | inl i ↦ up_to_both b a (xs ++ ys) (inr (is_less (slice_cmp int_cmp b a) e)) (h.1 xs ys i)
      | inr j ↦ g.1 xs ys j
    ],
  )
  lesser_by false a b e h g = (
    left (take n a) (drop n a) h.0,
    λ xs ys k. elim (split xs ys k) as (λ _. UpTo a (xs ++ ys)) [
      | inl i ↦ h.1 xs ys i
      | inr j ↦ up_to_both a b (xs ++ ys) (not_less a b (slice_cmp int_cmp b a) refl e) (g.1 xs ys j)
    ],
  )

  lesser_is : (x y : Option (List ℤ)) → IsLeastPair n P x → IsLeastPair n Q y → IsLeastPair n R (lesser x y)
  lesser_is None None h g = λ xs ys k. elim (split xs ys k) as (λ _. ⊥) [ inl i ↦ h xs ys i | inr j ↦ g xs ys j ]
  lesser_is None (Some b) h g = (
    right (take n b) (drop n b) g.0,
    λ xs ys k. elim (split xs ys k) as (λ _. UpTo b (xs ++ ys)) [ inl i ↦ absurd (h xs ys i) | inr j ↦ g.1 xs ys j ],
  )
  lesser_is (Some a) None h g = (
    left (take n a) (drop n a) h.0,
    λ xs ys k. elim (split xs ys k) as (λ _. UpTo a (xs ++ ys)) [ inl i ↦ h.1 xs ys i | inr j ↦ absurd (g xs ys j) ],
  )
  lesser_is (Some a) (Some b) h g = lesser_by (comes_before b a) a b refl h g

-- the least pair of several orders, one more

abbrev pub Among : (Order → List ℤ → List ℤ → Type 0) → List Order → List ℤ → List ℤ → Type 0
Among P os xs ys = OneOf (λ o. P o xs ys) os

pub least_none : (n : ℕ) (P : Order → List ℤ → List ℤ → Type 0) → IsLeastPair n (Among P []) None
least_none n P = λ xs ys k. k.1.0

least_joined : (n : ℕ) (P : Order → List ℤ → List ℤ → Type 0) (os : List Order) (o : Order) (old new : Option (List ℤ)) → IsLeastPair n (Among P os) old → IsLeastPair n (P o) new
    → IsLeastPair n (Among P (os ++ o ∷ [])) (lesser old new)
least_joined n P os o old new h g =
    lesser_is n (Among P os) (P o) (Among P (os ++ o ∷ []))
    (λ xs ys c. (c.0, (append_left os (o ∷ []) c.0 c.1.0, c.1.1)))
    (λ xs ys c. (o, (append_right os (o ∷ []) o (inl refl), c)))
    (λ xs ys c. last xs ys c.0 c.1.1 (in_append os (o ∷ []) c.0 c.1.0)) old new h g
  where
    last : (xs ys : List ℤ) (c : Order) → P c xs ys → In c os ⊎ In c (o ∷ []) → Among P os xs ys ⊎ P o xs ys
    last xs ys c h (inl i) = inl (c, (i, h))
    last xs ys c h (inr (inl e)) = inr (subst (λ d. P d xs ys) (sym e) h)
    last xs ys c h (inr (inr i)) = absurd i

pub least_more : (n : ℕ) (P : Order → List ℤ → List ℤ → Type 0) (os : List Order) (k : ℕ) (d : Order) (old new now : Option (List ℤ)) → k < length os
    → IsLeastPair n (Among P (take k os)) old → IsLeastPair n (P (get_or os k d)) new → now ≡ lesser old new → IsLeastPair n (Among P (take (k + 1) os)) now
least_more n P os k d old new now l h g e =
    let o : Order = get_or os k d in
    let more : take (k + 1) os ≡ take k os ++ get_or os k d ∷ [] = take_more os k d l in
    subst (IsLeastPair n (Among P (take (k + 1) os))) (sym e)
    (subst (λ c. IsLeastPair n (Among P c) (lesser old new)) (sym more) (least_joined n P (take k os) (get_or os k d) old new h g))

pub least_all : (n : ℕ) (P : Order → List ℤ → List ℤ → Type 0) (os : List Order) (k : ℕ) (now : Option (List ℤ)) → length os ≤ k → IsLeastPair n (Among P (take k os)) now → IsLeastPair n (Among P os) now
least_all n P os k now l h = subst (λ c. IsLeastPair n (Among P c) now) (take_all k os l) h

-- another property of the same pairs
pub least_as : (n : ℕ) (P Q : List ℤ → List ℤ → Type 0) (now : Option (List ℤ)) → ((xs ys : List ℤ) → P xs ys → Q xs ys) → ((xs ys : List ℤ) → Q xs ys → P xs ys) → IsLeastPair n P now → IsLeastPair n Q now
least_as n P Q None to from h = λ xs ys k. h xs ys (from xs ys k)
least_as n P Q (Some m) to from h = (to (take n m) (drop n m) h.0, λ xs ys k. h.1 xs ys (from xs ys k))

-- the draft of a reversal

module _ (p q r s : Piece) (a b : Access) where
  pub reversal_size : IsWhole p → IsWhole q → IsWhole r → IsWhole s
      → length (reversal_boxes p q r s a b) ≡ reversal_iters p q r s + (length p.origin + length q.origin + length a.subs + length b.subs + 1)
  reversal_size w v x y =
      let c : List Range = cell_boxes (length p.origin) (length q.origin) a b in
      length-append (pair_boxes p q) (pair_boxes s r ++ c)
      ∙ omega (arith, length-append (pair_boxes s r) c, pair_long p q w v, pair_long s r y x, cell_long (length p.origin) (length q.origin) a b)

  pub reversal_few : IsPlain p → IsPlain q → IsPlain r → IsPlain s → IsAccessOf p a → IsAccessOf q b → length (reversal_boxes p q r s a b) ≤ 4096
  reversal_few w v x y f g =
      let n = reversal_size w.whole v.whole x.whole y.whole in
      omega (arith, n, w.variables, v.variables, x.variables, y.variables, w.iterators, v.iterators, f.few, g.few)

  pub reversal_each : IsSystem p.system → IsSystem q.system → IsSystem r.system → IsSystem s.system → All IsBox (reversal_boxes p q r s a b)
  reversal_each w v x y =
      All-append IsBox (pair_boxes p q) (pair_boxes s r ++ cell_boxes (length p.origin) (length q.origin) a b) (pair_each p q w v)
      (All-append IsBox (pair_boxes s r) (cell_boxes (length p.origin) (length q.origin) a b) (pair_each s r y x) (cell_each (length p.origin) (length q.origin) a b))

  pub reversal_one : (boxes : List Range) → IsWhole p → IsWhole q → IsWhole r → IsWhole s → boxes ≡ reversal_boxes p q r s a b → (iters : ℕ) → iters ≡ reversal_iters p q r s → (z : List ℤ)
      → IsTrue (lies_in boxes z) → at z (cells_end p q a b iters) ≡ pos 1
  reversal_one boxes w v x y e iters n z i =
      let c : List Range = cell_boxes (length p.origin) (length q.origin) a b in
      let u = split_at (pair_boxes p q) (pair_boxes s r ++ c) 0 (pair_size p q) z (pair_long p q w v) (lies_inside (reversal_boxes p q r s a b) z (subst (λ bs. IsTrue (lies_in bs z)) e i)) in
      let t = split_at (pair_boxes s r) c (0 + pair_size p q) (pair_size s r) z (pair_long s r y x) u.1 in
      let m : 0 + pair_size p q + pair_size s r ≡ iters = omega (arith, n) in
      cell_one (length p.origin) (length q.origin) a b iters z (subst (λ k. InBox c (drop k z)) m t.1)

  -- all orders together
  pub reversal_all : IsWhole p → IsWhole q → IsWhole r → IsWhole s → (orders turns : List Order) → Exact p.places q.places orders → Exact s.places r.places turns → (now : Option (List ℤ))
      → IsLeastPair p.levels (IsReversalAmong orders turns p q r s a b) now → IsLeastPair p.levels (IsReversal p q r s a b) now
  reversal_all w v x y orders turns exact turned now h = least_as p.levels (IsReversalAmong orders turns p q r s a b) (IsReversal p q r s a b) now to from h
    where
      long : (u : Piece) (k : IsWhole u) (xs : List ℤ) → In xs (instances u) → length u.places ≡ length xs + 1
      long u k xs i = k.places ∙ ap (λ n. n + 1) (sym (levels_of u xs k i))

      to : (xs ys : List ℤ) → IsReversalAmong orders turns p q r s a b xs ys → IsReversal p q r s a b xs ys
      to xs ys k =
          (let m = k.1.1.1.1.0 in
          let n = k.1.1.1.1.1 in (
            record { first = m.first; second = m.second; earlier = (exact xs ys (long p w xs m.first) (long q v ys m.second)).1 (k.0, (k.1.0, m.order)); cell = m.cell },
            record {
              first = n.first;
              second = n.second;
              is_first = n.is_first;
              is_second = n.is_second;
              same_first = n.same_first;
              same_second = n.same_second;
              turned = (turned n.second n.first (long s y n.second n.is_second) (long r x n.first n.is_first)).1 (k.1.1.0, (k.1.1.1.0, n.order));
            },
          ))

      from : (xs ys : List ℤ) → IsReversal p q r s a b xs ys → IsReversalAmong orders turns p q r s a b xs ys
      from xs ys k =
          (let m = k.0 in
          let n = k.1 in
          let o = (exact xs ys (long p w xs m.first) (long q v ys m.second)).0 m.earlier in
          let t = (turned n.second n.first (long s y n.second n.is_second) (long r x n.first n.is_first)).0 n.turned in (
            o.0,
            (
              o.1.0,
              (
                t.0,
                (
                  t.1.0,
                  (
                    record { first = m.first; second = m.second; order = o.1.1; cell = m.cell },
                    record {
                      first = n.first;
                      second = n.second;
                      is_first = n.is_first;
                      is_second = n.is_second;
                      same_first = n.same_first;
                      same_second = n.same_second;
                      order = t.1.1;
                    },
                  ),
                ),
              ),
            ),
          ))

  -- where the places admit no order of the first two, or none of the others, no pair is reversed

  places_long : (u : Piece) (k : IsWhole u) (xs : List ℤ) → In xs (instances u) → length u.places ≡ length xs + 1
  places_long u k xs i = k.places ∙ ap (λ n. n + 1) (sym (levels_of u xs k i))

  pub no_way : IsWhole p → IsWhole q → (ps qs : List ℕ) (ways : List Order) → ps ≡ p.places → qs ≡ q.places → Exact ps qs ways → ways ≡ []
      → IsLeastPair p.levels (IsReversal p q r s a b) None
  no_way w v ps qs ways c d exact e xs ys k =
      let there : Exact p.places q.places ways = subst (λ i. Exact i q.places ways) c (subst (λ i. Exact ps i ways) d exact) in
      let o = (there xs ys (places_long p w xs k.0.first) (places_long q v ys k.0.second)).0 k.0.earlier in
      subst (In o.0) e o.1.0

  pub no_turn : IsWhole r → IsWhole s → (ss rs : List ℕ) (turns : List Order) → ss ≡ s.places → rs ≡ r.places → Exact ss rs turns → turns ≡ []
      → IsLeastPair p.levels (IsReversal p q r s a b) None
  no_turn x y ss rs turns c d exact e xs ys k =
      let there : Exact s.places r.places turns = subst (λ i. Exact i r.places turns) c (subst (λ i. Exact ss i turns) d exact) in
      let n = k.1 in
      let o = (there n.second n.first (places_long s y n.second n.is_second) (places_long r x n.first n.is_first)).0 n.turned in
      subst (In o.0) e o.1.0

  pub reversal_asked : (old one new : Draft) (i j k : ℕ) → i ≡ pair_size p q → j ≡ pair_size s r → k ≡ length p.origin
      → Narrows old one (AreMeeting p q a b (i + j)) → Narrows one new (AreTurned r s i (i + j) (i + j + k)) → Narrows old new (AreReversal p q r s a b)
  reversal_asked old one new i j k e f g y z =
      narrowed_twice old one new (AreMeeting p q a b (reversal_iters p q r s))
      (AreTurned r s (pair_size p q) (reversal_iters p q r s) (reversal_iters p q r s + length p.origin))
      (subst (λ n. Narrows old one (AreMeeting p q a b n)) (ap₂ (λ m n. m + n) e f) y)
      (subst (λ m. Narrows one new (AreTurned r s m (pair_size p q + pair_size s r) (pair_size p q + pair_size s r + length p.origin))) e
      (subst (λ m. Narrows one new (AreTurned r s i m (m + length p.origin))) (ap₂ (λ m n. m + n) e f) (subst (λ m. Narrows one new (AreTurned r s i (i + j) (i + j + m))) g z)))

  -- where no pair meets, none is turned
  pub not_met : (o : Order) (turns : List Order) → (MeetsBy o p q a b → ⊥) → IsLeastPair p.levels (IsTurnedAmong o turns p q r s a b) None
  not_met o turns none xs ys k = none (record { first = xs; second = ys; meeting = k.1.1.0 })

  pub none_met : (orders turns : List Order) → ((o : Order) → In o orders → MeetsBy o p q a b → ⊥) → IsLeastPair p.levels (IsReversalAmong orders turns p q r s a b) None
  none_met orders turns none xs ys k = not_met k.0 turns (none k.0 k.1.0) xs ys k.1.1

  pub reversal_ok : IsWhole p → IsWhole q → IsWhole r → IsWhole s → (ps qs ss rs : List ℕ) (ways os turns ts : List Order) → ps ≡ p.places → qs ≡ q.places → ss ≡ s.places → rs ≡ r.places
      → os ≡ ways → ts ≡ turns → Exact ps qs ways → Exact ss rs turns → (res : Result (Option (List ℤ)) AllocError)
      → IfOk res (λ point. IsLeastPair p.levels (IsReversalAmong os ts p q r s a b) point) → IfOk res (λ point. IsLeastPair p.levels (IsReversal p q r s a b) point)
  reversal_ok w v x y ps qs ss rs ways os turns ts c d e f g h exact turned (Err o) k = tt
  reversal_ok w v x y ps qs ss rs ways os turns ts c d e f g h exact turned (Ok point) k =
      reversal_all w v x y ways turns (subst (λ i. Exact i q.places ways) c (subst (λ i. Exact ps i ways) d exact)) (subst (λ i. Exact i r.places turns) e (subst (λ i. Exact ss i turns) f turned)) point
      (subst (λ i. IsLeastPair p.levels (IsReversalAmong i turns p q r s a b) point) g (subst (λ i. IsLeastPair p.levels (IsReversalAmong os i p q r s a b) point) h k))

-- pieces that have the iterators of others have as many
pub turned_comparable : (w : FourPieces) (xs ys : List ℤ) → IsTurned w.first.now w.second.now w.new_first.now w.new_second.now xs ys → AreComparable w
turned_comparable w xs ys k = record {
  first = sym (iters_long w.new_first.now k.first) ∙ ap length k.same_first ∙ iters_long w.first.now xs;
  second = sym (iters_long w.new_second.now k.second) ∙ ap length k.same_second ∙ iters_long w.second.now ys;
}

-- both orders
pub orders_put : (old mid new : Draft) (o t : Order) (p q s : Piece) (i : ℕ) → i ≡ pair_size p q → Narrows old mid (λ z. InOrder o (drop 0 z) (drop p.levels z))
    → Narrows mid new (λ z. InOrder t (drop i z) (drop (i + s.levels) z)) → Narrows old new (InOrders o t p q s)
orders_put old mid new o t p q s i e a b =
    narrowed_twice old mid new (λ z. InOrder o (drop 0 z) (drop p.levels z)) (λ z. InOrder t (drop (pair_size p q) z) (drop (pair_size p q + s.levels) z)) a
    (subst (λ n. Narrows mid new (λ z. InOrder t (drop n z) (drop (n + s.levels) z))) e b)
