-- Pairs of conflicting elements that the new list has the other way round, told by the pieces of both lists.
use Rattle.std.proofs.Common.{◌≡◌, ◌≢◌, refl, sym, ap, ◌∙◌, subst, ℤ, Bool, true, false, Option, Some, None, List, map, inl, inr}
use Rattle.std.specs.List.{All}
use Rattle.std.specs.Ordering.{int_cmp, is_lt}
use Rattle.std.specs.declared.cmp.Ordering.TheVariants.{Less}
use Rattle.std.specs.Cmp.Lexicographic.{slice_cmp}
use Rattle.ch_depends.specs.declared.candidates.Candidate.{Candidate}
use Rattle.ch_depends.specs.declared.sides.Side.{Side}
use Rattle.ch_depends.specs.Sought.{Conflicts, IsBest, IsPaired, IsUpTo, Reversed, Reverses, SomeOf, partners_of}
use Rattle.ch_depends.proofs.Asked.{Names, clashing, named}
use Rattle.ch_meeting.specs.Meeting.{IsMeeting, IsTurned, iters_at, vector_at}
use Rattle.ch_order.specs.Legal.{AreAmong}
use Rattle.ch_order.proofs.Before.{before_from, from_before}
use Rattle.ch_order.proofs.Kept.{one_identity}
use Rattle.ch_order.proofs.Steps.{same_identity_self}
use Rattle.ch_space.specs.declared.piece.Piece.{Piece}
use Rattle.ch_space.specs.Keeps.{AreApart}
use Rattle.ch_space.specs.Pieces.{element_at, instances, listed}
use Rattle.ch_space.proofs.EndsOf.{at_all}
use Rattle.ch_space.proofs.Followings.{is_less}
use Rattle.ch_space.proofs.PieceElements.{StandsFor}
use Rattle.ch_space.proofs.PieceNumbers.{in_listed, listed_ascends, listed_in}
use Rattle.ch_timed.specs.Conflict.{conflict, reversed}
use Rattle.ch_timed.specs.declared.element.Cell.{Cell}
use Rattle.ch_timed.specs.declared.element.Element.{Element}
use Rattle.ch_timed.specs.declared.element.Identity.{Identity}
use Rattle.ch_timed.specs.Members.{In}
use Rattle.ch_timed.specs.Order.{Pair, is_before, overtaken}
use Rattle.ch_timed.specs.Timed.{Step, identities_differ, same_identity, same_step, step}
use Rattle.ch_timed.proofs.Orders.{IsAscending, in_map, map_in, not_both, not_itself}

identity_by : (a b : Identity) → a.label ≡ b.label → a.iters ≡ b.iters → a ≡ b
identity_by a b e f = λ i. record { label = e i; iters = f i }

module _ (olds news : List Piece) (old_apart : AreApart olds) (new_apart : AreApart news) (differ : identities_differ (listed news) ≡ true) (kept : AreAmong (listed olds) (listed news)) where
  up_new : IsAscending (λ e. e.vector) (listed news)
  up_new = listed_ascends news new_apart

  in_old : (p : Piece) (xs : List ℤ) → In p olds → In xs (instances p) → In (element_at p xs) (listed olds)
  in_old p xs i j = listed_in olds p (element_at p xs) i (map_in (element_at p) (instances p) xs j)

  in_new : (p : Piece) (xs : List ℤ) → In p news → In xs (instances p) → In (element_at p xs) (listed news)
  in_new p xs i j = listed_in news p (element_at p xs) i (map_in (element_at p) (instances p) xs j)

  -- where the new list has the step of an element
  record Moved (e : Element) : Type 0 where
    piece : Piece
    is_piece : In piece news
    instance : List ℤ
    is_instance : In instance (instances piece)
    same : step (element_at piece instance) ≡ step e

  moved : (e : Element) → In e (listed olds) → Moved e
  moved e i =
      let m = in_map step (listed news) (step e) (kept (step e) (map_in step (listed olds) e i)) in
      let s : StandsFor news m.0 = in_listed news m.0 m.1.0 in
      record { piece = s.piece; is_piece = s.is_piece; instance = s.instance; is_instance = s.is_instance; same = ap step s.is ∙ m.1.1 }

  -- an element of the new list with the label and the iterators of one of the old list has its step
  step_at : (r : Piece) (ys : List ℤ) (e : Element) → In e (listed olds) → In r news → In ys (instances r) → r.label ≡ e.identity.label → iters_at r ys ≡ e.identity.iters
      → step (element_at r ys) ≡ step e
  step_at r ys e i j k l s =
      let m : Moved e = moved e i in
      let there : Element = element_at m.piece m.instance in
      let one : (element_at r ys).identity ≡ e.identity = identity_by (element_at r ys).identity e.identity l s in
      let two : there.identity ≡ e.identity = ap (λ z. z.identity) m.same in
      let same : same_identity (element_at r ys).identity there.identity ≡ true =
      subst (λ z. same_identity z there.identity ≡ true) (two ∙ sym one) (same_identity_self there.identity) in
      ap step (one_identity (listed news) (element_at r ys) there differ (in_new r ys j k) (in_new m.piece m.instance m.is_piece m.is_instance) same) ∙ m.same

  abbrev Before : Element → Element → Type 0
  Before e f = is_before same_step (step f) (step e) (map step (listed news)) ≡ true

  turned_before : (p q r s : Piece) (xs ys : List ℤ) → In p olds → In q olds → In xs (instances p) → In ys (instances q) → In r news → In s news → r.label ≡ p.label → s.label ≡ q.label
      → IsTurned p q r s xs ys → Before (element_at p xs) (element_at q ys)
  turned_before p q r s xs ys ip iq ix iy ir is lr ls t =
      let a : Element = element_at r t.first in
      let b : Element = element_at s t.second in
      let ea : step a ≡ step (element_at p xs) = step_at r t.first (element_at p xs) (in_old p xs ip ix) ir t.is_first lr t.same_first in
      let eb : step b ≡ step (element_at q ys) = step_at s t.second (element_at q ys) (in_old q ys iq iy) is t.is_second ls t.same_second in
      let here : is_before same_step (step b) (step a) (map step (listed news)) ≡ true =
      before_from (listed news) a b up_new differ (in_new r t.first ir t.is_first) (in_new s t.second is t.is_second)
      (is_less (slice_cmp int_cmp (vector_at s t.second) (vector_at r t.first)) t.turned) in
      subst (λ z. is_before same_step (step (element_at q ys)) z (map step (listed news)) ≡ true) ea (subst (λ z. is_before same_step z (step a) (map step (listed news)) ≡ true) eb here)

  before_turned : (p q : Piece) (xs ys : List ℤ) (m : Moved (element_at p xs)) (n : Moved (element_at q ys)) → Before (element_at p xs) (element_at q ys)
      → IsTurned p q m.piece n.piece xs ys
  before_turned p q xs ys m n b =
      let here : is_before same_step (step (element_at n.piece n.instance)) (step (element_at m.piece m.instance)) (map step (listed news)) ≡ true =
      subst (λ z. is_before same_step (step (element_at n.piece n.instance)) z (map step (listed news)) ≡ true) (sym m.same)
      (subst (λ z. is_before same_step z (step (element_at p xs)) (map step (listed news)) ≡ true) (sym n.same) b) in
      record {
        first = m.instance;
        second = n.instance;
        is_first = m.is_instance;
        is_second = n.is_instance;
        same_first = ap (λ z. z.identity.iters) m.same;
        same_second = ap (λ z. z.identity.iters) n.same;
        turned = ap is_lt (from_before (listed news) (element_at m.piece m.instance) (element_at n.piece n.instance) up_new differ
            (in_new m.piece m.instance m.is_piece m.is_instance) (in_new n.piece n.instance n.is_piece n.is_instance) here);
      }

  -- members of the old list that conflict and are the other way round in the new one
  pub record IsReversible (e f : Element) : Type 0 where
    pub first_in : In e (listed olds)
    pub second_in : In f (listed olds)
    pub earlier : slice_cmp int_cmp e.vector f.vector ≡ Less
    pub before : Before e f
    pub conflicting : conflict (step e) (step f) ≢ None

  module _ (sides : List Side) (pieces : map (λ s. s.piece.now) sides ≡ olds) (paired : All (IsPaired news) sides) where
    abbrev pub AnyReversed : Element → Element → Type 0
    AnyReversed = SomeOf sides (λ s. SomeOf sides (Reversed s))

    side_piece : (s : Side) → In s sides → In s.piece.now olds
    side_piece s i = subst (λ z. In s.piece.now z) pieces (map_in (λ s. s.piece.now) sides s i)

    by_sides : (s t : Side) (u v : Piece) (e f : Element) → In s sides → In t sides → In u (partners_of s) → In v (partners_of t) → Conflicts s.piece.now t.piece.now u v e f → IsReversible e f
    by_sides s t u v e f is it iu iv c =
        let p : Piece = s.piece.now in
        let q : Piece = t.piece.now in
        let h : Reverses p q u v c.access c.other e f = c.reverses in
        let m : IsMeeting p q c.access c.other h.xs h.ys = h.reversal.0 in
        let ip : In p olds = side_piece s is in
        let iq : In q olds = side_piece t it in
        let uu = (at_all (IsPaired news) sides s paired is).among u iu in
        let vv = (at_all (IsPaired news) sides t paired it).among v iv in
        let all : IsReversible (element_at p h.xs) (element_at q h.ys) = record {
          first_in = in_old p h.xs ip m.first;
          second_in = in_old q h.ys iq m.second;
          earlier = is_less (slice_cmp int_cmp (vector_at p h.xs) (vector_at q h.ys)) m.earlier;
          before = turned_before p q u v h.xs h.ys ip iq m.first m.second uu.0 vv.0 uu.1 vv.1 h.reversal.1;
          conflicting = clashing (step (element_at p h.xs)) (step (element_at q h.ys)) c.access c.other c.asked m.cell;
        } in
        subst (λ z. IsReversible z f) h.is_first (subst (IsReversible (element_at p h.xs)) h.is_second all)

    pub reversible : (e f : Element) → AnyReversed e f → IsReversible e f
    reversible e f a =
        let b = a.holds in
        let c = b.holds in
        let d = c.holds in
        by_sides a.member b.member c.member d.member e f a.is_member b.is_member c.is_member d.is_member d.holds

    -- the side of an element
    record HasSide (e : Element) : Type 0 where
      side : Side
      is_side : In side sides
      values : List ℤ
      is_instance : In values (instances side.piece.now)
      is : element_at side.piece.now values ≡ e

    has_side : (e : Element) → In e (listed olds) → HasSide e
    has_side e i =
        let s : StandsFor olds e = in_listed olds e i in
        let t = in_map (λ s. s.piece.now) sides s.piece (subst (λ z. In s.piece z) (sym pieces) s.is_piece) in
        record {
          side = t.0;
          is_side = t.1.0;
          values = s.instance;
          is_instance = subst (λ z. In s.instance (instances z)) (sym t.1.1) s.is_instance;
          is = ap (λ z. element_at z s.instance) t.1.1 ∙ s.is;
        }

    partner : (s : Side) (xs : List ℤ) (m : Moved (element_at s.piece.now xs)) → In s sides → In xs (instances s.piece.now) → In m.piece (partners_of s)
    partner s xs m i j =
        (at_all (IsPaired news) sides s paired i).all m.piece m.is_piece (ap (λ z. z.identity.label) m.same)
        (record { first = xs; second = m.instance; is_first = j; is_second = m.is_instance; same = sym (ap (λ z. z.identity.iters) m.same) })

    at_sides : (s t : Side) (xs ys : List ℤ) → In s sides → In t sides → In xs (instances s.piece.now) → In ys (instances t.piece.now)
        → IsReversible (element_at s.piece.now xs) (element_at t.piece.now ys) → AnyReversed (element_at s.piece.now xs) (element_at t.piece.now ys)
    at_sides s t xs ys i j k l h =
        let p : Piece = s.piece.now in
        let q : Piece = t.piece.now in
        let m : Moved (element_at p xs) = moved (element_at p xs) h.first_in in
        let n : Moved (element_at q ys) = moved (element_at q ys) h.second_in in
        let c : Names (step (element_at p xs)) (step (element_at q ys)) = named (step (element_at p xs)) (step (element_at q ys)) h.conflicting in
        let meets : IsMeeting p q c.access c.other xs ys = record { first = k; second = l; earlier = ap is_lt h.earlier; cell = c.cell } in
        let turned : IsTurned p q m.piece n.piece xs ys = before_turned p q xs ys m n h.before in
        let reverses : Reverses p q m.piece n.piece c.access c.other (element_at p xs) (element_at q ys) =
        record { xs = xs; ys = ys; reversal = (meets, turned); is_first = refl; is_second = refl } in
        record {
          member = s;
          is_member = i;
          holds = record {
            member = t;
            is_member = j;
            holds = record {
              member = m.piece;
              is_member = partner s xs m i k;
              holds = record {
                member = n.piece;
                is_member = partner t ys n j l;
                holds = record { access = c.access; other = c.other; asked = c.asked; reverses = reverses };
              };
            };
          };
        }

    pub any_reversed : (e f : Element) → IsReversible e f → AnyReversed e f
    any_reversed e f h =
        let s : HasSide e = has_side e h.first_in in
        let t : HasSide f = has_side f h.second_in in
        subst (λ z. AnyReversed z f) s.is (subst (AnyReversed (element_at s.side.piece.now s.values)) t.is
        (at_sides s.side t.side s.values t.values s.is_side t.is_side s.is_instance t.is_instance
        (subst (λ z. IsReversible z (element_at t.side.piece.now t.values)) (sym s.is) (subst (IsReversible e) (sym t.is) h))))

    abbrev itself : List ℤ → List ℤ
    itself v = v

    pub not_earlier : (c : Candidate) (e f : Element) → slice_cmp int_cmp e.vector c.first.vector ≡ Less → IsUpTo c e f → ⊥
    not_earlier c e f l (inl m) = not_both itself e.vector c.first.vector l m
    not_earlier c e f l (inr m) = not_itself itself e.vector (subst (λ z. slice_cmp int_cmp e.vector z ≡ Less) m.0 l)

    pub not_second : (c : Candidate) (f : Element) → slice_cmp int_cmp f.vector c.second.vector ≡ Less → IsUpTo c c.first f → ⊥
    not_second c f l (inl m) = not_itself itself c.first.vector m
    not_second c f l (inr (h, inl m)) = not_itself itself f.vector (subst (λ z. slice_cmp int_cmp f.vector z ≡ Less) m l)
    not_second c f l (inr (h, inr m)) = not_both itself f.vector c.second.vector l m
