-- Triples of sides whose accesses meet are those of elements that depend on one another.
use Rattle.std.proofs.Common.{◌≡◌, ◌≢◌, refl, sym, ap, ◌∙◌, subst, ℕ, zero, suc, ◌+◌, ◌<◌, ◌≤◌, ℤ, Bool, true, false, if◌then◌else◌, Some, None, List, [], ◌∷◌, map, length, get_or, slice_get, slice_index_or, inl, inr, arith}
use Rattle.std.proofs.lemmas.Bool.{cases_order}
use Rattle.std.proofs.lemmas.List.{length-map}
use Rattle.std.specs.Bool.{IsTrue}
use Rattle.std.specs.Ordering.{int_eq}
use Rattle.ch_depends.specs.declared.answers.Level.{Level}
use Rattle.ch_depends.specs.declared.sides.Side.{Side}
use Rattle.ch_depends.specs.Depends.{IsDependence}
use Rattle.ch_depends.specs.Sought.{IsMet, Meets}
use Rattle.ch_depends.proofs.Asked.{Names, clashing, named}
use Rattle.ch_meeting.specs.Meeting.{IsMeeting, MeetsAt, differing_level, vector_at}
use Rattle.ch_space.specs.declared.piece.Piece.{Piece}
use Rattle.ch_space.specs.Keeps.{AreApart, IsWhole, places_of}
use Rattle.ch_space.specs.Pieces.{element_at, instances, listed}
use Rattle.ch_space.proofs.PieceElements.{StandsFor, element_places, levels_of, long, same_piece, whole_in}
use Rattle.ch_space.proofs.PieceNumbers.{in_listed, listed_in, nth_places, numbered}
use Rattle.ch_timed.specs.Conflict.{conflict}
use Rattle.ch_timed.specs.Groups.{piece}
use Rattle.ch_timed.specs.Members.{In}
use Rattle.ch_timed.specs.Timed.{step}
use Rattle.ch_timed.specs.Vectors.{comes_before, places, woven}
use Rattle.ch_timed.proofs.Orders.{map_in}

-- the level at which two vectors first differ is one of both

either : (P : ℕ → Type 0) (t : Bool) (m n : ℕ) → P m → P n → P (if t then m else n)
either P true m n a b = a
either P false m n a b = b

level_first : (k : ℕ) (ps xs w : List ℤ) → differing_level (suc k) (woven ps xs) w ≤ k + length xs
level_first k [] xs w = omega arith
level_first k (p ∷ ps) [] w = omega arith
level_first k (p ∷ ps) (x ∷ xs) [] = omega arith
level_first k (p ∷ ps) (x ∷ xs) (q ∷ []) = omega arith
level_first k (p ∷ ps) (x ∷ xs) (q ∷ y ∷ w) =
    let inner = level_first (suc k) ps xs w in
    either (λ n. n ≤ k + length (x ∷ xs)) (int_eq p q) _ 0 (either (λ n. n ≤ k + length (x ∷ xs)) (int_eq x y) _ (suc k) (omega arith) (omega arith)) (omega arith)

level_second : (k : ℕ) (v qs ys : List ℤ) → differing_level (suc k) v (woven qs ys) ≤ k + length ys
level_second k [] qs ys = omega arith
level_second k (p ∷ []) qs ys = omega arith
level_second k (p ∷ x ∷ v) [] ys = omega arith
level_second k (p ∷ x ∷ v) (q ∷ qs) [] = omega arith
level_second k (p ∷ x ∷ v) (q ∷ qs) (y ∷ ys) =
    let inner = level_second (suc k) v qs ys in
    either (λ n. n ≤ k + length (y ∷ ys)) (int_eq p q) _ 0 (either (λ n. n ≤ k + length (y ∷ ys)) (int_eq x y) _ (suc k) (omega arith) (omega arith)) (omega arith)

pub few_levels : (p q : Piece) (level : ℕ) → IsWhole p → IsWhole q → Meets p q level → (level ≤ p.levels) × (level ≤ q.levels)
few_levels p q level wp wq m =
    let t = m.meets in
    let a = level_first 0 (places_of p) t.first (vector_at q t.second) in
    let b = level_second 0 (vector_at p t.first) (places_of q) t.second in
    let c = levels_of p t.first wp t.meeting.first in
    let d = levels_of q t.second wq t.meeting.second in
    let e = t.differs in
    (omega arith, omega arith)

-- numbers of sides and of pieces

side_get : (sides : List Side) (k : ℕ) (s : Side) (d : Piece) → slice_get sides k ≡ Some s → (k < length (map (λ s. s.piece.now) sides)) × (get_or (map (λ s. s.piece.now) sides) k d ≡ s.piece.now)
side_get [] zero s d e = cc
side_get [] (suc k) s d e = cc
side_get (x ∷ xs) zero s d e = (let same : x ≡ s = cc in (omega arith, ap (λ z. z.piece.now) same))
side_get (x ∷ xs) (suc k) s d e = let r = side_get xs k s d e in (let l = r.0 in omega arith, r.1)

get_side : (sides : List Side) (k : ℕ) (d : Piece) → k < length (map (λ s. s.piece.now) sides) → (s : Side) × ((slice_get sides k ≡ Some s) × (get_or (map (λ s. s.piece.now) sides) k d ≡ s.piece.now))
get_side [] k d h = absurd (omega arith)
get_side (x ∷ xs) zero d h = (x, (refl, refl))
get_side (x ∷ xs) (suc k) d h = get_side xs k d (omega arith)

pub in_sides : (sides : List Side) (k : ℕ) (s : Side) → slice_get sides k ≡ Some s → In s sides
in_sides [] zero s e = cc
in_sides [] (suc k) s e = cc
in_sides (x ∷ xs) zero s e = inl cc
in_sides (x ∷ xs) (suc k) s e = inr (in_sides xs k s e)

beyond : (pss : List (List ℤ)) (k : ℕ) → length pss ≤ k → slice_index_or pss k [] ≡ []
beyond [] zero h = refl
beyond [] (suc k) h = refl
beyond (ps ∷ pss) zero h = absurd (omega arith)
beyond (ps ∷ pss) (suc k) h = beyond pss k (omega arith)

module _ (ps : List Piece) (apart : AreApart ps) (sides : List Side) (pieces : map (λ s. s.piece.now) sides ≡ ps) where
  piece_in : (k : ℕ) (s : Side) → slice_get sides k ≡ Some s → In s.piece.now ps
  piece_in k s e = subst (In s.piece.now) pieces (map_in (λ s. s.piece.now) sides s (in_sides sides k s e))

  number_of : (k : ℕ) (s : Side) → slice_get sides k ≡ Some s → piece (listed ps) k ≡ places_of s.piece.now
  number_of k s e =
      let r = side_get sides k s s.piece.now e in
      nth_places ps k s.piece.now apart (subst (λ z. k < length z) pieces r.0) ∙ ap (λ z. places_of (get_or z k s.piece.now)) (sym pieces) ∙ ap places_of r.1

  -- the side whose piece has these places
  side_of : (k : ℕ) (p : Piece) → In p ps → piece (listed ps) k ≡ places_of p → (s : Side) × ((slice_get sides k ≡ Some s) × (s.piece.now ≡ p))
  side_of k p i e = elim (cases_order k (length ps)) as (λ _. (s : Side) × ((slice_get sides k ≡ Some s) × (s.piece.now ≡ p))) [
    | inl h ↦ absurd (out (omega arith))
    | inr o ↦ elim o as (λ _. (s : Side) × ((slice_get sides k ≡ Some s) × (s.piece.now ≡ p))) [
      | inl h ↦
          let r = get_side sides k p (subst (λ z. k < length z) (sym pieces) h) in
          (r.0, (r.1.0, same_piece ps r.0.piece.now p apart (piece_in k r.0 r.1.0) i (sym (number_of k r.0 r.1.0) ∙ e)))
      | inr h ↦ absurd (out (omega arith))
    ]
  ]
    where
      out : length ps ≤ k → ⊥
      out l =
          let none : piece (listed ps) k ≡ [] = ap (λ z. slice_index_or z k []) (numbered ps apart) ∙ beyond (map places_of ps) k (rw length-map l) in
          let w = (whole_in ps p apart i).places in
          let n = ap length (sym e ∙ none) in
          let m = Rattle.ch_space.proofs.PieceElements.length_pos p.places in
          omega arith

  pub dependence : (t : Level) → IsMet sides t → IsDependence (listed ps) t
  dependence t h =
      let p : Piece = h.from.piece.now in
      let q : Piece = h.to.piece.now in
      let ip : In p ps = piece_in t.from h.from h.is_from in
      let iq : In q ps = piece_in t.to h.to h.is_to in
      let m : MeetsAt p q h.meets.access h.meets.other t.level = h.meets.meets in
      let g : IsMeeting p q h.meets.access h.meets.other m.first m.second = m.meeting in
      record {
        first = element_at p m.first;
        second = element_at q m.second;
        first_in = listed_in ps p (element_at p m.first) ip (map_in (element_at p) (instances p) m.first g.first);
        second_in = listed_in ps q (element_at q m.second) iq (map_in (element_at q) (instances q) m.second g.second);
        earlier = g.earlier;
        conflicting = clashing (step (element_at p m.first)) (step (element_at q m.second)) h.meets.access h.meets.other h.meets.asked g.cell;
        from = number_of t.from h.from h.is_from ∙ sym (element_places p m.first (whole_in ps p apart ip) g.first);
        to = number_of t.to h.to h.is_to ∙ sym (element_places q m.second (whole_in ps q apart iq) g.second);
        level = m.differs;
      }

  met_at : (p q : Piece) (xs ys : List ℤ) (level : ℕ) → In xs (instances p) → In ys (instances q) → IsTrue (comes_before (vector_at p xs) (vector_at q ys))
      → conflict (step (element_at p xs)) (step (element_at q ys)) ≢ None → differing_level 1 (vector_at p xs) (vector_at q ys) ≡ level → Meets p q level
  met_at p q xs ys level i j l c d =
      let n : Names (step (element_at p xs)) (step (element_at q ys)) = named (step (element_at p xs)) (step (element_at q ys)) c in
      record {
        access = n.access;
        other = n.other;
        asked = n.asked;
        meets = record { first = xs; second = ys; meeting = record { first = i; second = j; earlier = l; cell = n.cell }; differs = d };
      }

  pub met : (t : Level) → IsDependence (listed ps) t → IsMet sides t
  met t h =
      let a : StandsFor ps h.first = in_listed ps h.first h.first_in in
      let b : StandsFor ps h.second = in_listed ps h.second h.second_in in
      let wa = whole_in ps a.piece apart a.is_piece in
      let wb = whole_in ps b.piece apart b.is_piece in
      let s = side_of t.from a.piece a.is_piece (h.from ∙ ap (λ z. places z.vector) (sym a.is) ∙ element_places a.piece a.instance wa a.is_instance) in
      let u = side_of t.to b.piece b.is_piece (h.to ∙ ap (λ z. places z.vector) (sym b.is) ∙ element_places b.piece b.instance wb b.is_instance) in
      let here : Meets a.piece b.piece t.level =
      met_at a.piece b.piece a.instance b.instance t.level a.is_instance b.is_instance
      (subst (λ z. IsTrue (comes_before z.vector (vector_at b.piece b.instance))) (sym a.is) (subst (λ z. IsTrue (comes_before h.first.vector z.vector)) (sym b.is) h.earlier))
      (subst (λ z. conflict (step z) (step (element_at b.piece b.instance)) ≢ None) (sym a.is) (subst (λ z. conflict (step h.first) (step z) ≢ None) (sym b.is) h.conflicting))
      (ap (λ z. differing_level 1 z.vector (vector_at b.piece b.instance)) a.is ∙ ap (λ z. differing_level 1 h.first.vector z.vector) b.is ∙ h.level) in
      record {
        from = s.0;
        to = u.0;
        is_from = s.1.0;
        is_to = u.1.0;
        meets = subst (λ z. Meets z u.0.piece.now t.level) (sym s.1.1) (subst (λ z. Meets a.piece z t.level) (sym u.1.1) here);
      }
