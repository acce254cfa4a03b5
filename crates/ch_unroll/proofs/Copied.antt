-- The candidates of an unrolled loop have the elements of the list, moved.
use Rattle.std.proofs.Common.{◌≡◌, ◌≢◌, refl, sym, ap, ap₂, ◌∙◌, subst, ℕ, suc, ◌+◌, ◌-◌, ◌*◌, ◌<◌, ◌≤◌, ◌^◌, ℤ, pos, ◌+ℤ◌, ◌*ℤ◌, Bool, true, false, cond, List, [], ◌∷◌, ◌++◌, length, map, take, get_or, set, inl, inr, ◌⊎◌, arith}
use Rattle.std.specs.Int.{int_div_euclid, int_rem_euclid}
use Rattle.std.specs.List.{All, flat_map}
use Rattle.std.specs.Option.{IfSome}
use Rattle.std.proofs.lemmas.Bool.{cases_eq}
use Rattle.std.proofs.lemmas.Int.{ints}
use Rattle.std.proofs.lemmas.List.{get_or-set_same, length-map, length-set, map-set, set-get_or, set-set}
use Rattle.std.proofs.Math.IntN.{pos-*ℤ-pos}
use Rattle.ch_moved.specs.Substituted.{image}
use Rattle.ch_moved.proofs.Elements.{reindexed_element, same_iterators}
use Rattle.ch_moved.proofs.Limits.{more_limits}
use Rattle.ch_moved.proofs.Replaced.{places_apart, same_apart, turned}
use Rattle.ch_moved.proofs.Taken.{PlacesApart}
use Rattle.ch_moved.proofs.Values.{lies_length}
use Rattle.ch_pieces.specs.Assembled.{wide}
use Rattle.ch_pieces.specs.Candidates.{AreCandidates, ExecutesOne, IsKnown, stand_apart}
use Rattle.ch_pieces.specs.declared.candidate.Candidate.{Candidate}
use Rattle.ch_pieces.proofs.Spaces.{pairwise_append, places_differ}
use Rattle.ch_space.specs.declared.piece.Piece.{Piece}
use Rattle.ch_space.specs.Keeps.{AreApart, IsLimited, IsSpace, IsWhole, places_of}
use Rattle.ch_space.specs.Pieces.{element_at, elements, instances, listed}
use Rattle.ch_space.specs.Renumbered.{placed}
use Rattle.ch_space.proofs.Counted.{box_points_lie}
use Rattle.ch_space.proofs.EndsOf.{at_all}
use Rattle.ch_space.proofs.Membership.{append_left, append_right, box_points_in, flat_in, in_append, in_flat, in_instances}
use Rattle.ch_space.proofs.PieceElements.{each_from_in, element_places, element_values, later_in, length_pos, levels_of, never, whole_in}
use Rattle.ch_space.proofs.PieceNumbers.{all_in, in_listed, instance_in, listed_in, some_in}
use Rattle.ch_timed.specs.declared.element.Element.{Element}
use Rattle.ch_timed.specs.Closed.{at_vector}
use Rattle.ch_timed.specs.Members.{In, Pairwise}
use Rattle.ch_timed.specs.Timed.{step}
use Rattle.ch_timed.specs.Vectors.{places, shares, woven}
use Rattle.ch_timed.proofs.Orders.{in_map, map_in}
use Rattle.ch_timed.proofs.Prefixes.{apart}
use Rattle.ch_unroll.specs.declared.layout.Layout.{Layout}
use Rattle.ch_unroll.specs.Copies.{AllBecome, AreTurns, ArePlaced, Becomes, IsCopy, IsPlaced, IsTurn}
use Rattle.ch_unroll.specs.Turns.{turn_boxes, turn_forms}
use Rattle.ch_unroll.specs.Unrolled.{unrolled_element}
use Rattle.ch_unroll.proofs.Forms.{count_turn, image_turn}
use Rattle.ch_unroll.proofs.Growth.{boxes_count, lies_turn, limits_turn, long_forms, ranges_count}
use Rattle.ch_unroll.proofs.Layouts.{at_pos}
use Rattle.ch_unroll.proofs.Quotients.{IsParted, parted, parted_by}
use Rattle.ch_unroll.proofs.Splitting.{Splits, apart_split, inside_splits, outside_splits, shares_parts, splits_apart, splits_back, splits_differ, which_copy}

-- Which piece a candidate was made from, and how.

abbrev pub MadeFrom : Bool → Layout → Piece → Candidate → Type 0
MadeFrom true u p c = (r : ℕ) × (r < u.amount × IsTurn u p r c)
MadeFrom false u p c = IsCopy p c

pub record Comes (u : Layout) (ours : List ℤ) (ps : List Piece) (c : Candidate) : Type 0 where
  pub piece : Piece
  pub is_piece : In piece ps
  pub how : MadeFrom (shares u.level ours (places_of piece)) u piece c

turn_among : (u : Layout) (p : Piece) (k : ℕ) (cs : List Candidate) (c : Candidate) → AreTurns u p k cs → In c cs → (r : ℕ) × (k ≤ r × (r < k + length cs × IsTurn u p r c))
turn_among u p k [] c t i = absurd i
turn_among u p k (d ∷ cs) c t (inl e) = (k, (omega arith, (omega arith, subst (IsTurn u p k) e t.0)))
turn_among u p k (d ∷ cs) c t (inr i) = let r = turn_among u p (suc k) cs c t.1 i in (r.0, (let l = r.1.0 in omega arith, (let l = r.1.1.0 in omega arith, r.1.1.1)))

turn_of : (u : Layout) (p : Piece) (k r : ℕ) (cs : List Candidate) → AreTurns u p k cs → k ≤ r → r < k + length cs → (c : Candidate) × (In c cs × IsTurn u p r c)
turn_of u p k r [] t l m = absurd (omega arith)
turn_of u p k r (d ∷ cs) t l m = elim (cases_eq k r) as (λ _. (c : Candidate) × (In c (d ∷ cs) × IsTurn u p r c)) [
  | inl e ↦ (d, (inl refl, subst (λ n. IsTurn u p n d) e t.0))
  | inr n ↦ let s = turn_of u p (suc k) r cs t.1 (omega arith) (omega arith) in (s.0, (inr s.1.0, s.1.1))
]

made_among : (b : Bool) (u : Layout) (p : Piece) (cs : List Candidate) (c : Candidate) → Becomes b u p cs → In c cs → MadeFrom b u p c
made_among true u p cs c h i = let r = turn_among u p 0 cs c h.are i in (r.0, (let l = r.1.1.0 in let m = h.many in omega arith, r.1.1.1))
made_among false u p cs c h i = from (subst (In c) h.is i)
  where
    from : In c (h.one ∷ []) → IsCopy p c
    from (inl e) = subst (IsCopy p) e h.copy
    from (inr j) = absurd j

pub all_come : (u : Layout) (ours : List ℤ) (ps : List Piece) (cs : List Candidate) (c : Candidate) → AllBecome u ours ps cs → In c cs → Comes u ours ps c
all_come u ours [] cs c h i = absurd (subst (In c) h i)
all_come u ours (p ∷ ps) cs c h i = elim (in_append h.first h.rest c (subst (In c) h.is i)) as (λ _. Comes u ours (p ∷ ps) c) [
  | inl j ↦ record { piece = p; is_piece = inl refl; how = made_among (shares u.level ours (places_of p)) u p h.first c h.are j }
  | inr j ↦ let s = all_come u ours ps h.rest c h.rest_are j in record { piece = s.piece; is_piece = inr s.is_piece; how = s.how }
]

-- what a piece becomes

abbrev Gives : Bool → Layout → Piece → List Candidate → Type 0
Gives true u p cs = (r : ℕ) → r < u.amount → (c : Candidate) × (In c cs × IsTurn u p r c)
Gives false u p cs = (c : Candidate) × (In c cs × IsCopy p c)

gives_first : (b : Bool) (u : Layout) (p : Piece) (first rest : List Candidate) → Becomes b u p first → Gives b u p (first ++ rest)
gives_first true u p first rest h = λ r l.
    let m = h.many in
    let c = turn_of u p 0 r first h.are (omega arith) (omega arith) in
    (c.0, (append_left first rest c.0 c.1.0, c.1.1))
gives_first false u p first rest h = (h.one, (append_left first rest h.one (subst (In h.one) (sym h.is) (inl refl)), h.copy))

gives_rest : (b : Bool) (u : Layout) (p : Piece) (first rest : List Candidate) → Gives b u p rest → Gives b u p (first ++ rest)
gives_rest true u p first rest h = λ r l. let c = h r l in (c.0, (append_right first rest c.0 c.1.0, c.1.1))
gives_rest false u p first rest h = (h.0, (append_right first rest h.0 h.1.0, h.1.1))

all_give : (u : Layout) (ours : List ℤ) (ps : List Piece) (cs : List Candidate) (p : Piece) → AllBecome u ours ps cs → In p ps → Gives (shares u.level ours (places_of p)) u p cs
all_give u ours [] cs p h i = absurd i
all_give u ours (q ∷ ps) cs p h (inl e) =
    subst (λ z. Gives (shares u.level ours (places_of z)) u z cs) e
    (subst (Gives (shares u.level ours (places_of q)) u q) (sym h.is) (gives_first (shares u.level ours (places_of q)) u q h.first h.rest h.are))
all_give u ours (q ∷ ps) cs p h (inr i) =
    subst (Gives (shares u.level ours (places_of p)) u p) (sym h.is) (gives_rest (shares u.level ours (places_of p)) u p h.first h.rest (all_give u ours ps h.rest p h.rest_are i))

-- One candidate.

wide_copy : (p : Piece) (c : Candidate) → IsCopy p c → wide c ≡ p
wide_copy p c h = ap₂ placed h.piece h.places

wide_places : (u : Layout) (p : Piece) (r : ℕ) (c : Candidate) → IsTurn u p r c → places_of (wide c) ≡ set (places_of p) u.behind (pos (r * u.width + get_or p.places u.behind 0))
wide_places u p r c h = ap (map pos) h.places ∙ map-set pos p.places u.behind (r * u.width + get_or p.places u.behind 0)

length_turn : (u : Layout) (p : Piece) (r : ℕ) (c : Candidate) → IsTurn u p r c → length c.places ≡ length p.places
length_turn u p r c h = ap length h.places ∙ length-set p.places u.behind (r * u.width + get_or p.places u.behind 0)

whole_turn : (u : Layout) (p : Piece) (r : ℕ) (c : Candidate) → IsTurn u p r c → IsWhole (wide c)
whole_turn u p r c h =
    let w = h.piece.whole in
    record {
      places = let a = length_turn u p r c h in let b = ap length h.piece.places in let e = w.places in omega arith;
      variables = w.variables;
      boxes = w.boxes;
      origin = w.origin;
    }

limited_placed : (weight commands : ℕ) (q : Piece) (ns : List ℕ) → IsLimited weight commands q → IsLimited weight commands (placed q ns)
limited_placed weight commands q ns l = record { levels = l.levels; iterators = l.iterators; variables = l.variables; boxes = l.boxes; origin = l.origin }

-- an element at another vector, where the piece is at other places
placed_element : (q : Piece) (ns : List ℕ) (ys : List ℤ) → element_at (placed q ns) ys ≡ at_vector (element_at q ys) (woven (map pos ns) ys)
placed_element q ns ys = refl

module _ (u : Layout) (p : Piece) (fine : IsPlaced u p) (r : ℕ) (less : r < u.amount) (c : Candidate) (h : IsTurn u p r c) where
  l : ℕ
  l = u.level - 1

  in_levels : u.level - 1 < p.levels
  in_levels = let a = fine.level in let b = fine.deeper in let d = fine.behind in omega arith

  few : r ≤ 2 ^ 20
  few = let a = fine.few in omega arith

  limited_turn : (weight commands : ℕ) → 1 ≤ weight → IsLimited weight commands p → IsLimited (weight * u.amount) (commands + 1) (wide c)
  limited_turn weight commands some k =
      limited_placed (weight * u.amount) (commands + 1) c.piece c.places
      (limits_turn p (u.level - 1) u.amount r fine.whole in_levels fine.room fine.some few c.piece p.places weight commands some h.piece k)

  -- the element of old values is that of their quotients
  same_element : (xs ys : List ℤ) → length ys ≡ p.levels → image (turn_forms p.levels (u.level - 1) u.amount r) ys ≡ xs
      → element_at (wide c) ys ≡ at_vector (element_at p xs) (woven (places_of (wide c)) ys)
  same_element xs ys e i =
      let n = boxes_count p (u.level - 1) u.amount r fine.whole in_levels fine.room fine.some few in
      ap (λ z. at_vector z (woven (map pos c.places) ys))
      (reindexed_element p c.piece (turn_forms p.levels (u.level - 1) u.amount r) (turn_boxes (u.level - 1) u.amount (take p.levels p.system.boxes)) [] p.places fine.whole
      (count_turn p.levels (u.level - 1) u.amount r) (long_forms p (u.level - 1) u.amount r fine.whole in_levels fine.room fine.some few) h.piece ys (e ∙ sym n)
      ∙ ap (λ z. at_vector (element_at p z) (woven (places_of c.piece) ys)) i)

  -- what unrolling makes of an element with that remainder
  moved_element : (xs ys : List ℤ) → In xs (instances p) → IsParted (get_or xs (u.level - 1) (pos 0)) (get_or ys (u.level - 1) (pos 0)) u.amount r → ys ≡ set xs (u.level - 1) (get_or ys (u.level - 1) (pos 0))
      → unrolled_element u.behind (pos u.width) (pos u.level) (pos u.amount) (element_at p xs) ≡ at_vector (element_at p xs) (woven (places_of (wide c)) ys)
  moved_element xs ys i part e =
      let a = element_places p xs fine.whole i in
      let b = element_values p xs fine.whole i in
      let at = at_pos p.places u.behind in
      let sum : pos r *ℤ pos u.width +ℤ get_or (places_of p) u.behind (pos 0) ≡ pos (r * u.width + get_or p.places u.behind 0) =
      ap₂ (λ x y. x +ℤ y) (pos-*ℤ-pos r u.width) at in
      ap₂ (λ ps vs. at_vector (element_at p xs) (woven
      (set ps u.behind (int_rem_euclid (get_or vs (u.level - 1) (pos 0)) (pos u.amount) *ℤ pos u.width +ℤ get_or ps u.behind (pos 0)))
      (set vs (u.level - 1) (int_div_euclid (get_or vs (u.level - 1) (pos 0)) (pos u.amount))))) a b
      ∙ ap₂ (λ x y. at_vector (element_at p xs) (woven (set (places_of p) u.behind (x *ℤ pos u.width +ℤ get_or (places_of p) u.behind (pos 0))) (set xs (u.level - 1) y))) part.remainder part.quotient
      ∙ ap₂ (λ x y. at_vector (element_at p xs) (woven (set (places_of p) u.behind x) y)) sum (sym e)
      ∙ ap (λ z. at_vector (element_at p xs) (woven z ys)) (sym (wide_places u p r c h))

  there : (xs : List ℤ) → In xs (instances p) → int_rem_euclid (get_or xs (u.level - 1) (pos 0)) (pos u.amount) ≡ pos r
      → In (unrolled_element u.behind (pos u.width) (pos u.level) (pos u.amount) (element_at p xs)) (elements (wide c))
  there xs i rest =
      let x = get_or xs (u.level - 1) (pos 0) in
      let q = int_div_euclid x (pos u.amount) in
      let ys = set xs (u.level - 1) q in
      let lx = levels_of p xs fine.whole i in
      let ly : length ys ≡ p.levels = length-set xs (u.level - 1) q ∙ lx in
      let inside = in_levels in
      let at : get_or ys (u.level - 1) (pos 0) ≡ q = get_or-set_same xs (u.level - 1) q (pos 0) (omega arith) in
      let first = parted x u.amount fine.some in
      let same : first.0 ≡ r = (let a = sym first.1.remainder ∙ rest in omega (arith, ints)) in
      let part = subst (IsParted x q u.amount) same first.1 in
      let back : image (turn_forms p.levels (u.level - 1) u.amount r) ys ≡ xs =
      image_turn p.levels (u.level - 1) u.amount r ys ly in_levels ∙ ap (λ z. set ys (u.level - 1) (pos u.amount *ℤ z +ℤ pos r)) at ∙ ap (set ys (u.level - 1)) (sym part.is)
      ∙ set-set xs (u.level - 1) q x ∙ set-get_or xs (u.level - 1) (pos 0) in
      let lies = box_points_lie (take p.levels p.system.boxes) xs (box_points_in (take p.levels p.system.boxes) xs (in_instances p xs i).inside) in
      let n = ranges_count p (u.level - 1) u.amount r fine.whole in_levels fine.room fine.some few in
      let new : In ys (instances c.piece) =
      (h.piece.is_instance ys).1 (lies_turn (u.level - 1) u.amount (take p.levels p.system.boxes) xs fine.some (omega arith) lies, refl, subst (λ z. In z (instances p)) (sym back) i) in
      subst (λ z. In z (elements (wide c)))
      (same_element xs ys ly back ∙ sym (moved_element xs ys i (subst (λ z. IsParted x z u.amount r) (sym at) part) (ap (set xs (u.level - 1)) (sym at))))
      (map_in (element_at (wide c)) (instances c.piece) ys new)

  here : (f : Element) → In f (elements (wide c))
      → (xs : List ℤ) × (In xs (instances p) × (unrolled_element u.behind (pos u.width) (pos u.level) (pos u.amount) (element_at p xs) ≡ f))
  here f j =
      let y = in_map (element_at (wide c)) (instances c.piece) f j in
      let ys = y.0 in
      let s = (h.piece.is_instance ys).0 y.1.0 in
      let n = boxes_count p (u.level - 1) u.amount r fine.whole in_levels fine.room fine.some few in
      let ly : length ys ≡ p.levels = lies_length (turn_boxes (u.level - 1) u.amount (take p.levels p.system.boxes)) ys s.0 ∙ n in
      let inside = in_levels in
      let x = pos u.amount *ℤ get_or ys (u.level - 1) (pos 0) +ℤ pos r in
      let back = image_turn p.levels (u.level - 1) u.amount r ys ly in_levels in
      let xs = image (turn_forms p.levels (u.level - 1) u.amount r) ys in
      let at : get_or xs (u.level - 1) (pos 0) ≡ x = ap (λ z. get_or z (u.level - 1) (pos 0)) back ∙ get_or-set_same ys (u.level - 1) x (pos 0) (omega arith) in
      let part = parted_by (get_or xs (u.level - 1) (pos 0)) (get_or ys (u.level - 1) (pos 0)) u.amount r less at in
      let again : ys ≡ set xs (u.level - 1) (get_or ys (u.level - 1) (pos 0)) =
      sym (ap (λ z. set z (u.level - 1) (get_or ys (u.level - 1) (pos 0))) back ∙ set-set ys (u.level - 1) x (get_or ys (u.level - 1) (pos 0)) ∙ set-get_or ys (u.level - 1) (pos 0)) in
      (xs, (s.2, moved_element xs ys s.2 part again ∙ sym (same_element xs ys ly refl) ∙ y.1.1))

-- What holds of a candidate, however it was made.

-- it executes the statement of the piece
pub record SameStatement (p q : Piece) : Type 0 where
  pub label : q.label ≡ p.label
  pub body : q.body ≡ p.body
  pub iterators : length q.origin ≡ length p.origin

abbrev AllApart : List Candidate → Type 0
AllApart = Pairwise (λ c d. places_of (wide c) ≢ places_of (wide d))

module _ (u : Layout) (ours : List ℤ) (ps : List Piece) (a : AreApart ps) (fine : All (ArePlaced u ours) ps)
    (deep : (p : Piece) → In p ps → shares u.level ours (places_of p) ≡ true → shares u.behind ours (places_of p) ≡ true) where
  placed_at : (p : Piece) → In p ps → shares u.level ours (places_of p) ≡ true → IsPlaced u p
  placed_at p i = at_all (ArePlaced u ours) ps p fine i

  whole_by : (b : Bool) (p : Piece) (c : Candidate) → IsWhole p → MadeFrom b u p c → IsWhole (wide c)
  whole_by true p c w h = whole_turn u p h.0 c h.1.1
  whole_by false p c w h = subst IsWhole (sym (wide_copy p c h)) w

  whole_of : (c : Candidate) → Comes u ours ps c → IsWhole (wide c)
  whole_of c h = whole_by (shares u.level ours (places_of h.piece)) h.piece c (whole_in ps h.piece a h.is_piece) h.how

  known_by : (b : Bool) (p : Piece) (c : Candidate) → MadeFrom b u p c → IsKnown c
  known_by true p c h = subst (λ o. IfSome o (λ n. n ≡ length (instances c.piece))) (sym h.1.1.count) tt
  known_by false p c h = subst (λ o. IfSome o (λ n. n ≡ length (instances c.piece))) (sym h.count) (ap (λ q. length (instances q)) (sym h.piece))

  known_of : (c : Candidate) → Comes u ours ps c → IsKnown c
  known_of c h = known_by (shares u.level ours (places_of h.piece)) h.piece c h.how

  limited_by : (b : Bool) (weight commands : ℕ) (p : Piece) (c : Candidate) → 1 ≤ weight → 1 ≤ u.amount → (b ≡ true → IsPlaced u p) → MadeFrom b u p c → IsLimited weight commands p
      → IsLimited (weight * u.amount) (commands + 1) (wide c)
  limited_by true weight commands p c some grows f h l = limited_turn u p (f refl) h.0 h.1.0 c h.1.1 weight commands some l
  limited_by false weight commands p c some grows f h l =
      subst (IsLimited (weight * u.amount) (commands + 1)) (sym (wide_copy p c h)) (more_limits weight commands u.amount p some grows l)

  limited_of : (weight commands : ℕ) (c : Candidate) → 1 ≤ weight → 1 ≤ u.amount → All (IsLimited weight commands) ps → Comes u ours ps c → IsLimited (weight * u.amount) (commands + 1) (wide c)
  limited_of weight commands c some grows l h =
      limited_by (shares u.level ours (places_of h.piece)) weight commands h.piece c some grows (placed_at h.piece h.is_piece) h.how (at_all (IsLimited weight commands) ps h.piece l h.is_piece)

  same_by : (b : Bool) (p : Piece) (c : Candidate) → (b ≡ true → IsPlaced u p) → IsWhole p → MadeFrom b u p c → SameStatement p (wide c)
  same_by true p c f w h = record {
    label = h.1.1.piece.label;
    body = h.1.1.piece.body;
    iterators = same_iterators p c.piece _ _ _ _ w (count_turn p.levels (u.level - 1) u.amount h.0) (long_forms p (u.level - 1) u.amount h.0 w (in_levels u p (f refl) h.0 h.1.0 c h.1.1) (f refl).room (f refl).some (few u p (f refl) h.0 h.1.0 c h.1.1)) h.1.1.piece;
  }
  same_by false p c f w h = subst (SameStatement p) (sym (wide_copy p c h)) (record { label = refl; body = refl; iterators = refl })

  executes_of : (c : Candidate) → Comes u ours ps c → ExecutesOne (listed ps) (wide c)
  executes_of c h =
      let p = h.piece in
      let s = same_by (shares u.level ours (places_of p)) p c (placed_at p h.is_piece) (whole_in ps p a h.is_piece) h.how in
      let x = some_in (instances p) (instance_in ps p a h.is_piece) in
      record {
        element = element_at p x.0;
        is_element = listed_in ps p (element_at p x.0) h.is_piece (map_in (element_at p) (instances p) x.0 x.1);
        label = s.label;
        body = s.body;
        iterators = s.iterators ∙ sym (length-map p.origin _);
      }

  -- Two candidates differ at a place, or stand at the same places and were made from pieces that did.
  abbrev Meets : Piece → Piece → Candidate → Candidate → Type 0
  Meets p q c d = Splits (places_of (wide c)) (places_of (wide d)) ⊎ ((places_of (wide c) ≡ places_of (wide d)) × (places_of p ≡ places_of q))

  meets_back : (p q : Piece) (c d : Candidate) → Meets p q c d → Meets q p d c
  meets_back p q c d (inl s) = inl (splits_back (places_of (wide c)) (places_of (wide d)) s)
  meets_back p q c d (inr s) = inr (sym s.0, sym s.1)

  copies_meet : (p q : Piece) (c d : Candidate) → IsCopy p c → IsCopy q d → apart (places_of p) (places_of q) ≡ true → Meets p q c d
  copies_meet p q c d h k f =
      let e = ap places_of (wide_copy p c h) in
      let g = ap places_of (wide_copy q d k) in
      elim (apart_split (places_of p) (places_of q) f) as (λ _. Meets p q c d) [
        | inl s ↦ inr (e ∙ s ∙ sym g, s)
        | inr s ↦ inl (subst (λ x. Splits x (places_of (wide d))) (sym e) (subst (Splits (places_of p)) (sym g) s))
      ]

  turn_meets : (p q : Piece) (r : ℕ) (c d : Candidate) → IsPlaced u p → IsTurn u p r c → IsCopy q d → shares u.level ours (places_of p) ≡ true → shares u.level ours (places_of q) ≡ false
      → apart (places_of p) (places_of q) ≡ true → Meets p q c d
  turn_meets p q r c d w h k s t f =
      inl (subst (λ x. Splits x (places_of (wide d))) (sym (wide_places u p r c h))
      (subst (Splits (set (places_of p) u.behind (pos (r * u.width + get_or p.places u.behind 0)))) (sym (ap places_of (wide_copy q d k)))
      (outside_splits u.level u.behind ours (places_of p) (places_of q) (pos (r * u.width + get_or p.places u.behind 0)) w.deeper s t f)))

  turns_meet : (p q : Piece) (r s : ℕ) (c d : Candidate) → IsPlaced u p → IsPlaced u q → IsTurn u p r c → IsTurn u q s d → shares u.behind ours (places_of p) ≡ true → shares u.behind ours (places_of q) ≡ true
      → apart (places_of p) (places_of q) ≡ true → Meets p q c d
  turns_meet p q r s c d w x h k i j f =
      let m = get_or p.places u.behind 0 in
      let n = get_or q.places u.behind 0 in
      let sp = shares_parts u.behind ours (places_of p) i in
      let sq = shares_parts u.behind ours (places_of q) j in
      let same : pos (r * u.width + m) ≡ pos (s * u.width + n) → get_or (places_of p) u.behind (pos 0) ≡ get_or (places_of q) u.behind (pos 0) =
      λ e. at_pos p.places u.behind ∙ ap pos (which_copy u.width r s m n w.place x.place (let g = e in omega (arith, ints))).1 ∙ sym (at_pos q.places u.behind) in
      elim (inside_splits u.behind (places_of p) (places_of q) (pos (r * u.width + m)) (pos (s * u.width + n)) sp.in_theirs sq.in_theirs (sym sp.same ∙ sq.same) same f) as (λ _. Meets p q c d) [
        | inl y ↦ inl (subst (λ z. Splits z (places_of (wide d))) (sym (wide_places u p r c h)) (subst (Splits (set (places_of p) u.behind (pos (r * u.width + m)))) (sym (wide_places u q s d k)) y))
        | inr y ↦ inr (wide_places u p r c h ∙ ap₂ (λ z v. set z u.behind v) y.1 y.0 ∙ sym (wide_places u q s d k), y.1)
      ]

  meet_by : (b e : Bool) (p q : Piece) (c d : Candidate) → shares u.level ours (places_of p) ≡ b → shares u.level ours (places_of q) ≡ e → In p ps → In q ps → MadeFrom b u p c → MadeFrom e u q d
      → apart (places_of p) (places_of q) ≡ true → Meets p q c d
  meet_by true true p q c d s t i j h k f = turns_meet p q h.0 k.0 c d (placed_at p i s) (placed_at q j t) h.1.1 k.1.1 (deep p i s) (deep q j t) f
  meet_by true false p q c d s t i j h k f = turn_meets p q h.0 c d (placed_at p i s) h.1.1 k s t f
  meet_by false true p q c d s t i j h k f = meets_back q p d c (turn_meets q p k.0 d c (placed_at q j t) k.1.1 h t s (turned (places_of p) (places_of q) f))
  meet_by false false p q c d s t i j h k f = copies_meet p q c d h k f

  module _ (far : PlacesApart ps) where
    meet : (c d : Candidate) (h : Comes u ours ps c) (k : Comes u ours ps d) → Meets h.piece k.piece c d
    meet c d h k =
        meet_by (shares u.level ours (places_of h.piece)) (shares u.level ours (places_of k.piece)) h.piece k.piece c d refl refl h.is_piece k.is_piece h.how k.how
        (far h.piece k.piece h.is_piece k.is_piece)

    apart_of : (c d : Candidate) → Comes u ours ps c → Comes u ours ps d → stand_apart (places_of (wide c)) (places_of (wide d)) ≡ true
    apart_of c d h k = elim (meet c d h k) as (λ _. stand_apart (places_of (wide c)) (places_of (wide d)) ≡ true) [
      | inl s ↦ splits_apart (places_of (wide c)) (places_of (wide d)) s
      | inr e ↦ subst (λ z. apart (places_of (wide c)) z ≡ true) e.0 (same_apart (places_of (wide c)))
    ]

    -- no two candidates stand at the same places

    not_same : (p : Piece) (k : ℕ) (cs : List Candidate) (c d : Candidate) → IsPlaced u p → IsTurn u p k c → AreTurns u p (suc k) cs → In d cs → places_of (wide c) ≡ places_of (wide d) → ⊥
    not_same p k cs c d w h t i e =
        let s = turn_among u p (suc k) cs d t i in
        let m = get_or p.places u.behind 0 in
        let b = w.behind in
        let n = w.whole.places in
        let lp : u.behind < length (places_of p) = (let l = length_pos p.places in omega arith) in
        let v = pos (k * u.width + m) in
        let x = pos (s.0 * u.width + m) in
        let f : set (places_of p) u.behind v ≡ set (places_of p) u.behind x = sym (wide_places u p k c h) ∙ e ∙ wide_places u p s.0 d s.1.1.1 in
        let g : v ≡ x = sym (get_or-set_same (places_of p) u.behind v (pos 0) lp) ∙ ap (λ z. get_or z u.behind (pos 0)) f ∙ get_or-set_same (places_of p) u.behind x (pos 0) lp in
        let same = (which_copy u.width k s.0 m m w.place w.place (omega (arith, ints))).0 in
        let l = s.1.0 in
        omega arith

    turns_differ : (p : Piece) (k : ℕ) (cs : List Candidate) → IsPlaced u p → AreTurns u p k cs → AllApart cs
    turns_differ p k [] w t = tt
    turns_differ p k (c ∷ cs) w t = (each_from_in (λ d. places_of (wide c) ≢ places_of (wide d)) cs (λ d i. not_same p k cs c d w t.0 t.1 i), turns_differ p (suc k) cs w t.1)

    pieces_differ : (b : Bool) (p : Piece) (cs : List Candidate) → (b ≡ true → IsPlaced u p) → Becomes b u p cs → AllApart cs
    pieces_differ true p cs w h = turns_differ p 0 cs (w refl) h.are
    pieces_differ false p cs w h = subst AllApart (sym h.is) (tt, tt)

    differ_from : (qs : List Piece) (cs : List Candidate) → ((q : Piece) → In q qs → In q ps) → AreApart qs → AllBecome u ours qs cs → AllApart cs
    differ_from [] cs s b h = subst AllApart (sym h) tt
    differ_from (q ∷ qs) cs s b h =
        subst AllApart (sym h.is)
        (pairwise_append (λ c d. places_of (wide c) ≢ places_of (wide d)) h.first h.rest (pieces_differ (shares u.level ours (places_of q)) q h.first (placed_at q (s q (inl refl))) h.are)
        (differ_from qs h.rest (λ z y. s z (inr y)) b.3 h.rest_are) away)
      where
        away : (x y : Candidate) → In x h.first → In y h.rest → places_of (wide x) ≡ places_of (wide y) → ⊥
        away x y k l f =
            let from = all_come u ours qs h.rest y h.rest_are l in
            let here : Comes u ours ps x = record { piece = q; is_piece = s q (inl refl); how = made_among (shares u.level ours (places_of q)) u q h.first x h.are k } in
            let there : Comes u ours ps y = record { piece = from.piece; is_piece = s from.piece (inr from.is_piece); how = from.how } in
            elim (meet x y here there) as (λ _. ⊥) [
              | inl z ↦ splits_differ (places_of (wide x)) (places_of (wide y)) z f
              | inr z ↦ never (places_of q) (places_of from.piece) (later_in (places_of q) qs from.piece b.2 from.is_piece) z.1
            ]

-- what unrolling does, from the layout
abbrev pub moves : Layout → List ℤ → Element → Element
moves u ours e = cond (shares u.level ours (places e.vector)) (unrolled_element u.behind (pos u.width) (pos u.level) (pos u.amount) e) e

keeps_by : (b : Bool) (e : Element) (v : List ℤ) → step (cond b (at_vector e v) e) ≡ step e
keeps_by true e v = refl
keeps_by false e v = refl

module _ (u : Layout) (ours : List ℤ) (arrays : ℕ) (ps : List Piece) (counts : List ℕ) (temps : List (List ℕ)) (weight commands : ℕ) (space : IsSpace arrays ps counts temps weight commands) (cs : List Candidate)
    (fine : All (ArePlaced u ours) ps) (deep : (p : Piece) → In p ps → shares u.level ours (places_of p) ≡ true → shares u.behind ours (places_of p) ≡ true) (become : AllBecome u ours ps cs) where
  come : (c : Candidate) → In c cs → Comes u ours ps c
  come c i = all_come u ours ps cs c become i

  far : PlacesApart ps
  far = places_apart ps space.apart space.well_formed

  moves_at : (p : Piece) (xs : List ℤ) → In p ps → In xs (instances p)
      → moves u ours (element_at p xs) ≡ cond (shares u.level ours (places_of p)) (unrolled_element u.behind (pos u.width) (pos u.level) (pos u.amount) (element_at p xs)) (element_at p xs)
  moves_at p xs i j = ap (λ z. cond (shares u.level ours z) (unrolled_element u.behind (pos u.width) (pos u.level) (pos u.amount) (element_at p xs)) (element_at p xs)) (element_places p xs (whole_in ps p space.apart i) j)

  in_wide : (c : Candidate) (e : Element) → In c cs → In e (elements (wide c)) → In e (flat_map elements (map wide cs))
  in_wide c e i j = flat_in elements (map wide cs) (wide c) e (map_in wide cs c i) j

  forth_by : (b : Bool) (p : Piece) (xs : List ℤ) → shares u.level ours (places_of p) ≡ b → In p ps → In xs (instances p) → Gives b u p cs
      → In (cond b (unrolled_element u.behind (pos u.width) (pos u.level) (pos u.amount) (element_at p xs)) (element_at p xs)) (flat_map elements (map wide cs))
  forth_by true p xs s i j g =
      let w = at_all (ArePlaced u ours) ps p fine i s in
      let rest = parted (get_or xs (u.level - 1) (pos 0)) u.amount w.some in
      let c = g rest.0 rest.1.less in
      in_wide c.0 _ c.1.0 (there u p w rest.0 rest.1.less c.0 c.1.1 xs j rest.1.remainder)
  forth_by false p xs s i j g =
      in_wide g.0 (element_at p xs) g.1.0 (subst (λ q. In (element_at p xs) (elements q)) (sym (wide_copy p g.0 g.1.1)) (map_in (element_at p) (instances p) xs j))

  forth_of : (e : Element) → In e (listed ps) → In (moves u ours e) (flat_map elements (map wide cs))
  forth_of e i =
      let s = in_listed ps e i in
      subst (λ z. In (moves u ours z) (flat_map elements (map wide cs))) s.is
      (subst (λ z. In z (flat_map elements (map wide cs))) (sym (moves_at s.piece s.instance s.is_piece s.is_instance))
      (forth_by (shares u.level ours (places_of s.piece)) s.piece s.instance refl s.is_piece s.is_instance (all_give u ours ps cs s.piece become s.is_piece)))

  back_by : (b : Bool) (p : Piece) (c : Candidate) (f : Element) → shares u.level ours (places_of p) ≡ b → In p ps → MadeFrom b u p c → In f (elements (wide c))
      → (xs : List ℤ) × (In xs (instances p) × (cond b (unrolled_element u.behind (pos u.width) (pos u.level) (pos u.amount) (element_at p xs)) (element_at p xs) ≡ f))
  back_by true p c f s i h j = here u p (at_all (ArePlaced u ours) ps p fine i s) h.0 h.1.0 c h.1.1 f j
  back_by false p c f s i h j = in_map (element_at p) (instances p) f (subst (λ q. In f (elements q)) (wide_copy p c h) j)

  back_of : (f : Element) → In f (flat_map elements (map wide cs)) → (e : Element) × In e (listed ps) × (moves u ours e ≡ f)
  back_of f i =
      let q = in_flat elements (map wide cs) f i in
      let c = in_map wide cs q.0 q.1.0 in
      let h = come c.0 c.1.0 in
      let x = back_by (shares u.level ours (places_of h.piece)) h.piece c.0 f refl h.is_piece h.how (subst (λ z. In f (elements z)) (sym c.1.1) q.1.1) in (
        element_at h.piece x.0,
        listed_in ps h.piece (element_at h.piece x.0) h.is_piece (map_in (element_at h.piece) (instances h.piece) x.0 x.1.0),
        moves_at h.piece x.0 h.is_piece x.1.0 ∙ x.1.1,
      )

  apart_all : (q r : Piece) → In q (map wide cs) → In r (map wide cs) → stand_apart (places_of q) (places_of r) ≡ true
  apart_all q r i j =
      let c = in_map wide cs q i in
      let d = in_map wide cs r j in
      subst (λ z. stand_apart (places_of z) (places_of r) ≡ true) c.1.1
      (subst (λ z. stand_apart (places_of (wide c.0)) (places_of z) ≡ true) d.1.1 (apart_of u ours ps space.apart fine deep far c.0 d.0 (come c.0 c.1.0) (come d.0 d.1.0)))

  executes_all : (q : Piece) → In q (map wide cs) → ExecutesOne (listed ps) q
  executes_all q i = let c = in_map wide cs q i in subst (ExecutesOne (listed ps)) c.1.1 (executes_of u ours ps space.apart fine deep c.0 (come c.0 c.1.0))

  pub are_candidates : 1 ≤ u.amount → AreCandidates (moves u ours) (listed ps) (weight * u.amount) (commands + 1) cs
  are_candidates grows = record {
    steps = λ e. keeps_by (shares u.level ours (places e.vector)) e _;
    whole = all_in (λ c. IsWhole (wide c)) cs (λ c i. whole_of u ours ps space.apart fine deep c (come c i));
    known = all_in IsKnown cs (λ c i. known_of u ours ps space.apart fine deep c (come c i));
    differ = places_differ cs (differ_from u ours ps space.apart fine deep far ps cs (λ p k. k) space.apart become);
    apart = apart_all;
    executes = executes_all;
    forth = forth_of;
    back = back_of;
    limited =
        all_in (λ c. IsLimited (weight * u.amount) (commands + 1) (wide c)) cs
        (λ c i. limited_of u ours ps space.apart fine deep weight commands c space.some_weight grows space.limited (come c i));
  }
