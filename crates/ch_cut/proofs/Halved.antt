-- The candidates of one piece have its elements, cut.
use Rattle.std.proofs.Common.{◌≡◌, refl, sym, ap, ap₂, ◌∙◌, subst, ℕ, ◌+◌, ◌-◌, ◌*◌, ◌<◌, ◌≤◌, inl, inr, ℤ, pos, Bool, true, false, not, if◌then◌else◌, Some, List, [], ◌∷◌, map, length, take, arith, length-take-le, Result, Ok, Err}
use Rattle.std.specs.Result.{IfOk}
use Rattle.std.specs.Option.{IfSome}
use Rattle.std.specs.declared.alloc.AllocError.{AllocError}
use Rattle.std.specs.List.{All}
use Rattle.std.proofs.lemmas.Bool.{and_from, and_parts, false≢true}
use Rattle.std.proofs.lemmas.List.{length-set}
use Rattle.ch_affine.specs.Form.{Form}
use Rattle.ch_cut.specs.Cut.{behind}
use Rattle.ch_cut.specs.Forms.{failing, holds_at}
use Rattle.ch_cut.specs.Parts.{AreHalves, AreParts, IsHalf, IsPart, cut_element, cut_places, doubled}
use Rattle.ch_cut.proofs.CutForms.{failing_holds, holds_wider}
use Rattle.ch_cut.proofs.CutPlaces.{beside_deep, same_side}
use Rattle.ch_cut.proofs.UnitColumns.{long_units, narrow_all}
use Rattle.ch_moved.specs.Arguments.{beside}
use Rattle.ch_moved.specs.Spread.{widened}
use Rattle.ch_moved.specs.Substituted.{substituted}
use Rattle.ch_moved.proofs.Elements.{reindexed_element, reindexed_limits, same_iterators}
use Rattle.ch_moved.proofs.Limits.{more_limits}
use Rattle.ch_moved.proofs.UnitForms.{image_units}
use Rattle.ch_moved.proofs.Values.{lies_length}
use Rattle.ch_pieces.specs.declared.candidate.Candidate.{Candidate}
use Rattle.ch_pieces.specs.Assembled.{wide}
use Rattle.ch_space.specs.Built.{units}
use Rattle.ch_space.specs.declared.piece.Piece.{Piece}
use Rattle.ch_space.specs.Keeps.{IsLimited, IsNarrow, IsWhole, most_commands, most_weight, places_of}
use Rattle.ch_space.specs.Pieces.{element_at, instances}
use Rattle.ch_space.specs.Renumbered.{placed}
use Rattle.ch_space.proofs.Counted.{box_points_lie}
use Rattle.ch_space.proofs.Membership.{box_points_in, in_instances}
use Rattle.ch_space.proofs.NestLimits.{length_units}
use Rattle.ch_space.proofs.PieceElements.{element_places, element_values, length_pos, levels_of}
use Rattle.ch_timed.specs.declared.element.Element.{Element}
use Rattle.ch_timed.specs.Closed.{at_vector}
use Rattle.ch_timed.specs.Members.{In}
use Rattle.ch_timed.specs.Vectors.{places, shares, values, woven}

-- Limits.

same_limits : (w c : ℕ) (p : Piece) (new : List ℕ) → IsLimited w c p → IsLimited w c (placed p new)
same_limits w c p new l = record { levels = l.levels; iterators = l.iterators; variables = l.variables; boxes = l.boxes; origin = l.origin }

grown : (w c : ℕ) (p : Piece) → 1 ≤ w → IsLimited w c p → IsLimited w (c + 1) p
grown w c p some l = let e : w * 1 ≡ w = omega arith in subst (λ n. IsLimited n (c + 1) p) e (more_limits w c 1 p some (omega arith) l)

boxes_of : (p : Piece) → IsWhole p → length (take p.levels p.system.boxes) ≡ p.levels
boxes_of p w = let h = w.boxes in length-take-le p.levels p.system.boxes (omega arith)

-- What becomes of an element.

module _ (level : ℕ) (ours : List ℤ) (holds : List ℤ → Bool) (p : Piece) (w : IsWhole p) where
  abbrev side_of : Bool → List ℤ → Bool
  side_of b xs = if b then holds xs else true

  cut_by : (e : Element) (ps xs : List ℤ) → places e.vector ≡ ps → values e.vector ≡ xs
      → cut_element level ours holds e ≡ (if beside level ours ps then at_vector e (woven (doubled level (if shares level ours ps then behind (holds xs) else pos 0) ps) xs) else e)
  cut_by e ps xs i j = ap₂ (λ qs ys. if beside level ours qs then at_vector e (woven (doubled level (if shares level ours qs then behind (holds ys) else pos 0) qs) ys) else e) i j

  cut_to : (b s : Bool) (xs : List ℤ)
      → (if b then at_vector (element_at p xs) (woven (doubled level (if s then behind (holds xs) else pos 0) (places_of p)) xs) else element_at p xs)
      ≡ at_vector (element_at p xs) (woven (if b then doubled level (behind (side_of s xs)) (places_of p) else places_of p) xs)
  cut_to true true xs = refl
  cut_to true false xs = refl
  cut_to false s xs = refl

  cut_at : (xs : List ℤ) → In xs (instances p)
      → cut_element level ours holds (element_at p xs) ≡ at_vector (element_at p xs) (woven (cut_places level ours (side_of (shares level ours (places_of p)) xs) (places_of p)) xs)
  cut_at xs i =
      cut_by (element_at p xs) (places_of p) xs (element_places p xs w i) (element_values p xs w i)
      ∙ cut_to (beside level ours (places_of p)) (shares level ours (places_of p)) xs

  length_cut : (s : Bool) → length (cut_places level ours s (places_of p)) ≡ p.levels + 1
  length_cut s = by (beside level ours (places_of p)) ∙ length_pos p.places ∙ w.places
    where
      by : (b : Bool) → length (if b then doubled level (behind s) (places_of p) else places_of p) ≡ length (places_of p)
      by true = length-set (places_of p) (level - 1) _
      by false = refl

  -- A piece outside the group.

  module _ (apart : shares level ours (places_of p) ≡ false) (new : List ℕ) (is : map pos new ≡ cut_places level ours true (places_of p)) (count : ℕ) (counted : count ≡ length (instances p)) where
    abbrev moved_one : Candidate
    moved_one = record { piece = p; places = new; count = Some count }

    outside : IsPart level ours holds p moved_one
    outside = record {
      whole = record { places = sym (length_pos new) ∙ ap length is ∙ length_cut true; variables = w.variables; boxes = w.boxes; origin = w.origin };
      known = counted;
      label = refl;
      body = refl;
      iterators = refl;
      limited = λ weight commands some small few l. same_limits weight (commands + 1) p new (grown weight commands p some l);
      side = true;
      places = is;
      from = λ xs i. i;
      element = λ xs i.
          cut_at xs i ∙ ap (λ b. at_vector (element_at p xs) (woven (cut_places level ours (side_of b xs) (places_of p)) xs)) apart
          ∙ ap (λ z. at_vector (element_at p xs) (woven z xs)) (sym is);
    }

    pub outside_parts : AreParts level ours holds p (moved_one ∷ [])
    outside_parts = record {
      few = omega arith;
      each = λ c i. elim i as (λ _. IsPart level ours holds p c) [ inl e ↦ subst (IsPart level ours holds p) e outside | inr j ↦ absurd j ];
      all = λ xs i. (moved_one, inl refl, i);
      differ = (tt, tt);
    }

  -- A piece of the group.

  module _ (some : 1 ≤ level) (row : Form) (q : Candidate) (s : Bool) (half : IsHalf p row (doubled level (behind s) (places_of p)) q) where
    many : length (units 0 p.levels) ≡ p.levels
    many = length_units 0 p.levels

    long : All (λ f. length f.coefs ≡ length (take p.levels p.system.boxes)) (units 0 p.levels)
    long = subst (λ n. All (λ f. length f.coefs ≡ n) (units 0 p.levels)) (sym (boxes_of p w)) (long_units p.levels)

    abbrev rows : List Form
    rows = widened (p.levels - length row.coefs) row ∷ []

    long_instance : (xs : List ℤ) → In xs (instances q.piece) → length xs ≡ length (take p.levels p.system.boxes)
    long_instance xs i = lies_length (take p.levels p.system.boxes) xs ((half.piece.is_instance xs).0 i).0

    old_instance : (xs : List ℤ) → In xs (instances q.piece) → In xs (instances p)
    old_instance xs i = subst (λ z. In z (instances p)) (image_units p.levels xs (long_instance xs i ∙ boxes_of p w)) ((half.piece.is_instance xs).0 i).2

    pub row_holds : (xs : List ℤ) → In xs (instances q.piece) → holds_at row xs ≡ true
    row_holds xs i = sym (holds_wider row (p.levels - length row.coefs) xs) ∙ (and_parts _ _ ((half.piece.is_instance xs).0 i).1).0

    pub new_instance : (xs : List ℤ) → In xs (instances p) → holds_at row xs ≡ true → In xs (instances q.piece)
    new_instance xs i h =
        (half.piece.is_instance xs).1 (
          box_points_lie (take p.levels p.system.boxes) xs (box_points_in (take p.levels p.system.boxes) xs (in_instances p xs i).inside),
          and_from _ _ (holds_wider row (p.levels - length row.coefs) xs ∙ h) refl,
          subst (λ z. In z (instances p)) (sym (image_units p.levels xs (levels_of p xs w i))) i,
        )

    same_element : (xs : List ℤ) → In xs (instances q.piece) → element_at (wide q) xs ≡ at_vector (element_at p xs) (woven (places_of (wide q)) xs)
    same_element xs i =
        ap (λ e. at_vector e (woven (places_of (wide q)) xs))
        (reindexed_element p q.piece (units 0 p.levels) (take p.levels p.system.boxes) rows p.places w many long half.piece xs (long_instance xs i)
        ∙ ap (λ z. at_vector (element_at p z) (woven (places_of q.piece) xs)) (image_units p.levels xs (long_instance xs i ∙ boxes_of p w)))

    limits : (weight commands : ℕ) → 1 ≤ weight → weight ≤ most_weight → commands < most_commands → IsLimited weight commands p → IsLimited weight (commands + 1) (wide q)
    limits weight commands light small few l =
        let more = grown weight commands p light l in
        let levels = l.levels in
        let e = boxes_of p w in
        same_limits weight (commands + 1) q.piece q.places
        (reindexed_limits p q.piece (units 0 p.levels) (take p.levels p.system.boxes) rows p.places w many long half.piece weight commands weight l (omega arith) more.boxes
        (subst (λ n. All (IsNarrow weight (commands + 1)) (map (substituted n (units 0 p.levels)) p.origin)) (sym e) (narrow_all p.levels p.origin weight (commands + 1) w.origin more.origin)))

    pub half_part : beside level ours (places_of p) ≡ true → shares level ours (places_of p) ≡ true → ((xs : List ℤ) → holds_at row xs ≡ true → holds xs ≡ s) → IsPart level ours holds p q
    half_part near shared sided =
        let is : places_of (wide q) ≡ cut_places level ours s (places_of p) = half.places ∙ ap (λ b. if b then doubled level (behind s) (places_of p) else places_of p) (sym near) in
        record {
          whole = record {
            places = sym (length_pos q.places) ∙ ap length is ∙ length_cut s ∙ ap (λ n. n + 1) (sym (half.piece.levels ∙ boxes_of p w));
            variables = half.piece.whole.variables;
            boxes = half.piece.whole.boxes;
            origin = half.piece.whole.origin;
          };
          known = subst (λ o. IfSome o (λ n. n ≡ length (instances q.piece))) (sym half.count) tt;
          label = half.piece.label;
          body = half.piece.body;
          iterators = same_iterators p q.piece (units 0 p.levels) (take p.levels p.system.boxes) rows p.places w many long half.piece;
          limited = limits;
          side = s;
          places = is;
          from = old_instance;
          element = λ xs i.
              cut_at xs (old_instance xs i)
              ∙ ap (λ b. at_vector (element_at p xs) (woven (cut_places level ours (side_of b xs) (places_of p)) xs)) shared
              ∙ ap (λ b. at_vector (element_at p xs) (woven (cut_places level ours b (places_of p)) xs)) (sided xs (row_holds xs i))
              ∙ ap (λ z. at_vector (element_at p xs) (woven z xs)) (sym is)
              ∙ sym (same_element xs i);
        }

-- Both halves.

not_true : (b : Bool) → not b ≡ true → b ≡ false
not_true true h = absurd (false≢true h)
not_true false h = refl

not_false : (b : Bool) → b ≡ false → not b ≡ true
not_false true h = absurd (false≢true (sym h))
not_false false h = refl

module _ (level : ℕ) (ours : List ℤ) (f : Form) (p : Piece) (w : IsWhole p) (some : 1 ≤ level) (near : beside level ours (places_of p) ≡ true) (shared : shares level ours (places_of p) ≡ true)
    (a b : Candidate) (is_a : IsHalf p f (doubled level (pos 0) (places_of p)) a) (is_b : IsHalf p (failing f) (doubled level (pos 1) (places_of p)) b) where
  first_part : IsPart level ours (holds_at f) p a
  first_part = half_part level ours (holds_at f) p w some f a true is_a near shared (λ xs h. h)

  second_part : IsPart level ours (holds_at f) p b
  second_part = half_part level ours (holds_at f) p w some (failing f) b false is_b near shared (λ xs h. not_true (holds_at f xs) (sym (failing_holds f xs) ∙ h))

  goes : (xs : List ℤ) → In xs (instances p) → (c : Candidate) × In c (a ∷ b ∷ []) × In xs (instances c.piece)
  goes xs i = by (holds_at f xs) refl
    where
      by : (t : Bool) → holds_at f xs ≡ t → (c : Candidate) × In c (a ∷ b ∷ []) × In xs (instances c.piece)
      by true e = (a, inl refl, new_instance level ours (holds_at f) p w some f a true is_a xs i e)
      by false e = (b, inr (inl refl), new_instance level ours (holds_at f) p w some (failing f) b false is_b xs i (failing_holds f xs ∙ not_false (holds_at f xs) e))

  sides_differ : places_of (wide a) ≡ places_of (wide b) → ⊥
  sides_differ e =
      let d = beside_deep level ours (places_of p) near in
      false≢true (sym (same_side level true false (places_of p) some d (sym is_a.places ∙ e ∙ is_b.places)))

  one_part : (c : Candidate) → In c (a ∷ b ∷ []) → IsPart level ours (holds_at f) p c
  one_part c (inl e) = subst (IsPart level ours (holds_at f) p) e first_part
  one_part c (inr (inl e)) = subst (IsPart level ours (holds_at f) p) e second_part
  one_part c (inr (inr i)) = absurd i

  both_parts : AreParts level ours (holds_at f) p (a ∷ b ∷ [])
  both_parts = record { few = omega arith; each = one_part; all = goes; differ = ((sides_differ, tt), (tt, tt)) }

pub halves_parts : (level : ℕ) (ours : List ℤ) (f : Form) (p : Piece) (r : Result (List Candidate) AllocError) → IsWhole p → 1 ≤ level → beside level ours (places_of p) ≡ true
    → shares level ours (places_of p) ≡ true → IfOk r (AreHalves level f p) → IfOk r (AreParts level ours (holds_at f) p)
halves_parts level ours f p (Ok cs) w some near shared h =
    subst (AreParts level ours (holds_at f) p) (sym h.are) (both_parts level ours f p w some near shared h.first h.second h.is_first h.is_second)
halves_parts level ours f p (Err e) w some near shared h = tt

pub replaced_parts : (level : ℕ) (ours : List ℤ) (holds : List ℤ → Bool) (p : Piece) (w : IsWhole p) → shares level ours (places_of p) ≡ false → (new : List ℕ)
    → map pos new ≡ cut_places level ours true (places_of p) → (count : ℕ) → count ≡ length (instances p) → (r : Result (List Candidate) AllocError)
    → IfOk r (λ cs. cs ≡ record { piece = p; places = new; count = Some count } ∷ []) → IfOk r (AreParts level ours holds p)
replaced_parts level ours holds p w apart new is count counted (Ok cs) e = subst (AreParts level ours holds p) (sym e) (outside_parts level ours holds p w apart new is count counted)
replaced_parts level ours holds p w apart new is count counted (Err e) h = tt
