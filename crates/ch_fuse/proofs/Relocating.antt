-- Pieces at other places are candidates for the elements at other places, where places that differ still do.
use Rattle.std.proofs.Common.{◌≡◌, ◌≢◌, refl, sym, ap, ap₂, ◌∙◌, subst, ℕ, suc, ◌+◌, ◌*◌, ℤ, pos, Bool, true, false, cond, List, [], ◌∷◌, map, length, get_or, ◌⊎◌, inl, inr, IfSome, arith}
use Rattle.std.specs.List.{flat_map}
use Rattle.std.proofs.lemmas.List.{length-map}
use Rattle.ch_affine.specs.Affine.{value}
use Rattle.ch_fuse.specs.Replaced.{ArePlaced, IsPlaced, relocated, replaced}
use Rattle.ch_fuse.proofs.Differing.{Differ, apart_differ, differ_apart}
use Rattle.ch_moved.proofs.Limits.{more_limits}
use Rattle.ch_moved.proofs.Replaced.{places_apart, same_apart}
use Rattle.ch_pieces.specs.declared.candidate.Candidate.{Candidate}
use Rattle.ch_pieces.proofs.Spaces.{places_differ}
use Rattle.ch_pieces.specs.Assembled.{wide}
use Rattle.ch_pieces.specs.Candidates.{AreCandidates, ExecutesOne, IsKnown}
use Rattle.ch_space.specs.declared.piece.Piece.{Piece}
use Rattle.ch_space.specs.Keeps.{AreApart, IsLimited, IsSpace, IsWhole, places_of}
use Rattle.ch_space.specs.Pieces.{element_at, elements, instances, listed}
use Rattle.ch_space.specs.Renumbered.{placed}
use Rattle.ch_space.proofs.EndsOf.{at_all}
use Rattle.ch_space.proofs.Membership.{flat_in, in_flat}
use Rattle.ch_space.proofs.PieceElements.{each_from_in, element_places, element_values, later_in, length_pos, never, whole_in}
use Rattle.ch_space.proofs.PieceNumbers.{all_in, in_listed, instance_in, listed_in, numbered, some_in}
use Rattle.ch_timed.specs.declared.element.Element.{Element}
use Rattle.ch_timed.specs.Closed.{at_vector}
use Rattle.ch_timed.specs.Members.{In, Pairwise}
use Rattle.ch_timed.specs.Timed.{pieces, step}
use Rattle.ch_timed.specs.Vectors.{places, values, woven}
use Rattle.ch_timed.proofs.Orders.{in_map, map_in}
use Rattle.ch_timed.proofs.Prefixes.{apart}

module _ (new : List ℤ → List ℤ) where
  pub how_many_placed : (ps : List Piece) (cs : List Candidate) → ArePlaced new ps cs → length cs ≡ length ps
  how_many_placed [] [] h = refl
  how_many_placed [] (c ∷ cs) h = absurd h
  how_many_placed (p ∷ ps) [] h = absurd h
  how_many_placed (p ∷ ps) (c ∷ cs) h = ap suc (how_many_placed ps cs h.1)

  from_piece : (ps : List Piece) (cs : List Candidate) → ArePlaced new ps cs → (c : Candidate) → In c cs → (p : Piece) × In p ps × IsPlaced (new (places_of p)) p c
  from_piece [] [] h c i = absurd i
  from_piece [] (d ∷ cs) h c i = absurd h
  from_piece (p ∷ ps) [] h c i = absurd i
  from_piece (p ∷ ps) (d ∷ cs) h c (inl e) = (p, inl refl, subst (IsPlaced (new (places_of p)) p) e h.0)
  from_piece (p ∷ ps) (d ∷ cs) h c (inr i) = let r = from_piece ps cs h.1 c i in (r.0, inr r.1, r.2)

  to_candidate : (ps : List Piece) (cs : List Candidate) → ArePlaced new ps cs → (p : Piece) → In p ps → (c : Candidate) × In c cs × IsPlaced (new (places_of p)) p c
  to_candidate [] cs h p i = absurd i
  to_candidate (q ∷ ps) [] h p i = absurd h
  to_candidate (q ∷ ps) (c ∷ cs) h p (inl e) = (c, inl refl, subst (λ z. IsPlaced (new (places_of z)) z c) e h.0)
  to_candidate (q ∷ ps) (c ∷ cs) h p (inr i) = let r = to_candidate ps cs h.1 p i in (r.0, inr r.1, r.2)

is_placed : (n : List ℤ) (p : Piece) (c : Candidate) → IsPlaced n p c → wide c ≡ placed p c.places
is_placed n p c h = ap (λ z. placed z c.places) h.piece

step_by : (b : Bool) (e : Element) (v : List ℤ) → step (cond b (at_vector e v) e) ≡ step e
step_by true e v = refl
step_by false e v = refl

module _ (inside : List ℤ → Bool) (f : List ℤ → List ℤ) (long : (v : List ℤ) → length (f v) ≡ length v) where
  abbrev new : List ℤ → List ℤ
  new = replaced inside f

  abbrev g : Element → Element
  g = relocated inside f

  long_by : (b : Bool) (v : List ℤ) → length (cond b (f v) v) ≡ length v
  long_by true v = long v
  long_by false v = refl

  whole_placed : (p : Piece) (c : Candidate) → IsWhole p → IsPlaced (new (places_of p)) p c → IsWhole (wide c)
  whole_placed p c w h =
      let n : length c.places ≡ length p.places = sym (length_pos c.places) ∙ ap length h.places ∙ long_by (inside (places_of p)) (places_of p) ∙ length_pos p.places in
      subst IsWhole (sym (is_placed _ p c h)) (record { places = n ∙ w.places; variables = w.variables; boxes = w.boxes; origin = w.origin })

  -- an element goes to the candidate of its piece, with the values that it has
  moved_at : (p : Piece) (c : Candidate) (xs : List ℤ) → IsWhole p → In xs (instances p) → IsPlaced (new (places_of p)) p c → g (element_at p xs) ≡ element_at (wide c) xs
  moved_at p c xs w i h = by (inside (places_of p)) refl ∙ ap (λ z. element_at z xs) (sym (is_placed _ p c h))
    where
      e : Element
      e = element_at p xs

      chosen : (b : Bool) → inside (places_of p) ≡ b → g (element_at p xs) ≡ cond b (at_vector (element_at p xs) (woven (f (places (element_at p xs).vector)) (values (element_at p xs).vector))) (element_at p xs)
      chosen b t = ap (λ z. cond z (at_vector (element_at p xs) (woven (f (places (element_at p xs).vector)) (values (element_at p xs).vector))) (element_at p xs)) (ap inside (element_places p xs w i) ∙ t)

      new_is : (b : Bool) → inside (places_of p) ≡ b → cond b (f (places_of p)) (places_of p) ≡ map pos c.places
      new_is b t = sym (h.places ∙ ap (λ z. cond z (f (places_of p)) (places_of p)) t)

      by : (b : Bool) → inside (places_of p) ≡ b → g (element_at p xs) ≡ element_at (placed p c.places) xs
      by true t =
          chosen true t ∙ ap₂ (λ x y. at_vector (element_at p xs) (woven (f x) y)) (element_places p xs w i) (element_values p xs w i)
          ∙ ap (λ z. at_vector (element_at p xs) (woven z xs)) (new_is true t)
      by false t = chosen false t ∙ ap (λ z. at_vector (element_at p xs) (woven z xs)) (new_is false t)

  module _ (arrays weight commands : ℕ) (ps : List Piece) (counts : List ℕ) (temps : List (List ℕ)) (space : IsSpace arrays ps counts temps weight commands)
      (keeps : (a b : List ℤ) → In a (pieces (listed ps)) → In b (pieces (listed ps)) → Differ a b → Differ (new a) (new b)) (cs : List Candidate) (h : ArePlaced new ps cs) where
    whole_of : (p : Piece) → In p ps → IsWhole p
    whole_of p i = whole_in ps p space.apart i

    -- the piece of a wide candidate
    record From (q : Piece) : Type 0 where
      candidate : Candidate
      old : Piece
      is_old : In old ps
      is_placed_there : IsPlaced (new (places_of old)) old candidate
      is : wide candidate ≡ q

    from : (q : Piece) → In q (map wide cs) → From q
    from q i =
        let c = in_map wide cs q i in
        let p = from_piece new ps cs h c.0 c.1.0 in
        record { candidate = c.0; old = p.0; is_old = p.1; is_placed_there = p.2; is = c.1.1 }

    places_from : (q : Piece) (r : From q) → places_of q ≡ new (places_of r.old)
    places_from q r = ap places_of (sym r.is) ∙ r.is_placed_there.places

    number_in : (p : Piece) → In p ps → In (places_of p) (pieces (listed ps))
    number_in p i = subst (In (places_of p)) (sym (numbered ps space.apart)) (map_in places_of ps p i)

    -- two candidates stand at the places of one piece, or at places that differ
    one_or_differ : (p r : Piece) → In p ps → In r ps → (places_of p ≡ places_of r) ⊎ Differ (new (places_of p)) (new (places_of r))
    one_or_differ p r i j = elim (apart_differ _ _ (places_apart ps space.apart space.well_formed p r i j)) [
      | inl e ↦ inl e
      | inr d ↦ inr (keeps _ _ (number_in p i) (number_in r j) d)
    ]

    -- no two candidates stand at the same places
    all_differ : (qs : List Piece) (ds : List Candidate) → ((p : Piece) → In p qs → In p ps) → AreApart qs → ArePlaced new qs ds → Pairwise (λ c d. places_of (wide c) ≢ places_of (wide d)) ds
    all_differ [] [] s a h = tt
    all_differ [] (d ∷ ds) s a h = absurd h
    all_differ (p ∷ qs) [] s a h = tt
    all_differ (p ∷ qs) (c ∷ ds) s a h = (
      each_from_in (λ d. places_of (wide c) ≢ places_of (wide d)) ds (λ d i e.
          let r = from_piece new qs ds h.1 d i in
          elim (one_or_differ p r.0 (s p (inl refl)) (s r.0 (inr r.1))) as (λ _. ⊥) [
            | inl k ↦ never (places_of p) (places_of r.0) (later_in (places_of p) qs r.0 a.2 r.1) k
            | inr f ↦ f.1.differ (ap (λ z. get_or z f.0 (pos 0)) (sym h.0.places ∙ e ∙ r.2.places))
          ]),
      all_differ qs ds (λ q i. s q (inr i)) a.3 h.1,
    )

    stands_apart : (q r : Piece) → In q (map wide cs) → In r (map wide cs) → apart (places_of q) (places_of r) ≡ true
    stands_apart q r i j =
        let x = from q i in
        let y = from r j in
        let back = λ (t : apart (new (places_of x.old)) (new (places_of y.old)) ≡ true). ap₂ apart (places_from q x) (places_from r y) ∙ t in
        elim (one_or_differ x.old y.old x.is_old y.is_old) [
          | inl k ↦ back (ap (λ z. apart (new (places_of x.old)) (new z)) (sym k) ∙ same_apart (new (places_of x.old)))
          | inr d ↦ back (differ_apart _ _ d)
        ]

    executes_one : (q : Piece) → In q (map wide cs) → ExecutesOne (listed ps) q
    executes_one q i =
        let x = from q i in
        let p = x.old in
        let v = some_in (instances p) (instance_in ps p space.apart x.is_old) in
        let e : q ≡ placed p x.candidate.places = sym x.is ∙ is_placed _ p x.candidate x.is_placed_there in
        record {
          element = element_at p v.0;
          is_element = listed_in ps p (element_at p v.0) x.is_old (map_in (element_at p) (instances p) v.0 v.1);
          label = ap (λ (z : Piece). z.label) e;
          body = ap (λ (z : Piece). z.body) e;
          iterators = ap (λ (z : Piece). length z.origin) e ∙ sym (length-map p.origin (λ o. value o v.0));
        }

    goes : (e : Element) → In e (listed ps) → In (g e) (flat_map elements (map wide cs))
    goes e i =
        let s = in_listed ps e i in
        let c = to_candidate new ps cs h s.piece s.is_piece in
        let w = wide c.0 in
        let same : instances w ≡ instances s.piece = ap instances (is_placed _ s.piece c.0 c.2) in
        let there : element_at w s.instance ≡ g e = sym (moved_at s.piece c.0 s.instance (whole_of s.piece s.is_piece) s.is_instance c.2) ∙ ap g s.is in
        flat_in elements (map wide cs) w (g e) (map_in wide cs c.0 c.1)
        (subst (λ z. In z (elements w)) there (map_in (element_at w) (instances w) s.instance (subst (In s.instance) (sym same) s.is_instance)))

    comes : (f : Element) → In f (flat_map elements (map wide cs)) → (e : Element) × In e (listed ps) × (g e ≡ f)
    comes f i =
        let q = in_flat elements (map wide cs) f i in
        let x = from q.0 q.1.0 in
        let y = in_map (element_at q.0) (instances q.0) f q.1.1 in
        let p = x.old in
        let same : instances q.0 ≡ instances p = ap instances (sym x.is ∙ is_placed _ p x.candidate x.is_placed_there) in
        let inst = subst (In y.0) same y.1.0 in (
          element_at p y.0,
          listed_in ps p (element_at p y.0) x.is_old (map_in (element_at p) (instances p) y.0 inst),
          moved_at p x.candidate y.0 (whole_of p x.is_old) inst x.is_placed_there ∙ ap (λ z. element_at z y.0) x.is ∙ y.1.1,
        )

    keeps_limits : (c : Candidate) → In c cs → IsLimited weight (commands + 1) (wide c)
    keeps_limits c i =
        let p = from_piece new ps cs h c i in
        let one : weight * 1 ≡ weight = omega arith in
        let l = subst (λ n. IsLimited n (commands + 1) p.0) one (more_limits weight commands 1 p.0 space.some_weight (omega arith) (at_all (IsLimited weight commands) ps p.0 space.limited p.1)) in
        subst (IsLimited weight (commands + 1)) (sym (is_placed _ p.0 c p.2))
        (record { levels = l.levels; iterators = l.iterators; variables = l.variables; boxes = l.boxes; origin = l.origin })

    pub placed_candidates : AreCandidates g (listed ps) weight (commands + 1) cs
    placed_candidates = record {
      steps = λ e. step_by (inside (places e.vector)) e (woven (f (places e.vector)) (values e.vector));
      whole = all_in (λ c. IsWhole (wide c)) cs (λ c i. let p = from_piece new ps cs h c i in whole_placed p.0 c (whole_of p.0 p.1) p.2);
      known = all_in IsKnown cs (λ c i.
          let p = from_piece new ps cs h c i in
          subst (λ o. IfSome o (λ n. n ≡ length (instances c.piece))) (sym p.2.count) (ap (λ z. length (instances z)) (sym p.2.piece)));
      differ = places_differ cs (all_differ ps cs (λ p i. i) space.apart h);
      apart = stands_apart;
      executes = executes_one;
      forth = goes;
      back = comes;
      limited = all_in (λ c. IsLimited weight (commands + 1) (wide c)) cs keeps_limits;
    }
