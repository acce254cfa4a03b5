-- The parts of pieces are candidates for the pieces of the list in which a loop is cut.
use Rattle.std.proofs.Common.{◌≡◌, ◌≢◌, refl, sym, ap, ◌∙◌, subst, ℕ, ◌+◌, ◌*◌, ◌<◌, ◌≤◌, inl, inr, ℤ, pos, Bool, true, false, if◌then◌else◌, List, [], ◌∷◌, ◌++◌, map, length, arith, append-nil, append_assoc, length-append}
use Rattle.std.specs.List.{All, flat_map}
use Rattle.std.specs.Ordering.{int_cmp, ordering_reverse}
use Rattle.std.specs.declared.cmp.Ordering.{Ordering}
use Rattle.std.specs.declared.cmp.Ordering.TheVariants.{Less, Equal, Greater}
use Rattle.std.specs.Cmp.{IsTotalOrder, int_cmp_total}
use Rattle.std.specs.Cmp.Lexicographic.{slice_cmp, lists_total}
use Rattle.std.specs.FinMap.{slice_cmp-IsAntisymmetric, int_cmp-IsAntisymmetric}
use Rattle.std.proofs.lemmas.List.{length-map}
use Rattle.ch_affine.specs.Affine.{value}
use Rattle.ch_cut.specs.Cut.{behind}
use Rattle.ch_moved.specs.Arguments.{beside}
use Rattle.ch_cut.specs.Parts.{AllParts, AreParts, IsPart, cut_element, cut_places, doubled}
use Rattle.ch_cut.proofs.CutPlaces.{Parted, cut_parted, parted_apart, parted_differ, sides_apart}
use Rattle.ch_moved.proofs.Parting.{less_parts}
use Rattle.ch_moved.proofs.Replaced.{places_apart, turned}
use Rattle.ch_pieces.specs.declared.candidate.Candidate.{Candidate}
use Rattle.ch_pieces.proofs.Spaces.{pairwise_append, places_differ}
use Rattle.ch_pieces.specs.Assembled.{wide}
use Rattle.ch_pieces.specs.Candidates.{AreCandidates, ExecutesOne, IsKnown, stand_apart}
use Rattle.ch_space.specs.declared.piece.Piece.{Piece}
use Rattle.ch_space.specs.Keeps.{AreApart, IsLimited, IsWhole, most_commands, most_weight, places_of}
use Rattle.ch_space.specs.Pieces.{element_at, elements, instances, listed}
use Rattle.ch_space.proofs.EndsOf.{at_all}
use Rattle.ch_space.proofs.Membership.{append_left, append_right, flat_in, in_append, in_flat}
use Rattle.ch_space.proofs.PieceElements.{later_in}
use Rattle.ch_space.proofs.PieceNumbers.{all_in, in_listed, instance_in, listed_in, some_in}
use Rattle.ch_timed.specs.declared.element.Element.{Element}
use Rattle.ch_timed.specs.Closed.{at_vector}
use Rattle.ch_timed.specs.Members.{In, Pairwise}
use Rattle.ch_timed.specs.Timed.{is_well_formed, step}
use Rattle.ch_timed.specs.Vectors.{places, shares, values, woven}
use Rattle.ch_timed.proofs.Orders.{in_map, map_in}
use Rattle.ch_timed.proofs.Prefixes.{apart}

module _ (level : ℕ) (ours : List ℤ) (holds : List ℤ → Bool) where
  -- one more piece
  pub all_more : (ps : List Piece) (p : Piece) (cs more : List Candidate) → AllParts level ours holds ps cs → AreParts level ours holds p more
      → AllParts level ours holds (ps ++ p ∷ []) (cs ++ more)
  all_more [] p cs more h a = record { here = more; others = []; are = ap (λ z. z ++ more) h ∙ sym (append-nil more); are_here = a; are_others = refl }
  all_more (q ∷ qs) p cs more h a = record {
    here = h.here;
    others = h.others ++ more;
    are = ap (λ z. z ++ more) h.are ∙ append_assoc h.here h.others more;
    are_here = h.are_here;
    are_others = all_more qs p h.others more h.are_others a;
  }

  -- at most two for each piece
  pub all_few : (ps : List Piece) (cs : List Candidate) → AllParts level ours holds ps cs → length cs ≤ 2 * length ps
  all_few [] cs h = let e = ap length h in omega arith
  all_few (p ∷ ps) cs h =
      let e = ap length h.are ∙ length-append h.here h.others in
      let a = h.are_here.few in
      let b = all_few ps h.others h.are_others in
      omega arith

  -- the piece that a candidate is a part of
  pub record ComesFrom (ps : List Piece) (c : Candidate) : Type 0 where
    pub piece : Piece
    pub is_piece : In piece ps
    pub is_part : IsPart level ours holds piece c

  pub comes_from : (ps : List Piece) (cs : List Candidate) (c : Candidate) → AllParts level ours holds ps cs → In c cs → ComesFrom ps c
  comes_from [] cs c h i = absurd (subst (In c) h i)
  comes_from (p ∷ ps) cs c h i = elim (in_append h.here h.others c (subst (In c) h.are i)) as (λ _. ComesFrom (p ∷ ps) c) [
    | inl j ↦ record { piece = p; is_piece = inl refl; is_part = h.are_here.each c j }
    | inr j ↦ let r = comes_from ps h.others c h.are_others j in record { piece = r.piece; is_piece = inr r.is_piece; is_part = r.is_part }
  ]

  -- the part that has an instance
  pub record GoesTo (p : Piece) (cs : List Candidate) (xs : List ℤ) : Type 0 where
    pub part : Candidate
    pub is_part : In part cs
    pub part_of : IsPart level ours holds p part
    pub is_instance : In xs (instances part.piece)

  pub goes_to : (ps : List Piece) (cs : List Candidate) (p : Piece) (xs : List ℤ) → AllParts level ours holds ps cs → In p ps → In xs (instances p) → GoesTo p cs xs
  goes_to [] cs p xs h i j = absurd i
  goes_to (q ∷ qs) cs p xs h (inl e) j =
      let t = h.are_here.all xs (subst (λ z. In xs (instances z)) (sym e) j) in
      record {
        part = t.0;
        is_part = subst (In t.0) (sym h.are) (append_left h.here h.others t.0 t.1);
        part_of = subst (λ z. IsPart level ours holds z t.0) e (h.are_here.each t.0 t.1);
        is_instance = t.2;
      }
  goes_to (q ∷ qs) cs p xs h (inr i) j =
      let t = goes_to qs h.others p xs h.are_others i j in
      record {
        part = t.part;
        is_part = subst (In t.part) (sym h.are) (append_right h.here h.others t.part t.is_part);
        part_of = t.part_of;
        is_instance = t.is_instance;
      }

  -- Places.

  abbrev Far : List Piece → Type 0
  Far ps = (p q : Piece) → In p ps → In q ps → apart (places_of p) (places_of q) ≡ true

  less_parted : (p q : Piece) (c d : Candidate) → 1 ≤ level → apart (places_of p) (places_of q) ≡ true → slice_cmp int_cmp (places_of p) (places_of q) ≡ Less
      → IsPart level ours holds p c → IsPart level ours holds q d → Parted (places_of (wide c)) (places_of (wide d))
  less_parted p q c d some far l a b =
      subst (λ z. Parted z (places_of (wide d))) (sym a.places)
      (subst (λ z. Parted (cut_places level ours a.side (places_of p)) z) (sym b.places)
      (cut_parted level ours a.side b.side (places_of p) (places_of q) some (less_parts (places_of p) (places_of q) l far)))

  later_parted : (p : Piece) (ps : List Piece) (c d : Candidate) (others : List Candidate) → 1 ≤ level → AreApart (p ∷ ps) → Far (p ∷ ps) → IsPart level ours holds p c → AllParts level ours holds ps others
      → In d others → Parted (places_of (wide c)) (places_of (wide d))
  later_parted p ps c d others some a far h all j =
      let r = comes_from ps others d all j in
      less_parted p r.piece c d some (far p r.piece (inl refl) (inr r.is_piece)) (later_in (places_of p) ps r.piece a.2 r.is_piece) h r.is_part

  -- no two candidates stand at the same places
  all_differ : (ps : List Piece) (cs : List Candidate) → 1 ≤ level → AreApart ps → Far ps → AllParts level ours holds ps cs → Pairwise (λ c d. places_of (wide c) ≢ places_of (wide d)) cs
  all_differ [] cs some a far h = subst (Pairwise (λ c d. places_of (wide c) ≢ places_of (wide d))) (sym h) tt
  all_differ (p ∷ ps) cs some a far h =
      subst (Pairwise (λ c d. places_of (wide c) ≢ places_of (wide d))) (sym h.are)
      (pairwise_append (λ c d. places_of (wide c) ≢ places_of (wide d)) h.here h.others h.are_here.differ
      (all_differ ps h.others some a.3 (λ q r m n. far q r (inr m) (inr n)) h.are_others)
      (λ c d k l. parted_differ _ _ (later_parted p ps c d h.others some a far (h.are_here.each c k) h.are_others l)))

  order : IsTotalOrder (slice_cmp int_cmp)
  order = lists_total int_cmp_total

  parts_apart : (p q : Piece) (c d : Candidate) → 1 ≤ level → apart (places_of p) (places_of q) ≡ true → IsPart level ours holds p c → IsPart level ours holds q d
      → apart (places_of (wide c)) (places_of (wide d)) ≡ true
  parts_apart p q c d some far a b = by (slice_cmp int_cmp (places_of p) (places_of q)) refl
    where
      by : (o : Ordering) → slice_cmp int_cmp (places_of p) (places_of q) ≡ o → apart (places_of (wide c)) (places_of (wide d)) ≡ true
      by Less k = parted_apart _ _ (less_parted p q c d some far k a b)
      by Equal k =
          let e = slice_cmp-IsAntisymmetric int_cmp-IsAntisymmetric (places_of p) (places_of q) k in
          let f : places_of (wide d) ≡ cut_places level ours b.side (places_of p) = b.places ∙ ap (cut_places level ours b.side) (sym e) in
          subst (λ z. apart z (places_of (wide d)) ≡ true) (sym a.places)
          (subst (λ z. apart (cut_places level ours a.side (places_of p)) z ≡ true) (sym f) (sides_apart level ours (places_of p) a.side b.side some))
      by Greater k =
          turned (places_of (wide d)) (places_of (wide c))
          (parted_apart _ _ (less_parted q p d c some (turned (places_of p) (places_of q) far) (order.antisymm (places_of q) (places_of p) ∙ ap ordering_reverse k) b a))

  -- The list.

  keeps_steps : (e : Element) → step (cut_element level ours holds e) ≡ step e
  keeps_steps e =
      by (beside level ours (places e.vector)) (woven (doubled level (if shares level ours (places e.vector) then behind (holds (values e.vector)) else pos 0) (places e.vector)) (values e.vector))
    where
      by : (b : Bool) (v : List ℤ) → step (if b then at_vector e v else e) ≡ step e
      by true v = refl
      by false v = refl

  module _ (ps : List Piece) (cs : List Candidate) (weight commands : ℕ) (some : 1 ≤ level) (a : AreApart ps) (fine : is_well_formed (listed ps) ≡ true)
      (parts : AllParts level ours holds ps cs) where
    wide_from : (q : Piece) → In q (map wide cs) → (c : Candidate) × (In c cs × (wide c ≡ q))
    wide_from q i = in_map wide cs q i

    far : Far ps
    far = places_apart ps a fine

    executes : (q : Piece) → In q (map wide cs) → ExecutesOne (listed ps) q
    executes q i =
        let c = wide_from q i in
        let r = comes_from ps cs c.0 parts c.1.0 in
        let x = some_in (instances r.piece) (instance_in ps r.piece a r.is_piece) in
        subst (ExecutesOne (listed ps)) c.1.1 (record {
          element = element_at r.piece x.0;
          is_element = listed_in ps r.piece (element_at r.piece x.0) r.is_piece (map_in (element_at r.piece) (instances r.piece) x.0 x.1);
          label = r.is_part.label;
          body = r.is_part.body;
          iterators = r.is_part.iterators ∙ sym (length-map r.piece.origin (λ f. value f x.0));
        })

    forth : (e : Element) → In e (listed ps) → In (cut_element level ours holds e) (flat_map elements (map wide cs))
    forth e i =
        let s = in_listed ps e i in
        let t = goes_to ps cs s.piece s.instance parts s.is_piece s.is_instance in
        let same : element_at (wide t.part) s.instance ≡ cut_element level ours holds e =
        sym (t.part_of.element s.instance t.is_instance) ∙ ap (cut_element level ours holds) s.is in
        flat_in elements (map wide cs) (wide t.part) (cut_element level ours holds e) (map_in wide cs t.part t.is_part)
        (subst (λ z. In z (elements (wide t.part))) same (map_in (element_at (wide t.part)) (instances (wide t.part)) s.instance t.is_instance))

    back : (f : Element) → In f (flat_map elements (map wide cs)) → (e : Element) × In e (listed ps) × (cut_element level ours holds e ≡ f)
    back f i =
        let q = in_flat elements (map wide cs) f i in
        let c = wide_from q.0 q.1.0 in
        let j : In f (elements (wide c.0)) = subst (λ z. In f (elements z)) (sym c.1.1) q.1.1 in
        let x = in_map (element_at (wide c.0)) (instances (wide c.0)) f j in
        let r = comes_from ps cs c.0 parts c.1.0 in
        let k = r.is_part.from x.0 x.1.0 in (
          element_at r.piece x.0,
          listed_in ps r.piece (element_at r.piece x.0) r.is_piece (map_in (element_at r.piece) (instances r.piece) x.0 k),
          r.is_part.element x.0 x.1.0 ∙ x.1.1,
        )

    pub are_candidates : 1 ≤ weight → weight ≤ most_weight → commands < most_commands → All (IsLimited weight commands) ps
        → AreCandidates (cut_element level ours holds) (listed ps) weight (commands + 1) cs
    are_candidates light small few limits = record {
      steps = keeps_steps;
      whole = all_in (λ c. IsWhole (wide c)) cs (λ c i. (comes_from ps cs c parts i).is_part.whole);
      known = all_in IsKnown cs (λ c i. (comes_from ps cs c parts i).is_part.known);
      differ = places_differ cs (all_differ ps cs some a far parts);
      apart = λ q r i j.
          let c = wide_from q i in
          let d = wide_from r j in
          let u = comes_from ps cs c.0 parts c.1.0 in
          let v = comes_from ps cs d.0 parts d.1.0 in
          subst (λ z. stand_apart (places_of z) (places_of r) ≡ true) c.1.1
          (subst (λ z. stand_apart (places_of (wide c.0)) (places_of z) ≡ true) d.1.1
          (parts_apart u.piece v.piece c.0 d.0 some (far u.piece v.piece u.is_piece v.is_piece) u.is_part v.is_part));
      executes = executes;
      forth = forth;
      back = back;
      limited = all_in (λ c. IsLimited weight (commands + 1) (wide c)) cs (λ c i.
          let r = comes_from ps cs c parts i in
          r.is_part.limited weight commands light small few (at_all (IsLimited weight commands) ps r.piece limits r.is_piece));
    }
