-- How many pieces the copied list has, and how deep they are, told from the old pieces and what is moved.
use Rattle.std.proofs.Common.{◌≡◌, refl, sym, ap, ap₂, ◌∙◌, subst, ℕ, suc, max, ◌+◌, ◌-◌, ◌<◌, ◌≤◌, ℤ, pos, true, List, [], ◌∷◌, ◌++◌, map, length, take, ◌⊎◌, inl, inr, length-append, arith}
use Rattle.ch_copied.specs.Copied.{copied}
use Rattle.ch_copied.specs.Copyable.{IsCopyable}
use Rattle.ch_copied.specs.Plans.{Plan}
use Rattle.ch_copied.proofs.Lists.{append_left, append_right}
use Rattle.ch_copied.proofs.Sound.{IsPlanned}
use Rattle.ch_datacopy.specs.Causes.{deepest}
use Rattle.ch_datacopy.specs.declared.cells.Cells.{Cells}
use Rattle.ch_datacopy.specs.Cells.{cell_at, iterators_at}
use Rattle.ch_datacopy.specs.Sources.{AreCellsOf, Source, forms}
use Rattle.ch_datacopy.proofs.Counted.{all_ranked, are_ranked, assembled_many, closed_many, kept_many, moved_many}
use Rattle.ch_datacopy.proofs.Elementwise.{kept_instances, move_instances}
use Rattle.ch_datacopy.proofs.Existing.{kept_candidate, keeps_exist, move_at, moves_exist, moves_from}
use Rattle.ch_datacopy.proofs.Made.{IsTheirs, candidate, dimensions_of, levels_of, up, whole_list}
use Rattle.ch_datacopy.proofs.Numbered.{nth_in}
use Rattle.ch_datacopy.proofs.Sourced.{transfer_of}
use Rattle.ch_datacopy.proofs.Together.{IsOne}
use Rattle.ch_pieces.specs.Assembled.{assembled, has_instance, has_some, wide}
use Rattle.ch_pieces.specs.declared.candidate.Candidate.{Candidate}
use Rattle.ch_pieces.proofs.Spaces.{assembled_in, in_assembled}
use Rattle.ch_space.specs.declared.piece.Piece.{Piece}
use Rattle.ch_space.specs.Keeps.{AreApart, IsSpace, IsWhole, places_of}
use Rattle.ch_space.specs.Pieces.{element_at, instances, listed}
use Rattle.ch_space.specs.Renumbered.{all_placed, placed}
use Rattle.ch_space.proofs.ClosedPieces.{apart_placed, list_closed, places_in}
use Rattle.ch_space.proofs.PieceElements.{length_pos, whole_in}
use Rattle.ch_space.proofs.PieceNumbers.{instance_in, numbered, some_in}
use Rattle.ch_timed.specs.Closed.{closed_up}
use Rattle.ch_timed.specs.Members.{In}
use Rattle.ch_timed.specs.Timed.{pieces}
use Rattle.ch_timed.proofs.Orders.{in_map, map_in}

has_in : {X : Type 0} (xs : List X) (x : X) → In x xs → has_some xs ≡ true
has_in [] x i = absurd i
has_in (y ∷ ys) x i = refl

deepest_has : (pss : List (List ℤ)) (ps : List ℤ) → In ps pss → length ps - 1 ≤ deepest pss
deepest_has [] ps i = absurd i
deepest_has (qs ∷ pss) ps (inl e) = let l = ap length e in omega (arith, l)
deepest_has (qs ∷ pss) ps (inr i) = let l = deepest_has pss ps i in omega (arith, l)

deepest_least : (pss : List (List ℤ)) (n : ℕ) → ((ps : List ℤ) → In ps pss → length ps - 1 ≤ n) → deepest pss ≤ n
deepest_least [] n h = omega arith
deepest_least (ps ∷ pss) n h = let a = h ps (inl refl) in let b = deepest_least pss n (λ qs i. h qs (inr i)) in omega (arith, a, b)

module _ (arrays : ℕ) (ps : List Piece) (counts : List ℕ) (temps : List (List ℕ)) (weight commands : ℕ) (space : IsSpace arrays ps counts temps weight commands)
    (p : Plan) (dimensions : ℕ) (planned : IsPlanned p (listed ps)) (fine : IsCopyable (listed ps) p.array p.buffer dimensions)
    (number : p.buffer ≡ arrays + length temps) (declared : p.array < arrays) (long : length p.extents ≡ dimensions) (some : 1 ≤ dimensions) (few : dimensions ≤ 4)
    (ss : List Source) (transfers : p.ins ++ p.outs ≡ map transfer_of ss) (theirs : (s : Source) → In s ss → IsTheirs ps p.array p.around s)
    (us : List Cells) (cells : AreCellsOf p.around ss us) (ours : List ℕ) (are : p.ours ≡ map pos ours) (many : length us ≡ length p.ins + length p.outs) where
  abbrev ks : List Candidate
  ks = map (kept_candidate p) ps

  abbrev ms : List Candidate
  ms = moves_from p ours are 0 us

  abbrev cs : List Candidate
  cs = ks ++ ms

  apart : AreApart (assembled cs)
  apart = up arrays ps counts temps weight commands space p dimensions planned fine number declared long some few ss transfers theirs us cells cs ks ms refl (keeps_exist p ps) (moves_exist p ours are 0 us) many

  copied_is : copied p (listed ps) ≡ closed_up (listed (assembled cs))
  copied_is = ap closed_up (sym (whole_list arrays ps counts temps weight commands space p dimensions planned fine number declared long some few ss transfers theirs us cells cs ks ms refl (keeps_exist p ps) (moves_exist p ours are 0 us) many))

  -- each candidate has an instance
  filled : (q : Piece) → In q (map wide cs) → has_instance q ≡ true
  filled q i =
      let c = in_map wide cs q i in
      subst (λ z. has_instance z ≡ true) c.1.1
      (elim (candidate arrays ps counts temps weight commands space p dimensions planned fine number declared long some few ss transfers theirs us cells cs ks ms refl (keeps_exist p ps) (moves_exist p ours are 0 us) c.0 c.1.0) as (λ _. has_instance (wide c.0) ≡ true) [
        | inl k ↦
            let x = some_in (instances k.0) (instance_in ps k.0 space.apart k.1.0) in
            has_in (instances (wide c.0)) x.0 (subst (In x.0) (sym (kept_instances p k.0 c.0 k.1.1)) x.1)
        | inr o ↦ moved_filled c.0 o
      ])
    where
      moved_filled : (c : Candidate) → IsOne p ss us c → has_instance (wide c) ≡ true
      moved_filled c o =
          let t = theirs o.source (nth_in o.number ss o.source o.is_source) in
          let x = some_in (instances o.source.piece) (instance_in ps o.source.piece space.apart t.piece) in
          let ys = take p.around x.0 ++ cell_at (forms o.source.access) (iterators_at o.source.piece x.0) in
          let j = (o.cells_are.exact (take p.around x.0 ++ cell_at (forms o.source.access) (iterators_at o.source.piece x.0))).1 (x.0, x.1, refl) in
          has_in (instances (wide c)) _ (subst (In (take p.around x.0 ++ cell_at (forms o.source.access) (iterators_at o.source.piece x.0))) (sym (move_instances p o.number o.cells c o.moved)) j)

  -- one piece for each old one, and one for each access that is moved
  pub pieces_many : length (pieces (copied p (listed ps))) ≡ length ps + length us
  pieces_many =
      ap (λ z. length (pieces z)) copied_is ∙ closed_many (assembled cs) apart ∙ assembled_many cs filled ∙ length-append ks ms
      ∙ ap₂ (λ a b. a + b) (kept_many p ps ks (keeps_exist p ps)) (moved_many p 0 us ms (moves_exist p ours are 0 us))

  -- levels

  abbrev rs : List (List ℕ)
  rs = all_ranked (map places_of (assembled cs)) (assembled cs)

  abbrev new : List Piece
  new = all_placed (assembled cs) rs

  new_apart : AreApart new
  new_apart = apart_placed (map places_of (assembled cs)) (assembled cs) rs (places_in (assembled cs)) (are_ranked (map places_of (assembled cs)) (assembled cs)) apart

  new_pieces : pieces (copied p (listed ps)) ≡ map places_of new
  new_pieces =
      ap pieces (copied_is ∙ sym (list_closed (assembled cs) rs (are_ranked (map places_of (assembled cs)) (assembled cs)) apart)) ∙ numbered new new_apart

  from_placed : (qs : List Piece) (ranks : List (List ℕ)) (q : Piece) → In q (all_placed qs ranks) → (r : Piece) × (In r qs × (q.levels ≡ r.levels))
  from_placed [] ranks q i = absurd i
  from_placed (r ∷ qs) [] q i = (q, (i, refl))
  from_placed (r ∷ qs) (c ∷ ranks) q (inl e) = (r, (inl refl, ap (λ (z : Piece). z.levels) (sym e)))
  from_placed (r ∷ qs) (c ∷ ranks) q (inr i) = let s = from_placed qs ranks q i in (s.0, (inr s.1.0, s.1.1))

  to_placed : (qs : List Piece) (ranks : List (List ℕ)) (r : Piece) → In r qs → (q : Piece) × (In q (all_placed qs ranks) × (q.levels ≡ r.levels))
  to_placed [] ranks r i = absurd i
  to_placed (q ∷ qs) [] r i = (r, (i, refl))
  to_placed (q ∷ qs) (c ∷ ranks) r (inl e) = (placed q c, (inl refl, ap (λ (z : Piece). z.levels) e))
  to_placed (q ∷ qs) (c ∷ ranks) r (inr i) = let s = to_placed qs ranks r i in (s.0, (inr s.1.0, s.1.1))

  -- how deep a whole piece is
  depth_is : (q : Piece) → IsWhole q → length (places_of q) - 1 ≡ q.levels
  depth_is q w = let a = length_pos q.places in let b = w.places in omega (arith, a, b)

  -- the levels of a candidate
  levels_are : (c : Candidate) → In c cs → ((q : Piece) × (In q ps × ((wide c).levels ≡ q.levels))) ⊎ ((wide c).levels ≡ p.around + dimensions)
  levels_are c i = elim (candidate arrays ps counts temps weight commands space p dimensions planned fine number declared long some few ss transfers theirs us cells cs ks ms refl (keeps_exist p ps) (moves_exist p ours are 0 us) c i)
      as (λ _. ((q : Piece) × (In q ps × ((wide c).levels ≡ q.levels))) ⊎ ((wide c).levels ≡ p.around + dimensions)) [
        | inl k ↦ inl (k.0, (k.1.0, k.1.1.levels))
        | inr o ↦ inr (o.moved.levels ∙ levels_of arrays ps counts temps weight commands space p dimensions planned fine number declared long some few ss transfers theirs us cells cs ks ms refl (keeps_exist p ps) (moves_exist p ours are 0 us) c o)
      ]

  -- a candidate's levels are those of a new piece
  deep_new : (c : Candidate) → In c cs → (wide c).levels ≤ deepest (map places_of new)
  deep_new c i =
      let there = map_in wide cs c i in
      let q = to_placed (assembled cs) rs (wide c) (in_all (wide c) there) in
      let d = depth_is q.0 (whole_in new q.0 new_apart q.1.0) in
      let h = deepest_has (map places_of new) (places_of q.0) (map_in places_of new q.0 q.1.0) in
      let e = q.1.1 in
      omega (arith, d, h, e)
    where
      in_all : (q : Piece) → In q (map wide cs) → In q (assembled cs)
      in_all q j = let x = some_there (instances q) (filled q j) in assembled_in cs q (element_at q x.0) j (map_in (element_at q) (instances q) x.0 x.1)
        where
          some_there : (xs : List (List ℤ)) → has_some xs ≡ true → (x : List ℤ) × In x xs
          some_there [] h = cc
          some_there (x ∷ xs) h = (x, inl refl)

  -- no piece is deeper than the deepest old one and the moves
  pub deepest_is : (u : Cells) → In u us → deepest (pieces (copied p (listed ps))) ≡ max (deepest (map places_of ps)) (p.around + dimensions)
  deepest_is u i = ap deepest new_pieces ∙ (let a = at_most in let b = old_least in let c = move_least in omega (arith, a, b, c))
    where
      at_most : deepest (map places_of new) ≤ max (deepest (map places_of ps)) (p.around + dimensions)
      at_most = deepest_least (map places_of new) (max (deepest (map places_of ps)) (p.around + dimensions)) (λ qs j.
          let q = in_map places_of new qs j in
          let r = from_placed (assembled cs) rs q.0 q.1.0 in
          let c = in_map wide cs r.0 (in_assembled cs r.0 r.1.0) in
          let d = depth_is q.0 (whole_in new q.0 new_apart q.1.0) in
          let e = r.1.1 in
          let f = ap (λ (z : Piece). z.levels) c.1.1 in
          let g = ap (λ zs. length zs) q.1.1 in
          elim (levels_are c.0 c.1.0) as (λ _. length qs - 1 ≤ max (deepest (map places_of ps)) (p.around + dimensions)) [
            | inl k ↦
                let h = deepest_has (map places_of ps) (places_of k.0) (map_in places_of ps k.0 k.1.0) in
                let w = depth_is k.0 (whole_in ps k.0 space.apart k.1.0) in
                let l = k.1.1 in
                omega (arith, d, e, f, g, h, w, l)
            | inr l ↦ omega (arith, d, e, f, g, l)
          ])

      old_least : deepest (map places_of ps) ≤ deepest (map places_of new)
      old_least = deepest_least (map places_of ps) (deepest (map places_of new)) (λ qs j.
          let q = in_map places_of ps qs j in
          let h = deep_new (kept_candidate p q.0) (append_left ks ms (kept_candidate p q.0) (map_in (kept_candidate p) ps q.0 q.1.0)) in
          let w = depth_is q.0 (whole_in ps q.0 space.apart q.1.0) in
          let g = ap (λ zs. length zs) q.1.1 in
          omega (arith, h, w, g))

      one_move : (k : ℕ) (vs : List Cells) → In u vs → (c : Candidate) × (In c (moves_from p ours are k vs) × ((wide c).levels ≡ u.levels))
      one_move k [] j = absurd j
      one_move k (v ∷ vs) (inl e) = (move_at p ours are k v, (inl refl, ap (λ (z : Cells). z.levels) e))
      one_move k (v ∷ vs) (inr j) = let r = one_move (suc k) vs j in (r.0, (inr r.1.0, r.1.1))

      level_of : (rest : List Source) (vs : List Cells) → AreCellsOf p.around rest vs → ((s : Source) → In s rest → length (forms s.access) ≡ dimensions) → In u vs → u.levels ≡ p.around + dimensions
      level_of [] [] a h j = absurd j
      level_of [] (v ∷ vs) a h j = absurd a
      level_of (s ∷ rest) [] a h j = absurd j
      level_of (s ∷ rest) (v ∷ vs) a h (inl e) = ap (λ (z : Cells). z.levels) (sym e) ∙ a.0.framed.levels ∙ ap (λ n. p.around + n) (h s (inl refl))
      level_of (s ∷ rest) (v ∷ vs) a h (inr j) = level_of rest vs a.1 (λ t k. h t (inr k)) j

      move_least : p.around + dimensions ≤ deepest (map places_of new)
      move_least =
          let c = one_move 0 us i in
          let h = deep_new c.0 (append_right ks ms c.0 c.1.0) in
          let l = level_of ss us cells (dimensions_of arrays ps counts temps weight commands space p dimensions planned fine number declared long some few ss transfers theirs us cells cs ks ms refl (keeps_exist p ps) (moves_exist p ours are 0 us)) i in
          let e = c.1.1 in
          omega (arith, h, l, e)
