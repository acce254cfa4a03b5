-- The assembled candidates make a space, which stands for the copied list.
use Rattle.std.proofs.Common.{◌≡◌, ◌≢◌, refl, sym, ap, ◌∙◌, subst, ℕ, suc, ◌+◌, ◌*◌, ◌<◌, ◌≤◌, ◌^◌, ℤ, List, [], ◌∷◌, ◌++◌, map, length, take, sum, ◌⊎◌, inl, inr, arith}
use Rattle.std.specs.Bool.{IsTrue}
use Rattle.std.specs.List.{All, flat_map}
use Rattle.std.proofs.lemmas.List.{length-map}
use Rattle.std.proofs.lemmas.List.Elements.{All-weaker}
use Rattle.ch_affine.specs.Affine.{IsAtMost, value}
use Rattle.ch_affine.specs.Form.{Form}
use Rattle.ch_copied.specs.Copied.{copied}
use Rattle.ch_copied.specs.Copyable.{IsCopyable}
use Rattle.ch_copied.specs.Plans.{Plan, free_label}
use Rattle.ch_copied.specs.Uses.{Use}
use Rattle.ch_copied.proofs.Acts.{in_order_are}
use Rattle.ch_copied.proofs.Sound.{IsPlanned, front_long}
use Rattle.ch_copied.proofs.WellFormed.{ordered_fine}
use Rattle.ch_datacopy.specs.declared.cells.Cells.{Cells}
use Rattle.ch_datacopy.specs.Cells.{cell_at, iterators_at}
use Rattle.ch_datacopy.specs.Sources.{AreCellsOf, Source, forms}
use Rattle.ch_datacopy.specs.Works.{AreKept, AreMoved, IsKept, kept_body, move_body}
use Rattle.ch_datacopy.proofs.Assembling.{all_elsewhere, kept_whole, move_whole}
use Rattle.ch_datacopy.proofs.Elementwise.{kept_instances, move_instances}
use Rattle.ch_datacopy.proofs.Limited.{AllReached, free_below, kept_limits, kept_reached, label_stays, move_limits, move_reached, use_near}
use Rattle.ch_datacopy.proofs.NewSpace.{Known, kept_is_body, kept_known, known_agree, move_accesses, move_is_body, move_known, old_dimensions, old_of}
use Rattle.ch_datacopy.proofs.Numbered.{nth_in, nth_small}
use Rattle.ch_datacopy.proofs.Sourced.{transfer_of, used_from, uses_are}
use Rattle.ch_datacopy.proofs.Together.{IsOne, candidate_of, list_is, move_at, target, use_long}
use Rattle.ch_nest.specs.declared.nest.Access.{Access}
use Rattle.ch_nest.specs.declared.nest.Sub as subscript
use Rattle.ch_pieces.specs.Assembled.{IsAssembled, assembled, wide}
use Rattle.ch_pieces.specs.declared.candidate.Candidate.{Candidate}
use Rattle.ch_pieces.proofs.Spaces.{assembled_apart, in_assembled, places_differ}
use Rattle.ch_space.specs.declared.piece.Piece.{Piece}
use Rattle.ch_space.specs.Keeps.{AreApart, IsBody, IsLimited, IsMoveBelow, IsReached, IsSpace, IsWhole, IsWrapped, most_commands, most_instances, most_levels, most_pieces, places_of}
use Rattle.ch_space.specs.Pieces.{element_at, instances, listed}
use Rattle.ch_space.specs.Renumbered.{all_placed}
use Rattle.ch_space.proofs.ClosedPieces.{list_closed, map_placed, space_closed}
use Rattle.ch_space.proofs.EndsOf.{at_all}
use Rattle.ch_space.proofs.Membership.{in_flat}
use Rattle.ch_space.proofs.NestLimits.{length_units}
use Rattle.ch_space.proofs.PieceElements.{whole_in}
use Rattle.ch_space.proofs.PieceNumbers.{all_in, in_listed, instance_in, listed_in, some_in}
use Rattle.ch_timed.specs.Closed.{closed_up}
use Rattle.ch_timed.specs.Conflict.{accesses}
use Rattle.ch_timed.specs.declared.element.Element.{Element}
use Rattle.ch_timed.specs.Members.{Each, In, Pairwise}
use Rattle.ch_timed.specs.Timed.{in_order, is_well_formed}
use Rattle.ch_timed.proofs.Orders.{in_map, map_in}

-- an access of the array by a piece of the space
pub record IsTheirs (ps : List Piece) (array around : ℕ) (s : Source) : Type 0 where
  pub piece : In s.piece ps
  pub access : In s.access (accesses s.piece.body)
  pub array_is : s.access.array ≡ array
  pub deep : around ≤ s.piece.levels

module _ (arrays : ℕ) (ps : List Piece) (counts : List ℕ) (temps : List (List ℕ)) (weight commands : ℕ) (space : IsSpace arrays ps counts temps weight commands)
    (p : Plan) (dimensions : ℕ) (planned : IsPlanned p (listed ps)) (fine : IsCopyable (listed ps) p.array p.buffer dimensions)
    (number : p.buffer ≡ arrays + length temps) (declared : p.array < arrays) (long : length p.extents ≡ dimensions) (some : 1 ≤ dimensions) (few : dimensions ≤ 4)
    (ss : List Source) (transfers : p.ins ++ p.outs ≡ map transfer_of ss) (theirs : (s : Source) → In s ss → IsTheirs ps p.array p.around s)
    (us : List Cells) (cells : AreCellsOf p.around ss us)
    (cs ks ms : List Candidate) (parts : cs ≡ ks ++ ms) (keeps : AreKept p ps ks) (moves : AreMoved p 0 us ms) where
  some_instance_of : (q : Piece) (a : Access) → In q ps → In a (accesses q.body) → (e : Element) × (In e (listed ps) × In a (accesses e.body))
  some_instance_of q a i j =
      let x = some_in (instances q) (instance_in ps q space.apart i) in
      (element_at q x.0, (listed_in ps q (element_at q x.0) i (map_in (element_at q) (instances q) x.0 x.1), j))

  plain_of : (s : Source) → In s ss → Each (λ (b : subscript.Sub). b.modulus ≡ 0) s.access.subs
  plain_of s i =
      let t = theirs s i in
      let e = some_instance_of s.piece s.access t.piece t.access in
      fine.plain e.0 s.access e.1.0 e.1.1 t.array_is

  pub dimensions_of : (s : Source) → In s ss → length (forms s.access) ≡ dimensions
  dimensions_of s i =
      let t = theirs s i in
      length-map s.access.subs (λ b. b.form) ∙ old_dimensions arrays ps counts temps weight commands space p dimensions fine number declared long some few s.access
      (old_of arrays ps counts temps weight commands space p dimensions fine number declared long some few s.piece s.access t.piece t.access) t.array_is

  pub are_theirs : (s : Source) → In s ss → In s.piece ps × Each (λ (b : subscript.Sub). b.modulus ≡ 0) s.access.subs
  are_theirs s i = ((theirs s i).piece, plain_of s i)

  pub candidate : (c : Candidate) → In c cs → ((q : Piece) × (In q ps × IsKept p q c)) ⊎ IsOne p ss us c
  candidate = candidate_of ps space.apart p dimensions planned fine ss transfers are_theirs us cells cs ks ms parts keeps moves

  source_in : (c : Candidate) (o : IsOne p ss us c) → In o.source ss
  source_in c o = nth_in o.number ss o.source o.is_source

  pub levels_of : (c : Candidate) (o : IsOne p ss us c) → o.cells.levels ≡ p.around + dimensions
  levels_of c o = o.cells_are.framed.levels ∙ ap (λ n. p.around + n) (dimensions_of o.source (source_in c o))

  front : length (take p.around p.ours) ≡ p.around
  front = front_long p (listed ps) dimensions planned fine

  -- what is asked of the candidates

  pub all_whole : All (λ c. IsWhole (wide c)) cs
  all_whole = all_in (λ c. IsWhole (wide c)) cs (λ c i. elim (candidate c i) as (λ _. IsWhole (wide c)) [
    | inl k ↦ kept_whole p k.0 c k.1.1 (whole_in ps k.0 space.apart k.1.0)
    | inr o ↦ move_whole p o.number o.cells c o.source.piece (forms o.source.access) o.moved o.cells_are front (dimensions_of o.source (source_in c o) ∙ sym long)
  ])

  body_of : (c : Candidate) → In c cs → IsBody arrays (length (temps ++ p.extents ∷ [])) (length (wide c).origin) (wide c).body
  body_of c i = elim (candidate c i) as (λ _. IsBody arrays (length (temps ++ p.extents ∷ [])) (length (wide c).origin) (wide c).body) [
    | inl k ↦
        subst (λ b. IsBody arrays (length (temps ++ p.extents ∷ [])) (length (wide c).origin) b) (sym k.1.1.body)
        (subst (λ (fs : List Form). IsBody arrays (length (temps ++ p.extents ∷ [])) (length fs) (kept_body p k.0)) (sym k.1.1.origin)
        (kept_is_body arrays ps counts temps weight commands space p dimensions fine number declared long some few k.0 k.1.0))
    | inr o ↦
        subst (λ b. IsBody arrays (length (temps ++ p.extents ∷ [])) (length (wide c).origin) b) (sym o.moved.body)
        (move_is_body arrays ps counts temps weight commands space p dimensions fine number declared long some few o.number (length c.piece.origin)
        (ap (λ (fs : List Form). length fs) o.moved.origin ∙ length_units 0 o.cells.levels ∙ levels_of c o))
  ]

  known_of : (c : Candidate) → In c cs → (a : Access) → In a (accesses (wide c).body) → Known arrays ps counts temps weight commands space p dimensions fine number declared long some few a
  known_of c i a j = elim (candidate c i) as (λ _. Known arrays ps counts temps weight commands space p dimensions fine number declared long some few a) [
    | inl k ↦ kept_known arrays ps counts temps weight commands space p dimensions fine number declared long some few k.0 k.1.0 a (subst (λ b. In a (accesses b)) k.1.1.body j)
    | inr o ↦ move_known arrays ps counts temps weight commands space p dimensions fine number declared long some few o.number a (subst (λ b. In a (accesses b)) o.moved.body j)
  ]

  labels : free_label (listed ps) ≤ 256 * commands
  labels = free_below (listed ps) (256 * commands) (λ e i.
      let s = in_listed ps e i in
      subst (λ (z : Element). IsMoveBelow (256 * commands) z.identity.label) s.is (at_all (λ q. IsMoveBelow (256 * commands) q.label) ps s.piece space.moves s.is_piece))

  -- the elements

  cell_small : (s : Source) → In s ss → (xs : List ℤ) → In xs (instances s.piece) → (z : ℤ) → In z (cell_at (forms s.access) (iterators_at s.piece xs)) → IsAtMost (2 ^ 18) z
  cell_small s i xs j z k =
      let t = theirs s i in
      let e = element_at s.piece xs in
      let there = listed_in ps s.piece (element_at s.piece xs) t.piece (map_in (element_at s.piece) (instances s.piece) xs j) in
      let reached = at_all (λ (e : Element). All (λ a. All (IsReached e.identity.iters) a.subs) (accesses e.body)) (listed ps) (element_at s.piece xs) space.reached there in
      let mine = at_all (λ (a : Access). All (IsReached (iterators_at s.piece xs)) a.subs) (accesses s.piece.body) s.access reached t.access in
      let f = in_map (λ f. value f (iterators_at s.piece xs)) (forms s.access) z k in
      let b = in_map (λ (b : subscript.Sub). b.form) s.access.subs f.0 f.1.0 in
      subst (IsAtMost (2 ^ 18)) (ap (λ g. value g (iterators_at s.piece xs)) b.1.1 ∙ f.1.1) (at_all (IsReached (iterators_at s.piece xs)) s.access.subs b.0 mine b.1.0)

  record IsFine (e : Element) : Type 0 where
    near : All (IsAtMost (2 ^ 54)) e.identity.iters
    reached : All (λ a. All (IsReached e.identity.iters) a.subs) (accesses e.body)

  kept_fine : (q : Piece) (c : Candidate) → In q ps → IsKept p q c → (xs : List ℤ) → In xs (instances (wide c)) → IsFine (element_at (wide c) xs)
  kept_fine q c i k xs j =
      let x = subst (In xs) (kept_instances p q c k) j in
      let there = listed_in ps q (element_at q xs) i (map_in (element_at q) (instances q) xs x) in
      let near = at_all (λ (e : Element). All (IsAtMost (2 ^ 54)) e.identity.iters) (listed ps) (element_at q xs) space.near there in
      let reached = at_all (λ (e : Element). All (λ a. All (IsReached e.identity.iters) a.subs) (accesses e.body)) (listed ps) (element_at q xs) space.reached there in
      let iters : iterators_at q xs ≡ map (λ f. value f xs) c.piece.origin = ap (λ (fs : List Form). map (λ f. value f xs) fs) (sym k.origin) in
      record {
        near = subst (All (IsAtMost (2 ^ 54))) iters near;
        reached = subst (λ b. AllReached (map (λ f. value f xs) c.piece.origin) b) (sym k.body) (subst (λ zs. AllReached zs (kept_body p q)) iters (kept_reached p (iterators_at q xs) q reached));
      }

  moved_fine : (c : Candidate) → IsOne p ss us c → (ys : List ℤ) → In ys (instances (wide c)) → IsFine (element_at (wide c) ys)
  moved_fine c o ys j =
      let i = source_in c o in
      let t = theirs o.source i in
      let x = (o.cells_are.exact ys).0 (subst (In ys) (move_instances p o.number o.cells c o.moved) j) in
      let w = used_from ps space.apart o.source.piece t.piece p.around o.source.access (plain_of o.source i) o.cells o.cells_are ys (subst (In ys) (move_instances p o.number o.cells c o.moved) j) in
      let l = use_long ps space.apart p dimensions planned fine ss transfers are_theirs us cells cs ks ms parts keeps moves o.source i w.0 w.1.0 in
      let u = uses_are ps space.apart o.source.piece t.piece p.around o.source.access (plain_of o.source i) w.0 w.1.0 in
      let at = move_at ps space.apart p dimensions planned fine ss transfers are_theirs us cells cs ks ms parts keeps moves o.number o.source i o.cells c o.moved o.cells_are w.0 w.1.0 in
      let cell : (z : ℤ) → In z w.0.cell → IsAtMost (2 ^ 18) z = λ z k. cell_small o.source i u.0 u.1.0 z (subst (λ (v : Use). In z v.cell) u.1.1 k) in
      let near : All (IsAtMost (2 ^ 54)) (w.0.prefix ++ w.0.cell) = subst (λ (v : Use). All (IsAtMost (2 ^ 54)) (v.prefix ++ v.cell)) (sym u.1.1)
      (use_near weight commands p.around (forms o.source.access) o.source.piece u.0 space.small_weight space.few_commands (at_all (IsLimited weight commands) ps o.source.piece space.limited t.piece) u.1.0
      (cell_small o.source i u.0 u.1.0)) in
      let reached : AllReached (w.0.prefix ++ w.0.cell) (move_body p o.number) = move_reached p o.number w.0.prefix w.0.cell l.prefix l.cell cell
      (move_accesses arrays ps counts temps weight commands space p dimensions fine number declared long some few o.number) in
      subst (λ zs. IsFine (element_at (wide c) zs)) (sym w.1.1)
      (subst IsFine (sym at) (record { near = near; reached = reached }))

  fine_of : (c : Candidate) → In c cs → (xs : List ℤ) → In xs (instances (wide c)) → IsFine (element_at (wide c) xs)
  fine_of c i xs j = elim (candidate c i) as (λ _. IsFine (element_at (wide c) xs)) [
    | inl k ↦ kept_fine k.0 c k.1.0 k.1.1 xs j
    | inr o ↦ moved_fine c o xs j
  ]

  -- the space

  pub up : length us ≡ length p.ins + length p.outs → AreApart (assembled cs)
  up many = assembled_apart cs all_whole (places_differ cs (subst (λ z. Pairwise (λ c d. places_of (wide c) ≢ places_of (wide d)) z) (sym parts) (all_elsewhere ps space.apart p dimensions planned fine us ks ms keeps moves many)))

  from_candidate : (q : Piece) → In q (assembled cs) → (c : Candidate) × (In c cs × (wide c ≡ q))
  from_candidate q i = in_map wide cs q (in_assembled cs q i)

  module _ (many : length us ≡ length p.ins + length p.outs) where
    pub whole_list : listed (assembled cs) ≡ in_order (target ps space.apart p dimensions planned fine ss transfers are_theirs us cells cs ks ms parts keeps moves)
    whole_list = list_is ps space.apart p dimensions planned fine ss transfers are_theirs us cells cs ks ms parts keeps moves (up many)

    each_fine : (e : Element) → In e (listed (assembled cs)) → IsFine e
    each_fine e i =
        let s = in_listed (assembled cs) e i in
        let c = from_candidate s.piece s.is_piece in
        subst IsFine (ap (λ q. element_at q s.instance) c.1.1 ∙ s.is) (fine_of c.0 c.1.0 s.instance (subst (λ q. In s.instance (instances q)) (sym c.1.1) s.is_instance))

    reached_wrapped : (iters : List ℤ) (s : subscript.Sub) → IsReached iters s → IsWrapped iters s
    reached_wrapped iters s h = λ _. omega (arith, h)

    module _ (shallow : p.around + dimensions ≤ most_levels) (small : length ps + length ss ≤ most_pieces) where
      limits_of : (c : Candidate) → In c cs → IsLimited weight (commands + 1) (wide c)
      limits_of c i = elim (candidate c i) as (λ _. IsLimited weight (commands + 1) (wide c)) [
        | inl k ↦ kept_limits weight commands k.0 (wide c) space.some_weight k.1.1.levels k.1.1.hidden k.1.1.system k.1.1.origin
            (at_all (IsLimited weight commands) ps k.0 space.limited k.1.0)
        | inr o ↦
            let s = source_in c o in
            let t = theirs o.source s in
            let l = levels_of c o in
            let d = dimensions_of o.source s in
            move_limits weight commands p.around (forms o.source.access) o.source.piece o.cells (wide c) space.some_weight space.small_weight t.deep (omega (arith, d, few)) (omega (arith, l, shallow))
            (at_all (IsLimited weight commands) ps o.source.piece space.limited t.piece) o.cells_are o.moved.levels o.moved.hidden o.moved.system o.moved.origin
      ]

      label_of : (c : Candidate) → In c cs → IsMoveBelow (256 * (commands + 1)) (wide c).label
      label_of c i = elim (candidate c i) as (λ _. IsMoveBelow (256 * (commands + 1)) (wide c).label) [
        | inl k ↦ subst (IsMoveBelow (256 * (commands + 1))) (sym k.1.1.label) (label_stays k.0.label commands (at_all (λ q. IsMoveBelow (256 * commands) q.label) ps k.0 space.moves k.1.0))
        | inr o ↦ subst (IsMoveBelow (256 * (commands + 1))) (sym o.moved.label)
            (let l = labels in let k = nth_small o.number ss o.source o.is_source in let f = planned.label in omega (arith, l, k, f, small))
      ]

      open_space : (new_counts : List ℕ) → new_counts ≡ map (λ q. length (instances q)) (assembled cs) → sum new_counts ≤ most_instances → length (assembled cs) ≤ most_pieces → commands + 1 ≤ most_commands
          → IsSpace arrays (assembled cs) new_counts (temps ++ p.extents ∷ []) weight (commands + 1)
      open_space new_counts counted few_instances few_pieces few_commands = record {
        apart = up many;
        well_formed = subst (λ z. IsTrue (is_well_formed z)) (sym (whole_list ∙ in_order_are p (listed ps))) (ordered_fine p (listed ps) dimensions planned fine);
        counted = counted;
        few = few_instances;
        few_arrays = space.few_arrays;
        few_pieces = few_pieces;
        few_commands = few_commands;
        some_weight = space.some_weight;
        small_weight = space.small_weight;
        limited = all_in (IsLimited weight (commands + 1)) (assembled cs) (λ q i. let c = from_candidate q i in subst (IsLimited weight (commands + 1)) c.1.1 (limits_of c.0 c.1.0));
        bodies = all_in (λ q. IsBody arrays (length (temps ++ p.extents ∷ [])) (length q.origin) q.body) (assembled cs)
            (λ q i. let c = from_candidate q i in subst (λ z. IsBody arrays (length (temps ++ p.extents ∷ [])) (length z.origin) z.body) c.1.1 (body_of c.0 c.1.0));
        agree = λ a b i j e. known_agree arrays ps counts temps weight commands space p dimensions fine number declared long some few a b (access_known a i) (access_known b j) e;
        moves = all_in (λ q. IsMoveBelow (256 * (commands + 1)) q.label) (assembled cs) (λ q i. let c = from_candidate q i in subst (λ z. IsMoveBelow (256 * (commands + 1)) z.label) c.1.1 (label_of c.0 c.1.0));
        near = all_in (λ (e : Element). All (IsAtMost (2 ^ 54)) e.identity.iters) (listed (assembled cs)) (λ e i. (each_fine e i).near);
        wrapped = all_in (λ (e : Element). All (λ a. All (IsWrapped e.identity.iters) a.subs) (accesses e.body)) (listed (assembled cs)) (λ e i.
            All-weaker (λ (a : Access). All (IsReached e.identity.iters) a.subs) (λ (a : Access). All (IsWrapped e.identity.iters) a.subs)
            (λ a h. All-weaker (IsReached e.identity.iters) (IsWrapped e.identity.iters) (reached_wrapped e.identity.iters) a.subs h) (accesses e.body) (each_fine e i).reached);
        reached = all_in (λ (e : Element). All (λ a. All (IsReached e.identity.iters) a.subs) (accesses e.body)) (listed (assembled cs)) (λ e i. (each_fine e i).reached);
      }
        where
          access_known : (a : Access) → In a (flat_map (λ q. accesses q.body) (assembled cs)) → Known arrays ps counts temps weight commands space p dimensions fine number declared long some few a
          access_known a i =
              let q = in_flat (λ q. accesses q.body) (assembled cs) a i in
              let c = from_candidate q.0 q.1.0 in
              known_of c.0 c.1.0 a (subst (λ z. In a (accesses z.body)) (sym c.1.1) q.1.1)

    module _ (new : List Piece) (new_counts : List ℕ) (are : IsAssembled cs new new_counts) where
      -- it stands for the copied list
      pub made_list : listed new ≡ copied p (listed ps)
      made_list = ap listed are.is ∙ list_closed (assembled cs) are.ranks are.are_ranks (up many) ∙ ap closed_up whole_list

      -- and is a space
      pub made_space : p.around + dimensions ≤ most_levels → length ps + length ss ≤ most_pieces → sum new_counts ≤ most_instances → length new ≤ most_pieces → commands + 1 ≤ most_commands → IsSpace arrays new new_counts (temps ++ p.extents ∷ []) weight (commands + 1)
      made_space shallow small few_instances few_pieces few_commands =
          subst (λ z. IsSpace arrays z new_counts (temps ++ p.extents ∷ []) weight (commands + 1)) (sym are.is)
          (space_closed arrays weight (commands + 1) (assembled cs) new_counts (temps ++ p.extents ∷ []) are.ranks are.are_ranks
          (open_space shallow small new_counts (are.counted ∙ ap (map (λ q. length (instances q))) are.is ∙ map_placed (λ q. length (instances q)) (λ q c. refl) (assembled cs) are.ranks) few_instances
          (subst (λ n. n ≤ most_pieces) (ap length are.is ∙ placed_many (assembled cs) are.ranks) few_pieces) few_commands))
        where
          placed_many : (qs : List Piece) (rs : List (List ℕ)) → length (all_placed qs rs) ≡ length qs
          placed_many [] rs = refl
          placed_many (q ∷ qs) [] = refl
          placed_many (q ∷ qs) (r ∷ rs) = ap suc (placed_many qs rs)
