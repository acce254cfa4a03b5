-- What is known of a copy: its plan, and the cells of all that is moved.
use Rattle.std.proofs.Common.{◌≡◌, refl, sym, ap, ap₂, ◌∙◌, subst, ℕ, suc, ◌+◌, ◌<◌, ◌≤◌, List, [], ◌∷◌, ◌++◌, map, length, take, inl, inr, length-append, arith}
use Rattle.std.specs.List.{All}
use Rattle.std.proofs.lemmas.List.{length-map}
use Rattle.ch_copied.specs.Copyable.{HasLoop, IsCopyable}
use Rattle.ch_copied.specs.Plans.{Plan, plan}
use Rattle.ch_copied.specs.Uses.{Use, uses}
use Rattle.ch_copied.proofs.Datacopied.{its_element}
use Rattle.ch_copied.proofs.Sound.{IsPlanned, long_use, use_dimensions}
use Rattle.ch_datacopy.specs.declared.cells.Cells.{Cells}
use Rattle.ch_datacopy.specs.declared.uses.Way.TheVariants.{Read, Written}
use Rattle.ch_datacopy.specs.Cells.{cell_at, iterators_at}
use Rattle.ch_datacopy.specs.Moved.{all_sources, dimensions}
use Rattle.ch_datacopy.specs.Sources.{AreCellsOf, Source, forms, sources}
use Rattle.ch_datacopy.specs.Used.{IsCellsOf}
use Rattle.ch_datacopy.specs.Widths.{IsRoomy}
use Rattle.ch_datacopy.proofs.Made.{IsTheirs}
use Rattle.ch_datacopy.proofs.OfSpace.{copyable}
use Rattle.ch_datacopy.proofs.Ready.{its_access, roomy, theirs}
use Rattle.ch_datacopy.proofs.Sourced.{are_uses, transfer_of, transfers_are}
use Rattle.ch_nest.specs.declared.nest.Sub as subscript
use Rattle.ch_space.specs.declared.piece.Piece.{Piece}
use Rattle.ch_space.specs.Keeps.{IsSpace}
use Rattle.ch_space.specs.Pieces.{element_at, instances, listed}
use Rattle.ch_space.proofs.Membership.{in_append}
use Rattle.ch_space.proofs.PieceNumbers.{all_in, instance_in, listed_in, some_in}
use Rattle.ch_timed.specs.Groups.{piece}
use Rattle.ch_timed.specs.Members.{Each, In}
use Rattle.ch_timed.proofs.Orders.{map_in}

-- a space, a plan, and the cells of all that it moves, of so many subscripts
pub record IsCopying (arrays : ℕ) (ps : List Piece) (counts : List ℕ) (temps : List (List ℕ)) (weight commands : ℕ) (p : Plan) (m : ℕ) (us : List Cells) : Type 0 where
  pub space : IsSpace arrays ps counts temps weight commands
  pub planned : IsPlanned p (listed ps)
  pub fine : IsCopyable (listed ps) p.array p.buffer m
  pub number : p.buffer ≡ arrays + length temps
  pub declared : p.array < arrays
  pub long : length p.extents ≡ m
  pub some : 1 ≤ m
  pub few : m ≤ 4
  pub moved : List Source
  pub transfers : p.ins ++ p.outs ≡ map transfer_of moved
  pub theirs : (x : Source) → In x moved → IsTheirs ps p.array p.around x
  pub cells : AreCellsOf p.around moved us
  pub many : length us ≡ length p.ins + length p.outs
  pub first : Source
  pub is_first : In first moved

map_both : {X Y : Type 0} (f : X → Y) (xs ys : List X) → map f (xs ++ ys) ≡ map f xs ++ map f ys
map_both f [] ys = refl
map_both f (x ∷ xs) ys = ap (λ z. f x ∷ z) (map_both f xs ys)

-- as many cells as sources
pub cells_many : (around : ℕ) (ss : List Source) (us : List Cells) → AreCellsOf around ss us → length us ≡ length ss
cells_many around [] [] a = refl
cells_many around [] (u ∷ us) a = absurd a
cells_many around (s ∷ ss) [] a = absurd a
cells_many around (s ∷ ss) (u ∷ us) a = ap suc (cells_many around ss us a.1)

-- the source of some cells, and the cells of a source
pub source_of : (around : ℕ) (ss : List Source) (us : List Cells) → AreCellsOf around ss us → (u : Cells) → In u us → (x : Source) × (In x ss × IsCellsOf x.piece around (forms x.access) u)
source_of around [] [] a u i = absurd i
source_of around [] (v ∷ us) a u i = absurd a
source_of around (s ∷ ss) [] a u i = absurd i
source_of around (s ∷ ss) (v ∷ us) a u (inl e) = (s, (inl refl, subst (IsCellsOf s.piece around (forms s.access)) e a.0))
source_of around (s ∷ ss) (v ∷ us) a u (inr i) = let r = source_of around ss us a.1 u i in (r.0, (inr r.1.0, r.1.1))

pub cells_of : (around : ℕ) (ss : List Source) (us : List Cells) → AreCellsOf around ss us → (x : Source) → In x ss → (u : Cells) × (In u us × IsCellsOf x.piece around (forms x.access) u)
cells_of around [] us a x i = absurd i
cells_of around (s ∷ ss) [] a x i = absurd a
cells_of around (s ∷ ss) (v ∷ us) a x (inl e) = (v, (inl refl, subst (λ (z : Source). IsCellsOf z.piece around (forms z.access) v) e a.0))
cells_of around (s ∷ ss) (v ∷ us) a x (inr i) = let r = cells_of around ss us a.1 x i in (r.0, (inr r.1.0, r.1.1))

module _ (arrays : ℕ) (ps : List Piece) (counts : List ℕ) (temps : List (List ℕ)) (weight commands : ℕ) (space : IsSpace arrays ps counts temps weight commands)
    (s around array : ℕ) (loop : HasLoop (listed ps) s (around + 1)) (declared : array < arrays) where
  abbrev pub the_plan : Plan
  the_plan = plan (listed ps) s around array (arrays + length temps)

  abbrev pub moved : List Source
  moved = all_sources ps (piece (listed ps) s) around array

  pub is_planned : IsPlanned the_plan (listed ps)
  is_planned =
      let e = its_element (listed ps) s loop.some in
      let d = loop.most in
      record { ins = refl; outs = refl; extents = refl; label = refl; piece = e.0; is_member = e.1.0; its_places = e.1.1; deep = omega (arith, d) }

  ins_are : the_plan.ins ≡ map transfer_of (sources Read array (piece (listed ps) s) around ps)
  ins_are = transfers_are ps space.apart Read array (piece (listed ps) s) around

  outs_are : the_plan.outs ≡ map transfer_of (sources Written array (piece (listed ps) s) around ps)
  outs_are = transfers_are ps space.apart Written array (piece (listed ps) s) around

  pub are_transfers : the_plan.ins ++ the_plan.outs ≡ map transfer_of moved
  are_transfers =
      ap₂ (λ x y. x ++ y) ins_are outs_are
      ∙ sym (map_both transfer_of (sources Read array (piece (listed ps) s) around ps) (sources Written array (piece (listed ps) s) around ps))

  pub ins_many : length the_plan.ins ≡ length (sources Read array (piece (listed ps) s) around ps)
  ins_many = ap length ins_are ∙ length-map (sources Read array (piece (listed ps) s) around ps) transfer_of

  pub moved_many : length moved ≡ length the_plan.ins + length the_plan.outs
  moved_many = sym (length-map moved transfer_of) ∙ sym (ap length are_transfers) ∙ length-append the_plan.ins the_plan.outs

  -- with an access all is known
  with_first : (m : ℕ) (us : List Cells) → AreCellsOf around moved us → (x : Source) → In x moved → length x.access.subs ≡ m → IsCopying arrays ps counts temps weight commands the_plan m us
  with_first m us cells x i e =
      let t = theirs arrays ps counts temps weight commands space (piece (listed ps) s) around array x i in
      let its = its_access arrays ps counts temps weight commands space x.piece x.access t.piece t.access in
      let y = some_in (instances x.piece) (instance_in ps x.piece space.apart t.piece) in
      let there = listed_in ps x.piece (element_at x.piece y.0) t.piece (map_in (element_at x.piece) (instances x.piece) y.0 y.1) in
      let fine : IsCopyable (listed ps) array (arrays + length temps) m =
      subst (IsCopyable (listed ps) array (arrays + length temps)) e
      (copyable arrays ps counts temps weight commands space array declared (element_at x.piece y.0) x.access there t.access t.array_is) in
      let plain = fine.plain (element_at x.piece y.0) x.access there t.access t.array_is in
      let a = its.some in
      let b = its.few in
      let n = cells_many around moved us cells in
      let w : Use = record { prefix = take around y.0; cell = cell_at (forms x.access) (iterators_at x.piece y.0) } in
      record {
        space = space;
        planned = is_planned;
        fine = fine;
        number = refl;
        declared = declared;
        long = extents_long m fine x i w (are_uses ps space.apart x.piece t.piece around x.access plain y.0 y.1);
        some = omega (arith, a, e);
        few = omega (arith, b, e);
        moved = moved;
        transfers = are_transfers;
        theirs = theirs arrays ps counts temps weight commands space (piece (listed ps) s) around array;
        cells = cells;
        many = n ∙ moved_many;
        first = x;
        is_first = i;
      }
    where
      extents_long : (k : ℕ) → IsCopyable (listed ps) array (arrays + length temps) k → (z : Source) → In z moved → (w : Use) → In w (uses (listed ps) around (transfer_of z)) → length the_plan.extents ≡ k
      extents_long k fine z j w h =
          let side = in_append the_plan.ins the_plan.outs (transfer_of z) (subst (In (transfer_of z)) (sym are_transfers) (map_in transfer_of moved z j)) in
          sym (long_use the_plan (listed ps) k is_planned fine (transfer_of z) w side h).cell ∙ use_dimensions the_plan (listed ps) k is_planned fine (transfer_of z) w side h

  -- where something is moved all is known
  pub copying : (u : Cells) (us : List Cells) → AreCellsOf around moved (u ∷ us) → IsCopying arrays ps counts temps weight commands the_plan (dimensions around (u ∷ us)) (u ∷ us)
  copying u us cells = by moved refl cells
    where
      by : (ss : List Source) → moved ≡ ss → AreCellsOf around ss (u ∷ us) → IsCopying arrays ps counts temps weight commands the_plan (dimensions around (u ∷ us)) (u ∷ us)
      by [] e c = absurd c
      by (x ∷ ss) e c =
          let l = c.0.framed.levels in
          let n = length-map x.access.subs (λ (b : subscript.Sub). b.form) in
          with_first (dimensions around (u ∷ us)) (u ∷ us) cells x (subst (In x) (sym e) (inl refl)) (omega (arith, l, n))

-- what follows for the cells

module _ (arrays : ℕ) (ps : List Piece) (counts : List ℕ) (temps : List (List ℕ)) (weight commands : ℕ) (p : Plan) (m : ℕ) (us : List Cells)
    (k : IsCopying arrays ps counts temps weight commands p m us) where
  pub has_dimensions : (x : Source) → In x k.moved → length (forms x.access) ≡ m
  has_dimensions x i =
      let t = k.theirs x i in
      let y = some_in (instances x.piece) (instance_in ps x.piece k.space.apart t.piece) in
      let there = listed_in ps x.piece (element_at x.piece y.0) t.piece (map_in (element_at x.piece) (instances x.piece) y.0 y.1) in
      length-map x.access.subs (λ (b : subscript.Sub). b.form) ∙ k.fine.agree (element_at x.piece y.0) x.access there t.access t.array_is

  pub is_plain : (x : Source) → In x k.moved → Each (λ (b : subscript.Sub). b.modulus ≡ 0) x.access.subs
  is_plain x i =
      let t = k.theirs x i in
      let y = some_in (instances x.piece) (instance_in ps x.piece k.space.apart t.piece) in
      let there = listed_in ps x.piece (element_at x.piece y.0) t.piece (map_in (element_at x.piece) (instances x.piece) y.0 y.1) in
      k.fine.plain (element_at x.piece y.0) x.access there t.access t.array_is

  pub are_roomy : All (IsRoomy p.around m) us
  are_roomy = all_in (IsRoomy p.around m) us (λ u i.
      let x = source_of p.around k.moved us k.cells u i in
      roomy arrays ps counts temps weight commands k.space p.around p.array m x.0 u (k.theirs x.0 x.1.0) (has_dimensions x.0 x.1.0) x.1.1)

  pub has_levels : (u : Cells) → In u us → u.levels ≡ p.around + m
  has_levels u i =
      let x = source_of p.around k.moved us k.cells u i in
      x.1.1.framed.levels ∙ ap (λ n. p.around + n) (has_dimensions x.0 x.1.0)

  pub all_levels : All (λ u. u.levels ≡ p.around + m) us
  all_levels = all_in (λ (u : Cells). u.levels ≡ p.around + m) us has_levels
