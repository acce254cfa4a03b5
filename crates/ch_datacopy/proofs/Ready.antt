-- What a space keeps of the accesses that are moved.
use Rattle.ch_order.specs.Accesses.{same_access}
use Rattle.std.proofs.Common.{◌≡◌, sym, ap, ◌∙◌, subst, ℕ, suc, ◌<◌, ◌≤◌, ◌^◌, ℤ, true, ◌&&◌, nat_lt, List, [], ◌∷◌, ◌++◌, length, take, drop, inl, inr, arith}
use Rattle.std.specs.List.{All, filter}
use Rattle.std.proofs.lemmas.Bool.{and_parts, eqb-true, ltb-true}
use Rattle.std.proofs.lemmas.List.{length-map}
use Rattle.ch_affine.specs.Affine.{IsAtMost, value}
use Rattle.ch_affine.specs.Form.{Form}
use Rattle.ch_copied.specs.Accesses.{names}
use Rattle.ch_copied.proofs.Different.{in_different}
use Rattle.ch_datacopy.specs.declared.cells.Cells.{Cells}
use Rattle.ch_datacopy.specs.declared.uses.Way.{Way}
use Rattle.ch_datacopy.specs.declared.uses.Way.TheVariants.{Read, Written}
use Rattle.ch_datacopy.specs.Cells.{cell_at, iterators_at}
use Rattle.ch_datacopy.specs.Moved.{all_sources}
use Rattle.ch_datacopy.specs.Pairs.{IsFramed}
use Rattle.ch_datacopy.specs.Sources.{AreReady, IsReady, Source, accesses_by, forms, from_piece, sources}
use Rattle.ch_datacopy.specs.Used.{AreNear, IsCellsOf}
use Rattle.ch_datacopy.specs.Widths.{IsRoomy}
use Rattle.ch_datacopy.proofs.Instances.{drop_front, take_few}
use Rattle.ch_datacopy.proofs.Made.{IsTheirs}
use Rattle.ch_nest.specs.declared.nest.Access.{Access}
use Rattle.ch_nest.specs.declared.nest.Body.{Body}
use Rattle.ch_nest.specs.declared.nest.Sub as subscript
use Rattle.ch_space.specs.declared.piece.Piece.{Piece}
use Rattle.ch_space.specs.Keeps.{IsAccess, IsBody, IsLimited, IsReached, IsSpace, places_of}
use Rattle.ch_space.specs.Pieces.{element_at, instances, listed}
use Rattle.ch_space.proofs.EndsOf.{at_all}
use Rattle.ch_space.proofs.Membership.{append_left, append_right, in_append, in_filter, in_flat}
use Rattle.ch_space.proofs.PieceElements.{length_pos, levels_of, whole_in}
use Rattle.ch_space.proofs.PieceNumbers.{all_in, instance_in, listed_in}
use Rattle.ch_timed.specs.Conflict.{accesses, reads}
use Rattle.ch_timed.specs.declared.element.Element.{Element}
use Rattle.ch_timed.specs.Members.{In}
use Rattle.ch_timed.specs.Vectors.{same_numbers, shares}
use Rattle.ch_timed.proofs.Orders.{in_map, map_in}

-- what is chosen are accesses of the array
pub chosen_in : (way : Way) (array : ℕ) (b : Body) (a : Access) → In a (accesses_by way array b) → In a (accesses b) × (a.array ≡ array)
chosen_in Read array b a i =
    let f = in_filter (names array) (reads b.right) a (in_different same_access (filter (names array) (reads b.right)) a i) in
    (append_left (reads b.right) (b.write ∷ []) a f.0, eqb-true a.array array f.1)
chosen_in Written array b a i =
    let f = in_filter (names array) (b.write ∷ []) a i in
    (append_right (reads b.right) (b.write ∷ []) a f.0, eqb-true a.array array f.1)

abbrev source_at : Piece → Access → Source
source_at q a = record { piece = q; access = a }

-- a source is of a piece that shares the loop
pub record IsShared (way : Way) (array : ℕ) (ours : List ℤ) (around : ℕ) (ps : List Piece) (x : Source) : Type 0 where
  pub piece : In x.piece ps
  pub shared : shares (suc around) ours (places_of x.piece) ≡ true
  pub access : In x.access (accesses_by way array x.piece.body)

pub in_sources : (way : Way) (array : ℕ) (ours : List ℤ) (around : ℕ) (ps : List Piece) (x : Source) → In x (sources way array ours around ps) → IsShared way array ours around ps x
in_sources way array ours around ps x i =
    let q = in_flat (λ q. from_piece q (accesses_by way array q.body)) (filter (λ q. shares (suc around) ours (places_of q)) ps) x i in
    let f = in_filter (λ q. shares (suc around) ours (places_of q)) ps q.0 q.1.0 in
    let a = in_map (source_at q.0) (accesses_by way array q.0.body) x q.1.1 in
    subst (IsShared way array ours around ps) a.1.1 (record { piece = f.0; shared = f.1; access = a.1.0 })

shares_deep : (around : ℕ) (ours ps : List ℤ) → shares (suc around) ours ps ≡ true → suc around < length ps
shares_deep around ours ps h =
    let a = and_parts (nat_lt (suc around) (length ours) && nat_lt (suc around) (length ps)) (same_numbers (take (suc around) ours) (take (suc around) ps)) h in
    let b = and_parts (nat_lt (suc around) (length ours)) (nat_lt (suc around) (length ps)) a.0 in
    ltb-true (suc around) (length ps) b.1

module _ (arrays : ℕ) (ps : List Piece) (counts : List ℕ) (temps : List (List ℕ)) (weight commands : ℕ) (space : IsSpace arrays ps counts temps weight commands) where
  deep_in : (q : Piece) (around : ℕ) (ours : List ℤ) → In q ps → shares (suc around) ours (places_of q) ≡ true → around ≤ q.levels
  deep_in q around ours i h =
      let d = shares_deep around ours (places_of q) h in
      let n = length_pos q.places in
      let w = (whole_in ps q space.apart i).places in
      omega (arith, d, n, w)

  pub its_access : (q : Piece) (a : Access) → In q ps → In a (accesses q.body) → IsAccess arrays (length temps) (length q.origin) a
  its_access q a i j =
      let b = at_all (λ q. IsBody arrays (length temps) (length q.origin) q.body) ps q space.bodies i in
      at_all (IsAccess arrays (length temps) (length q.origin)) (accesses q.body) a b.accesses j

  there : (q : Piece) (xs : List ℤ) → In q ps → In xs (instances q) → In (element_at q xs) (listed ps)
  there q xs i k = listed_in ps q (element_at q xs) i (map_in (element_at q) (instances q) xs k)

  pub near_of : (q : Piece) (a : Access) → In q ps → In a (accesses q.body) → AreNear q (forms a)
  near_of q a i j = record {
    some = instance_in ps q space.apart i;
    iterators = λ xs k. at_all (λ (e : Element). All (IsAtMost (2 ^ 54)) e.identity.iters) (listed ps) (element_at q xs) space.near (there q xs i k);
    cells = λ xs k. all_in (IsAtMost (2 ^ 18)) (cell_at (forms a) (iterators_at q xs)) (λ z m.
        let reached = at_all (λ (e : Element). All (λ a. All (IsReached e.identity.iters) a.subs) (accesses e.body)) (listed ps) (element_at q xs) space.reached (there q xs i k) in
        let mine = at_all (λ (a : Access). All (IsReached (iterators_at q xs)) a.subs) (accesses q.body) a reached j in
        let f = in_map (λ f. value f (iterators_at q xs)) (forms a) z m in
        let b = in_map (λ (b : subscript.Sub). b.form) a.subs f.0 f.1.0 in
        subst (IsAtMost (2 ^ 18)) (ap (λ g. value g (iterators_at q xs)) b.1.1 ∙ f.1.1) (at_all (IsReached (iterators_at q xs)) a.subs b.0 mine b.1.0));
  }

  ready : (q : Piece) (a : Access) (around : ℕ) → In q ps → In a (accesses q.body) → around ≤ q.levels → IsReady around q a
  ready q a around i j d =
      let limits = at_all (IsLimited weight commands) ps q space.limited i in
      let its = its_access q a i j in
      let v = limits.variables in
      let c = space.few_commands in
      record {
        whole = whole_in ps q space.apart i;
        deep = d;
        few = omega (arith, v, c);
        iterators = limits.iterators;
        dimensions = its.few;
        long = all_in (λ (f : Form). length f.coefs ≡ length q.origin) (forms a) (λ f m.
            let b = in_map (λ (b : subscript.Sub). b.form) a.subs f m in
            subst (λ (g : Form). length g.coefs ≡ length q.origin) b.1.1 (at_all (λ (b : subscript.Sub). length b.form.coefs ≡ length q.origin) a.subs b.0 its.forms b.1.0));
        near = near_of q a i j;
      }

  -- the pieces are ready for all that is moved
  pub all_ready : (way : Way) (array around : ℕ) (ours : List ℤ) → All (AreReady around way array ours) ps
  all_ready way array around ours = all_in (AreReady around way array ours) ps (λ q i h. all_in (IsReady around q) (accesses_by way array q.body) (λ a j.
      ready q a around i (chosen_in way array q.body a j).0 (deep_in q around ours i h)))

  pub theirs : (ours : List ℤ) (around array : ℕ) (x : Source) → In x (all_sources ps ours around array) → IsTheirs ps array around x
  theirs ours around array x i = elim (in_append (sources Read array ours around ps) (sources Written array ours around ps) x i) as (λ _. IsTheirs ps array around x) [
    | inl j ↦ one Read j
    | inr j ↦ one Written j
  ]
    where
      one : (way : Way) → In x (sources way array ours around ps) → IsTheirs ps array around x
      one way j =
          let m = in_sources way array ours around ps x j in
          let c = chosen_in way array x.piece.body x.access m.access in
          record { piece = m.piece; access = c.0; array_is = c.1; deep = deep_in x.piece around ours m.piece m.shared }

  -- there is room for pairs of the cells of a source
  pub roomy : (around array m : ℕ) (x : Source) (u : Cells) → IsTheirs ps array around x → length (forms x.access) ≡ m → IsCellsOf x.piece around (forms x.access) u → IsRoomy around m u
  roomy around array m x u t e is =
      let limits = at_all (IsLimited weight commands) ps x.piece space.limited t.piece in
      let its = its_access x.piece x.access t.piece t.access in
      let n = length-map x.access.subs (λ (b : subscript.Sub). b.form) in
      let v = limits.variables in
      let o = limits.iterators in
      let f = its.few in
      let c = space.few_commands in
      let l = is.few in
      record {
        framed = subst (λ n. IsFramed around n u) e is.framed;
        few = omega (arith, n, v, o, f, c, l);
        near = λ prefix cell long i. small prefix cell long ((is.exact (prefix ++ cell)).0 i);
      }
    where
      small : (prefix cell : List ℤ) → length prefix ≡ around
          → (xs : List ℤ) × In xs (instances x.piece) × (prefix ++ cell ≡ take around xs ++ cell_at (forms x.access) (iterators_at x.piece xs)) → All (IsAtMost (2 ^ 18)) cell
      small prefix cell long y =
          let many = levels_of x.piece y.0 (whole_in ps x.piece space.apart t.piece) y.1 in
          let d = t.deep in
          let front : length (take around y.0) ≡ around = take_few around y.0 (omega (arith, many, d)) in
          let same : cell ≡ cell_at (forms x.access) (iterators_at x.piece y.0) =
          sym (drop_front around prefix cell long) ∙ ap (drop around) y.2 ∙ drop_front around (take around y.0) (cell_at (forms x.access) (iterators_at x.piece y.0)) front in
          subst (All (IsAtMost (2 ^ 18))) (sym same) ((near_of x.piece x.access t.piece t.access).cells y.0 y.1)
