-- The pieces of a nest's statements make a space that stands for the nest's list.
use Rattle.std.proofs.Common.{◌≡◌, ◌≢◌, refl, sym, ap, ap₂, ◌∙◌, subst, ℕ, zero, suc, ◌+◌, ◌*◌, ◌^◌, ◌<◌, ◌≤◌, ℤ, pos, Bool, true, false, cond, ◌&&◌, nat_le, nat_lt, List, [], ◌∷◌, ◌++◌, length, map, inl, inr, arith, append_assoc, length-append}
use Rattle.std.specs.Bool.{IsTrue}
use Rattle.std.specs.List.{All, filter, flat_map, list_all, sum}
use Rattle.std.proofs.lemmas.Bool.{and_parts, leb-true, lt-ltb, ltb-true}
use Rattle.std.proofs.lemmas.Int.{ints}
use Rattle.std.proofs.lemmas.List.{length-map}
use Rattle.std.proofs.lemmas.List.Elements.{All-nil, All-cons}
use Rattle.std.specs.Ordering.{int_cmp}
use Rattle.std.specs.declared.cmp.Ordering.TheVariants.{Less}
use Rattle.std.specs.Cmp.Lexicographic.{slice_cmp}
use Rattle.ch_affine.specs.Affine.{IsAtMost, value}
use Rattle.ch_nest.specs.declared.nest.Access.{Access}
use Rattle.ch_nest.specs.declared.nest.ArrayDecl.{ArrayDecl}
use Rattle.ch_nest.specs.Arrays.{extents_of, total}
use Rattle.ch_nest.specs.Limits.{most_cells, most_work}
use Rattle.ch_nest.specs.LoopNest.{LoopNest}
use Rattle.ch_nest.specs.Shape.{access_fits, arrays_fit, is_array, is_nest}
use Rattle.ch_nest.specs.Sound.{is_sound, items_inside, items_work}
use Rattle.ch_nest.proofs.Corners.{lies_small}
use Rattle.ch_space.specs.declared.piece.Piece.{Piece}
use Rattle.ch_space.specs.Built.{zeros, unit, units, boxes_from, hidden_boxes, piece_of}
use Rattle.ch_space.specs.Keeps.{IsWhole, places_of, AllLater, AreApart, accesses, IsBody, IsLimited, IsMoveBelow, IsReached, IsSpace, most_pieces}
use Rattle.ch_space.specs.Pieces.{element_at, elements, instances, listed}
use Rattle.ch_space.specs.Statements.{Statement, statements, executed, instances_of, loops, steps}
use Rattle.ch_space.specs.Fitting.{LevelsFit}
use Rattle.ch_space.proofs.Bodies.{all_from_each, each_in, few_arrays, Fits, body_accesses, is_body, nest_arrays, nest_fits, same_dimensions}
use Rattle.ch_space.proofs.Builds.{length_hidden, small_boxes}
use Rattle.ch_space.proofs.Counted.{in_instances, instances_in, instances_counted}
use Rattle.ch_space.proofs.Findings.{element_of, start_found, found_start}
use Rattle.ch_space.proofs.Membership.{in_flat, flat_in, in_filter, filter_in}
use Rattle.ch_space.proofs.Reached.{element_reaches}
use Rattle.ch_space.proofs.NestLimits.{few_executed, length_units, limited, unwrapped}
use Rattle.ch_space.proofs.PieceElements.{each_from_in}
use Rattle.ch_space.proofs.PieceNumbers.{elements_differ}
use Rattle.ch_space.proofs.Rowed.{dot_zeros, dot_front, one_times, lies_between}
use Rattle.ch_space.proofs.Shapes.{length_boxes, IsFit, Shape, shaped, key, IsEarlier}
use Rattle.ch_space.proofs.Sums.{instances_few, sum_first}
use Rattle.ch_space.proofs.Turnings.{length_between}
use Rattle.ch_timed.specs.Members.{Each, In}
use Rattle.ch_timed.specs.declared.element.Element.{Element}
use Rattle.ch_timed.specs.declared.element.Label.TheVariants.{Stmt}
use Rattle.ch_timed.specs.Start.{start}
use Rattle.ch_timed.specs.Timed.{is_well_formed}
use Rattle.ch_timed.specs.Vectors.{woven}
use Rattle.ch_timed.proofs.Blocks.{start_ascends}
use Rattle.ch_timed.proofs.Orders.{IsAscending, ascending_same, from_order, in_map, map_in, ordered_ascends, to_order}
use Rattle.ch_timed.proofs.WellFormed.{start_fine}

-- the forms of single variables

length_zeros : (n : ℕ) → length (zeros n) ≡ n
length_zeros zero = refl
length_zeros (suc n) = ap suc (length_zeros n)

unit_value : (pre post : List ℤ) (x : ℤ) (after : ℕ) → value (unit (length pre) after) (pre ++ x ∷ post) ≡ x
unit_value pre post x after =
    let a = dot_front (zeros (length pre)) (pos 1 ∷ zeros after) pre (x ∷ post) (length_zeros (length pre)) in
    omega (arith, ints, a, dot_zeros (length pre) pre, dot_zeros after post, one_times x)

units_value : (pre xs : List ℤ) → map (λ f. value f (pre ++ xs)) (units (length pre) (length xs)) ≡ xs
units_value pre [] = refl
units_value pre (x ∷ xs) =
    let n : suc (length pre) ≡ length (pre ++ x ∷ []) = sym (length-append pre (x ∷ []) ∙ omega arith) in
    ap₂ (λ z zs. z ∷ zs) (unit_value pre xs x (length xs))
    (ap (λ m. map (λ f. value f (pre ++ x ∷ xs)) (units m (length xs))) n
    ∙ ap (λ p. map (λ f. value f p) (units (length (pre ++ x ∷ [])) (length xs))) (sym (append_assoc pre (x ∷ []) xs))
    ∙ units_value (pre ++ x ∷ []) xs)

pub element_same : (s : Statement) (xs : List ℤ) → length xs ≡ loops s.around → element_at (piece_of s) xs ≡ element_of s xs
element_same s xs e =
    let iters : map (λ f. value f xs) (units 0 (loops s.around)) ≡ xs = ap (λ n. map (λ f. value f xs) (units 0 n)) (sym e) ∙ units_value [] xs in
    λ i. record { identity = record { label = Stmt s.label; iters = iters i }; vector = woven (map pos s.places) xs; body = s.body }

units_fit : (before n : ℕ) → Each (λ f. length f.coefs ≡ before + n) (units before n)
units_fit before zero = tt
units_fit before (suc n) =
    let a = length-append (zeros before) (pos 1 ∷ zeros n) in
    let b = length_zeros before in
    let c = length_zeros n in
    (omega arith, subst (λ m. Each (λ f. length f.coefs ≡ m) (units (suc before) n)) (omega arith) (units_fit (suc before) n))

-- the pieces that are kept

ascend_by : (b : Bool) (s : Statement) (rest : List Statement) → Each (IsEarlier s) rest → IsAscending key rest → IsAscending key (cond b (s ∷ rest) rest)
ascend_by true s rest h a = (h, a)
ascend_by false s rest h a = a

each_filter : {X : Type 0} (P : X → Type 0) (t : X → Bool) (xs : List X) → Each P xs → Each P (filter t xs)
each_filter P t xs h = each_from_in P (filter t xs) (λ x i. each_in P xs x h (in_filter t xs x i).0)

ascend_filter : (t : Statement → Bool) (ss : List Statement) → IsAscending key ss → IsAscending key (filter t ss)
ascend_filter t [] a = tt
ascend_filter t (s ∷ ss) a = ascend_by (t s) s (filter t ss) (each_filter (IsEarlier s) t ss a.0) (ascend_filter t ss a.1)

abbrev IsExecuted : Statement → Type 0
IsExecuted s = nat_lt 0 (instances_of s) ≡ true

each_executed : (ss : List Statement) → Each IsExecuted (executed ss)
each_executed ss = each_from_in IsExecuted (executed ss) (λ s i. (in_filter (λ s. nat_lt 0 (instances_of s)) ss s i).1)

sum_by_filter : (b : Bool) (s : Statement) (rest all : List Statement) → sum (map instances_of rest) ≤ sum (map instances_of all)
    → sum (map instances_of (cond b (s ∷ rest) rest)) ≤ sum (map instances_of (s ∷ all))
sum_by_filter true s rest all h = omega (arith, sum_first (instances_of s) (map instances_of rest), sum_first (instances_of s) (map instances_of all))
sum_by_filter false s rest all h = omega (arith, sum_first (instances_of s) (map instances_of all))

pub sum_filter : (t : Statement → Bool) (ss : List Statement) → sum (map instances_of (filter t ss)) ≤ sum (map instances_of ss)
sum_filter t [] = omega arith
sum_filter t (s ∷ ss) = sum_by_filter (t s) s (filter t ss) ss (sum_filter t ss)

counted : (arrays : List ArrayDecl) (ss : List Statement) → Each (IsFit arrays) ss → map instances_of ss ≡ map (λ p. length (instances p)) (map piece_of ss)
counted arrays [] fit = refl
counted arrays (s ∷ ss) fit = ap₂ (λ n ns. n ∷ ns) (sym (instances_counted s fit.0.levels)) (counted arrays ss fit.1)

later : (s : Statement) (ss : List Statement) → Each (IsEarlier s) ss → AllLater (places_of (piece_of s)) (map piece_of ss)
later s [] h = tt
later s (t ∷ ss) h = (h.0, later s ss h.1)

has_some : (s : Statement) → LevelsFit [] s.around → IsExecuted s → instances (piece_of s) ≢ []
has_some s fit some none =
    let a : length (instances (piece_of s)) ≡ 0 = ap length none in
    let b = instances_counted s fit in
    let c : 0 < instances_of s = ltb-true 0 (instances_of s) some in
    omega arith

whole : (arrays : List ArrayDecl) (s : Statement) → IsFit arrays s → IsWhole (piece_of s)
whole arrays s fit = record {
  places = fit.places;
  variables = omega arith;
  boxes =
      let e = length_boxes [] s.around in
      let h = length_hidden [] s.around in
      let b = length-append (boxes_from [] s.around) (hidden_boxes (boxes_from [] s.around) s.around) in
      omega arith;
  origin = all_from_each (λ f. length f.coefs ≡ loops s.around) (units 0 (loops s.around))
      (subst (λ m. Each (λ f. length f.coefs ≡ m) (units 0 (loops s.around))) (omega arith) (units_fit 0 (loops s.around)));
}

apart : (arrays : List ArrayDecl) (ss : List Statement) → Each (IsFit arrays) ss → Each IsExecuted ss → IsAscending key ss → AreApart (map piece_of ss)
apart arrays [] fit some a = tt
apart arrays (s ∷ ss) fit some a = (whole arrays s fit.0, has_some s fit.0.levels some.0, later s ss a.0, apart arrays ss fit.1 some.1 a.1)

abbrev pub pieces_of : LoopNest → List Piece
pieces_of nest = map piece_of (executed (statements nest.items))

abbrev pub counts_of : LoopNest → List ℕ
counts_of nest = map instances_of (executed (statements nest.items))

module _ (nest : LoopNest) (known : IsTrue (is_nest nest)) where
  arrays_in_order : IsTrue (arrays_fit nest.arrays)
  arrays_in_order = nest_arrays nest known

  each_array : IsTrue (list_all is_array nest.arrays)
  each_array = (and_parts (list_all is_array nest.arrays) (nat_le (total (extents_of nest.arrays)) most_cells) arrays_in_order).0

  shape : Shape nest.arrays nest.items
  shape = shaped nest.arrays nest.items (nest_fits nest known)

  fit_of : (s : Statement) → In s (statements nest.items) → IsFit nest.arrays s
  fit_of s i = each_in (IsFit nest.arrays) (statements nest.items) s shape.fit i

  kept_fit : Each (IsFit nest.arrays) (executed (statements nest.items))
  kept_fit = each_filter (IsFit nest.arrays) (λ s. nat_lt 0 (instances_of s)) (statements nest.items) shape.fit

  statement_of : (p : Piece) → In p (pieces_of nest) → (s : Statement) × (In s (statements nest.items) × (piece_of s ≡ p))
  statement_of p i =
      let r = in_map piece_of (executed (statements nest.items)) p i in
      (r.0, ((in_filter (λ s. nat_lt 0 (instances_of s)) (statements nest.items) r.0 r.1.0).0, r.1.1))

  elements_start : (e : Element) → In e (flat_map elements (pieces_of nest)) → In e (start nest)
  elements_start e i =
      let p = in_flat elements (pieces_of nest) e i in
      let s = statement_of p.0 p.1.0 in
      let there : In e (elements (piece_of s.0)) = subst (λ q. In e (elements q)) (sym s.1.1) p.1.1 in
      let x = in_map (element_at (piece_of s.0)) (instances (piece_of s.0)) e there in
      let b = in_instances s.0 x.0 (fit_of s.0 s.1.0).levels x.1.0 in
      let same = element_same s.0 x.0 (length_between [] s.0.around x.0 b) in
      subst (λ z. In z (start nest)) (sym same ∙ x.1.1) (found_start nest s.0 x.0 s.1.0 b)

  start_elements : (e : Element) → In e (start nest) → In e (flat_map elements (pieces_of nest))
  start_elements e i =
      let h = start_found nest e i in
      let fit = (fit_of h.s h.there).levels in
      let inst = instances_in h.s h.xs fit h.inside in
      let some : 0 < length (instances (piece_of h.s)) = in_some (instances (piece_of h.s)) h.xs inst in
      let n = instances_counted h.s fit in
      let kept = filter_in (λ s. nat_lt 0 (instances_of s)) (statements nest.items) h.s h.there (lt-ltb 0 (instances_of h.s) (omega arith)) in
      let same = element_same h.s h.xs (length_between [] h.s.around h.xs h.inside) in
      flat_in elements (pieces_of nest) (piece_of h.s) e (map_in piece_of (executed (statements nest.items)) h.s kept)
      (subst (λ z. In z (elements (piece_of h.s))) (same ∙ h.is) (map_in (element_at (piece_of h.s)) (instances (piece_of h.s)) h.xs inst))
    where
      in_some : {X : Type 0} (xs : List X) (x : X) → In x xs → 0 < length xs
      in_some [] x i = absurd i
      in_some (y ∷ ys) x i = omega arith

  pieces_apart : AreApart (pieces_of nest)
  pieces_apart = apart nest.arrays (executed (statements nest.items)) kept_fit (each_executed (statements nest.items))
      (ascend_filter (λ s. nat_lt 0 (instances_of s)) (statements nest.items) shape.ascend)

  -- the pieces stand for the list of the nest
  pub listed_is : listed (pieces_of nest) ≡ start nest
  listed_is =
      ascending_same (λ e. e.vector) (listed (pieces_of nest)) (start nest) (ordered_ascends (λ e. e.vector) (flat_map elements (pieces_of nest)) (elements_differ (pieces_of nest) pieces_apart)) (start_ascends nest)
      (λ e i. elements_start e (from_order (λ e. e.vector) (flat_map elements (pieces_of nest)) e i))
      (λ e i. to_order (λ e. e.vector) (flat_map elements (pieces_of nest)) e (start_elements e i))

  near_of : (e : Element) → In e (start nest) → All (IsAtMost (2 ^ 54)) e.identity.iters
  near_of e i =
      let h = start_found nest e i in
      let fit = (fit_of h.s h.there).levels in
      subst (λ z. All (IsAtMost (2 ^ 54)) z.identity.iters) h.is
      (lies_small (boxes_from [] h.s.around) h.xs (small_boxes [] h.s.around fit) (lies_between h.s.around h.xs fit h.inside))

  reached_of : IsTrue (items_inside (extents_of nest.arrays) nest.items []) → (e : Element) → In e (start nest) → All (λ a. All (IsReached e.identity.iters) a.subs) (accesses e.body)
  reached_of inside e i =
      let h = start_found nest e i in
      let n = loops h.s.around in
      element_reaches nest n e known inside i
      (subst (λ z. Each (λ a. IsTrue (access_fits nest.arrays n a)) (accesses z.body)) h.is (body_accesses nest.arrays n h.s.body (fit_of h.s h.there).body))

  fits_access : (a : Access) → In a (flat_map (λ p. accesses p.body) (pieces_of nest)) → (n : ℕ) × Fits nest.arrays n a
  fits_access a i =
      let p = in_flat (λ p. accesses p.body) (pieces_of nest) a i in
      let s = statement_of p.0 p.1.0 in
      let there : In a (accesses s.0.body) = subst (λ q. In a (accesses q.body)) (sym s.1.1) p.1.1 in
      let n = loops s.0.around in
      (n, each_in (Fits nest.arrays n) (accesses s.0.body) a (body_accesses nest.arrays n s.0.body (fit_of s.0 s.1.0).body) there)

  bodies_kept : All (λ p. IsBody (length nest.arrays) 0 (length p.origin) p.body) (pieces_of nest)
  bodies_kept = all_from_each (λ p. IsBody (length nest.arrays) 0 (length p.origin) p.body) (pieces_of nest) (each_from_in _ (pieces_of nest) (λ p i.
      let s = statement_of p i in
      subst (λ q. IsBody (length nest.arrays) 0 (length q.origin) q.body) s.1.1
      (subst (λ n. IsBody (length nest.arrays) 0 n s.0.body) (sym (length_units 0 (loops s.0.around)))
      (is_body nest.arrays (loops s.0.around) s.0.body each_array (fit_of s.0 s.1.0).body))))

  -- and they make a space, where the nest can be run
  pub assembled : IsTrue (is_sound nest) → IsSpace (length nest.arrays) (pieces_of nest) (counts_of nest) [] 1 0
  assembled sound =
      let parts = and_parts (items_inside (extents_of nest.arrays) nest.items []) (nat_le (items_work nest.items []) most_work) sound in
      let work : items_work nest.items [] ≤ most_work = leb-true (items_work nest.items []) most_work parts.1 in
      let a = instances_few nest.items in
      let b = sum_filter (λ s. nat_lt 0 (instances_of s)) (statements nest.items) in
      let c = few_arrays nest.arrays arrays_in_order in record {
        apart = pieces_apart;
        well_formed = subst (λ es. IsTrue (is_well_formed es)) (sym listed_is) (start_fine nest known);
        counted = counted nest.arrays (executed (statements nest.items)) kept_fit;
        few = omega arith;
        few_arrays = omega arith;
        few_pieces = subst (λ n. n ≤ most_pieces) (sym (length-map (executed (statements nest.items)) piece_of)) (few_executed nest known);
        few_commands = omega arith;
        some_weight = omega arith;
        small_weight = omega arith;
        limited = all_from_each (IsLimited 1 0) (pieces_of nest) (each_from_in _ (pieces_of nest) (λ p i.
            let s = statement_of p i in subst (IsLimited 1 0) s.1.1 (limited nest.arrays s.0 (fit_of s.0 s.1.0))));
        bodies = bodies_kept;
        agree = λ a b i j e.
            let f = fits_access a i in
            let g = fits_access b j in
            same_dimensions nest.arrays f.0 g.0 a b each_array f.1 g.1 e;
        moves = all_from_each (λ p. IsMoveBelow (256 * 0) p.label) (pieces_of nest) (each_from_in _ (pieces_of nest) (λ p i.
            subst (λ q. IsMoveBelow (256 * 0) q.label) (statement_of p i).1.1 tt));
        near = subst (λ es. All (λ e. All (IsAtMost (2 ^ 54)) e.identity.iters) es) (sym listed_is)
            (all_from_each (λ e. All (IsAtMost (2 ^ 54)) e.identity.iters) (start nest) (each_from_in _ (start nest) near_of));
        wrapped = unwrapped (length nest.arrays) (pieces_of nest) bodies_kept;
        reached = subst (λ es. All (λ e. All (λ a. All (IsReached e.identity.iters) a.subs) (accesses e.body)) es) (sym listed_is)
            (all_from_each (λ e. All (λ a. All (IsReached e.identity.iters) a.subs) (accesses e.body)) (start nest) (each_from_in _ (start nest) (reached_of parts.0)));
      }
