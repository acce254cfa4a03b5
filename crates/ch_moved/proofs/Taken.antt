-- Pieces that have the elements of other pieces, moved: they make a space again, which stands for the moved list.
use Rattle.std.proofs.Common.{◌≡◌, sym, ap, ◌∙◌, subst, ℕ, ◌*◌, ◌≤◌, ◌^◌, true, List, map, length, arith}
use Rattle.std.specs.List.{All, flat_map}
use Rattle.std.proofs.lemmas.Bool.{and_from, and_parts}
use Rattle.std.proofs.lemmas.List.{length-map}
use Rattle.ch_affine.specs.Affine.{IsAtMost}
use Rattle.ch_nest.specs.declared.nest.Access.{Access}
use Rattle.ch_order.specs.Legal.{AreAmong}
use Rattle.ch_order.proofs.Kept.{differ_kept, no_others, one_identity, steps_kept}
use Rattle.ch_order.proofs.Steps.{same_identity_of}
use Rattle.ch_space.specs.declared.piece.Piece.{Piece}
use Rattle.ch_space.specs.Keeps.{AreApart, IsBody, IsLimited, IsMoveBelow, IsReached, IsSpace, IsWrapped, accesses, most_commands, most_pieces, most_weight, places_of}
use Rattle.ch_space.specs.Pieces.{elements, instances, listed}
use Rattle.ch_space.proofs.EndsOf.{at_all}
use Rattle.ch_space.proofs.Membership.{flat_in, in_flat}
use Rattle.ch_space.proofs.PieceElements.{StandsFor, each_from_in, long, one_each, whole_in}
use Rattle.ch_space.proofs.PieceNumbers.{all_in, elements_differ, images_differ, in_listed, list_length, listed_ascends}
use Rattle.ch_timed.specs.declared.element.Element.{Element}
use Rattle.ch_timed.specs.declared.element.Label.{Label}
use Rattle.ch_timed.specs.declared.element.Label.TheVariants.{Stmt, Move}
use Rattle.ch_timed.specs.Members.{In}
use Rattle.ch_timed.specs.Timed.{Step, identities_differ, in_order, is_well_formed, step}
use Rattle.ch_timed.specs.Vectors.{places}
use Rattle.ch_timed.specs.Closed.{closed_up}
use Rattle.ch_timed.proofs.ClosedUp.{same_steps}
use Rattle.ch_timed.proofs.Orders.{from_order, ordered_length, retimed, to_order}
use Rattle.ch_timed.proofs.Prefixes.{apart}
use Rattle.ch_timed.proofs.Sorted.{ascends_adjacent}
use Rattle.ch_timed.proofs.WellFormed.{apart_by}
use Rattle.ch_timed.proofs.Woven.{HasVector, vectors_by, woven_is_vector}
use Rattle.ch_space.proofs.PieceElements.{element_places}

-- closing up changes no steps

closed_steps : (list : List Element) → is_well_formed list ≡ true → map step (closed_up list) ≡ map step list
closed_steps list h = same_steps list (and_parts _ _ (and_parts _ _ h).1).0

pub among_closed : (list other : List Element) → is_well_formed other ≡ true → AreAmong list other → AreAmong list (closed_up other)
among_closed list other h a s i = subst (λ z. In s z) (sym (closed_steps other h)) (a s i)

pub closed_among : (list other : List Element) → is_well_formed list ≡ true → AreAmong list other → AreAmong (closed_up list) other
closed_among list other h a s i = a s (subst (λ z. In s z) (closed_steps list h) i)

-- Each element goes to one of the other pieces, and each of theirs comes from one.
pub record Taken (g : Element → Element) (ps qs : List Piece) : Type 0 where
  pub forth : (e : Element) → In e (flat_map elements ps) → In (g e) (flat_map elements qs)
  pub back : (f : Element) → In f (flat_map elements qs) → (e : Element) × (In e (flat_map elements ps) × (g e ≡ f))

-- Steps that are kept, each of them once, and pieces that stand apart: so no two elements get one vector.
pub listed_taken : (g : Element → Element) (ps qs : List Piece) → ((e : Element) → step (g e) ≡ step e) → identities_differ (listed ps) ≡ true → AreApart ps → AreApart qs → Taken g ps qs
    → listed qs ≡ in_order (map g (listed ps))
listed_taken g ps qs keeps differ a b t =
    retimed (λ e. e.vector) (flat_map elements ps) (flat_map elements qs) g (elements_differ qs b)
    (images_differ (λ e. e.vector) g (flat_map elements ps) (elements_differ ps a) (λ e f i j v.
    let one = one_each qs b (g e) (g f) (t.forth e i) (t.forth f j) v in
    one_identity (listed ps) e f differ (to_order (λ e. e.vector) (flat_map elements ps) e i) (to_order (λ e. e.vector) (flat_map elements ps) f j)
    (same_identity_of e f (sym (keeps e) ∙ ap step one ∙ keeps f))))
    t.forth t.back

-- The piece has the label and the body of one of these, and as many iterators.
pub record ComesFrom (ps : List Piece) (q : Piece) : Type 0 where
  pub piece : Piece
  pub is_piece : In piece ps
  pub label : q.label ≡ piece.label
  pub body : q.body ≡ piece.body
  pub iterators : length q.origin ≡ length piece.origin

-- no places are the front of another piece's
abbrev pub PlacesApart : List Piece → Type 0
PlacesApart qs = (q r : Piece) → In q qs → In r qs → apart (places_of q) (places_of r) ≡ true

module _ (arrays : ℕ) (ps : List Piece) (counts : List ℕ) (temps : List (List ℕ)) (weight commands : ℕ) (space : IsSpace arrays ps counts temps weight commands)
    (g : Element → Element) (keeps : (e : Element) → step (g e) ≡ step e) (qs : List Piece) (apart_too : AreApart qs) (taken : Taken g ps qs) where
  there : (e : Element) → In e (listed ps) → In (g e) (listed qs)
  there e i = to_order (λ e. e.vector) (flat_map elements qs) (g e) (taken.forth e (from_order (λ e. e.vector) (flat_map elements ps) e i))

  back : (f : Element) → In f (listed qs) → (e : Element) × (In e (listed ps) × (g e ≡ f))
  back f i =
      let r = taken.back f (from_order (λ e. e.vector) (flat_map elements qs) f i) in
      (r.0, (to_order (λ e. e.vector) (flat_map elements ps) r.0 r.1.0, r.1.1))

  -- what holds of the steps of the old elements holds of those of the new ones
  pub steps_hold : (P : Step → Type 0) → All (λ e. P (step e)) (listed ps) → All (λ e. P (step e)) (listed qs)
  steps_hold P h = all_in (λ e. P (step e)) (listed qs) (λ f i.
      let r = back f i in
      subst P (sym (keeps r.0) ∙ ap step r.1.1) (at_all (λ e. P (step e)) (listed ps) r.0 h r.1.0))

  -- the same steps are executed
  pub steps_among : AreAmong (listed ps) (listed qs)
  steps_among = steps_kept (listed ps) (listed qs) g (listed_ascends qs apart_too) (and_parts _ _ space.well_formed).0 keeps there back

  pub steps_from : AreAmong (listed qs) (listed ps)
  steps_from = no_others (listed ps) (listed qs) g (listed_ascends qs apart_too) (and_parts _ _ space.well_formed).0 keeps there back

  fine : PlacesApart qs → is_well_formed (listed qs) ≡ true
  fine far =
      let a = and_parts _ _ space.well_formed in
      let up = listed_ascends qs apart_too in
      and_from _ _ (differ_kept (listed ps) (listed qs) g up a.0 keeps there back)
      (and_from _ _ (ascends_adjacent (listed qs) up)
      (and_from _ _ (apart_by (listed qs) (each_from_in _ (listed qs) (λ e i. each_from_in _ (listed qs) (λ f j. both e f (in_listed qs e i) (in_listed qs f j)))))
      (vectors_by (listed qs) (λ e i. has_vector e (in_listed qs e i)))))
    where
      placed : (e : Element) (s : StandsFor qs e) → places e.vector ≡ places_of s.piece
      placed e s = ap (λ z. places z.vector) (sym s.is) ∙ element_places s.piece s.instance (whole_in qs s.piece apart_too s.is_piece) s.is_instance

      both : (e f : Element) (s : StandsFor qs e) (t : StandsFor qs f) → apart (places e.vector) (places f.vector) ≡ true
      both e f s t = subst (λ z. apart z (places f.vector) ≡ true) (sym (placed e s)) (subst (λ z. apart (places_of s.piece) z ≡ true) (sym (placed f t)) (far s.piece t.piece s.is_piece t.is_piece))

      has_vector : (e : Element) (s : StandsFor qs e) → HasVector e
      has_vector e s = subst HasVector s.is (woven_is_vector (places_of s.piece) s.instance (long s.piece s.instance (whole_in qs s.piece apart_too s.is_piece) s.is_instance))

  bodies_kept : ((q : Piece) → In q qs → ComesFrom ps q) → All (λ q. IsBody arrays (length temps) (length q.origin) q.body) qs
  bodies_kept from = all_in (λ q. IsBody arrays (length temps) (length q.origin) q.body) qs (λ q i.
      let s = from q i in
      subst (λ n. IsBody arrays (length temps) n q.body) (sym s.iterators)
      (subst (λ b. IsBody arrays (length temps) (length s.piece.origin) b) (sym s.body)
      (at_all (λ p. IsBody arrays (length temps) (length p.origin) p.body) ps s.piece space.bodies s.is_piece)))

  more_moves : (l : Label) (m n : ℕ) → m ≤ n → IsMoveBelow (256 * m) l → IsMoveBelow (256 * n) l
  more_moves (Stmt k) m n h b = tt
  more_moves (Move k) m n h b = omega arith

  moves_kept : (more : ℕ) → commands ≤ more → ((q : Piece) → In q qs → ComesFrom ps q) → All (λ q. IsMoveBelow (256 * more) q.label) qs
  moves_kept more h from = all_in (λ q. IsMoveBelow (256 * more) q.label) qs (λ q i.
      let s = from q i in
      subst (λ l. IsMoveBelow (256 * more) l) (sym s.label)
      (more_moves s.piece.label commands more h (at_all (λ p. IsMoveBelow (256 * commands) p.label) ps s.piece space.moves s.is_piece)))

  old_access : ((q : Piece) → In q qs → ComesFrom ps q) → (a : Access) → In a (flat_map (λ p. accesses p.body) qs) → In a (flat_map (λ p. accesses p.body) ps)
  old_access from a i =
      let q = in_flat (λ p. accesses p.body) qs a i in
      let s = from q.0 q.1.0 in
      flat_in (λ p. accesses p.body) ps s.piece a s.is_piece (subst (λ b. In a (accesses b)) s.body q.1.1)

  -- a space again, where the pieces keep to the limits
  pub taken_space : (new_counts : List ℕ) (new_weight new_commands : ℕ) → PlacesApart qs → ((q : Piece) → In q qs → ComesFrom ps q)
      → new_counts ≡ map (λ p. length (instances p)) qs → length qs ≤ most_pieces → commands ≤ new_commands → new_commands ≤ most_commands → 1 ≤ new_weight → new_weight ≤ most_weight
      → All (IsLimited new_weight new_commands) qs → IsSpace arrays qs new_counts temps new_weight new_commands
  taken_space new_counts new_weight new_commands far from counted few_pieces more few_commands some small limited =
      let l = list_length qs new_counts apart_too counted in
      let m = list_length ps counts space.apart space.counted in
      let e = ap length (listed_taken g ps qs keeps (and_parts _ _ space.well_formed).0 space.apart apart_too taken) in
      let s = ordered_length (λ (e : Element). e.vector) (map g (listed ps)) in
      let n = length-map (listed ps) g in
      let f = space.few in
      record {
        apart = apart_too;
        well_formed = fine far;
        counted = counted;
        few = omega arith;
        few_arrays = space.few_arrays;
        few_pieces = few_pieces;
        few_commands = few_commands;
        some_weight = some;
        small_weight = small;
        limited = limited;
        bodies = bodies_kept from;
        agree = λ a b i j h. space.agree a b (old_access from a i) (old_access from b j) h;
        moves = moves_kept new_commands more from;
        near = steps_hold (λ s. All (IsAtMost (2 ^ 54)) s.identity.iters) space.near;
        wrapped = steps_hold (λ s. All (λ a. All (IsWrapped s.identity.iters) a.subs) (accesses s.body)) space.wrapped;
        reached = steps_hold (λ s. All (λ a. All (IsReached s.identity.iters) a.subs) (accesses s.body)) space.reached;
      }
