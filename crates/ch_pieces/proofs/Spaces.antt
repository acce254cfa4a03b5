-- Assembled pieces make a space again, which stands for the moved list with its places closed up.
use Rattle.std.proofs.Common.{◌≡◌, ◌≢◌, refl, sym, ap, ◌∙◌, subst, ℕ, suc, ◌+◌, ◌<◌, ◌≤◌, ◌^◌, ℤ, pos, Bool, true, false, cond, nat_lt, Some, None, List, [], ◌∷◌, ◌++◌, map, length, inl, inr, lt-ltb, arith}
use Rattle.std.specs.List.{All, filter, flat_map, sum_by}
use Rattle.std.specs.Ordering.{int_cmp}
use Rattle.std.specs.declared.cmp.Ordering.TheVariants.{Less}
use Rattle.std.specs.Cmp.Lexicographic.{slice_cmp}
use Rattle.std.proofs.lemmas.Bool.{and_parts, false≢true}
use Rattle.std.proofs.lemmas.List.{length-map}
use Rattle.std.proofs.lemmas.List.Sums.{sum-map, sum_by-cons}
use Rattle.ch_order.specs.Legal.{AreAmong}
use Rattle.ch_affine.specs.Affine.{value}
use Rattle.ch_moved.specs.Causes.{cause, too_many}
use Rattle.ch_moved.specs.Moved.{moved}
use Rattle.ch_moved.proofs.Taken.{ComesFrom, PlacesApart, Taken, among_closed, closed_among, listed_taken, steps_among, steps_from, taken_space}
use Rattle.ch_pieces.specs.declared.candidate.Candidate.{Candidate}
use Rattle.ch_pieces.specs.Candidates.{AreCandidates, AreSomeCandidates, ExecutesOne}
use Rattle.ch_pieces.specs.Assembled.{IsAssembled, assembled, has_instance, has_some, wide}
use Rattle.ch_space.specs.declared.piece.Piece.{Piece}
use Rattle.ch_space.specs.Keeps.{AllLater, AreApart, IsLimited, IsSpace, IsWhole, most_commands, most_pieces, most_weight, places_of}
use Rattle.ch_space.specs.Pieces.{element_at, elements, instances, listed}
use Rattle.ch_space.specs.Renumbered.{all_placed}
use Rattle.ch_space.proofs.ClosedPieces.{list_closed, map_placed, space_closed}
use Rattle.ch_space.proofs.EndsOf.{at_all}
use Rattle.ch_space.proofs.Membership.{filter_in, flat_in, in_append, in_filter, in_flat}
use Rattle.ch_space.specs.Listed.{Listed}
use Rattle.ch_space.proofs.PieceElements.{each_from_in}
use Rattle.ch_space.proofs.PieceNumbers.{all_in, how_many, in_listed, list_length}
use Rattle.ch_timed.specs.declared.element.Element.{Element}
use Rattle.ch_timed.specs.Closed.{closed_up}
use Rattle.ch_timed.specs.Members.{Each, In, Pairwise}
use Rattle.ch_timed.specs.Timed.{identities_differ, in_order, pieces, step}
use Rattle.ch_timed.proofs.Orders.{AllDiffer, Differ, IsAscending, at_each, from_order, in_map, map_in, ordered_ascends, ordered_length, to_order}

-- Which pieces are assembled.

has_in : {X : Type 0} (xs : List X) (x : X) → In x xs → has_some xs ≡ true
has_in [] x i = absurd i
has_in (y ∷ ys) x i = refl

some_there : {X : Type 0} (xs : List X) → has_some xs ≡ true → xs ≢ []
some_there [] h e = false≢true h
some_there (x ∷ xs) h e = false≢true (sym (ap has_some e))

-- the pieces of the candidates that have instances
abbrev pub Filled : List Candidate → List Piece
Filled cs = filter has_instance (map wide cs)

-- no two pieces with instances stand at the same places
abbrev pub PlacesDiffer : List Candidate → Type 0
PlacesDiffer cs = AllDiffer places_of (Filled cs)

filled_from : (q : Piece) (cs : List Candidate) → Each (λ d. places_of q ≢ places_of (wide d)) cs → Each (Differ places_of q) (Filled cs)
filled_from q cs h = each_from_in (Differ places_of q) (Filled cs) (λ r i.
    let d = in_map wide cs r (in_filter has_instance (map wide cs) r i).0 in
    subst (λ z. places_of q ≡ places_of z → ⊥) d.1.1 (at_each (λ d. places_of q ≢ places_of (wide d)) cs h d.0 d.1.0))

-- no two of them do where no two candidates do
pub places_differ : (cs : List Candidate) → Pairwise (λ c d. places_of (wide c) ≢ places_of (wide d)) cs → PlacesDiffer cs
places_differ [] h = tt
places_differ (c ∷ cs) h = by (has_instance (wide c)) (places_differ cs h.1)
  where
    by : (b : Bool) → PlacesDiffer cs → AllDiffer places_of (cond b (wide c ∷ Filled cs) (Filled cs))
    by true d = (filled_from (wide c) cs h.0, d)
    by false d = d

pub pairwise_append : {X : Type 0} (R : X → X → Type 0) (xs ys : List X) → Pairwise R xs → Pairwise R ys → ((x y : X) → In x xs → In y ys → R x y) → Pairwise R (xs ++ ys)
pairwise_append R [] ys a b h = b
pairwise_append R (x ∷ xs) ys a b h = (
  each_from_in (R x) (xs ++ ys) (λ z i. elim (in_append xs ys z i) as (λ _. R x z) [ inl j ↦ at_each (R x) xs a.0 z j | inr j ↦ h x z (inl refl) j ]),
  pairwise_append R xs ys a.1 b (λ y z i j. h y z (inr i) j),
)

pub in_assembled : (cs : List Candidate) (q : Piece) → In q (assembled cs) → In q (map wide cs)
in_assembled cs q i = (in_filter has_instance (map wide cs) q (from_order places_of (Filled cs) q i)).0

pub some_instance : (cs : List Candidate) (q : Piece) → In q (assembled cs) → instances q ≢ []
some_instance cs q i = some_there (instances q) (in_filter has_instance (map wide cs) q (from_order places_of (Filled cs) q i)).1

pub assembled_in : (cs : List Candidate) (q : Piece) (e : Element) → In q (map wide cs) → In e (elements q) → In q (assembled cs)
assembled_in cs q e i j =
    let x = in_map _ (instances q) e j in
    to_order places_of (Filled cs) q (filter_in has_instance (map wide cs) q i (has_in (instances q) x.0 x.1.0))

later_from : (ps : List Piece) (p : Piece) → Each (λ q. slice_cmp int_cmp (places_of p) (places_of q) ≡ Less) ps → AllLater (places_of p) ps
later_from [] p h = tt
later_from (q ∷ qs) p h = (h.0, later_from qs p h.1)

apart_from : (ps : List Piece) → IsAscending places_of ps → ((p : Piece) → In p ps → IsWhole p × (instances p ≢ [])) → AreApart ps
apart_from [] a h = tt
apart_from (p ∷ ps) a h = let here = h p (inl refl) in (here.0, here.1, later_from ps p a.0, apart_from ps a.1 (λ q i. h q (inr i)))

whole_of : (cs : List Candidate) → All (λ c. IsWhole (wide c)) cs → (q : Piece) → In q (map wide cs) → IsWhole q
whole_of cs w q i = let c = in_map wide cs q i in subst IsWhole c.1.1 (at_all (λ c. IsWhole (wide c)) cs c.0 w c.1.0)

-- the assembled pieces stand at ascending places
pub assembled_apart : (cs : List Candidate) → All (λ c. IsWhole (wide c)) cs → PlacesDiffer cs → AreApart (assembled cs)
assembled_apart cs w d = apart_from (assembled cs) (ordered_ascends places_of (Filled cs) d) (λ q i. (whole_of cs w q (in_assembled cs q i), some_instance cs q i))

-- The candidates have the elements of the pieces of a space, moved by g, and keep to the limits.
pub record AreOfPieces (g : Element → Element) (ps : List Piece) (weight commands : ℕ) (cs : List Candidate) : Type 0 where
  pub steps : (e : Element) → step (g e) ≡ step e
  pub whole : All (λ c. IsWhole (wide c)) cs
  pub differ : PlacesDiffer cs
  pub apart : PlacesApart (map wide cs)
  pub from : (q : Piece) → In q (map wide cs) → ComesFrom ps q
  pub taken : Taken g ps (map wide cs)
  pub limited : All (λ c. IsLimited weight commands (wide c)) cs

-- No candidate has more instances than the space.

sum_has : (ps : List Piece) (p : Piece) → In p ps → length (instances p) ≤ sum_by (λ q. length (instances q)) ps
sum_has [] p i = absurd i
sum_has (q ∷ ps) p (inl e) = let s = sum_by-cons (λ r. length (instances r)) q ps in subst (λ z. length (instances z) ≤ sum_by (λ r. length (instances r)) (q ∷ ps)) e (omega arith)
sum_has (q ∷ ps) p (inr i) = let s = sum_by-cons (λ r. length (instances r)) q ps in let h = sum_has ps p i in omega arith

pub fewer_instances : (ps : List Piece) (p : Piece) → AreApart ps → In p ps → length (instances p) ≤ length (listed ps)
fewer_instances ps p a i =
    let s = sum_has ps p i in
    let e = list_length ps (map (λ q. length (instances q)) ps) a refl in
    let f = sum-map (λ q. length (instances q)) ps in
    omega arith

length_placed : (ps : List Piece) (cs : List (List ℕ)) → length (all_placed ps cs) ≡ length ps
length_placed [] cs = refl
length_placed (p ∷ ps) [] = refl
length_placed (p ∷ ps) (c ∷ cs) = ap suc (length_placed ps cs)

module _ (g : Element → Element) (ps : List Piece) (weight commands : ℕ) (cs : List Candidate) (here : AreOfPieces g ps weight commands cs) where
  assembled_taken : Taken g ps (assembled cs)
  assembled_taken = record {
    forth = λ e i.
        let f = here.taken.forth e i in
        let q = in_flat elements (map wide cs) (g e) f in
        flat_in elements (assembled cs) q.0 (g e) (assembled_in cs q.0 (g e) q.1.0 q.1.1) q.1.1;
    back = λ f i.
        let q = in_flat elements (assembled cs) f i in
        here.taken.back f (flat_in elements (map wide cs) q.0 f (in_assembled cs q.0 q.1.0) q.1.1);
  }

  up : AreApart (assembled cs)
  up = assembled_apart cs here.whole here.differ

  far : PlacesApart (assembled cs)
  far q r i j = here.apart q r (in_assembled cs q i) (in_assembled cs r j)

  -- no more instances than the pieces have elements
  fewer_listed : identities_differ (listed ps) ≡ true → AreApart ps → (c : Candidate) → In c cs → length (instances c.piece) ≤ length (listed ps)
  fewer_listed once a c i = by (instances c.piece) refl
    where
      by : (xs : List (List ℤ)) → instances c.piece ≡ xs → length xs ≤ length (listed ps)
      by [] e = omega arith
      by (x ∷ xs) e =
          let there = map_in wide cs c i in
          let first : In (element_at (wide c) x) (elements (wide c)) = map_in (element_at (wide c)) (instances (wide c)) x (subst (In x) (sym e) (inl refl)) in
          let one = assembled_in cs (wide c) (element_at (wide c) x) there first in
          let h = fewer_instances (assembled cs) (wide c) up one in
          let l = ap length (listed_taken g ps (assembled cs) here.steps once a up assembled_taken) in
          let s = ordered_length (λ (e : Element). e.vector) (map g (listed ps)) in
          let m = length-map (listed ps) g in
          let k = ap length e in
          omega arith

  limits : All (IsLimited weight commands) (assembled cs)
  limits = all_in (IsLimited weight commands) (assembled cs) (λ q i.
      let c = in_map wide cs q (in_assembled cs q i) in
      subst (IsLimited weight commands) c.1.1 (at_all (λ c. IsLimited weight commands (wide c)) cs c.0 here.limited c.1.0))

  -- candidates with a space's elements have few instances
  pub candidates_few : (arrays : ℕ) (counts : List ℕ) (temps : List (List ℕ)) (old_weight old_commands : ℕ) → IsSpace arrays ps counts temps old_weight old_commands
      → All (λ c. length (instances c.piece) < 2 ^ 64) cs
  candidates_few arrays counts temps old_weight old_commands space =
      all_in (λ c. length (instances c.piece) < 2 ^ 64) cs (λ c i.
      let h = fewer_listed (and_parts _ _ space.well_formed).0 space.apart c i in
      let e = list_length ps counts space.apart space.counted in
      let f = space.few in
      omega arith)

  module _ (new : List Piece) (new_counts : List ℕ) (are : IsAssembled cs new new_counts) where
    new_length : length new ≡ length (assembled cs)
    new_length = ap length are.is ∙ length_placed (assembled cs) are.ranks

    -- there are as many pieces as the moved list has
    pub assembled_length : identities_differ (listed ps) ≡ true → AreApart ps → length new ≡ length (pieces (in_order (map g (listed ps))))
    assembled_length once a =
        new_length ∙ sym (how_many (assembled cs) up) ∙ ap (λ z. length (pieces z)) (listed_taken g ps (assembled cs) here.steps once a up assembled_taken)

    same_list : listed new ≡ closed_up (listed (assembled cs))
    same_list = ap listed are.is ∙ list_closed (assembled cs) are.ranks are.are_ranks up

    -- the list is the moved one
    pub assembled_list : identities_differ (listed ps) ≡ true → AreApart ps → listed new ≡ moved g (listed ps)
    assembled_list once a = same_list ∙ ap closed_up (listed_taken g ps (assembled cs) here.steps once a up assembled_taken)

    module _ (arrays : ℕ) (counts : List ℕ) (temps : List (List ℕ)) (old_weight old_commands : ℕ) (space : IsSpace arrays ps counts temps old_weight old_commands)
        (few : length new ≤ most_pieces) (more : old_commands ≤ commands) (few_commands : commands ≤ most_commands)
        (some_weight : 1 ≤ weight) (small_weight : weight ≤ most_weight) where
      open_space : IsSpace arrays (assembled cs) new_counts temps weight commands
      open_space =
          taken_space arrays ps counts temps old_weight old_commands space g here.steps (assembled cs) up assembled_taken new_counts weight commands far
          (λ q i. here.from q (in_assembled cs q i))
          (are.counted ∙ ap (map (λ p. length (instances p))) are.is ∙ map_placed (λ p. length (instances p)) (λ p c. refl) (assembled cs) are.ranks)
          (subst (λ n. n ≤ most_pieces) new_length few) more few_commands some_weight small_weight limits

      -- a space again
      pub assembled_space : IsSpace arrays new new_counts temps weight commands
      assembled_space =
          subst (λ z. IsSpace arrays z new_counts temps weight commands) (sym are.is)
          (space_closed arrays weight commands (assembled cs) new_counts temps are.ranks are.are_ranks open_space)

      -- the same steps are executed
      pub assembled_among : AreAmong (listed ps) (listed new)
      assembled_among =
          subst (AreAmong (listed ps)) (sym same_list)
          (among_closed (listed ps) (listed (assembled cs)) open_space.well_formed
          (steps_among arrays ps counts temps old_weight old_commands space g here.steps (assembled cs) up assembled_taken))

      pub among_assembled : AreAmong (listed new) (listed ps)
      among_assembled =
          subst (λ z. AreAmong z (listed ps)) (sym same_list)
          (closed_among (listed (assembled cs)) (listed ps) open_space.well_formed
          (steps_from arrays ps counts temps old_weight old_commands space g here.steps (assembled cs) up assembled_taken))

-- The same of the candidates for a list, which are those of its pieces.

from_listed : (ps : List Piece) (q : Piece) → ExecutesOne (listed ps) q → ComesFrom ps q
from_listed ps q h =
    let s = in_listed ps h.element h.is_element in
    record {
      piece = s.piece;
      is_piece = s.is_piece;
      label = h.label ∙ ap (λ e. e.identity.label) (sym s.is);
      body = h.body ∙ ap (λ e. e.body) (sym s.is);
      iterators = h.iterators ∙ ap (λ e. length e.identity.iters) (sym s.is) ∙ length-map s.piece.origin (λ f. value f s.instance);
    }

pub of_pieces : (g : Element → Element) (ps : List Piece) (weight commands : ℕ) (cs : List Candidate) → AreCandidates g (listed ps) weight commands cs → AreOfPieces g ps weight commands cs
of_pieces g ps weight commands cs h = record {
  steps = h.steps;
  whole = h.whole;
  differ = h.differ;
  apart = h.apart;
  from = λ q i. from_listed ps q (h.executes q i);
  taken = record {
    forth = λ e i. h.forth e (to_order (λ (e : Element). e.vector) (flat_map elements ps) e i);
    back = λ f i. let r = h.back f i in (r.0, (from_order (λ (e : Element). e.vector) (flat_map elements ps) r.0 r.1, r.2));
  };
  limited = h.limited;
}

-- As the code has it: what the space before is seen as.

module _ (arrays : ℕ) (ps : List Piece) (counts : List ℕ) (temps : List (List ℕ)) (old_weight old_commands : ℕ) (l : Listed) (space : IsSpace arrays ps counts temps old_weight old_commands)
    (view : record { list = listed ps; arrays = arrays; temps = temps; weight = old_weight; commands = old_commands } ≡ l) (weight : ℕ) (cs : List Candidate) where
  at_list : listed ps ≡ l.list
  at_list = ap (λ (r : Listed). r.list) view

  at_commands : old_commands ≡ l.commands
  at_commands = ap (λ (r : Listed). r.commands) view

  of_view : (g : Element → Element) → AreCandidates g l.list weight (l.commands + 1) cs → AreOfPieces g ps weight (old_commands + 1) cs
  of_view g h =
      of_pieces g ps weight (old_commands + 1) cs
      (subst (λ n. AreCandidates g (listed ps) weight (n + 1) cs) (sym at_commands) (subst (λ z. AreCandidates g z weight (l.commands + 1) cs) (sym at_list) h))

  pub view_few : AreSomeCandidates l.list weight (l.commands + 1) cs → All (λ c. length (instances c.piece) < 2 ^ 64) cs
  view_few h = candidates_few h.change ps weight (old_commands + 1) cs (of_view h.change h.are) arrays counts temps old_weight old_commands space

  module _ (new : List Piece) (new_counts : List ℕ) (are : IsAssembled cs new new_counts) where
    pub view_length : (g : Element → Element) → AreCandidates g l.list weight (l.commands + 1) cs → length new ≡ length (pieces (in_order (map g l.list)))
    view_length g h =
        assembled_length g ps weight (old_commands + 1) cs (of_view g h) new new_counts are (and_parts _ _ space.well_formed).0 space.apart ∙ ap (λ z. length (pieces (in_order (map g z)))) at_list

    pub view_list : (g : Element → Element) → AreCandidates g l.list weight (l.commands + 1) cs → listed new ≡ moved g l.list
    view_list g h = assembled_list g ps weight (old_commands + 1) cs (of_view g h) new new_counts are (and_parts _ _ space.well_formed).0 space.apart ∙ ap (moved g) at_list

    module _ (h : AreSomeCandidates l.list weight (l.commands + 1) cs) (few : length new ≤ most_pieces) (few_commands : l.commands < most_commands) (some_weight : 1 ≤ weight)
        (small_weight : weight ≤ most_weight) where
      fewer : old_commands + 1 ≤ most_commands
      fewer = let e = at_commands in omega arith

      pub view_space : IsSpace arrays new new_counts temps weight (old_commands + 1)
      view_space =
          assembled_space h.change ps weight (old_commands + 1) cs (of_view h.change h.are) new new_counts are arrays counts temps old_weight old_commands space few (omega arith) fewer
          some_weight small_weight

      pub view_among : AreAmong l.list (listed new)
      view_among =
          subst (λ z. AreAmong z (listed new)) at_list
          (assembled_among h.change ps weight (old_commands + 1) cs (of_view h.change h.are) new new_counts are arrays counts temps old_weight old_commands space few (omega arith) fewer
          some_weight small_weight)

      pub among_view : AreAmong (listed new) l.list
      among_view =
          subst (AreAmong (listed new)) at_list
          (among_assembled h.change ps weight (old_commands + 1) cs (of_view h.change h.are) new new_counts are arrays counts temps old_weight old_commands space few (omega arith) fewer
          some_weight small_weight)

-- whether there are too many pieces

pub too_many_is : (g : Element → Element) (list : List Element) (n : ℕ) (z : ℤ) → n ≡ length (pieces (in_order (map g list))) → most_pieces < n → z ≡ pos n
    → too_many g list ≡ Some (record { code = 7; number = z })
too_many_is g list n z e l i =
    let t : nat_lt most_pieces (length (pieces (in_order (map g list)))) ≡ true = lt-ltb most_pieces (length (pieces (in_order (map g list)))) (subst (λ m. most_pieces < m) e l) in
    rw t (ap (cause 7) (ap pos (sym e) ∙ sym i))

pub not_too_many : (g : Element → Element) (list : List Element) (n : ℕ) → n ≡ length (pieces (in_order (map g list))) → n ≤ most_pieces → too_many g list ≡ None
not_too_many g list n e l =
    let t : nat_lt most_pieces (length (pieces (in_order (map g list)))) ≡ false = not_less most_pieces (length (pieces (in_order (map g list)))) (subst (λ m. m ≤ most_pieces) e l) in
    rw t refl
  where
    not_less : (a b : ℕ) → b ≤ a → nat_lt a b ≡ false
    not_less a b h = grind arith
