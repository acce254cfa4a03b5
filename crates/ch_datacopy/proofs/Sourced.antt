-- What a plan moves of the list of a space: the accesses of its pieces, and the cells that these use.
use Rattle.std.proofs.Common.{◌≡◌, ◌≢◌, refl, sym, ap, ap₂, ◌∙◌, subst, ℕ, suc, ℤ, Bool, true, false, cond, List, [], ◌∷◌, ◌++◌, map, length, take, ◌<◌, slice_index_or, inl, inr, append-nil, arith}
use Rattle.std.specs.List.{filter, flat_map}
use Rattle.ch_affine.specs.Affine.{value}
use Rattle.ch_copied.specs.Uses.{Transfer, Use, of_piece, same_use, transfers, use_of, uses, with_places}
use Rattle.ch_copied.proofs.Different.{different_in, in_different}
use Rattle.ch_copied.proofs.Transfers.{use_is}
use Rattle.ch_datacopy.specs.declared.cells.Cells.{Cells}
use Rattle.ch_datacopy.specs.declared.uses.Way.{Way}
use Rattle.ch_datacopy.specs.Cells.{cell_at, iterators_at}
use Rattle.ch_datacopy.specs.Pairs.{used}
use Rattle.ch_datacopy.specs.Sources.{Source, accesses_by, forms, from_piece, sources}
use Rattle.ch_datacopy.specs.Used.{IsCellsOf}
use Rattle.ch_nest.specs.declared.nest.Access.{Access}
use Rattle.ch_nest.specs.declared.nest.Body.{Body}
use Rattle.ch_nest.specs.declared.nest.Sub.{Sub}
use Rattle.ch_nest.specs.Run.{modulo, sub_value}
use Rattle.ch_space.specs.declared.piece.Piece.{Piece}
use Rattle.ch_space.specs.Keeps.{AreApart, places_of}
use Rattle.ch_space.specs.Pieces.{element_at, elements, instances, listed}
use Rattle.ch_space.proofs.Membership.{in_filter}
use Rattle.ch_space.proofs.PieceElements.{element_values, whole_in}
use Rattle.ch_space.proofs.PieceNumbers.{instance_in, numbered, members_are, nth_places}
use Rattle.ch_timed.specs.declared.element.Element.{Element}
use Rattle.ch_timed.specs.Members.{Each, In}
use Rattle.ch_timed.specs.Vectors.{places, shares, same_numbers}
use Rattle.ch_timed.proofs.Orders.{in_map, map_in}

abbrev pub transfer_of : Source → Transfer
transfer_of s = record { places = places_of s.piece; access = s.access }

-- lists

map_append : {X Y : Type 0} (f : X → Y) (xs ys : List X) → map f (xs ++ ys) ≡ map f xs ++ map f ys
map_append f [] ys = refl
map_append f (x ∷ xs) ys = ap (λ z. f x ∷ z) (map_append f xs ys)

filter_map : {X Y : Type 0} (t : Y → Bool) (f : X → Y) (xs : List X) → filter t (map f xs) ≡ map f (filter (λ x. t (f x)) xs)
filter_map t f [] = refl
filter_map {X} {Y} t f (x ∷ xs) = by (t (f x)) (filter_map t f xs)
  where
    by : (b : Bool) → filter t (map f xs) ≡ map f (filter (λ x. t (f x)) xs) → cond b (f x ∷ filter t (map f xs)) (filter t (map f xs)) ≡ map f (cond b (x ∷ filter (λ x. t (f x)) xs) (filter (λ x. t (f x)) xs))
    by true e = ap (λ z. f x ∷ z) e
    by false e = e

from_piece_transfers : (q : Piece) (accesses : List Access) → map transfer_of (from_piece q accesses) ≡ map (λ a. record { places = places_of q; access = a }) accesses
from_piece_transfers q [] = refl
from_piece_transfers q (a ∷ more) = ap (λ z. record { places = places_of q; access = a } ∷ z) (from_piece_transfers q more)

index_of : {X : Type 0} (xs : List X) (x : X) → In x xs → (k : ℕ) × ((k < length xs) × (slice_index_or xs k x ≡ x))
index_of [] x i = absurd i
index_of (y ∷ ys) x (inl e) = (0, (omega arith, e))
index_of (y ∷ ys) x (inr i) = let r = index_of ys x i in (suc r.0, (let l = r.1.0 in omega arith, r.1.1))

module _ (ps : List Piece) (apart : AreApart ps) where
  pub with_places_are : (q : Piece) → In q ps → with_places (places_of q) (listed ps) ≡ elements q
  with_places_are q i =
      let k = index_of ps q i in
      ap (λ z. filter (λ e. same_numbers z (places e.vector)) (listed ps)) (ap places_of (sym k.1.1) ∙ sym (nth_places ps k.0 q apart k.1.0))
      ∙ members_are ps k.0 q apart k.1.0 ∙ ap elements k.1.1

  piece_transfers : (chosen : Body → List Access) (q : Piece) → In q ps → of_piece chosen (listed ps) (places_of q) ≡ map transfer_of (from_piece q (chosen q.body))
  piece_transfers chosen q i = by (instances q) (instance_in ps q apart i) refl
    where
      made : Element → List Transfer
      made e = map (λ a. record { places = places_of q; access = a }) (chosen e.body)

      by : (xs : List (List ℤ)) → (instances q ≢ []) → instances q ≡ xs → of_piece chosen (listed ps) (places_of q) ≡ map transfer_of (from_piece q (chosen q.body))
      by [] some e = absurd (some e)
      by (x ∷ xs) some e =
          ap (λ es. flat_map made (take 1 es)) (with_places_are q i ∙ ap (map (element_at q)) e)
          ∙ append-nil (made (element_at q x)) ∙ sym (from_piece_transfers q (chosen q.body))

  flat_transfers : (chosen : Body → List Access) (qs : List Piece) → ((q : Piece) → In q qs → In q ps)
      → flat_map (of_piece chosen (listed ps)) (map places_of qs) ≡ map transfer_of (flat_map (λ q. from_piece q (chosen q.body)) qs)
  flat_transfers chosen [] h = refl
  flat_transfers chosen (q ∷ qs) h =
      ap₂ (λ x y. x ++ y) (piece_transfers chosen q (h q (inl refl))) (flat_transfers chosen qs (λ r i. h r (inr i)))
      ∙ sym (map_append transfer_of (from_piece q (chosen q.body)) (flat_map (λ q. from_piece q (chosen q.body)) qs))

  -- the accesses that are moved
  pub transfers_are : (way : Way) (array : ℕ) (ours : List ℤ) (around : ℕ) → transfers (accesses_by way array) (listed ps) ours around ≡ map transfer_of (sources way array ours around ps)
  transfers_are way array ours around =
      ap (λ z. flat_map (of_piece (accesses_by way array) (listed ps)) (filter (shares (suc around) ours) z)) (numbered ps apart)
      ∙ ap (flat_map (of_piece (accesses_by way array) (listed ps))) (filter_map (shares (suc around) ours) places_of ps)
      ∙ flat_transfers (accesses_by way array) (filter (λ q. shares (suc around) ours (places_of q)) ps) (λ q i. (in_filter (λ q. shares (suc around) ours (places_of q)) ps q i).0)

  -- the cells of an access

  plain_cell : (subs : List Sub) (iters : List ℤ) → Each (λ s. s.modulus ≡ 0) subs → map (sub_value iters) subs ≡ cell_at (map (λ s. s.form) subs) iters
  plain_cell [] iters h = refl
  plain_cell (s ∷ subs) iters h = ap₂ (λ x xs. x ∷ xs) (ap (λ m. modulo m (value s.form iters)) h.0) (plain_cell subs iters h.1)

  module _ (q : Piece) (i : In q ps) (around : ℕ) (a : Access) (plain : Each (λ s. s.modulus ≡ 0) a.subs) where
    use_at : (xs : List ℤ) → In xs (instances q) → use_of around a (element_at q xs) ≡ record { prefix = take around xs; cell = cell_at (forms a) (iterators_at q xs) }
    use_at xs j =
        let v = ap (take around) (element_values q xs (whole_in ps q apart i) j) in
        let c = plain_cell a.subs (iterators_at q xs) plain in
        λ t. record { prefix = v t; cell = c t }

    pub uses_are : (u : Use) → In u (uses (listed ps) around (record { places = places_of q; access = a }))
        → (xs : List ℤ) × (In xs (instances q) × (u ≡ record { prefix = take around xs; cell = cell_at (forms a) (iterators_at q xs) }))
    uses_are u j =
        let d = in_different same_use (map (use_of around a) (with_places (places_of q) (listed ps))) u j in
        let m = in_map (use_of around a) (with_places (places_of q) (listed ps)) u d in
        let e = in_map (element_at q) (instances q) m.0 (subst (In m.0) (with_places_are q i) m.1.0) in
        (e.0, (e.1.0, sym m.1.1 ∙ ap (use_of around a) (sym e.1.1) ∙ use_at e.0 e.1.0))

    pub are_uses : (xs : List ℤ) → In xs (instances q) → In (record { prefix = take around xs; cell = cell_at (forms a) (iterators_at q xs) }) (uses (listed ps) around (record { places = places_of q; access = a }))
    are_uses xs j =
        different_in same_use use_is (map (use_of around a) (with_places (places_of q) (listed ps))) _
        (subst (λ u. In u (map (use_of around a) (with_places (places_of q) (listed ps)))) (use_at xs j)
        (map_in (use_of around a) (with_places (places_of q) (listed ps)) (element_at q xs) (subst (In (element_at q xs)) (sym (with_places_are q i)) (map_in (element_at q) (instances q) xs j))))

    -- the values that begin the points of the system are the uses
    pub used_from : (u : Cells) → IsCellsOf q around (forms a) u → (ys : List ℤ) → In ys (used u)
        → (w : Use) × (In w (uses (listed ps) around (record { places = places_of q; access = a })) × (ys ≡ w.prefix ++ w.cell))
    used_from u c ys j =
        let x = (c.exact ys).0 j in
        (record { prefix = take around x.0; cell = cell_at (forms a) (iterators_at q x.0) }, (are_uses x.0 x.1, x.2))

    pub used_to : (u : Cells) → IsCellsOf q around (forms a) u → (w : Use) → In w (uses (listed ps) around (record { places = places_of q; access = a })) → In (w.prefix ++ w.cell) (used u)
    used_to u c w j =
        let x = uses_are w j in
        (c.exact (w.prefix ++ w.cell)).1 (x.0, x.1.0, ap (λ (z : Use). z.prefix ++ z.cell) x.1.1)
