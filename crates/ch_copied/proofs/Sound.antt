-- The elements of the new list are as they have to be.
use Rattle.std.proofs.Common.{◌≡◌, refl, sym, ap, ap₂, ◌∙◌, subst, ℕ, suc, ◌+◌, ◌<◌, ℤ, pos, ◌+ℤ◌, ◌*ℤ◌, ◌<ℤ◌, ◌≤ℤ◌, true, ◌&&◌, List, [], ◌∷◌, ◌++◌, length, map, take, ◌⊎◌, inl, inr, arith}
use Rattle.std.proofs.lemmas.Int.{ints}
use Rattle.std.proofs.lemmas.Bool.{both_ways, and_parts, eqb-true}
use Rattle.std.specs.List.{flat_map}
use Rattle.std.specs.Ordering.{int_cmp, ordering_reverse}
use Rattle.std.specs.declared.cmp.Ordering.{Ordering}
use Rattle.std.specs.declared.cmp.Ordering.TheVariants.{Less, Equal, Greater}
use Rattle.std.specs.Cmp.{int_cmp_total, tied_itself, IsTotalOrder}
use Rattle.std.specs.Cmp.Lexicographic.{slice_cmp, lists_total}
use Rattle.std.specs.FinMap.{slice_cmp-IsAntisymmetric, int_cmp-IsAntisymmetric}
use Rattle.ch_nest.specs.declared.nest.Access.{Access}
use Rattle.ch_nest.specs.Run.{sub_value}
use Rattle.ch_timed.specs.declared.element.Element.{Element}
use Rattle.ch_timed.specs.Members.{In}
use Rattle.ch_timed.specs.Ordered.{ordered}
use Rattle.ch_timed.specs.Conflict.{accesses, reads}
use Rattle.ch_timed.specs.Timed.{have_vectors, identities_differ, in_order, is_vector, is_well_formed, pieces_apart, vectors_ascend}
use Rattle.ch_timed.specs.Vectors.{places, values, shares, same_numbers}
use Rattle.ch_timed.proofs.Orders.{Differ, IsAscending, at_each, from_order, not_itself, ordered_ascends, to_order}
use Rattle.ch_timed.proofs.Sorted.{adjacent_ascends, ascends_adjacent}
use Rattle.ch_timed.proofs.Woven.{HasVector, each_vector}
use Rattle.ch_copied.specs.Accesses.{names, read_accesses, written_accesses}
use Rattle.ch_copied.specs.Uses.{Transfer, Use, extents, transfers, use_of, uses}
use Rattle.ch_copied.specs.Plans.{Plan, free_label}
use Rattle.ch_copied.specs.Copied.{alone, copy_ins, copy_outs, kept, loop_place, new_place, replaced, width}
use Rattle.ch_copied.specs.Copyable.{IsCopyable}
use Rattle.ch_copied.proofs.Acts.{Comes, acts, at, comes, from_in, in_order_are, ins_in, is_works, keeps_in, new_ascend, new_element, outs_in}
use Rattle.ch_copied.proofs.Different.{Unlike}
use Rattle.ch_copied.proofs.Once.{acts_once, pairs_by}
use Rattle.ch_copied.proofs.Lists.{append_left, append_right, flat_in, in_append, in_flat, parts_same}
use Rattle.ch_copied.proofs.Moving.{IsLong, redirected_cell}
use Rattle.ch_copied.proofs.Runs.{InRun, fronted, in_between, place_first, replaced_front, replaced_less, same_run, was_fronted}
use Rattle.ch_copied.proofs.Sharing.{apart_pair, are_numbers, is_shared, is_shares, shape, shares_is, take_long}
use Rattle.ch_copied.proofs.Simulation.{Act, other, works, loads, stores, InBlock, IsFresh, IsMove, IsSound, prefix}
use Rattle.ch_copied.proofs.Spacing.{at_loop, is_loop, rises}
use Rattle.ch_copied.proofs.Transfers.{in_transfers, in_uses, in_read, in_written, read_in, transfer_in, use_in, written_in}
use Rattle.ch_copied.proofs.Values.{in_left, in_right}
use Rattle.ch_copied.proofs.Wide.{Within, extents_length, extents_within, wrap_same}

-- the plan is the one of a piece and a level of the list
pub record IsPlanned (p : Plan) (list : List Element) : Type 0 where
  pub ins : p.ins ≡ transfers (read_accesses p.array) list p.ours p.around
  pub outs : p.outs ≡ transfers (written_accesses p.array) list p.ours p.around
  pub extents : p.extents ≡ extents (flat_map (uses list p.around) (p.ins ++ p.outs))
  pub label : p.label ≡ free_label list
  pub piece : Element
  pub is_member : In piece list
  pub its_places : places piece.vector ≡ p.ours
  pub deep : suc p.around < length p.ours

-- elements of one vector are one where the vectors ascend
one_of_each : (list : List Element) → IsAscending (λ (e : Element). e.vector) list → (e f : Element) → In e list → In f list → e.vector ≡ f.vector → e ≡ f
one_of_each [] a e f i j h = absurd i
one_of_each (x ∷ xs) a e f (inl k) (inl l) h = sym k ∙ l
one_of_each (x ∷ xs) a e f (inl k) (inr j) h =
    absurd (not_itself (λ (z : Element). z.vector) x (subst (λ v. slice_cmp int_cmp x.vector v ≡ Less) (sym (ap (λ (z : Element). z.vector) k ∙ h)) (at_each _ xs a.0 f j)))
one_of_each (x ∷ xs) a e f (inr i) (inl l) h =
    absurd (not_itself (λ (z : Element). z.vector) x (subst (λ v. slice_cmp int_cmp x.vector v ≡ Less) (h ∙ sym (ap (λ (z : Element). z.vector) l)) (at_each _ xs a.0 e i)))
one_of_each (x ∷ xs) a e f (inr i) (inr j) h = one_of_each xs a.1 e f i j h

list_order : IsTotalOrder (slice_cmp int_cmp)
list_order = lists_total int_cmp_total

rest_same : (front x y : List ℤ) (a b : ℤ) (r s : List ℤ) → length x ≡ length front → length y ≡ length front
    → fronted front x a r ≡ fronted front y b s → r ≡ s
rest_same [] [] [] a b r s n m e = (parts_same a b r s e).1
rest_same [] [] (z ∷ y) a b r s n m e = absurd (omega arith)
rest_same [] (z ∷ x) y a b r s n m e = absurd (omega arith)
rest_same (f ∷ front) [] y a b r s n m e = absurd (omega arith)
rest_same (f ∷ front) (c ∷ x) [] a b r s n m e = absurd (omega arith)
rest_same (f ∷ front) (c ∷ x) (d ∷ y) a b r s n m e =
    let p = parts_same c d (fronted front x a r) (fronted front y b s) (parts_same f f (c ∷ fronted front x a r) (d ∷ fronted front y b s) e).1 in
    rest_same front x y a b r s (omega arith) (omega arith) p.1

alone_same : (cs ds : List ℤ) → alone cs ≡ alone ds → cs ≡ ds
alone_same [] [] e = refl
alone_same [] (d ∷ ds) e = cc
alone_same (c ∷ cs) [] e = cc
alone_same (c ∷ cs) (d ∷ ds) e =
    let p = parts_same c d (pos 0 ∷ alone cs) (pos 0 ∷ alone ds) e in
    ap₂ (λ x xs. x ∷ xs) p.0 (alone_same cs ds (parts_same (pos 0) (pos 0) (alone cs) (alone ds) p.1).1)

pub same_offset : (x : ℤ) (m n : ℕ) → (x +ℤ pos m) ≡ (x +ℤ pos n) → m ≡ n
same_offset x m n e = omega (arith, ints)

pub ascends_of : (list : List Element) → is_well_formed list ≡ true → vectors_ascend list ≡ true
ascends_of list h =
    let a = and_parts (identities_differ list) (vectors_ascend list && (pieces_apart list && have_vectors list)) h in
    (and_parts (vectors_ascend list) (pieces_apart list && have_vectors list) a.1).0

pub apart_of : (list : List Element) → is_well_formed list ≡ true → pieces_apart list ≡ true
apart_of list h =
    let a = and_parts (identities_differ list) (vectors_ascend list && (pieces_apart list && have_vectors list)) h in
    let b = and_parts (vectors_ascend list) (pieces_apart list && have_vectors list) a.1 in
    (and_parts (pieces_apart list) (have_vectors list) b.1).0

pub vectors_of : (list : List Element) → is_well_formed list ≡ true → have_vectors list ≡ true
vectors_of list h =
    let a = and_parts (identities_differ list) (vectors_ascend list && (pieces_apart list && have_vectors list)) h in
    let b = and_parts (vectors_ascend list) (pieces_apart list && have_vectors list) a.1 in
    (and_parts (pieces_apart list) (have_vectors list) b.1).1

module _ (p : Plan) (list : List Element) (dimensions : ℕ) (planned : IsPlanned p list) (fine : IsCopyable list p.array p.buffer dimensions) where
  abbrev pub the_front : List ℤ
  the_front = take p.around p.ours

  abbrev pub wide : ℕ
  wide = (length p.ins + length p.outs) + 1

  abbrev pub low : ℤ
  low = loop_place p *ℤ width p

  abbrev pub high : ℤ
  high = low +ℤ width p

  pub ins_inside : length p.ins < wide
  ins_inside = omega arith

  pub well : (e : Element) → In e list → is_vector e.vector ≡ true
  well e i = at_each HasVector list (each_vector list (vectors_of list fine.well_formed)) e i

  pub front_long : length the_front ≡ p.around
  front_long = let d = planned.deep in take_long p.around p.ours (omega arith)

  -- the vector of an element of the group, and that of its copy in the new list
  pub in_group_shape : (e : Element) → In e list → shares (suc p.around) p.ours (places e.vector) ≡ true
      → (r : List ℤ) × ((e.vector ≡ fronted the_front (take p.around (values e.vector)) (loop_place p) r) × (length (take p.around (values e.vector)) ≡ length the_front))
  in_group_shape e i h =
      let s = shares_is _ _ _ h in
      let d = planned.deep in
      shape p.around p.ours e.vector (well e i) (omega arith) s.too s.same

  pub works_shape : (e : Element) → In e list → shares (suc p.around) p.ours (places e.vector) ≡ true
      → (r : List ℤ) × ((replaced the_front (new_place p) e.vector ≡ fronted the_front (prefix p e) (low +ℤ pos (length p.ins)) r) × (length (prefix p e) ≡ length the_front))
  works_shape e i h =
      let s = in_group_shape e i h in (
        s.0,
        (
          ap (replaced the_front (new_place p)) s.1.0
              ∙ replaced_front (new_place p) the_front (prefix p e) (loop_place p) s.0 s.1.1
              ∙ ap (λ z. fronted the_front (prefix p e) z s.0) (at_loop (loop_place p) (length p.ins) wide ins_inside),
          s.1.1,
        ),
      )

  -- a cell that is moved
  pub use_from : (t : Transfer) (u : Use) → (In t p.ins ⊎ In t p.outs) → In u (uses list p.around t)
      → (e : Element) × (In e list × ((shares (suc p.around) p.ours (places e.vector) ≡ true) × ((use_of p.around t.access e ≡ u) × (In t.access (accesses e.body) × (names p.array t.access ≡ true)))))
  use_from t u i j =
      let q = in_uses list p.ours p.around t u j in
      let there : (f : Element) → In f list → places f.vector ≡ t.places → shares (suc p.around) p.ours t.places ≡ true → In t.access (accesses f.body) × (names p.array t.access ≡ true)
      → (e : Element) × (In e list × ((shares (suc p.around) p.ours (places e.vector) ≡ true) × ((use_of p.around t.access e ≡ u) × (In t.access (accesses e.body) × (names p.array t.access ≡ true))))) =
      λ f k l m n. (
        q.0,
        (
          q.1.0,
          (
            subst (λ z. shares (suc p.around) p.ours z ≡ true) (sym q.1.1.0) m,
            (
              q.1.1.1,
              (subst (λ b. In t.access (accesses b)) (fine.bodies f q.0 k q.1.0 (l ∙ sym q.1.1.0)) n.0, n.1),
            ),
          ),
        ),
      ) in
      elim i as (λ _. (e : Element) × (In e list × ((shares (suc p.around) p.ours (places e.vector) ≡ true) × ((use_of p.around t.access e ≡ u) × (In t.access (accesses e.body) × (names p.array t.access ≡ true)))))) [
        | inl k ↦
            let r = in_transfers list p.ours p.around (read_accesses p.array) t (subst (λ ts. In t ts) planned.ins k) in
            let a = in_read p.array r.0.body t.access r.1.1.1.1 in
            there r.0 r.1.0 r.1.1.0 r.1.1.1.0 (in_left t.access (reads r.0.body.right) (r.0.body.write ∷ []) a.0, a.1)
        | inr k ↦
            let r = in_transfers list p.ours p.around (written_accesses p.array) t (subst (λ ts. In t ts) planned.outs k) in
            let a = in_written p.array r.0.body t.access r.1.1.1.1 in
            there r.0 r.1.0 r.1.1.0 r.1.1.1.0 (in_right t.access (reads r.0.body.right) (r.0.body.write ∷ []) (inl a.0), a.1)
      ]

  map_length : {X Y : Type 0} (f : X → Y) (xs : List X) → length (map f xs) ≡ length xs
  map_length f [] = refl
  map_length f (x ∷ xs) = ap (λ n. suc n) (map_length f xs)

  pub use_dimensions : (t : Transfer) (u : Use) → (In t p.ins ⊎ In t p.outs) → In u (uses list p.around t) → length u.cell ≡ dimensions
  use_dimensions t u i j =
      let q = use_from t u i j in
      subst (λ (z : Use). length z.cell ≡ dimensions) q.1.1.1.0
      (map_length (sub_value q.0.identity.iters) t.access.subs ∙ fine.agree q.0 t.access q.1.0 q.1.1.1.1.0 (eqb-true _ _ q.1.1.1.1.1))

  pub prefix_long : (t : Transfer) (u : Use) → (In t p.ins ⊎ In t p.outs) → In u (uses list p.around t) → length u.prefix ≡ length the_front
  prefix_long t u i j =
      let q = use_from t u i j in
      subst (λ (z : Use). length z.prefix ≡ length the_front) q.1.1.1.0 (in_group_shape q.0 q.1.0 q.1.1.0).1.1

  abbrev all_uses : List Use
  all_uses = flat_map (uses list p.around) (p.ins ++ p.outs)

  among : (t : Transfer) (u : Use) → (In t p.ins ⊎ In t p.outs) → In u (uses list p.around t) → In u all_uses
  among t u i j = flat_in (uses list p.around) (p.ins ++ p.outs) t u
      (elim i as (λ _. In t (p.ins ++ p.outs)) [ inl k ↦ append_left p.ins p.outs t k | inr k ↦ append_right p.ins p.outs t k ]) j

  all_dimensions : (u : Use) → In u all_uses → length u.cell ≡ dimensions
  all_dimensions u i =
      let q = in_flat_uses u i in use_dimensions q.0 u q.1.0 q.1.1
    where
      in_flat_uses : (v : Use) → In v all_uses → (t : Transfer) × ((In t p.ins ⊎ In t p.outs) × In v (uses list p.around t))
      in_flat_uses v k = let q = in_flat (uses list p.around) (p.ins ++ p.outs) v k in (q.0, (in_append p.ins p.outs q.0 q.1.0, q.1.1))

  pub long_use : (t : Transfer) (u : Use) → (In t p.ins ⊎ In t p.outs) → In u (uses list p.around t) → IsLong p u
  long_use t u i j = record {
    prefix = prefix_long t u i j ∙ front_long;
    cell = use_dimensions t u i j ∙ sym (ap (λ es. length es) planned.extents ∙ extents_length dimensions all_uses all_dimensions u (among t u i j));
  }

  -- runs

  abbrev Run : List ℤ → Act → Type 0
  Run x a = InRun the_front low high x (at p a)

  moved_run : (u : Use) (k : ℕ) → length u.prefix ≡ length the_front → k < wide → InRun the_front low high u.prefix (fronted the_front u.prefix (low +ℤ pos k) (alone u.cell))
  moved_run u k n l = record { place = low +ℤ pos k; rest = alone u.cell; long = n; is = refl; least = omega (arith, ints); most = below low k wide l }
    where
      below : (x : ℤ) (m n : ℕ) → m < n → (x +ℤ pos m) <ℤ (x +ℤ pos n)
      below x m n h = omega (arith, ints)

  block_run : (x : List ℤ) (a : Act) → Comes p list a → InBlock p x a → Run x a
  block_run x (other e) c h = absurd h
  block_run x (works e) c h =
      let s = works_shape e c.0 c.1 in
      subst (λ z. InRun the_front low high z (replaced the_front (new_place p) e.vector)) h (record {
        place = low +ℤ pos (length p.ins);
        rest = s.0;
        long = s.1.1;
        is = s.1.0;
        least = omega (arith, ints);
        most = below low (length p.ins) wide ins_inside;
      })
    where
      below : (x : ℤ) (m n : ℕ) → m < n → (x +ℤ pos m) <ℤ (x +ℤ pos n)
      below x m n h = omega (arith, ints)
  block_run x (loads l k u) c h =
      subst (λ z. InRun the_front low high z (fronted the_front u.prefix (low +ℤ pos k) (alone u.cell))) h
      (moved_run u k (prefix_long c.0 u (inl c.1.0) c.1.1.0) (wider k c.1.1.1.1))
    where
      wider : (n : ℕ) → n < length p.ins → n < wide
      wider n l = omega arith
  block_run x (stores l k u) c h =
      subst (λ z. InRun the_front low high z (fronted the_front u.prefix (low +ℤ pos k) (alone u.cell))) h
      (moved_run u k (prefix_long c.0 u (inr c.1.0) c.1.1.0) c.1.1.1.1.1)

  pub run_block : (x : List ℤ) (a : Act) → Comes p list a → Run x a → InBlock p x a
  run_block x (other e) c r =
      let w = was_fronted (new_place p) the_front x e.vector r.place r.rest r.long r.is in
      let loop = is_loop (loop_place p) (length p.ins) wide ins_inside w.0
      (subst (λ z. low ≤ℤ z) (sym w.1.1) r.least) (subst (λ z. z <ℤ high) (sym w.1.1) r.most) in
      let made : e.vector ≡ fronted the_front x (loop_place p) r.rest = w.1.0 ∙ ap (λ z. fronted the_front x z r.rest) loop in
      let begins : same_numbers (places e.vector) (take (length (places e.vector)) p.ours) ≡ true → places e.vector ≡ p.ours =
      λ b. apart_pair list (apart_of list fine.well_formed) e planned.piece c.0 planned.is_member
      (subst (λ z. same_numbers (places e.vector) (take (length (places e.vector)) z) ≡ true) (sym planned.its_places) b) ∙ planned.its_places in
      both_ways _ c.1 (is_shares _ _ _ (is_shared p.around p.ours e.vector x r.rest planned.deep r.long made begins))
  run_block x (works e) c r =
      let s = works_shape e c.0 c.1 in
      (same_run the_front (prefix p e) x (low +ℤ pos (length p.ins)) r.place s.0 r.rest s.1.1 r.long (sym s.1.0 ∙ r.is)).0
  run_block x (loads l k u) c r =
      (same_run the_front u.prefix x (low +ℤ pos k) r.place (alone u.cell) r.rest (prefix_long c.0 u (inl c.1.0) c.1.1.0) r.long r.is).0
  run_block x (stores l k u) c r =
      (same_run the_front u.prefix x (low +ℤ pos k) r.place (alone u.cell) r.rest (prefix_long c.0 u (inr c.1.0) c.1.1.0) r.long r.is).0

  -- the new vectors

  pub new_rises : (a b : ℤ) → a <ℤ b → new_place p a <ℤ new_place p b
  new_rises a b l = rises (loop_place p) (length p.ins) wide ins_inside a b l

  pub new_less : (v w : List ℤ) → slice_cmp int_cmp v w ≡ Less → slice_cmp int_cmp (replaced the_front (new_place p) v) (replaced the_front (new_place p) w) ≡ Less
  new_less v w h = replaced_less (new_place p) new_rises the_front v w h

  itself : (v : List ℤ) → slice_cmp int_cmp v v ≡ Less → ⊥
  itself v h = let k = tied_itself list_order v in cc

  turned_less : (v w : List ℤ) → slice_cmp int_cmp v w ≡ Greater → slice_cmp int_cmp w v ≡ Less
  turned_less v w h = list_order.antisymm w v ∙ ap ordering_reverse h

  both_less : (v w : List ℤ) → slice_cmp int_cmp v w ≡ Less → slice_cmp int_cmp w v ≡ Less → ⊥
  both_less v w h g = let k = list_order.antisymm v w in let l = ap ordering_reverse g in cc

  new_same : (v w : List ℤ) → replaced the_front (new_place p) v ≡ replaced the_front (new_place p) w → v ≡ w
  new_same v w e = by (slice_cmp int_cmp v w) refl
    where
      by : (o : Ordering) → slice_cmp int_cmp v w ≡ o → v ≡ w
      by Less h = absurd (itself (replaced the_front (new_place p) v) (subst (λ z. slice_cmp int_cmp (replaced the_front (new_place p) v) z ≡ Less) (sym e) (new_less v w h)))
      by Equal h = slice_cmp-IsAntisymmetric int_cmp-IsAntisymmetric v w h
      by Greater h = absurd (itself (replaced the_front (new_place p) v) (subst (λ z. slice_cmp int_cmp z (replaced the_front (new_place p) v) ≡ Less) (sym e) (new_less w v (turned_less v w h))))

  pub was_less : (v w : List ℤ) → slice_cmp int_cmp (replaced the_front (new_place p) v) (replaced the_front (new_place p) w) ≡ Less → slice_cmp int_cmp v w ≡ Less
  was_less v w g = by (slice_cmp int_cmp v w) refl
    where
      by : (o : Ordering) → slice_cmp int_cmp v w ≡ o → slice_cmp int_cmp v w ≡ Less
      by Less h = h
      by Equal h =
          let same : v ≡ w = slice_cmp-IsAntisymmetric int_cmp-IsAntisymmetric v w h in
          absurd (itself (replaced the_front (new_place p) v) (subst (λ z. slice_cmp int_cmp (replaced the_front (new_place p) v) (replaced the_front (new_place p) z) ≡ Less) (sym same) g))
      by Greater h = absurd (both_less (replaced the_front (new_place p) v) (replaced the_front (new_place p) w) g (new_less w v (turned_less v w h)))

  -- elements at one vector are one

  old_ascends : IsAscending (λ (e : Element). e.vector) list
  old_ascends = adjacent_ascends list (ascends_of list fine.well_formed)

  pub same_kept : (e f : Element) → In e list → In f list → replaced the_front (new_place p) e.vector ≡ replaced the_front (new_place p) f.vector → e ≡ f
  same_kept e f i j h = one_of_each list old_ascends e f i j (new_same e.vector f.vector h)

  not_other : (e : Element) (x : List ℤ) (k : ℕ) (r : List ℤ) → Comes p list (other e) → length x ≡ length the_front → k < wide
      → replaced the_front (new_place p) e.vector ≡ fronted the_front x (low +ℤ pos k) r → ⊥
  not_other e x k r c n l h = run_block x (other e) c (record { place = low +ℤ pos k; rest = r; long = n; is = h; least = omega (arith, ints); most = below low k wide l })
    where
      below : (y : ℤ) (m n : ℕ) → m < n → (y +ℤ pos m) <ℤ (y +ℤ pos n)
      below y m n g = omega (arith, ints)

  not_works : (e : Element) (x : List ℤ) (k : ℕ) (r : List ℤ) → Comes p list (works e) → length x ≡ length the_front → (length p.ins ≡ k → ⊥)
      → replaced the_front (new_place p) e.vector ≡ fronted the_front x (low +ℤ pos k) r → ⊥
  not_works e x k r c n l h =
      let s = works_shape e c.0 c.1 in
      l (same_offset low (length p.ins) k (same_run the_front (prefix p e) x (low +ℤ pos (length p.ins)) (low +ℤ pos k) s.0 r s.1.1 n (sym s.1.0 ∙ h)).1)

  same_moves : (u v : Use) (k m : ℕ) → length u.prefix ≡ length the_front → length v.prefix ≡ length the_front
      → fronted the_front u.prefix (low +ℤ pos k) (alone u.cell) ≡ fronted the_front v.prefix (low +ℤ pos m) (alone v.cell) → (u ≡ v) × (k ≡ m)
  same_moves u v k m n o h =
      let a = same_run the_front u.prefix v.prefix (low +ℤ pos k) (low +ℤ pos m) (alone u.cell) (alone v.cell) n o h in
      let xs = a.0 in
      let cs = alone_same u.cell v.cell (rest_same the_front u.prefix v.prefix (low +ℤ pos k) (low +ℤ pos m) (alone u.cell) (alone v.cell) n o h) in
      (λ i. record { prefix = xs i; cell = cs i }, same_offset low k m a.1)

  labels : (a b l k m : ℕ) → a ≡ l + k → b ≡ l + m → k ≡ m → a ≡ b
  labels a b l k m h g e = omega arith

  pub one_each : (a b : Act) → Comes p list a → Comes p list b → at p a ≡ at p b → a ≡ b
  one_each (other e) (other f) c d h = ap other (same_kept e f c.0 d.0 h)
  one_each (other e) (works f) c d h = absurd (both_ways _ c.1 (subst (λ (z : Element). shares (suc p.around) p.ours (places z.vector) ≡ true) (sym (same_kept e f c.0 d.0 h)) d.1))
  one_each (works e) (other f) c d h = absurd (both_ways _ d.1 (subst (λ (z : Element). shares (suc p.around) p.ours (places z.vector) ≡ true) (same_kept e f c.0 d.0 h) c.1))
  one_each (works e) (works f) c d h = ap works (same_kept e f c.0 d.0 h)
  one_each (other e) (loads l k u) c d h = absurd (not_other e u.prefix k (alone u.cell) c (prefix_long d.0 u (inl d.1.0) d.1.1.0) (let n = d.1.1.1.1 in omega arith) h)
  one_each (loads l k u) (other e) d c h = absurd (not_other e u.prefix k (alone u.cell) c (prefix_long d.0 u (inl d.1.0) d.1.1.0) (let n = d.1.1.1.1 in omega arith) (sym h))
  one_each (other e) (stores l k u) c d h = absurd (not_other e u.prefix k (alone u.cell) c (prefix_long d.0 u (inr d.1.0) d.1.1.0) d.1.1.1.1.1 h)
  one_each (stores l k u) (other e) d c h = absurd (not_other e u.prefix k (alone u.cell) c (prefix_long d.0 u (inr d.1.0) d.1.1.0) d.1.1.1.1.1 (sym h))
  one_each (works e) (loads l k u) c d h = absurd (not_works e u.prefix k (alone u.cell) c (prefix_long d.0 u (inl d.1.0) d.1.1.0) (λ q. let n = d.1.1.1.1 in omega arith) h)
  one_each (loads l k u) (works e) d c h = absurd (not_works e u.prefix k (alone u.cell) c (prefix_long d.0 u (inl d.1.0) d.1.1.0) (λ q. let n = d.1.1.1.1 in omega arith) (sym h))
  one_each (works e) (stores l k u) c d h = absurd (not_works e u.prefix k (alone u.cell) c (prefix_long d.0 u (inr d.1.0) d.1.1.0) (λ q. let n = d.1.1.1.1.0 in omega arith) h)
  one_each (stores l k u) (works e) d c h = absurd (not_works e u.prefix k (alone u.cell) c (prefix_long d.0 u (inr d.1.0) d.1.1.0) (λ q. let n = d.1.1.1.1.0 in omega arith) (sym h))
  one_each (loads l k u) (loads m n v) c d h =
      let s = same_moves u v k n (prefix_long c.0 u (inl c.1.0) c.1.1.0) (prefix_long d.0 v (inl d.1.0) d.1.1.0) h in
      let a = labels l m p.label k n c.1.1.1.0 d.1.1.1.0 s.1 in
      let b = s.1 in
      let w = s.0 in
      λ i. loads (a i) (b i) (w i)
  one_each (stores l k u) (stores m n v) c d h =
      let s = same_moves u v k n (prefix_long c.0 u (inr c.1.0) c.1.1.0) (prefix_long d.0 v (inr d.1.0) d.1.1.0) h in
      let a : l ≡ m = let x = c.1.1.1.0 in let y = d.1.1.1.0 in let z = s.1 in omega arith in
      let b = s.1 in
      let w = s.0 in
      λ i. stores (a i) (b i) (w i)
  one_each (loads l k u) (stores m n v) c d h =
      absurd (let s = (same_moves u v k n (prefix_long c.0 u (inl c.1.0) c.1.1.0) (prefix_long d.0 v (inr d.1.0) d.1.1.0) h).1 in let x = c.1.1.1.1 in let y = d.1.1.1.1.0 in omega arith)
  one_each (stores m n v) (loads l k u) d c h =
      absurd (let s = (same_moves u v k n (prefix_long c.0 u (inl c.1.0) c.1.1.0) (prefix_long d.0 v (inr d.1.0) d.1.1.0) (sym h)).1 in let x = c.1.1.1.1 in let y = d.1.1.1.1.0 in omega arith)

  abbrev pub all : List Act
  all = ordered (at p) (acts p list)

  -- no two acts have one vector, so their vectors ascend
  pub all_ascend : IsAscending (at p) all
  all_ascend = ordered_ascends (at p) (acts p list)
      (pairs_by Unlike (Differ (at p)) (acts p list) (λ a b i j d h. d (one_each a b (comes p list a i) (comes p list b j) h)) (acts_once p list old_ascends))

  abbrev pub unclosed : List Element
  unclosed = map (kept p) list ++ (copy_ins p list ++ copy_outs p list)

  pub unclosed_ascends : vectors_ascend (in_order unclosed) ≡ true
  unclosed_ascends = subst (λ z. vectors_ascend z ≡ true) (sym (in_order_are p list)) (ascends_adjacent (map (new_element p) all) (new_ascend p all all_ascend))

  pub from : (a : Act) → In a all → In a (acts p list)
  from a i = from_order (at p) (acts p list) a i

  pub to : (a : Act) → In a (acts p list) → In a all
  to a i = to_order (at p) (acts p list) a i

  pub it_comes : (a : Act) → In a all → Comes p list a
  it_comes a i = comes p list a (from a i)

  fresh_of : (e : Element) → In e list → IsFresh p e
  fresh_of e i = record {
    reads = λ r j. fine.fresh e r i (in_left r (reads e.body.right) (e.body.write ∷ []) j);
    write = fine.fresh e e.body.write i (in_right e.body.write (reads e.body.right) (e.body.write ∷ []) (inl refl));
  }

  access_same : (array : ℕ) (a : Access) → names array a ≡ true → a.array ≡ array
  access_same array a h = eqb-true _ _ h

  -- a move and its use
  abbrev Moved : Use → Type 0
  Moved u = (t : Transfer) × ((In t p.ins ⊎ In t p.outs) × In u (uses list p.around t))

  move_use : (u : Use) (a : Act) → Comes p list a → IsMove u a → Moved u
  move_use u (other e) c h = absurd h
  move_use u (works e) c h = absurd h
  move_use u (loads l k v) c h = subst Moved h (c.0, (inl c.1.0, c.1.1.0))
  move_use u (stores l k v) c h = subst Moved h (c.0, (inr c.1.0, c.1.1.0))

  pub sound : IsSound p (at p) all
  sound = record {
    contiguous = λ x a e b i j k h g q r.
        run_block x e (it_comes e j) (in_between the_front low high x (at p a) (at p e) (at p b) (block_run x a (it_comes a i) q) (block_run x b (it_comes b k) r) h g);
    loads_first = λ e l k u i j h.
        let c = it_comes (works e) i in
        let d = it_comes (loads l k u) j in
        let s = works_shape e c.0 c.1 in
        subst (λ z. slice_cmp int_cmp (fronted the_front u.prefix (low +ℤ pos k) (alone u.cell)) z ≡ Less)
        (ap (λ z. fronted the_front z (low +ℤ pos (length p.ins)) s.0) (sym h) ∙ sym s.1.0)
        (place_first the_front u.prefix (low +ℤ pos k) (low +ℤ pos (length p.ins)) (alone u.cell) s.0 (prefix_long d.0 u (inl d.1.0) d.1.1.0) (less_offset low k (length p.ins) d.1.1.1.1));
    stores_last = λ e l k u i j h.
        let c = it_comes (works e) i in
        let d = it_comes (stores l k u) j in
        let s = works_shape e c.0 c.1 in
        subst (λ z. slice_cmp int_cmp z (fronted the_front u.prefix (low +ℤ pos k) (alone u.cell)) ≡ Less)
        (ap (λ z. fronted the_front z (low +ℤ pos (length p.ins)) s.0) (sym h) ∙ sym s.1.0)
        (place_first the_front u.prefix (low +ℤ pos (length p.ins)) (low +ℤ pos k) s.0 (alone u.cell) (prefix_long d.0 u (inr d.1.0) d.1.1.0) (less_offset low (length p.ins) k d.1.1.1.1.0));
    loaded = λ e i r j h.
        let c = it_comes (works e) i in
        let t = transfer_in list p.ours p.around (read_accesses p.array) fine.bodies e c.0 c.1 r (read_in p.array e.body r j h) in
        let q = from_in loads p list p.label 0 p.ins (record { places = places e.vector; access = r }) (use_of p.around r e)
        (subst (λ ts. In (record { places = places e.vector; access = r }) ts) (sym planned.ins) t)
        (use_in list p.ours p.around (record { places = places e.vector; access = r }) e c.0 refl) in
        (q.0, (q.1.0, to (loads q.0 q.1.0 (use_of p.around r e)) (ins_in p list (loads q.0 q.1.0 (use_of p.around r e)) q.1.1)));
    stored = λ e i h.
        let c = it_comes (works e) i in
        let r = e.body.write in
        let t = transfer_in list p.ours p.around (written_accesses p.array) fine.bodies e c.0 c.1 r (written_in p.array e.body h) in
        let q = from_in stores p list (p.label + length p.ins) (length p.ins + 1) p.outs (record { places = places e.vector; access = r }) (use_of p.around r e)
        (subst (λ ts. In (record { places = places e.vector; access = r }) ts) (sym planned.outs) t)
        (use_in list p.ours p.around (record { places = places e.vector; access = r }) e c.0 refl) in
        (q.0, (q.1.0, to (stores q.0 q.1.0 (use_of p.around r e)) (outs_in p list (stores q.0 q.1.0 (use_of p.around r e)) q.1.1)));
    worked = λ l k u i.
        let c = it_comes (stores l k u) i in
        let r = in_transfers list p.ours p.around (written_accesses p.array) c.0 (subst (λ ts. In c.0 ts) planned.outs c.1.0) in
        let w = in_written p.array r.0.body c.0.access r.1.1.1.1 in
        let q = in_uses list p.ours p.around c.0 u c.1.1.0 in
        let same : q.0.body ≡ r.0.body = fine.bodies q.0 r.0 q.1.0 r.1.0 (q.1.1.0 ∙ sym r.1.1.0) in
        let write : q.0.body.write ≡ c.0.access = ap (λ b. b.write) same ∙ w.0 in
        let shared : shares (suc p.around) p.ours (places q.0.vector) ≡ true = subst (λ z. shares (suc p.around) p.ours z ≡ true) (sym q.1.1.0) r.1.1.1.0 in (
          q.0,
          (
            to (works q.0) (subst (λ z. In z (acts p list)) (is_works p q.0 shared) (keeps_in p list q.0 q.1.0)),
            (subst (λ z. names p.array z ≡ true) (sym write) w.1, ap (λ z. use_of p.around z q.0) write ∙ q.1.1.1),
          ),
        );
    injective = λ a b u v i j h g q r.
        let m = move_use u a (it_comes a i) h in
        let n = move_use v b (it_comes b j) g in
        wrap_same u.cell v.cell p.extents
        (subst (λ es. Within u.cell v.cell es) (sym planned.extents)
        (extents_within dimensions all_uses all_dimensions u v (among m.0 u m.1.0 m.1.1) (among n.0 v n.1.0 n.1.1) (are_numbers _ _ q))) r;
    fresh_other = λ e i. fresh_of e (it_comes (other e) i).0;
    fresh_works = λ e i. fresh_of e (it_comes (works e) i).0;
    wrapped_read = λ e i r j h. redirected_cell p e.identity.iters r h
        (fine.plain e r (it_comes (works e) i).0 (in_left r (reads e.body.right) (e.body.write ∷ []) j) (access_same p.array r h));
    wrapped_write = λ e i h. redirected_cell p e.identity.iters e.body.write h
        (fine.plain e e.body.write (it_comes (works e) i).0 (in_right e.body.write (reads e.body.right) (e.body.write ∷ []) (inl refl)) (access_same p.array e.body.write h));
    apart = fine.other;
  }
    where
      less_offset : (x : ℤ) (m n : ℕ) → m < n → (x +ℤ pos m) <ℤ (x +ℤ pos n)
      less_offset x m n l = omega (arith, ints)
