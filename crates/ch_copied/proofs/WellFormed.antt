-- The new list is well formed.
use Rattle.std.proofs.Common.{◌≡◌, refl, sym, ap, ap₂, ◌∙◌, subst, ℕ, zero, suc, ◌<◌, ◌≤◌, ℤ, pos, ◌+ℤ◌, ◌*ℤ◌, ◌<ℤ◌, Bool, true, false, not, ◌&&◌, nat_eq, List, [], ◌∷◌, ◌++◌, length, map, take, ◌⊎◌, inl, inr, arith, append_assoc, append-nil}
use Rattle.std.proofs.lemmas.Int.{ints}
use Rattle.std.proofs.lemmas.Bool.{both_ways, cases_Bool, and_parts, and_from, eqb-true, false_from_ne_true}
use Rattle.std.specs.declared.cmp.Ordering.TheVariants.{Less}
use Rattle.std.specs.Ordering.{int_cmp}
use Rattle.std.specs.Cmp.Lexicographic.{slice_cmp}
use Rattle.ch_timed.specs.declared.element.Element.{Element}
use Rattle.ch_timed.specs.declared.element.Identity.{Identity}
use Rattle.ch_timed.specs.declared.element.Label.{Label}
use Rattle.ch_timed.specs.declared.element.Label.TheVariants.{Stmt, Move}
use Rattle.ch_timed.specs.Members.{Each, In, Pairwise}
use Rattle.ch_timed.specs.Timed.{have_vectors, identities_differ, in_order, is_new, is_vector, is_well_formed, pieces_apart, same_identity, same_label, vectors_ascend}
use Rattle.ch_timed.specs.Vectors.{begins_with, places, same_numbers, shares}
use Rattle.ch_timed.proofs.ClosedUp.{closed_fine}
use Rattle.ch_timed.proofs.Identities.{Differ}
use Rattle.ch_timed.proofs.Orders.{IsAscending, at_each, in_map, not_itself}
use Rattle.ch_timed.proofs.Prefixes.{Apart, Across}
use Rattle.ch_timed.proofs.Sorted.{ascends_adjacent}
use Rattle.ch_timed.proofs.WellFormed.{apart_by, differ_by}
use Rattle.ch_timed.proofs.Woven.{HasVector, vectors_by}
use Rattle.ch_copied.specs.Uses.{Use}
use Rattle.ch_copied.specs.Plans.{Plan, free_label, next_label}
use Rattle.ch_copied.specs.Copied.{alone, copied, copy_ins, copy_outs, kept, loop_place, new_place, placed, replaced, width}
use Rattle.ch_copied.specs.Copyable.{IsCopyable}
use Rattle.ch_copied.proofs.Acts.{Comes, at, in_order_are, new_ascend, new_element}
use Rattle.ch_copied.proofs.Lists.{parts_same}
use Rattle.ch_copied.proofs.NewPlaces.{Front, apart_by_fronts, before_or_past, begins, front_before, next_same, nothing, places_alone, places_fronted, places_replaced, replaced_vector, run_by_places, unplaced, vector_alone, vector_fronted}
use Rattle.ch_copied.proofs.Runs.{fronted}
use Rattle.ch_copied.proofs.Sharing.{apart_pair, numbers_are}
use Rattle.ch_copied.proofs.Simulation.{Act, other, works, loads, stores, prefix}
use Rattle.ch_copied.proofs.Sound.{IsPlanned, all, all_ascend, apart_of, front_long, it_comes, new_rises, prefix_long, run_block, same_offset, use_dimensions, well, wide, works_shape}

-- identities

abbrev Below : Label → ℕ → Type 0
Below (Stmt k) n = Unit {0}
Below (Move k) n = k < n

below_next : (l : Label) (n : ℕ) → Below l (next_label l n)
below_next (Stmt k) n = tt
below_next (Move k) n = omega arith

below_more : (l m : Label) (n : ℕ) → Below l n → Below l (next_label m n)
below_more (Stmt k) m n h = tt
below_more (Move k) (Stmt j) n h = h
below_more (Move k) (Move j) n h = omega arith

free_above : (list : List Element) (e : Element) → In e list → Below e.identity.label (free_label list)
free_above [] e i = absurd i
free_above (x ∷ xs) e (inl h) = subst (λ (z : Element). Below z.identity.label (free_label (x ∷ xs))) h (below_next x.identity.label (free_label xs))
free_above (x ∷ xs) e (inr i) = below_more e.identity.label x.identity.label (free_label xs) (free_above xs e i)

not_moved : (l : Label) (n k : ℕ) → Below l n → n ≤ k → same_label l (Move k) ≡ true → ⊥
not_moved (Stmt j) n k h g e = cc
not_moved (Move j) n k h g e = let s : j ≡ k = eqb-true j k e in omega arith

move_not : (l : Label) (n k : ℕ) → Below l n → n ≤ k → same_label (Move k) l ≡ true → ⊥
move_not (Stmt j) n k h g e = cc
move_not (Move j) n k h g e = let s : k ≡ j = eqb-true k j e in omega arith

new_by : (i : Identity) (xs : List Element) → is_new i xs ≡ true → (e : Element) → In e xs → same_identity i e.identity ≡ true → ⊥
new_by i [] h e j s = absurd j
new_by i (x ∷ xs) h e (inl k) s =
    no (same_identity i x.identity) (and_parts _ _ h).0 (subst (λ (z : Element). same_identity i z.identity ≡ true) (sym k) s)
  where
    no : (b : Bool) → not b ≡ true → b ≡ true → ⊥
    no true a c = cc
    no false a c = cc
new_by i (x ∷ xs) h e (inr j) s = new_by i xs (and_parts _ _ h).1 e j s

labels_are : (a b : Label) → same_label a b ≡ true → same_label b a ≡ true
labels_are (Stmt j) (Stmt k) h = subst (λ z. nat_eq z j ≡ true) (eqb-true j k h) (subst (λ z. nat_eq j z ≡ true) (sym (eqb-true j k h)) h)
labels_are (Stmt j) (Move k) h = cc
labels_are (Move j) (Stmt k) h = cc
labels_are (Move j) (Move k) h = subst (λ z. nat_eq z j ≡ true) (eqb-true j k h) (subst (λ z. nat_eq j z ≡ true) (sym (eqb-true j k h)) h)

identity_turned : (a b : Identity) → same_identity a b ≡ true → same_identity b a ≡ true
identity_turned a b h =
    let p = and_parts _ _ h in
    and_from _ _ (labels_are a.label b.label p.0) (subst (λ z. same_numbers z a.iters ≡ true) (numbers_are a.iters b.iters p.1) (subst (λ z. same_numbers a.iters z ≡ true) (sym (numbers_are a.iters b.iters p.1)) p.1))

-- elements of one identity are one
one_identity : (list : List Element) → identities_differ list ≡ true → (e f : Element) → In e list → In f list → same_identity e.identity f.identity ≡ true → e ≡ f
one_identity [] h e f i j s = absurd i
one_identity (x ∷ xs) h e f (inl k) (inl l) s = sym k ∙ l
one_identity (x ∷ xs) h e f (inl k) (inr j) s =
    absurd (new_by x.identity xs (and_parts _ _ h).0 f j (subst (λ (z : Element). same_identity z.identity f.identity ≡ true) (sym k) s))
one_identity (x ∷ xs) h e f (inr i) (inl l) s =
    absurd (new_by x.identity xs (and_parts _ _ h).0 e i (identity_turned e.identity x.identity (subst (λ (z : Element). same_identity e.identity z.identity ≡ true) (sym l) s)))
one_identity (x ∷ xs) h e f (inr i) (inr j) s = one_identity xs (and_parts _ _ h).1 e f i j s

halves_same : (xs ys cs ds : List ℤ) → length xs ≡ length ys → xs ++ cs ≡ ys ++ ds → (xs ≡ ys) × (cs ≡ ds)
halves_same [] [] cs ds n e = (refl, e)
halves_same [] (y ∷ ys) cs ds n e = absurd (omega arith)
halves_same (x ∷ xs) [] cs ds n e = absurd (omega arith)
halves_same (x ∷ xs) (y ∷ ys) cs ds n e =
    let p = parts_same x y (xs ++ cs) (ys ++ ds) e in
    let q = halves_same xs ys cs ds (omega arith) p.1 in
    (ap₂ (λ a z. a ∷ z) p.0 q.0, q.1)

nothing_same : (cs ds : List ℤ) → length cs ≡ length ds → nothing cs ≡ nothing ds
nothing_same [] [] n = refl
nothing_same [] (d ∷ ds) n = absurd (omega arith)
nothing_same (c ∷ cs) [] n = absurd (omega arith)
nothing_same (c ∷ cs) (d ∷ ds) n = ap (λ z. pos 0 ∷ z) (nothing_same cs ds (omega arith))

module _ (p : Plan) (list : List Element) (dimensions : ℕ) (planned : IsPlanned p list) (fine : IsCopyable list p.array p.buffer dimensions) where
  abbrev front : List ℤ
  front = take p.around p.ours

  abbrev the_low : ℤ
  the_low = loop_place p *ℤ width p

  differs : identities_differ list ≡ true
  differs = (and_parts (identities_differ list) (vectors_ascend list && (pieces_apart list && have_vectors list)) fine.well_formed).0

  below_label : (e : Element) → In e list → Below e.identity.label p.label
  below_label e i = subst (λ z. Below e.identity.label z) (sym planned.label) (free_above list e i)

  same_use : (u v : Use) → length u.prefix ≡ length v.prefix → same_numbers (u.prefix ++ u.cell) (v.prefix ++ v.cell) ≡ true → u ≡ v
  same_use u v n h =
      let s = halves_same u.prefix v.prefix u.cell v.cell n (numbers_are _ _ h) in
      let a = s.0 in
      let b = s.1 in
      λ i. record { prefix = a i; cell = b i }

  -- acts of one identity are one
  one_act : (a b : Act) → Comes p list a → Comes p list b → same_identity (new_element p a).identity (new_element p b).identity ≡ true → a ≡ b
  one_act (other e) (other f) c d h = ap other (one_identity list differs e f c.0 d.0 h)
  one_act (other e) (works f) c d h = absurd (both_ways _ c.1 (subst (λ (z : Element). shares (suc p.around) p.ours (places z.vector) ≡ true) (sym (one_identity list differs e f c.0 d.0 h)) d.1))
  one_act (works e) (other f) c d h = absurd (both_ways _ d.1 (subst (λ (z : Element). shares (suc p.around) p.ours (places z.vector) ≡ true) (one_identity list differs e f c.0 d.0 h) c.1))
  one_act (works e) (works f) c d h = ap works (one_identity list differs e f c.0 d.0 h)
  one_act (other e) (loads l k u) c d h = absurd (not_moved e.identity.label p.label l (below_label e c.0) (let n = d.1.1.1.0 in omega arith) (and_parts _ _ h).0)
  one_act (works e) (loads l k u) c d h = absurd (not_moved e.identity.label p.label l (below_label e c.0) (let n = d.1.1.1.0 in omega arith) (and_parts _ _ h).0)
  one_act (other e) (stores l k u) c d h = absurd (not_moved e.identity.label p.label l (below_label e c.0) (let n = d.1.1.1.0 in let m = d.1.1.1.1.0 in omega arith) (and_parts _ _ h).0)
  one_act (works e) (stores l k u) c d h = absurd (not_moved e.identity.label p.label l (below_label e c.0) (let n = d.1.1.1.0 in let m = d.1.1.1.1.0 in omega arith) (and_parts _ _ h).0)
  one_act (loads l k u) (other e) d c h = absurd (move_not e.identity.label p.label l (below_label e c.0) (let n = d.1.1.1.0 in omega arith) (and_parts _ _ h).0)
  one_act (loads l k u) (works e) d c h = absurd (move_not e.identity.label p.label l (below_label e c.0) (let n = d.1.1.1.0 in omega arith) (and_parts _ _ h).0)
  one_act (stores l k u) (other e) d c h = absurd (move_not e.identity.label p.label l (below_label e c.0) (let n = d.1.1.1.0 in let m = d.1.1.1.1.0 in omega arith) (and_parts _ _ h).0)
  one_act (stores l k u) (works e) d c h = absurd (move_not e.identity.label p.label l (below_label e c.0) (let n = d.1.1.1.0 in let m = d.1.1.1.1.0 in omega arith) (and_parts _ _ h).0)
  one_act (loads l k u) (loads m n v) c d h =
      let q = and_parts (nat_eq l m) (same_numbers (u.prefix ++ u.cell) (v.prefix ++ v.cell)) h in
      let a : l ≡ m = eqb-true l m q.0 in
      let b : k ≡ n = let x = c.1.1.1.0 in let y = d.1.1.1.0 in omega arith in
      let w = same_use u v (prefix_long p list dimensions planned fine c.0 u (inl c.1.0) c.1.1.0 ∙ sym (prefix_long p list dimensions planned fine d.0 v (inl d.1.0) d.1.1.0)) q.1 in
      λ i. loads (a i) (b i) (w i)
  one_act (stores l k u) (stores m n v) c d h =
      let q = and_parts (nat_eq l m) (same_numbers (u.prefix ++ u.cell) (v.prefix ++ v.cell)) h in
      let a : l ≡ m = eqb-true l m q.0 in
      let b : k ≡ n = let x = c.1.1.1.0 in let y = d.1.1.1.0 in omega arith in
      let w = same_use u v (prefix_long p list dimensions planned fine c.0 u (inr c.1.0) c.1.1.0 ∙ sym (prefix_long p list dimensions planned fine d.0 v (inr d.1.0) d.1.1.0)) q.1 in
      λ i. stores (a i) (b i) (w i)
  one_act (loads l k u) (stores m n v) c d h =
      absurd (let q : l ≡ m = eqb-true l m (and_parts (nat_eq l m) (same_numbers (u.prefix ++ u.cell) (v.prefix ++ v.cell)) h).0 in let x = c.1.1.1.0 in let y = d.1.1.1.0 in let z = c.1.1.1.1 in let w = d.1.1.1.1.0 in omega arith)
  one_act (stores l k u) (loads m n v) c d h =
      absurd (let q : l ≡ m = eqb-true l m (and_parts (nat_eq l m) (same_numbers (u.prefix ++ u.cell) (v.prefix ++ v.cell)) h).0 in let x = c.1.1.1.0 in let y = d.1.1.1.0 in let z = d.1.1.1.1 in let w = c.1.1.1.1.0 in omega arith)

  -- vectors

  is_vector_at : (a : Act) → Comes p list a → is_vector (at p a) ≡ true
  is_vector_at (other e) c = replaced_vector (new_place p) front e.vector (well p list dimensions planned fine e c.0)
  is_vector_at (works e) c = replaced_vector (new_place p) front e.vector (well p list dimensions planned fine e c.0)
  is_vector_at (loads l k u) c = vector_fronted front u.prefix (the_low +ℤ pos k) (alone u.cell) (prefix_long p list dimensions planned fine c.0 u (inl c.1.0) c.1.1.0) (vector_alone (the_low +ℤ pos k) u.cell)
  is_vector_at (stores l k u) c = vector_fronted front u.prefix (the_low +ℤ pos k) (alone u.cell) (prefix_long p list dimensions planned fine c.0 u (inr c.1.0) c.1.1.0) (vector_alone (the_low +ℤ pos k) u.cell)

  -- places

  move_places : (u : Use) (k : ℕ) → length u.prefix ≡ length front → places (fronted front u.prefix (the_low +ℤ pos k) (alone u.cell)) ≡ front ++ (the_low +ℤ pos k) ∷ nothing u.cell
  move_places u k n = places_fronted front u.prefix (the_low +ℤ pos k) (alone u.cell) n ∙ ap (λ z. front ++ z) (places_alone (the_low +ℤ pos k) u.cell)

  works_places : (e : Element) → Comes p list (works e) → (zs : List ℤ) × (places (replaced front (new_place p) e.vector) ≡ front ++ (the_low +ℤ pos (length p.ins)) ∷ zs)
  works_places e c =
      let s = works_shape p list dimensions planned fine e c.0 c.1 in
      let q = first_place (the_low +ℤ pos (length p.ins)) s.0 in
      (q.0, ap places s.1.0 ∙ places_fronted front (prefix p e) (the_low +ℤ pos (length p.ins)) s.0 s.1.1 ∙ ap (λ z. front ++ z) q.1)
    where
      first_place : (a : ℤ) (r : List ℤ) → (zs : List ℤ) × (places (a ∷ r) ≡ a ∷ zs)
      first_place a [] = ([], refl)
      first_place a (y ∷ r) = (places r, refl)

  -- no other element has places of the run
  not_run : (e : Element) → Comes p list (other e) → (k : ℕ) → k < wide p list dimensions planned fine → (zs : List ℤ)
      → places (replaced front (new_place p) e.vector) ≡ front ++ (the_low +ℤ pos k) ∷ zs → ⊥
  not_run e c k l zs h =
      let r = run_by_places front (replaced front (new_place p) e.vector) (the_low +ℤ pos k) zs h in
      run_block p list dimensions planned fine r.0 (other e) c
      (record { place = the_low +ℤ pos k; rest = r.1.0; long = r.1.1.1; is = r.1.1.0; least = omega (arith, ints); most = inside the_low k (wide p list dimensions planned fine) l })
    where
      inside : (y : ℤ) (m n : ℕ) → m < n → (y +ℤ pos m) <ℤ (y +ℤ pos n)
      inside y m n g = omega (arith, ints)

  -- and none has places before it
  not_before : (e : Element) → Comes p list (other e) → Front (places (replaced front (new_place p) e.vector)) front → ⊥
  not_before e c h =
      let same : placed (new_place p) front (places e.vector) ≡ places e.vector =
      unplaced (new_place p) front (places e.vector) h.0 (h.1 ∙ ap (λ z. z ++ h.0) (places_replaced (new_place p) front e.vector)) in
      let is : places (replaced front (new_place p) e.vector) ≡ places e.vector = places_replaced (new_place p) front e.vector ∙ same in
      let begin : front ≡ places e.vector ++ h.0 = h.1 ∙ ap (λ z. z ++ h.0) is in
      let whole = front_in p.around p.ours (places e.vector) h.0 begin in
      let equal : places e.vector ≡ p.ours =
      apart_pair list (apart_of list fine.well_formed) e planned.piece c.0 planned.is_member
      (subst (λ z. begins_with (places e.vector) z ≡ true) (sym (planned.its_places ∙ whole.1)) (begins (places e.vector) whole.0)) ∙ planned.its_places in
      let long : length front ≡ p.around = front_long p list dimensions planned fine in
      let deep = planned.deep in
      let short : length (places e.vector) ≤ length front = shorter (places e.vector) h.0 front begin in
      let far : length (places e.vector) ≡ length p.ours = ap (λ zs. length zs) equal in
      omega arith
    where
      front_in : (n : ℕ) (ours ps more : List ℤ) → take n ours ≡ ps ++ more → Front ps ours
      front_in n ours [] more g = (ours, refl)
      front_in zero ours (q ∷ ps) more g = absurd (nothing_there q (ps ++ more) g)
        where
          nothing_there : (a : ℤ) (bs : List ℤ) → [] ≡ a ∷ bs → ⊥
          nothing_there a bs k = cc
      front_in (suc n) [] (q ∷ ps) more g = absurd (nothing_there q (ps ++ more) g)
        where
          nothing_there : (a : ℤ) (bs : List ℤ) → [] ≡ a ∷ bs → ⊥
          nothing_there a bs k = cc
      front_in (suc n) (o ∷ ours) (q ∷ ps) more g =
          let s = parts_same o q (take n ours) (ps ++ more) g in
          let r = front_in n ours ps more s.1 in
          (r.0, ap₂ (λ a z. a ∷ z) s.0 r.1)

      shorter : (ps more fs : List ℤ) → fs ≡ ps ++ more → length ps ≤ length fs
      shorter [] more fs g = omega arith
      shorter (q ∷ ps) more [] g = absurd (none q (ps ++ more) g)
        where
          none : (a : ℤ) (bs : List ℤ) → [] ≡ a ∷ bs → ⊥
          none a bs k = cc
      shorter (q ∷ ps) more (f ∷ fs) g = let r = shorter ps more fs (parts_same f q fs (ps ++ more) g).1 in omega arith

  kept_front : (e f : Element) → In e list → In f list → Front (places (replaced front (new_place p) e.vector)) (places (replaced front (new_place p) f.vector))
      → places (replaced front (new_place p) e.vector) ≡ places (replaced front (new_place p) f.vector)
  kept_front e f i j h =
      let a = places_replaced (new_place p) front e.vector in
      let b = places_replaced (new_place p) front f.vector in
      let g = front_before (new_place p) (new_rises p list dimensions planned fine) front (places e.vector) (places f.vector) (h.0, sym b ∙ h.1 ∙ ap (λ z. z ++ h.0) a) in
      let same = apart_pair list (apart_of list fine.well_formed) e f i j (subst (λ z. begins_with (places e.vector) z ≡ true) (sym g.1) (begins (places e.vector) g.0)) in
      a ∙ ap (placed (new_place p) front) same ∙ sym b

  other_move : (e : Element) → Comes p list (other e) → (k : ℕ) → k < wide p list dimensions planned fine → (zs : List ℤ)
      → Front (places (replaced front (new_place p) e.vector)) (front ++ (the_low +ℤ pos k) ∷ zs) → ⊥
  other_move e c k l zs h = elim (before_or_past front (places (replaced front (new_place p) e.vector)) (the_low +ℤ pos k) zs h.0 h.1) as (λ _. ⊥) [
    | inl m ↦ not_before e c m
    | inr m ↦ not_run e c k l m.0 m.1
  ]

  move_other : (e : Element) → Comes p list (other e) → (k : ℕ) → k < wide p list dimensions planned fine → (zs : List ℤ)
      → Front (front ++ (the_low +ℤ pos k) ∷ zs) (places (replaced front (new_place p) e.vector)) → ⊥
  move_other e c k l zs h = not_run e c k l (zs ++ h.0) (h.1 ∙ append_assoc front ((the_low +ℤ pos k) ∷ zs) h.0)

  apart_runs : (k m : ℕ) (zs ys : List ℤ) → (k ≡ m → ⊥) → Front (front ++ (the_low +ℤ pos k) ∷ zs) (front ++ (the_low +ℤ pos m) ∷ ys) → ⊥
  apart_runs k m zs ys n h = n (same_offset the_low k m (next_same front (the_low +ℤ pos k) (the_low +ℤ pos m) zs ys h.0 h.1))

  -- no element that stays has the places of a move
  pub kept_not_moved : (e : Element) → In e list → (k : ℕ) → k < wide p list dimensions planned fine → (length p.ins ≡ k → ⊥) → (zs : List ℤ)
      → places (replaced front (new_place p) e.vector) ≡ front ++ (the_low +ℤ pos k) ∷ zs → ⊥
  kept_not_moved e i k l n zs h = elim (cases_Bool (shares (suc p.around) p.ours (places e.vector))) as (λ _. ⊥) [
    | inl s ↦ let w = works_places e (i, s) in
        apart_runs (length p.ins) k w.0 zs n ([], sym h ∙ w.1 ∙ sym (append-nil (front ++ (the_low +ℤ pos (length p.ins)) ∷ w.0)))
    | inr s ↦ not_run e (i, s) k l zs h
  ]

  -- moves at other places stand apart
  pub moves_apart : (k m : ℕ) (zs ys : List ℤ) → (k ≡ m → ⊥) → front ++ (the_low +ℤ pos k) ∷ zs ≡ front ++ (the_low +ℤ pos m) ∷ ys → ⊥
  moves_apart k m zs ys n h = apart_runs k m zs ys n ([], sym h ∙ sym (append-nil (front ++ (the_low +ℤ pos k) ∷ zs)))

  same_runs : (u v : Use) (k m : ℕ) → length u.cell ≡ length v.cell → Front (front ++ (the_low +ℤ pos k) ∷ nothing u.cell) (front ++ (the_low +ℤ pos m) ∷ nothing v.cell)
      → front ++ (the_low +ℤ pos k) ∷ nothing u.cell ≡ front ++ (the_low +ℤ pos m) ∷ nothing v.cell
  same_runs u v k m n h =
      ap₂ (λ a z. front ++ a ∷ z) (next_same front (the_low +ℤ pos k) (the_low +ℤ pos m) (nothing u.cell) (nothing v.cell) h.0 h.1) (nothing_same u.cell v.cell n)

  -- the use of a move
  record Moved (k : ℕ) (u : Use) : Type 0 where
    prefix : length u.prefix ≡ length front
    cell : length u.cell ≡ dimensions
    few : k < wide p list dimensions planned fine
    not_loop : length p.ins ≡ k → ⊥

  loads_moved : (l k : ℕ) (u : Use) → Comes p list (loads l k u) → Moved k u
  loads_moved l k u c = record {
    prefix = prefix_long p list dimensions planned fine c.0 u (inl c.1.0) c.1.1.0;
    cell = use_dimensions p list dimensions planned fine c.0 u (inl c.1.0) c.1.1.0;
    few = let n = c.1.1.1.1 in omega arith;
    not_loop = λ q. let n = c.1.1.1.1 in omega arith;
  }

  stores_moved : (l k : ℕ) (u : Use) → Comes p list (stores l k u) → Moved k u
  stores_moved l k u c = record {
    prefix = prefix_long p list dimensions planned fine c.0 u (inr c.1.0) c.1.1.0;
    cell = use_dimensions p list dimensions planned fine c.0 u (inr c.1.0) c.1.1.0;
    few = c.1.1.1.1.1;
    not_loop = λ q. let n = c.1.1.1.1.0 in omega arith;
  }

  abbrev Fronts : List ℤ → List ℤ → Type 0
  Fronts v w = Front (places v) (places w) → places v ≡ places w

  between_moves : (k m : ℕ) (u v : Use) → Moved k u → Moved m v
      → Fronts (fronted front u.prefix (the_low +ℤ pos k) (alone u.cell)) (fronted front v.prefix (the_low +ℤ pos m) (alone v.cell))
  between_moves k m u v a b h =
      let x = move_places u k a.prefix in
      let y = move_places v m b.prefix in
      x ∙ same_runs u v k m (a.cell ∙ sym b.cell) (h.0, sym y ∙ h.1 ∙ ap (λ z. z ++ h.0) x) ∙ sym y

  kept_move : (e : Element) (k : ℕ) (u : Use) → Comes p list (other e) ⊎ Comes p list (works e) → Moved k u
      → Fronts (replaced front (new_place p) e.vector) (fronted front u.prefix (the_low +ℤ pos k) (alone u.cell))
  kept_move e k u c m h =
      let y = move_places u k m.prefix in
      elim c as (λ _. places (replaced front (new_place p) e.vector) ≡ places (fronted front u.prefix (the_low +ℤ pos k) (alone u.cell))) [
        | inl d ↦ absurd (other_move e d k m.few (nothing u.cell) (h.0, sym y ∙ h.1))
        | inr d ↦ let w = works_places e d in
            absurd (apart_runs (length p.ins) k w.0 (nothing u.cell) m.not_loop (h.0, sym y ∙ h.1 ∙ ap (λ z. z ++ h.0) w.1))
      ]

  move_kept : (e : Element) (k : ℕ) (u : Use) → Comes p list (other e) ⊎ Comes p list (works e) → Moved k u
      → Fronts (fronted front u.prefix (the_low +ℤ pos k) (alone u.cell)) (replaced front (new_place p) e.vector)
  move_kept e k u c m h =
      let y = move_places u k m.prefix in
      elim c as (λ _. places (fronted front u.prefix (the_low +ℤ pos k) (alone u.cell)) ≡ places (replaced front (new_place p) e.vector)) [
        | inl d ↦ absurd (move_other e d k m.few (nothing u.cell) (h.0, h.1 ∙ ap (λ z. z ++ h.0) y))
        | inr d ↦ let w = works_places e d in
            absurd (apart_runs k (length p.ins) (nothing u.cell) w.0 (λ q. m.not_loop (sym q)) (h.0, sym w.1 ∙ h.1 ∙ ap (λ z. z ++ h.0) y))
      ]

  fronts : (a b : Act) → Comes p list a → Comes p list b → Fronts (at p a) (at p b)
  fronts (other e) (other f) c d = kept_front e f c.0 d.0
  fronts (other e) (works f) c d = kept_front e f c.0 d.0
  fronts (works e) (other f) c d = kept_front e f c.0 d.0
  fronts (works e) (works f) c d = kept_front e f c.0 d.0
  fronts (other e) (loads l k u) c d = kept_move e k u (inl c) (loads_moved l k u d)
  fronts (works e) (loads l k u) c d = kept_move e k u (inr c) (loads_moved l k u d)
  fronts (other e) (stores l k u) c d = kept_move e k u (inl c) (stores_moved l k u d)
  fronts (works e) (stores l k u) c d = kept_move e k u (inr c) (stores_moved l k u d)
  fronts (loads l k u) (other e) d c = move_kept e k u (inl c) (loads_moved l k u d)
  fronts (loads l k u) (works e) d c = move_kept e k u (inr c) (loads_moved l k u d)
  fronts (stores l k u) (other e) d c = move_kept e k u (inl c) (stores_moved l k u d)
  fronts (stores l k u) (works e) d c = move_kept e k u (inr c) (stores_moved l k u d)
  fronts (loads l k u) (loads m n v) c d = between_moves k n u v (loads_moved l k u c) (loads_moved m n v d)
  fronts (loads l k u) (stores m n v) c d = between_moves k n u v (loads_moved l k u c) (stores_moved m n v d)
  fronts (stores l k u) (loads m n v) c d = between_moves k n u v (stores_moved l k u c) (loads_moved m n v d)
  fronts (stores l k u) (stores m n v) c d = between_moves k n u v (stores_moved l k u c) (stores_moved m n v d)

  -- the whole list

  abbrev these : List Act
  these = all p list dimensions planned fine

  abbrev ordered_new : List Element
  ordered_new = map (new_element p) these

  each_map : (P : Element → Type 0) (xs : List Act) → ((a : Act) → In a xs → P (new_element p a)) → Each P (map (new_element p) xs)
  each_map P [] h = tt
  each_map P (a ∷ xs) h = (h a (inl refl), each_map P xs (λ b i. h b (inr i)))

  across : (xs ys : List Act) → ((a b : Act) → In a xs → In b ys → Apart (new_element p a) (new_element p b)) → Across (map (new_element p) xs) (map (new_element p) ys)
  across xs ys h = each_map (λ e. Each (Apart e) (map (new_element p) ys)) xs (λ a i. each_map (Apart (new_element p a)) ys (λ b j. h a b i j))

  pairwise : (xs : List Act) → IsAscending (at p) xs → ((a b : Act) → In a xs → In b xs → same_identity (new_element p a).identity (new_element p b).identity ≡ true → a ≡ b)
      → Pairwise Differ (map (new_element p) xs)
  pairwise [] h g = tt
  pairwise (a ∷ xs) h g = (
    each_map (Differ (new_element p a)) xs (λ b i. false_from_ne_true _ (λ s.
        not_itself (at p) a (subst (λ z. slice_cmp int_cmp (at p a) (at p z) ≡ Less) (sym (g a b (inl refl) (inr i) s)) (at_each _ xs h.0 b i)))),
    pairwise xs h.1 (λ x y i j. g x y (inr i) (inr j)),
  )

  pub ordered_fine : is_well_formed ordered_new ≡ true
  ordered_fine =
      let come : (a : Act) → In a these → Comes p list a = it_comes p list dimensions planned fine in
      let ascends = all_ascend p list dimensions planned fine in
      and_from _ _ (differ_by ordered_new (pairwise these ascends (λ a b i j. one_act a b (come a i) (come b j))))
      (and_from _ _ (ascends_adjacent ordered_new (new_ascend p these ascends))
      (and_from _ _
      (apart_by ordered_new (across these these (λ a b i j. apart_by_fronts _ _ (fronts a b (come a i) (come b j)) (fronts b a (come b j) (come a i)))))
      (vectors_by ordered_new (λ e i. let q = in_map (new_element p) these e i in subst HasVector q.1.1 (is_vector_at q.0 (come q.0 q.1.0))))))

  -- the new list is well formed
  pub copied_fine : is_well_formed (copied p list) ≡ true
  copied_fine = closed_fine (in_order (map (kept p) list ++ (copy_ins p list ++ copy_outs p list))) (subst (λ z. is_well_formed z ≡ true) (sym (in_order_are p list)) ordered_fine)
