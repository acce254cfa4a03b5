-- The list with the buffer does what the list without it does: both are executed side by side.
use Rattle.std.proofs.Common.{◌≡◌, refl, sym, ap, ap₂, ◌∙◌, subst, ℕ, ℤ, Bool, true, false, if◌then◌else◌, List, [], ◌∷◌, ◌⊎◌, inl, inr}
use Rattle.std.proofs.lemmas.Bool.{both_ways, cases_Bool, and_parts, eqb-true, eq-eqb, false_from_ne_true}
use Rattle.std.specs.declared.cmp.Ordering.TheVariants.{Less}
use Rattle.std.specs.Ordering.{int_cmp}
use Rattle.std.specs.Cmp.Lexicographic.{slice_cmp}
use Rattle.ch_nest.specs.declared.nest.Access.{Access}
use Rattle.ch_nest.specs.Run.{subscripts}
use Rattle.ch_order.proofs.Commutes.{same_cell_is, same_cell_self}
use Rattle.ch_timed.proofs.Values.{Agree, same_value}
use Rattle.ch_timed.specs.Members.{In}
use Rattle.ch_timed.specs.declared.element.Cell.{Cell}
use Rattle.ch_timed.specs.declared.element.Element.{Element}
use Rattle.ch_timed.specs.Timed.{Step, step}
use Rattle.ch_timed.specs.Conflict.{cell_of, reads, same_cell, written}
use Rattle.ch_timed.specs.Do.{Store, right_value, execute}
use Rattle.ch_timed.specs.Order.{do_all}
use Rattle.ch_timed.proofs.Orders.{IsAscending, at_each, not_both, not_itself}
use Rattle.ch_copied.specs.Accesses.{names}
use Rattle.ch_copied.specs.Uses.{Use, use_of}
use Rattle.ch_copied.specs.Plans.{Plan}
use Rattle.ch_copied.specs.Bodies.{redirected, redirected_access}
use Rattle.ch_copied.proofs.Wrapping.{wrap}
use Rattle.ch_copied.proofs.Values.{redirected_value}

-- what an element of the new list does: an element beside the copied loop, one in it, or a move of a cell with its number and place
pub data Act : Type 0 where
  other : Element → Act
  works : Element → Act
  loads : ℕ → ℕ → Use → Act
  stores : ℕ → ℕ → Use → Act

abbrev pub array_cell : Plan → List ℤ → Cell
array_cell p c = record { array = p.array; subs = c }

abbrev pub buffer_cell : Plan → List ℤ → Cell
buffer_cell p c = record { array = p.buffer; subs = wrap p.extents c }

abbrev pub transfer : Cell → Cell → Store → Store
transfer to from s c = if same_cell c to then s from else s c

abbrev pub in_buffer : Plan → Element → Step
in_buffer p e = record { identity = e.identity; body = redirected p e.body }

abbrev pub old_do : Act → Store → Store
old_do (other e) s = execute (step e) s
old_do (works e) s = execute (step e) s
old_do (loads l k u) s = s
old_do (stores l k u) s = s

abbrev pub new_do : Plan → Act → Store → Store
new_do p (other e) s = execute (step e) s
new_do p (works e) s = execute (in_buffer p e) s
new_do p (loads l k u) s = transfer (buffer_cell p u.cell) (array_cell p u.cell) s
new_do p (stores l k u) s = transfer (array_cell p u.cell) (buffer_cell p u.cell) s

abbrev pub prefix : Plan → Element → List ℤ
prefix p e = (use_of p.around e.body.write e).prefix

-- it belongs to the run of the loop with this prefix
abbrev pub InBlock : Plan → List ℤ → Act → Type 0
InBlock p x (other e) = ⊥
InBlock p x (works e) = prefix p e ≡ x
InBlock p x (loads l k u) = u.prefix ≡ x
InBlock p x (stores l k u) = u.prefix ≡ x

abbrev pub IsMove : Use → Act → Type 0
IsMove u (other e) = ⊥
IsMove u (works e) = ⊥
IsMove u (loads l k v) = v ≡ u
IsMove u (stores l k v) = v ≡ u

abbrev pub Writes : Plan → Use → Act → Type 0
Writes p u (other e) = ⊥
Writes p u (works e) = (names p.array e.body.write ≡ true) × (use_of p.around e.body.write e ≡ u)
Writes p u (loads l k v) = ⊥
Writes p u (stores l k v) = ⊥

-- afterwards the buffer has the cell
abbrev pub Gives : Plan → Use → Act → Type 0
Gives p u (other e) = ⊥
Gives p u (works e) = (names p.array e.body.write ≡ true) × (use_of p.around e.body.write e ≡ u)
Gives p u (loads l k v) = v ≡ u
Gives p u (stores l k v) = ⊥

-- the cell that was written in the buffer is still to be moved back
abbrev pub Pending : Plan → Cell → Act → Act → Type 0
Pending p c w (other e) = ⊥
Pending p c w (works e) = ⊥
Pending p c w (loads l k u) = ⊥
Pending p c w (stores l k u) = Writes p u w × (c ≡ array_cell p u.cell)

-- no access of the element is one of the buffer
pub record IsFresh (p : Plan) (e : Element) : Type 0 where
  pub reads : (r : Access) → In r (reads e.body.right) → r.array ≡ p.buffer → ⊥
  pub write : e.body.write.array ≡ p.buffer → ⊥

pub record IsSound (p : Plan) (at : Act → List ℤ) (all : List Act) : Type 0 where
  pub contiguous : (x : List ℤ) (a e b : Act) → In a all → In e all → In b all → slice_cmp int_cmp (at a) (at e) ≡ Less → slice_cmp int_cmp (at e) (at b) ≡ Less
      → InBlock p x a → InBlock p x b → InBlock p x e
  pub loads_first : (e : Element) (l k : ℕ) (u : Use) → In (works e) all → In (loads l k u) all → prefix p e ≡ u.prefix
      → slice_cmp int_cmp (at (loads l k u)) (at (works e)) ≡ Less
  pub stores_last : (e : Element) (l k : ℕ) (u : Use) → In (works e) all → In (stores l k u) all → prefix p e ≡ u.prefix
      → slice_cmp int_cmp (at (works e)) (at (stores l k u)) ≡ Less
  pub loaded : (e : Element) → In (works e) all → (r : Access) → In r (reads e.body.right) → names p.array r ≡ true
      → (l : ℕ) × ((k : ℕ) × In (loads l k (use_of p.around r e)) all)
  pub stored : (e : Element) → In (works e) all → names p.array e.body.write ≡ true
      → (l : ℕ) × ((k : ℕ) × In (stores l k (use_of p.around e.body.write e)) all)
  pub worked : (l k : ℕ) (u : Use) → In (stores l k u) all → (e : Element) × (In (works e) all × Writes p u (works e))
  pub injective : (a b : Act) (u v : Use) → In a all → In b all → IsMove u a → IsMove v b → u.prefix ≡ v.prefix
      → wrap p.extents u.cell ≡ wrap p.extents v.cell → u.cell ≡ v.cell
  pub fresh_other : (e : Element) → In (other e) all → IsFresh p e
  pub fresh_works : (e : Element) → In (works e) all → IsFresh p e
  pub wrapped_read : (e : Element) → In (works e) all → (r : Access) → In r (reads e.body.right) → names p.array r ≡ true
      → cell_of e.identity.iters (redirected_access p r) ≡ buffer_cell p (subscripts r e.identity.iters)
  pub wrapped_write : (e : Element) → In (works e) all → names p.array e.body.write ≡ true
      → cell_of e.identity.iters (redirected_access p e.body.write) ≡ buffer_cell p (subscripts e.body.write e.identity.iters)
  pub apart : p.array ≡ p.buffer → ⊥

-- booleans

if_true : {X : Type 0} (b : Bool) (x y : X) → b ≡ true → (if b then x else y) ≡ x
if_true b x y h = rw h refl

if_false : {X : Type 0} (b : Bool) (x y : X) → b ≡ false → (if b then x else y) ≡ y
if_false b x y h = rw h refl

other_array : (c d : Cell) → (c.array ≡ d.array → ⊥) → same_cell c d ≡ false
other_array c d n = false_from_ne_true _ (λ h. n (eqb-true _ _ (and_parts _ _ h).0))

agree_by : (iters : List ℤ) (t s : Store) (accesses : List Access) → ((r : Access) → In r accesses → t (cell_of iters r) ≡ s (cell_of iters r)) → Agree iters t s accesses
agree_by iters t s [] h = tt
agree_by iters t s (r ∷ rs) h = (h r (inl refl), agree_by iters t s rs (λ q i. h q (inr i)))

not_named : (p : Plan) (a : Access) → names p.array a ≡ false → a.array ≡ p.array → ⊥
not_named p a h e = both_ways _ h (eq-eqb a.array p.array e)

pub unredirected : (p : Plan) (a : Access) → names p.array a ≡ false → redirected_access p a ≡ a
unredirected p a h = if_false (names p.array a) _ a h

module _ (p : Plan) (at : Act → List ℤ) (all : List Act) (sound : IsSound p at all) where
  abbrev Before : Act → Act → Type 0
  Before a b = slice_cmp int_cmp (at a) (at b) ≡ Less

  pub record Cut (done rest : List Act) : Type 0 where
    pub covers : (a : Act) → In a all → In a done ⊎ In a rest
    pub was : (a : Act) → In a done → In a all
    pub is : (a : Act) → In a rest → In a all
    pub order : (a b : Act) → In a done → In b rest → Before a b

  pub record Holds (done rest : List Act) (s t : Store) : Type 0 where
    pub clean : (c : Cell) → (c.array ≡ p.buffer → ⊥) → ((o w : Act) → In o rest → In w done → Pending p c w o → ⊥) → t c ≡ s c
    pub loaded : (g : Act) (u : Use) → In g done → Gives p u g → (o : Act) → In o rest → InBlock p u.prefix o
        → t (buffer_cell p u.cell) ≡ s (array_cell p u.cell)

  gives_block : (g : Act) (u : Use) → Gives p u g → InBlock p u.prefix g
  gives_block (other e) u h = absurd h
  gives_block (works e) u h = ap (λ (v : Use). v.prefix) h.1
  gives_block (loads l k v) u h = ap (λ (v : Use). v.prefix) h
  gives_block (stores l k v) u h = absurd h

  writes_block : (g : Act) (u : Use) → Writes p u g → InBlock p u.prefix g
  writes_block (other e) u h = absurd h
  writes_block (works e) u h = ap (λ (v : Use). v.prefix) h.1
  writes_block (loads l k v) u h = absurd h
  writes_block (stores l k v) u h = absurd h

  pending_block : (c : Cell) (w o : Act) → Pending p c w o → (x : List ℤ) × (InBlock p x w × InBlock p x o)
  pending_block c w (other e) h = absurd h
  pending_block c w (works e) h = absurd h
  pending_block c w (loads l k u) h = absurd h
  pending_block c w (stores l k u) h = (u.prefix, (writes_block w u h.0, refl))

  pending_array : (c : Cell) (w o : Act) → Pending p c w o → c.array ≡ p.array
  pending_array c w (other e) h = absurd h
  pending_array c w (works e) h = absurd h
  pending_array c w (loads l k u) h = absurd h
  pending_array c w (stores l k u) h = ap (λ (d : Cell). d.array) h.1

  -- what gives a cell has a move of it
  moved : (g : Act) (u : Use) → In g all → Gives p u g → (a : Act) × (In a all × IsMove u a)
  moved (other e) u i h = absurd h
  moved (works e) u i h = let r = sound.stored e i h.0 in (stores r.0 r.1.0 (use_of p.around e.body.write e), (r.1.1, h.1))
  moved (loads l k v) u i h = (loads l k v, (i, h))
  moved (stores l k v) u i h = absurd h

  apart_cells : (c d : List ℤ) → same_cell (array_cell p c) (buffer_cell p d) ≡ false
  apart_cells c d = other_array (array_cell p c) (buffer_cell p d) sound.apart

  cells_apart : (c d : List ℤ) → same_cell (buffer_cell p c) (array_cell p d) ≡ false
  cells_apart c d = other_array (buffer_cell p c) (array_cell p d) (λ e. sound.apart (sym e))

  no_buffer : (c : Cell) (d : List ℤ) → (c.array ≡ p.buffer → ⊥) → same_cell c (buffer_cell p d) ≡ false
  no_buffer c d n = other_array c (buffer_cell p d) n

  module _ (a : Act) (done rest : List Act) (ascends : IsAscending at (a ∷ rest)) (cut : Cut done (a ∷ rest)) where
    pub advance : Cut (a ∷ done) rest
    advance = record {
      covers = λ x i. elim (cut.covers x i) as (λ _. In x (a ∷ done) ⊎ In x rest) [
        | inl d ↦ inl (inr d)
        | inr r ↦ elim r as (λ _. In x (a ∷ done) ⊎ In x rest) [ inl e ↦ inl (inl e) | inr j ↦ inr j ]
      ];
      was = λ x i. elim i as (λ _. In x all) [ inl e ↦ cut.is x (inl e) | inr j ↦ cut.was x j ];
      is = λ x i. cut.is x (inr i);
      order = λ x b i j. elim i as (λ _. Before x b) [
        | inl e ↦ subst (λ z. Before z b) e (at_each (λ y. Before a y) rest ascends.0 b j)
        | inr k ↦ cut.order x b k (inr j)
      ];
    }

    here : In a all
    here = cut.is a (inl refl)

    earlier : (n : Act) → In n all → Before n a → In n done
    earlier n i l = elim (cut.covers n i) as (λ _. In n done) [
      | inl d ↦ d
      | inr r ↦ elim r as (λ _. In n done) [
        | inl e ↦ absurd (not_itself at a (subst (λ z. Before z a) (sym e) l))
        | inr j ↦ absurd (not_both at n a l (at_each (λ y. Before a y) rest ascends.0 n j))
      ]
    ]

    later : (n : Act) → In n all → Before a n → In n rest
    later n i l = elim (cut.covers n i) as (λ _. In n rest) [
      | inl d ↦ absurd (not_both at n a (cut.order n a d (inl refl)) l)
      | inr r ↦ elim r as (λ _. In n rest) [
        | inl e ↦ absurd (not_itself at a (subst (λ z. Before a z) (sym e) l))
        | inr j ↦ j
      ]
    ]

    -- what stands between two acts of a run belongs to it
    within : (x : List ℤ) (w o : Act) → In w done → In o rest → InBlock p x w → InBlock p x o → InBlock p x a
    within x w o i j h g =
        sound.contiguous x w a o (cut.was w i) here (cut.is o (inr j)) (cut.order w a i (inl refl)) (at_each (λ y. Before a y) rest ascends.0 o j) h g

    within_too : (x : List ℤ) (w o : Act) → In w done → In o (a ∷ rest) → InBlock p x w → InBlock p x o → InBlock p x a
    within_too x w o i (inl e) h g = subst (InBlock p x) (sym e) g
    within_too x w o i (inr j) h g = within x w o i j h g

    -- a cell that only the buffer may have otherwise is the same in both, where no act of the run before this one is left
    calm : (s t : Store) → Holds done (a ∷ rest) s t → (c : Cell) → (c.array ≡ p.buffer → ⊥)
        → ((o w : Act) (x : List ℤ) → In o (a ∷ rest) → In w done → InBlock p x w → InBlock p x o → Pending p c w o → ⊥) → t c ≡ s c
    calm s t holds c n h = holds.clean c n (λ o w i j q. let b = pending_block c w o q in h o w b.0 i j b.1.0 b.1.1 q)

    -- what was given before is still there: it belongs to this run
    was_given : (s t : Store) → Holds done (a ∷ rest) s t → (g : Act) (u : Use) → In g done → Gives p u g → (o : Act) → In o rest → InBlock p u.prefix o
        → (InBlock p u.prefix a) × (t (buffer_cell p u.cell) ≡ s (array_cell p u.cell))
    was_given s t holds g u i h o j b = (within u.prefix g o i j (gives_block g u h) b, holds.loaded g u i h o (inr j) b)

  -- an element beside the loop
  after_other : (e : Element) (done rest : List Act) → IsAscending at (other e ∷ rest) → Cut done (other e ∷ rest) → (s t : Store)
      → Holds done (other e ∷ rest) s t → Holds (other e ∷ done) rest (execute (step e) s) (execute (step e) t)
  after_other e done rest ascends cut s t holds =
      let a = other e in
      let same : (c : Cell) → (c.array ≡ p.buffer → ⊥) → t c ≡ s c =
      λ c n. calm a done rest ascends cut s t holds c n (λ o w x i j h g q. within_too a done rest ascends cut x w o j i h g) in
      let fresh = sound.fresh_other e (cut.is a (inl refl)) in
      let value : right_value e.identity.iters t e.body.right ≡ right_value e.identity.iters s e.body.right =
      same_value e.identity.iters t s e.body.right (agree_by e.identity.iters t s (reads e.body.right) (λ r i. same (cell_of e.identity.iters r) (fresh.reads r i))) in
      record {
        clean = λ c n h. ap₂ (λ v w. if same_cell c (written (step e)) then v else w) value (same c n);
        loaded = λ g u i h o j b. elim i as (λ _. execute (step e) t (buffer_cell p u.cell) ≡ execute (step e) s (array_cell p u.cell)) [
          | inl k ↦ absurd (subst (λ z. Gives p u z) (sym k) h)
          | inr k ↦ absurd (was_given a done rest ascends cut s t holds g u k h o j b).0
        ];
      }

  pending_later : (c : Cell) (a : Act) (done rest : List Act) → ((w : Act) → Pending p c w a → ⊥)
      → ((o w : Act) → In o rest → In w (a ∷ done) → Pending p c w o → ⊥) → (o w : Act) → In o (a ∷ rest) → In w done → Pending p c w o → ⊥
  pending_later c a done rest n h o w (inl e) j q = n w (subst (λ z. Pending p c w z) (sym e) q)
  pending_later c a done rest n h o w (inr i) j q = h o w i (inr j) q

  -- a cell is moved into the buffer
  after_loads : (l k : ℕ) (u : Use) (done rest : List Act) → IsAscending at (loads l k u ∷ rest) → Cut done (loads l k u ∷ rest) → (s t : Store)
      → Holds done (loads l k u ∷ rest) s t → Holds (loads l k u ∷ done) rest s (transfer (buffer_cell p u.cell) (array_cell p u.cell) t)
  after_loads l k u done rest ascends cut s t holds =
      let a = loads l k u in
      let source : t (array_cell p u.cell) ≡ s (array_cell p u.cell) =
      calm a done rest ascends cut s t holds (array_cell p u.cell) sound.apart
      (λ o w x i j h g q. early w x j (cut.was w j) (cut.order w a j (inl refl)) h (within_too a done rest ascends cut x w o j i h g) (writer (array_cell p u.cell) w o q)) in
      record {
        clean = λ c n h. if_false (same_cell c (buffer_cell p u.cell)) _ _ (no_buffer c u.cell n)
            ∙ holds.clean c n (pending_later c a done rest (λ w q. q) h);
        loaded = λ g v i h o j b. elim i as (λ _. transfer (buffer_cell p u.cell) (array_cell p u.cell) t (buffer_cell p v.cell) ≡ s (array_cell p v.cell)) [
          | inl e ↦ let same : u ≡ v = subst (λ z. Gives p v z) (sym e) h in
              subst (λ (z : Use). transfer (buffer_cell p u.cell) (array_cell p u.cell) t (buffer_cell p z.cell) ≡ s (array_cell p z.cell)) same
              (if_true (same_cell (buffer_cell p u.cell) (buffer_cell p u.cell)) _ _ (same_cell_self (buffer_cell p u.cell)) ∙ source)
          | inr d ↦
              let r = was_given a done rest ascends cut s t holds g v d h o j b in
              let m = moved g v (cut.was g d) h in
              elim (cases_Bool (same_cell (buffer_cell p v.cell) (buffer_cell p u.cell))) as (λ _. transfer (buffer_cell p u.cell) (array_cell p u.cell) t (buffer_cell p v.cell) ≡ s (array_cell p v.cell)) [
                | inl e ↦
                    let cells : v.cell ≡ u.cell = sound.injective m.0 a v u m.1.0 (cut.is a (inl refl)) m.1.1 refl (sym r.0) (ap (λ (d : Cell). d.subs) (same_cell_is _ _ e)) in
                    if_true _ _ _ e ∙ source ∙ ap (λ d. s (array_cell p d)) (sym cells)
                | inr e ↦ if_false _ _ _ e ∙ r.1
              ]
        ];
      }
    where
      writer : (c : Cell) (w o : Act) → Pending p c w o → (v : Use) × Writes p v w
      writer c w (other e) q = absurd q
      writer c w (works e) q = absurd q
      writer c w (loads l' k' v) q = absurd q
      writer c w (stores l' k' v) q = (v, q.0)

      early : (w : Act) (x : List ℤ) → In w done → In w all → Before w (loads l k u) → InBlock p x w → InBlock p x (loads l k u) → (v : Use) × Writes p v w → ⊥
      early (other e) x d i b h g q = q.1
      early (works e) x d i b h g q =
          not_both at (works e) (loads l k u) b (sound.loads_first e l k u i (cut.is (loads l k u) (inl refl)) (h ∙ sym g))
      early (loads l' k' v) x d i b h g q = q.1
      early (stores l' k' v) x d i b h g q = q.1

  -- an element in the loop, which works on the buffer
  module _ (e : Element) (done rest : List Act) (ascends : IsAscending at (works e ∷ rest)) (cut : Cut done (works e ∷ rest)) (s t : Store) (holds : Holds done (works e ∷ rest) s t) where
    head_there : In (works e) all
    head_there = cut.is (works e) (inl refl)

    read_in_buffer : (r : Access) → In r (reads e.body.right) → t (cell_of e.identity.iters (redirected_access p r)) ≡ s (cell_of e.identity.iters r)
    read_in_buffer r i = elim (cases_Bool (names p.array r)) as (λ _. t (cell_of e.identity.iters (redirected_access p r)) ≡ s (cell_of e.identity.iters r)) [
      | inl h ↦
          let q = sound.loaded e head_there r i h in
          let load = loads q.0 q.1.0 (use_of p.around r e) in
          let there = earlier (works e) done rest ascends cut load q.1.1 (sound.loads_first e q.0 q.1.0 (use_of p.around r e) head_there q.1.1 refl) in
          let is = holds.loaded load (use_of p.around r e) there refl (works e) (inl refl) refl in
          ap t (sound.wrapped_read e head_there r i h) ∙ is ∙ ap s (array_is r h)
      | inr h ↦
          ap (λ z. t (cell_of e.identity.iters z)) (unredirected p r h)
          ∙ holds.clean (cell_of e.identity.iters r) ((sound.fresh_works e head_there).reads r i)
          (λ o w j k q. not_named p r h (pending_array (cell_of e.identity.iters r) w o q))
    ]
      where
        array_is : (r : Access) → names p.array r ≡ true → array_cell p (subscripts r e.identity.iters) ≡ cell_of e.identity.iters r
        array_is r h = let a = eqb-true r.array p.array h in λ i. record { array = sym a i; subs = subscripts r e.identity.iters }

    value : right_value e.identity.iters t (redirected p e.body).right ≡ right_value e.identity.iters s e.body.right
    value = redirected_value p e.identity.iters s t e.body.right read_in_buffer

    unwritten : (c : Cell) → (c.array ≡ p.buffer → ⊥) → ((o w : Act) → In o rest → In w (works e ∷ done) → Pending p c w o → ⊥) → t c ≡ s c
    unwritten c n h = holds.clean c n (pending_later c (works e) done rest (λ w q. q) h)

    module _ (h : names p.array e.body.write ≡ true) where
      target : written (in_buffer p e) ≡ buffer_cell p (subscripts e.body.write e.identity.iters)
      target = sound.wrapped_write e head_there h

      old_target : written (step e) ≡ array_cell p (subscripts e.body.write e.identity.iters)
      old_target = let a = eqb-true e.body.write.array p.array h in λ i. record { array = a i; subs = subscripts e.body.write e.identity.iters }

      new_at : (c : Cell) → execute (in_buffer p e) t c ≡ (if same_cell c (buffer_cell p (subscripts e.body.write e.identity.iters)) then right_value e.identity.iters s e.body.right else t c)
      new_at c = ap₂ (λ d v. if same_cell c d then v else t c) target value

      old_at : (c : Cell) → execute (step e) s c ≡ (if same_cell c (array_cell p (subscripts e.body.write e.identity.iters)) then right_value e.identity.iters s e.body.right else s c)
      old_at c = ap (λ d. if same_cell c d then right_value e.identity.iters s e.body.right else s c) old_target

      -- its move back is still to come
      back : (l : ℕ) × ((k : ℕ) × In (stores l k (use_of p.around e.body.write e)) rest)
      back = let q = sound.stored e head_there h in
          (q.0, (q.1.0, later (works e) done rest ascends cut (stores q.0 q.1.0 (use_of p.around e.body.write e)) q.1.1 (sound.stores_last e q.0 q.1.0 (use_of p.around e.body.write e) head_there q.1.1 refl)))

      buffered_clean : (c : Cell) → (c.array ≡ p.buffer → ⊥) → ((o w : Act) → In o rest → In w (works e ∷ done) → Pending p c w o → ⊥)
          → execute (in_buffer p e) t c ≡ execute (step e) s c
      buffered_clean c n g = new_at c ∙ if_false _ _ _ (no_buffer c (subscripts e.body.write e.identity.iters) n) ∙ unwritten c n g ∙ sym (if_false _ _ _ elsewhere) ∙ sym (old_at c)
        where
          elsewhere : same_cell c (array_cell p (subscripts e.body.write e.identity.iters)) ≡ false
          elsewhere = false_from_ne_true _ (λ k. g (stores back.0 back.1.0 (use_of p.around e.body.write e)) (works e) back.1.1 (inl refl) ((h, refl), same_cell_is _ _ k))

      buffered_here : (u : Use) → use_of p.around e.body.write e ≡ u → execute (in_buffer p e) t (buffer_cell p u.cell) ≡ execute (step e) s (array_cell p u.cell)
      buffered_here u k =
          subst (λ (z : Use). execute (in_buffer p e) t (buffer_cell p z.cell) ≡ execute (step e) s (array_cell p z.cell)) k
          (new_at (buffer_cell p (subscripts e.body.write e.identity.iters)) ∙ if_true _ _ _ (same_cell_self (buffer_cell p (subscripts e.body.write e.identity.iters)))
          ∙ sym (if_true _ _ _ (same_cell_self (array_cell p (subscripts e.body.write e.identity.iters)))) ∙ sym (old_at (array_cell p (subscripts e.body.write e.identity.iters))))

      buffered_before : (g : Act) (u : Use) → In g done → Gives p u g → prefix p e ≡ u.prefix → t (buffer_cell p u.cell) ≡ s (array_cell p u.cell)
          → execute (in_buffer p e) t (buffer_cell p u.cell) ≡ execute (step e) s (array_cell p u.cell)
      buffered_before g u i k b r = elim (cases_Bool (same_cell (buffer_cell p u.cell) (buffer_cell p (subscripts e.body.write e.identity.iters))))
          as (λ _. execute (in_buffer p e) t (buffer_cell p u.cell) ≡ execute (step e) s (array_cell p u.cell)) [
            | inl q ↦
                let m = moved g u (cut.was g i) k in
                let o = stores back.0 back.1.0 (use_of p.around e.body.write e) in
                let cells : u.cell ≡ subscripts e.body.write e.identity.iters =
                sound.injective m.0 o u (use_of p.around e.body.write e) m.1.0 (cut.is o (inr back.1.1)) m.1.1 refl (sym b) (ap (λ (d : Cell). d.subs) (same_cell_is _ _ q)) in
                new_at (buffer_cell p u.cell) ∙ if_true _ _ _ q
                ∙ sym (if_true _ _ _ (subst (λ c. same_cell (array_cell p u.cell) (array_cell p c) ≡ true) cells (same_cell_self (array_cell p u.cell)))) ∙ sym (old_at (array_cell p u.cell))
            | inr q ↦
                let differ : same_cell (array_cell p u.cell) (array_cell p (subscripts e.body.write e.identity.iters)) ≡ false = false_from_ne_true _ (λ k.
                both_ways _ q (subst (λ c. same_cell (buffer_cell p u.cell) (buffer_cell p c) ≡ true) (ap (λ (d : Cell). d.subs) (same_cell_is _ _ k)) (same_cell_self (buffer_cell p u.cell)))) in
                new_at (buffer_cell p u.cell) ∙ if_false _ _ _ q ∙ r ∙ sym (if_false _ _ _ differ) ∙ sym (old_at (array_cell p u.cell))
          ]

      after_buffered : Holds (works e ∷ done) rest (execute (step e) s) (execute (in_buffer p e) t)
      after_buffered = record {
        clean = buffered_clean;
        loaded = λ g u i k o j b. elim i as (λ _. execute (in_buffer p e) t (buffer_cell p u.cell) ≡ execute (step e) s (array_cell p u.cell)) [
          | inl q ↦ buffered_here u (subst (λ z. Gives p u z) (sym q) k).1
          | inr d ↦ let r = was_given (works e) done rest ascends cut s t holds g u d k o j b in buffered_before g u d k r.0 r.1
        ];
      }

    module _ (h : names p.array e.body.write ≡ false) where
      same_target : written (in_buffer p e) ≡ written (step e)
      same_target = ap (cell_of e.identity.iters) (unredirected p e.body.write h)

      plain_at : (c : Cell) → execute (in_buffer p e) t c ≡ (if same_cell c (written (step e)) then right_value e.identity.iters s e.body.right else t c)
      plain_at c = ap₂ (λ d v. if same_cell c d then v else t c) same_target value

      after_plain : Holds (works e ∷ done) rest (execute (step e) s) (execute (in_buffer p e) t)
      after_plain = record {
        clean = λ c n g. plain_at c ∙ ap (λ v. if same_cell c (written (step e)) then right_value e.identity.iters s e.body.right else v) (unwritten c n g);
        loaded = λ g u i k o j b. elim i as (λ _. execute (in_buffer p e) t (buffer_cell p u.cell) ≡ execute (step e) s (array_cell p u.cell)) [
          | inl q ↦ absurd (both_ways _ h (subst (λ z. Gives p u z) (sym q) k).0)
          | inr d ↦
              let r = was_given (works e) done rest ascends cut s t holds g u d k o j b in
              plain_at (buffer_cell p u.cell)
              ∙ if_false _ _ _ (other_array (buffer_cell p u.cell) (written (step e)) (λ q. (sound.fresh_works e head_there).write (sym q)))
              ∙ r.1 ∙ sym (if_false _ _ _ (other_array (array_cell p u.cell) (written (step e)) (λ q. not_named p e.body.write h (sym q))))
        ];
      }

    after_works : Holds (works e ∷ done) rest (execute (step e) s) (execute (in_buffer p e) t)
    after_works = elim (cases_Bool (names p.array e.body.write)) as (λ _. Holds (works e ∷ done) rest (execute (step e) s) (execute (in_buffer p e) t)) [
      | inl h ↦ after_buffered h
      | inr h ↦ after_plain h
    ]

  -- a cell is moved back
  after_stores : (l k : ℕ) (u : Use) (done rest : List Act) → IsAscending at (stores l k u ∷ rest) → Cut done (stores l k u ∷ rest) → (s t : Store)
      → Holds done (stores l k u ∷ rest) s t → Holds (stores l k u ∷ done) rest s (transfer (array_cell p u.cell) (buffer_cell p u.cell) t)
  after_stores l k u done rest ascends cut s t holds =
      let a = stores l k u in
      let q = sound.worked l k u (cut.is a (inl refl)) in
      let there = earlier a done rest ascends cut (works q.0) q.1.0 (sound.stores_last q.0 l k u q.1.0 (cut.is a (inl refl)) (ap (λ (v : Use). v.prefix) q.1.1.1)) in
      let source : t (buffer_cell p u.cell) ≡ s (array_cell p u.cell) = holds.loaded (works q.0) u there q.1.1 a (inl refl) refl in
      record {
        clean = λ c n h. elim (cases_Bool (same_cell c (array_cell p u.cell))) as (λ _. transfer (array_cell p u.cell) (buffer_cell p u.cell) t c ≡ s c) [
          | inl e ↦ if_true _ _ _ e ∙ source ∙ ap s (sym (same_cell_is _ _ e))
          | inr e ↦ if_false _ _ _ e ∙ holds.clean c n (pending_later c a done rest
              (λ w z. both_ways _ e (subst (λ d. same_cell c d ≡ true) z.1 (same_cell_self c))) h)
        ];
        loaded = λ g v i h o j b. elim i as (λ _. transfer (array_cell p u.cell) (buffer_cell p u.cell) t (buffer_cell p v.cell) ≡ s (array_cell p v.cell)) [
          | inl e ↦ absurd (subst (λ z. Gives p v z) (sym e) h)
          | inr d ↦ if_false _ _ _ (cells_apart v.cell u.cell) ∙ (was_given a done rest ascends cut s t holds g v d h o j b).1
        ];
      }

  after : (a : Act) (done rest : List Act) → IsAscending at (a ∷ rest) → Cut done (a ∷ rest) → (s t : Store)
      → Holds done (a ∷ rest) s t → Holds (a ∷ done) rest (old_do a s) (new_do p a t)
  after (other e) = after_other e
  after (works e) = after_works e
  after (loads l k u) = after_loads l k u
  after (stores l k u) = after_stores l k u

  side_by_side : (done rest : List Act) → IsAscending at rest → Cut done rest → (s t : Store) → Holds done rest s t
      → (c : Cell) → (c.array ≡ p.buffer → ⊥) → do_all (new_do p) rest t c ≡ do_all old_do rest s c
  side_by_side done [] ascends cut s t holds c n = holds.clean c n (λ o w i j q. i)
  side_by_side done (a ∷ rest) ascends cut s t holds c n =
      side_by_side (a ∷ done) rest ascends.1 (advance a done rest ascends cut) (old_do a s) (new_do p a t) (after a done rest ascends cut s t holds) c n

  -- both do the same to every cell that isn't one of the buffer
  pub same_outside : IsAscending at all → (s : Store) (c : Cell) → (c.array ≡ p.buffer → ⊥) → do_all (new_do p) all s c ≡ do_all old_do all s c
  same_outside ascends s c n = side_by_side [] all ascends
      (record { covers = λ a i. inr i; was = λ a i. absurd i; is = λ a i. i; order = λ a b i j. absurd i })
      s s (record { clean = λ d m h. refl; loaded = λ g u i h o j b. absurd i }) c n
