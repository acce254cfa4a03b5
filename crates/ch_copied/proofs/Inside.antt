-- The new list stays inside its arrays: those that there were, and the buffer behind them.
use Rattle.std.proofs.Common.{◌≡◌, refl, sym, ap, ap₂, ◌∙◌, subst, ℕ, zero, suc, ◌<◌, ◌≤◌, ℤ, pos, int_lt, true, false, not, ◌&&◌, List, [], ◌∷◌, ◌++◌, length, map, ◌⊎◌, inl, inr, arith}
use Rattle.std.proofs.lemmas.Int.{ints}
use Rattle.std.proofs.lemmas.Bool.{cases_Bool, and_from, eqb-true}
use Rattle.std.specs.Int.{int_rem_euclid}
use Rattle.std.specs.List.{flat_map}
use Rattle.ch_nest.specs.Arrays.{within, within_array}
use Rattle.ch_nest.specs.Run.{subscripts}
use Rattle.ch_nest.specs.declared.nest.Access.{Access}
use Rattle.ch_nest.specs.declared.nest.Sub as subscript
use Rattle.ch_nest.specs.declared.nest.Expr.{Expr, map-Expr}
use Rattle.ch_nest.specs.declared.nest.Expr.TheOpen.{Expr-F}
use Rattle.ch_nest.specs.declared.nest.Expr.TheFolds.{fold-roll-Expr, ind-Expr}
use Rattle.ch_timed.specs.Conflict.{accesses, cell_of, reads, reads_step}
use Rattle.ch_timed.specs.Flat.{AllInside, IsInside}
use Rattle.ch_timed.specs.Members.{Each, In}
use Rattle.ch_timed.specs.Timed.{in_order, step}
use Rattle.ch_timed.specs.Vectors.{same_numbers}
use Rattle.ch_timed.specs.declared.element.Cell.{Cell}
use Rattle.ch_timed.specs.declared.element.Element.{Element}
use Rattle.ch_timed.proofs.ClosedUp.{same_steps}
use Rattle.ch_timed.proofs.Rolls.{reads_number, reads_iter, reads_read, reads_neg, reads_add, reads_sub, reads_mul}
use Rattle.ch_copied.specs.Accesses.{names}
use Rattle.ch_copied.specs.Uses.{Transfer, Use, extents, raised, raised_by, raised_by_all, use_of, uses}
use Rattle.ch_copied.specs.Plans.{Plan}
use Rattle.ch_copied.specs.Bodies.{redirect, moved_cell, redirect_step, redirected_access}
use Rattle.ch_copied.specs.Copied.{copied}
use Rattle.ch_copied.specs.Copyable.{IsCopyable}
use Rattle.ch_copied.proofs.Wrapping.{wrap}
use Rattle.ch_copied.proofs.Acts.{in_order_are, new_element}
use Rattle.ch_order.proofs.Euclid.{remainder}
use Rattle.ch_copied.proofs.Lists.{in_append}
use Rattle.ch_copied.proofs.Meaning.{step_of}
use Rattle.ch_copied.proofs.Moving.{buffered_is, moved_is, redirected_cell}
use Rattle.ch_copied.proofs.Simulation.{Act, other, works, loads, stores, unredirected}
use Rattle.ch_copied.proofs.Sound.{IsPlanned, all, it_comes, long_use, sound, unclosed, unclosed_ascends, use_from}
use Rattle.ch_copied.proofs.Values.{in_left, in_right}

-- a redirected right side reads the redirected accesses

map_append : {X Y : Type 0} (f : X → Y) (xs ys : List X) → map f (xs ++ ys) ≡ map f xs ++ map f ys
map_append f [] ys = refl
map_append f (x ∷ xs) ys = ap (λ z. f x ∷ z) (map_append f xs ys)

module _ (p : Plan) where
  abbrev Same : Expr → Type 0
  Same x = reads (redirect p x) ≡ map (redirected_access p) (reads x)

  abbrev Known : Type 0
  Known = (x : Expr) × Same x

  abbrev bare : Known → Expr
  bare e = e.0

  layer : (y : Expr-F Known) → reads (redirect_step p (map-Expr Expr Expr (redirect p) (map-Expr Known Expr bare y)))
      ≡ map (redirected_access p) (reads_step (map-Expr Expr (List Access) reads (map-Expr Known Expr bare y)))
  layer (Expr-F.Number n) = reads_number n
  layer (Expr-F.Iter k) = reads_iter k
  layer (Expr-F.Read a) = reads_read (redirected_access p a)
  layer (Expr-F.Neg x) = reads_neg (redirect p x.0) ∙ x.1
  layer (Expr-F.Add x y) = reads_add (redirect p x.0) (redirect p y.0) ∙ ap₂ (λ a b. a ++ b) x.1 y.1 ∙ sym (map_append (redirected_access p) (reads x.0) (reads y.0))
  layer (Expr-F.Sub x y) = reads_sub (redirect p x.0) (redirect p y.0) ∙ ap₂ (λ a b. a ++ b) x.1 y.1 ∙ sym (map_append (redirected_access p) (reads x.0) (reads y.0))
  layer (Expr-F.Mul x y) = reads_mul (redirect p x.0) (redirect p y.0) ∙ ap₂ (λ a b. a ++ b) x.1 y.1 ∙ sym (map_append (redirected_access p) (reads x.0) (reads y.0))

  pub redirected_reads : (x : Expr) → Same x
  redirected_reads = ind-Expr Same (λ x y is.
      ap reads (fold-roll-Expr Expr (redirect_step p) x)
      ∙ subst (λ z. reads (redirect_step p (map-Expr Expr Expr (redirect p) z)) ≡ map (redirected_access p) (reads_step (map-Expr Expr (List Access) reads z))) is (layer y)
      ∙ ap (map (redirected_access p)) (sym (fold-roll-Expr (List Access) reads_step x)))

-- the extents are at least 1

abbrev Some : List ℕ → Type 0
Some es = Each (λ e. 1 ≤ e) es

raised_some : (cs ds : List ℤ) (es : List ℕ) → Some es → Some (raised cs ds es)
raised_some [] ds es h = h
raised_some (c ∷ cs) [] es h = h
raised_some (c ∷ cs) (d ∷ ds) [] h = tt
raised_some (c ∷ cs) (d ∷ ds) (e ∷ es) h = let l = h.0 in (omega arith, raised_some cs ds es h.1)

raised_by_some : (u : Use) (vs : List Use) (es : List ℕ) → Some es → Some (raised_by u vs es)
raised_by_some u [] es h = h
raised_by_some u (v ∷ vs) es h = elim (cases_Bool (same_numbers u.prefix v.prefix)) as (λ _. Some (raised_by u (v ∷ vs) es)) [
  | inl g ↦ rw g (raised_some u.cell v.cell (raised_by u vs es) (raised_by_some u vs es h))
  | inr g ↦ rw g (raised_by_some u vs es h)
]

raised_by_all_some : (us vs : List Use) (es : List ℕ) → Some es → Some (raised_by_all us vs es)
raised_by_all_some [] vs es h = h
raised_by_all_some (u ∷ us) vs es h = raised_by_some u vs (raised_by_all us vs es) (raised_by_all_some us vs es h)

ones_some : (cs : List ℤ) → Some (map (λ c. 1) cs)
ones_some [] = tt
ones_some (c ∷ cs) = (omega arith, ones_some cs)

extents_some : (us : List Use) → Some (extents us)
extents_some [] = tt
extents_some (u ∷ us) = raised_by_all_some (u ∷ us) (u ∷ us) (map (λ c. 1) u.cell) (ones_some u.cell)

-- what is taken modulo the extents stays below them

below : (c : ℤ) (e : ℕ) → (not (int_lt (int_rem_euclid c (pos (suc e))) (pos 0)) && int_lt (int_rem_euclid c (pos (suc e))) (pos (suc e))) ≡ true
below c e =
    let r = remainder c (suc e) (omega arith) in
    subst (λ z. (not (int_lt z (pos 0)) && int_lt z (pos (suc e))) ≡ true) (sym r.1.0) (inside r.0 (suc e) r.1.1)
  where
    inside : (m n : ℕ) → m < n → (not (int_lt (pos m) (pos 0)) && int_lt (pos m) (pos n)) ≡ true
    inside m n l = grind (arith, ints)

wrap_within : (es : List ℕ) (cs : List ℤ) → Some es → length cs ≡ length es → within es (wrap es cs) ≡ true
wrap_within [] [] h n = refl
wrap_within [] (c ∷ cs) h n = absurd (omega arith)
wrap_within (e ∷ es) [] h n = absurd (omega arith)
wrap_within (zero ∷ es) (c ∷ cs) h n = let l = h.0 in absurd (omega arith)
wrap_within (suc e ∷ es) (c ∷ cs) h n = and_from _ _ (below c e) (wrap_within es cs h.1 (omega arith))

-- arrays

within_more : (arrays more : List (List ℕ)) (k : ℕ) (subs : List ℤ) → within_array arrays k subs ≡ true → within_array (arrays ++ more) k subs ≡ true
within_more [] more k subs h = cc
within_more (c ∷ cs) more zero subs h = h
within_more (c ∷ cs) more (suc k) subs h = within_more cs more k subs h

within_last : (arrays : List (List ℕ)) (es : List ℕ) (k : ℕ) (subs : List ℤ) → k ≡ length arrays → within es subs ≡ true → within_array (arrays ++ es ∷ []) k subs ≡ true
within_last [] es zero subs e h = h
within_last [] es (suc k) subs e h = absurd (omega arith)
within_last (c ∷ cs) es zero subs e h = absurd (omega arith)
within_last (c ∷ cs) es (suc k) subs e h = within_last cs es k subs (omega arith) h

all_more : (arrays more : List (List ℕ)) (cs : List Cell) → AllInside arrays cs → AllInside (arrays ++ more) cs
all_more arrays more [] h = tt
all_more arrays more (c ∷ cs) h = (within_more arrays more c.array c.subs h.0, all_more arrays more cs h.1)

all_at : (arrays : List (List ℕ)) (iters : List ℤ) (rs : List Access) → AllInside arrays (map (cell_of iters) rs) → (r : Access) → In r rs
    → within_array arrays r.array (subscripts r iters) ≡ true
all_at arrays iters [] h r i = absurd i
all_at arrays iters (a ∷ rs) h r (inl e) = subst (λ z. within_array arrays z.array (subscripts z iters) ≡ true) e h.0
all_at arrays iters (a ∷ rs) h r (inr i) = all_at arrays iters rs h.1 r i

all_by : (arrays : List (List ℕ)) (iters : List ℤ) (f : Access → Access) (rs : List Access)
    → ((r : Access) → In r rs → within_array arrays (f r).array (subscripts (f r) iters) ≡ true) → AllInside arrays (map (cell_of iters) (map f rs))
all_by arrays iters f [] h = tt
all_by arrays iters f (r ∷ rs) h = (h r (inl refl), all_by arrays iters f rs (λ q i. h q (inr i)))

module _ (p : Plan) (list : List Element) (dimensions : ℕ) (planned : IsPlanned p list) (fine : IsCopyable list p.array p.buffer dimensions)
    (arrays : List (List ℕ)) (es : List ℕ) (number : p.buffer ≡ length arrays) (shape : es ≡ p.extents)
    (inside : (e : Element) → In e list → IsInside arrays (step e)) where
  abbrev more_arrays : List (List ℕ)
  more_arrays = arrays ++ es ∷ []

  abbrev acts_there : List Act
  acts_there = all p list dimensions planned fine

  access_inside : (e : Element) → In e list → (a : Access) → In a (accesses e.body) → within_array arrays a.array (subscripts a e.identity.iters) ≡ true
  access_inside e i a j = elim (in_append (reads e.body.right) (e.body.write ∷ []) a j) as (λ _. within_array arrays a.array (subscripts a e.identity.iters) ≡ true) [
    | inl k ↦ all_at arrays e.identity.iters (reads e.body.right) (inside e i).reads a k
    | inr k ↦ elim k as (λ _. within_array arrays a.array (subscripts a e.identity.iters) ≡ true) [
      | inl h ↦ subst (λ z. within_array arrays z.array (subscripts z e.identity.iters) ≡ true) h (inside e i).writes
      | inr n ↦ absurd n
    ]
  ]

  buffer_inside : (cs : List ℤ) → length cs ≡ length p.extents → within_array more_arrays p.buffer (wrap p.extents cs) ≡ true
  buffer_inside cs n =
      within_last arrays es p.buffer (wrap p.extents cs) number
      (subst (λ fs. within fs (wrap p.extents cs) ≡ true) (sym shape) (wrap_within p.extents cs (subst Some (sym planned.extents) (extents_some all_uses)) n))
    where
      all_uses : List Use
      all_uses = flat_map (uses list p.around) (p.ins ++ p.outs)

  cell_inside : (c : Cell) (k : ℕ) (cs : List ℤ) → c ≡ record { array = k; subs = cs } → within_array more_arrays k cs ≡ true → within_array more_arrays c.array c.subs ≡ true
  cell_inside c k cs e h = subst (λ (z : Cell). within_array more_arrays z.array z.subs ≡ true) (sym e) h

  plain_of : (e : Element) (a : Access) → In e list → In a (accesses e.body) → names p.array a ≡ true → Each (λ (s : subscript.Sub). s.modulus ≡ 0) a.subs
  plain_of e a i j h = fine.plain e a i j (eqb-true a.array p.array h)

  -- an access that was redirected
  redirected_inside : (e : Element) → In e list → (a : Access) → In a (accesses e.body) → (names p.array a ≡ true → length (subscripts a e.identity.iters) ≡ length p.extents)
      → within_array more_arrays (redirected_access p a).array (subscripts (redirected_access p a) e.identity.iters) ≡ true
  redirected_inside e i a j n = elim (cases_Bool (names p.array a)) as (λ _. within_array more_arrays (redirected_access p a).array (subscripts (redirected_access p a) e.identity.iters) ≡ true) [
    | inl h ↦ cell_inside (cell_of e.identity.iters (redirected_access p a)) p.buffer (wrap p.extents (subscripts a e.identity.iters))
        (redirected_cell p e.identity.iters a h (plain_of e a i j h)) (buffer_inside (subscripts a e.identity.iters) (n h))
    | inr h ↦ subst (λ z. within_array more_arrays z.array (subscripts z e.identity.iters) ≡ true) (sym (unredirected p a h))
        (within_more arrays (es ∷ []) a.array (subscripts a e.identity.iters) (access_inside e i a j))
  ]

  -- the two ends of a move
  array_inside : (t : Transfer) (u : Use) → (In t p.ins ⊎ In t p.outs) → In u (uses list p.around t) → within_array more_arrays p.array u.cell ≡ true
  array_inside t u i j =
      let q = use_from p list dimensions planned fine t u i j in
      let a = access_inside q.0 q.1.0 t.access q.1.1.1.1.0 in
      let cells : subscripts t.access q.0.identity.iters ≡ u.cell = ap (λ (z : Use). z.cell) q.1.1.1.0 in
      within_more arrays (es ∷ []) p.array u.cell
      (subst (λ cs. within_array arrays p.array cs ≡ true) cells
      (subst (λ k. within_array arrays k (subscripts t.access q.0.identity.iters) ≡ true) (eqb-true t.access.array p.array q.1.1.1.1.1) a))

  each_inside : (a : Act) → In a acts_there → IsInside more_arrays (step (new_element p a))
  each_inside (other e) i =
      let c = it_comes p list dimensions planned fine (other e) i in
      subst (IsInside more_arrays) (sym (step_of p list dimensions planned fine e false c.1)) (record {
        writes = within_more arrays (es ∷ []) e.body.write.array (subscripts e.body.write e.identity.iters) (inside e c.0).writes;
        reads = all_more arrays (es ∷ []) (map (cell_of e.identity.iters) (reads e.body.right)) (inside e c.0).reads;
      })
  each_inside (works e) i =
      let c = it_comes p list dimensions planned fine (works e) i in
      let s = sound p list dimensions planned fine in
      let long_read : (r : Access) → In r (reads e.body.right) → names p.array r ≡ true → length (subscripts r e.identity.iters) ≡ length p.extents = λ r j h.
      let q = s.loaded e i r j h in
      let m = it_comes p list dimensions planned fine (loads q.0 q.1.0 (use_of p.around r e)) q.1.1 in
      (long_use p list dimensions planned fine m.0 (use_of p.around r e) (inl m.1.0) m.1.1.0).cell in
      let long_write : names p.array e.body.write ≡ true → length (subscripts e.body.write e.identity.iters) ≡ length p.extents = λ h.
      let q = s.stored e i h in
      let m = it_comes p list dimensions planned fine (stores q.0 q.1.0 (use_of p.around e.body.write e)) q.1.1 in
      (long_use p list dimensions planned fine m.0 (use_of p.around e.body.write e) (inr m.1.0) m.1.1.0).cell in
      subst (IsInside more_arrays) (sym (step_of p list dimensions planned fine e true c.1)) (record {
        writes = redirected_inside e c.0 e.body.write (in_right e.body.write (reads e.body.right) (e.body.write ∷ []) (inl refl)) long_write;
        reads = subst (λ rs. AllInside more_arrays (map (cell_of e.identity.iters) rs)) (sym (redirected_reads p e.body.right))
            (all_by more_arrays e.identity.iters (redirected_access p) (reads e.body.right)
            (λ r j. redirected_inside e c.0 r (in_left r (reads e.body.right) (e.body.write ∷ []) j) (long_read r j)));
      })
  each_inside (loads l k u) i =
      let c = it_comes p list dimensions planned fine (loads l k u) i in
      let long = long_use p list dimensions planned fine c.0 u (inl c.1.0) c.1.1.0 in
      record {
        writes = cell_inside (cell_of (u.prefix ++ u.cell) (redirected_access p (moved_cell p))) p.buffer (wrap p.extents u.cell) (buffered_is p u long) (buffer_inside u.cell long.cell);
        reads = subst (λ rs. AllInside more_arrays (map (cell_of (u.prefix ++ u.cell)) rs)) (sym (reads_read (moved_cell p)))
            (cell_inside (cell_of (u.prefix ++ u.cell) (moved_cell p)) p.array u.cell (moved_is p u long) (array_inside c.0 u (inl c.1.0) c.1.1.0), tt);
      }
  each_inside (stores l k u) i =
      let c = it_comes p list dimensions planned fine (stores l k u) i in
      let long = long_use p list dimensions planned fine c.0 u (inr c.1.0) c.1.1.0 in
      record {
        writes = cell_inside (cell_of (u.prefix ++ u.cell) (moved_cell p)) p.array u.cell (moved_is p u long) (array_inside c.0 u (inr c.1.0) c.1.1.0);
        reads = subst (λ rs. AllInside more_arrays (map (cell_of (u.prefix ++ u.cell)) rs)) (sym (reads_read (redirected_access p (moved_cell p))))
            (cell_inside (cell_of (u.prefix ++ u.cell) (redirected_access p (moved_cell p))) p.buffer (wrap p.extents u.cell) (buffered_is p u long) (buffer_inside u.cell long.cell), tt);
      }

  each_step : (xs : List Act) → ((a : Act) → In a xs → IsInside more_arrays (step (new_element p a))) → Each (IsInside more_arrays) (map step (map (new_element p) xs))
  each_step [] h = tt
  each_step (a ∷ xs) h = (h a (inl refl), each_step xs (λ b i. h b (inr i)))

  abbrev put_together : List Element
  put_together = unclosed p list dimensions planned fine

  -- each access of the new list is in its array
  pub stays_inside : Each (IsInside more_arrays) (map step (copied p list))
  stays_inside =
      let steps : map step (copied p list) ≡ map step (map (new_element p) acts_there) = same_steps (in_order put_together) (unclosed_ascends p list dimensions planned fine) ∙ ap (map step) (in_order_are p list) in
      subst (Each (IsInside more_arrays)) (sym steps) (each_step acts_there each_inside)
