-- Two steps inside the arrays that do not conflict may change places, on flat arrays too.
use Rattle.std.proofs.Common.{◌≡◌, ◌≢◌, sym, ap, ◌∙◌, subst, ℕ, ℤ, pos, true, false, Option, None, List, [], ◌∷◌, map, set, get_or-set_other}
use Rattle.std.specs.Bool.{IsTrue}
use Rattle.std.proofs.lemmas.Bool.{both_ways}
use Rattle.std.proofs.lemmas.List.{set_comm}
use Rattle.ch_nest.specs.declared.nest.Access.{Access}
use Rattle.ch_nest.specs.Arrays.{within_array}
use Rattle.ch_order.proofs.Law as law
use Rattle.ch_timed.specs.Order as order
use Rattle.ch_timed.specs.Order.{do_all}
use Rattle.ch_timed.specs.Members.{Each}
use Rattle.ch_timed.specs.declared.element.Cell.{Cell}
use Rattle.ch_timed.specs.declared.element.Element.{Element}
use Rattle.ch_timed.specs.Timed.{Step, step, same_step, identities_differ}
use Rattle.ch_timed.specs.Conflict.{cell_of, same_cell, reads, written, conflict}
use Rattle.ch_timed.specs.Do.{right_value}
use Rattle.ch_timed.specs.Flat.{place_of, look, AllInside, IsInside}
use Rattle.ch_order.proofs.Commutes.{apart_from, same_cell_self}
use Rattle.ch_timed.proofs.Values.{Agree, same_value}
use Rattle.ch_nest.proofs.Distinct.{place_injective}
use Rattle.ch_order.proofs.Steps.{distinct, apart, same_identity_self}

-- what a step does to flat arrays, told cell by cell
abbrev pub execute_cells : List (List ℕ) → Step → List ℤ → List ℤ
execute_cells extents s cells = set cells (place_of extents (written s)) (right_value s.identity.iters (look extents cells) s.body.right)

module _ (extents : List (List ℕ)) where
  pub other_place : (c d : Cell) → IsTrue (within_array extents c.array c.subs) → IsTrue (within_array extents d.array d.subs) → same_cell c d ≡ false → place_of extents c ≢ place_of extents d
  other_place c d i j n e =
      let p = place_injective extents c.array d.array c.subs d.subs i j e in
      let a = p.0 in
      let b = p.1 in
      let k : c ≡ d = λ t. record { array = a t; subs = b t } in
      both_ways _ n (subst (λ z. same_cell c z ≡ true) k (same_cell_self c))

  pub unchanged : (iters : List ℤ) (accesses : List Access) (w : Cell) (v : ℤ) (cells : List ℤ) → IsTrue (within_array extents w.array w.subs)
      → AllInside extents (map (cell_of iters) accesses) → Each (λ c. same_cell c w ≡ false) (map (cell_of iters) accesses)
      → Agree iters (look extents (set cells (place_of extents w) v)) (look extents cells) accesses
  unchanged iters [] w v cells i h n = tt
  unchanged iters (a ∷ accesses) w v cells i h n = (
    get_or-set_other cells (place_of extents w) (place_of extents (cell_of iters a)) v (pos 0) (other_place (cell_of iters a) w h.0 i n.0),
    unchanged iters accesses w v cells i h.1 n.1,
  )

  pub commutes_flat : (a b : Step) → IsInside extents a → IsInside extents b → conflict a b ≡ None → (cells : List ℤ)
      → execute_cells extents a (execute_cells extents b cells) ≡ execute_cells extents b (execute_cells extents a cells)
  commutes_flat a b i j n cells =
      let apart = apart_from a b n in
      let wa = place_of extents (written a) in
      let wb = place_of extents (written b) in
      let va = right_value a.identity.iters (look extents cells) a.body.right in
      let vb = right_value b.identity.iters (look extents cells) b.body.right in
      let mine = same_value a.identity.iters (look extents (set cells wb vb)) (look extents cells) a.body.right (unchanged a.identity.iters (reads a.body.right) (written b) vb cells j.writes i.reads apart.ours) in
      let theirs = same_value b.identity.iters (look extents (set cells wa va)) (look extents cells) b.body.right (unchanged b.identity.iters (reads b.body.right) (written a) va cells i.writes j.reads apart.theirs) in
      let differ : wb ≢ wa = λ e. other_place (written a) (written b) i.writes j.writes apart.writes (sym e) in
      ap (set (set cells wb vb) wa) mine ∙ set_comm cells wb wa vb va differ ∙ ap (set (set cells wa va) wb) (sym theirs)

  -- for any conflict that lets two steps inside the arrays change places where there is none
  pub same_end_flat : (conflicts : Step → Step → Option Cell)
      → ((a b : Step) → IsInside extents a → IsInside extents b → conflicts a b ≡ None → (cells : List ℤ) → execute_cells extents a (execute_cells extents b cells) ≡ execute_cells extents b (execute_cells extents a cells))
      → (old new : List Element) → identities_differ old ≡ true → Each (IsInside extents) (map step old) → Each (IsInside extents) (map step new)
      → law.HasSame Step Cell (List ℤ) same_step conflicts (execute_cells extents) (map step old) (map step new)
      → order.reversed same_step conflicts (map step old) (map step new) ≡ None
      → (cells : List ℤ) → do_all (execute_cells extents) (map step old) cells ≡ do_all (execute_cells extents) (map step new) cells
  same_end_flat conflicts swaps old new d f g h r cells =
      law.same_end Step Cell (List ℤ) same_step conflicts (execute_cells extents) (IsInside extents) swaps (λ x. same_identity_self x.identity) apart
      (map step old) (map step new) (distinct conflicts old d) f g h r cells
