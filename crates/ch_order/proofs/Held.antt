-- Flat arrays hold what a store holds, also after the same steps were executed in both.
use Rattle.std.proofs.Common.{◌≡◌, refl, sym, ap, ◌∙◌, subst, ◌<◌, ℕ, ℤ, pos, Bool, true, false, if◌then◌else◌, List, [], ◌∷◌, length, map, set, get_or-set_other}
use Rattle.std.specs.Bool.{IsTrue}
use Rattle.std.proofs.lemmas.List.{get_or-set_same, length-set}
use Rattle.ch_nest.specs.declared.nest.Access.{Access}
use Rattle.ch_nest.specs.Arrays.{total, within_array}
use Rattle.ch_order.specs.Legal.{steps}
use Rattle.ch_timed.specs.declared.element.Cell.{Cell}
use Rattle.ch_timed.specs.declared.element.Element.{Element}
use Rattle.ch_timed.specs.Conflict.{cell_of, reads, same_cell, written}
use Rattle.ch_timed.specs.Do.{Store, done, execute, right_value}
use Rattle.ch_timed.specs.Flat.{AllInside, IsInside, StaysInside, done_flat, execute_flat, look, place_of}
use Rattle.ch_timed.specs.Members.{Each}
use Rattle.ch_timed.specs.Order.{do_all}
use Rattle.ch_timed.specs.Timed.{Step}
use Rattle.ch_order.proofs.Commutes.{same_cell_is}
use Rattle.ch_timed.proofs.Values.{Agree, same_value}
use Rattle.ch_order.proofs.FlatCommutes.{execute_cells, other_place}
use Rattle.ch_order.proofs.Legal.{flat_step}
use Rattle.ch_nest.proofs.Distinct.{place_below}

module _ (extents : List (List ℕ)) where
  -- the store holds what the cells of the arrays hold
  abbrev Holds : List ℤ → Store → Type 0
  Holds cells t = (c : Cell) → IsTrue (within_array extents c.array c.subs) → look extents cells c ≡ t c

  agrees : (cells : List ℤ) (t : Store) (iters : List ℤ) (accesses : List Access) → Holds cells t → AllInside extents (map (cell_of iters) accesses)
      → Agree iters (look extents cells) t accesses
  agrees cells t iters [] h i = tt
  agrees cells t iters (a ∷ accesses) h i = (h (cell_of iters a) i.0, agrees cells t iters accesses h i.1)

  written_place : (w c : Cell) (v x : ℤ) (t : Store) (cells : List ℤ) (r : Bool) → same_cell c w ≡ r → length cells ≡ total extents → IsTrue (within_array extents w.array w.subs) → IsTrue (within_array extents c.array c.subs)
      → Holds cells t → v ≡ x → look extents (set cells (place_of extents w) v) c ≡ (if r then x else t c)
  written_place w c v x t cells true e l i j h same =
      let room : place_of extents w < length cells = subst (λ n. place_of extents w < n) (sym l) (place_below extents w.array w.subs i) in
      ap (λ d. look extents (set cells (place_of extents w) v) d) (same_cell_is c w e) ∙ get_or-set_same cells (place_of extents w) v (pos 0) room ∙ same
  written_place w c v x t cells false e l i j h same =
      get_or-set_other cells (place_of extents w) (place_of extents c) v (pos 0) (other_place extents c w j i e) ∙ h c j

  one_held : (s : Step) (t : Store) (cells : List ℤ) → IsInside extents s → length cells ≡ total extents → Holds cells t → Holds (execute_cells extents s cells) (execute s t)
  one_held s t cells i l h c j =
      written_place (written s) c (right_value s.identity.iters (look extents cells) s.body.right) (right_value s.identity.iters t s.body.right) t cells (same_cell c (written s)) refl l i.writes j h
      (same_value s.identity.iters (look extents cells) t s.body.right (agrees cells t s.identity.iters (reads s.body.right) h i.reads))

  all_held : (ss : List Step) (t : Store) (cells : List ℤ) → Each (IsInside extents) ss → length cells ≡ total extents → Holds cells t
      → Holds (do_all (execute_flat extents) ss cells) (do_all execute ss t)
  all_held [] t cells i l h = h
  all_held (s ∷ ss) t cells i l h =
      subst (λ now. Holds (do_all (execute_flat extents) ss now) (do_all execute ss (execute s t))) (sym (flat_step extents s cells))
      (all_held ss (execute s t) (execute_cells extents s cells) i.1 (length-set cells (place_of extents (written s)) (right_value s.identity.iters (look extents cells) s.body.right) ∙ l)
      (one_held s t cells i.0 l h))

  pub held : (list : List Element) (cells : List ℤ) → StaysInside extents list → length cells ≡ total extents → (c : Cell) → IsTrue (within_array extents c.array c.subs)
      → look extents (done_flat extents list cells) c ≡ done list (look extents cells) c
  held list cells i l = all_held (steps list) (look extents cells) cells i l (λ c j. refl)
