-- Arrays behind those that a list accesses change nothing.
use Rattle.std.proofs.Common.{◌≡◌, refl, sym, ap, ◌∙◌, ℕ, zero, suc, ◌<◌, ℤ, pos, List, [], ◌∷◌, ◌++◌, length, map, get_or, set, arith}
use Rattle.std.proofs.lemmas.List.{get_or_append_left, length-set, set-append_left}
use Rattle.std.specs.Bool.{IsTrue}
use Rattle.ch_nest.specs.declared.nest.Access.{Access}
use Rattle.ch_nest.specs.Arrays.{place_in, total, within_array}
use Rattle.ch_nest.specs.Run.{expr_value}
use Rattle.ch_nest.proofs.Distinct.{place_below}
use Rattle.ch_timed.proofs.Values.{Agree, flat_value, same_value}
use Rattle.ch_timed.specs.Conflict.{cell_of, reads, written}
use Rattle.ch_timed.specs.Order.{do_all}
use Rattle.ch_timed.specs.Flat.{AllInside, IsInside, StaysInside, done_flat, execute_flat, look, place_of}
use Rattle.ch_timed.specs.Members.{Each}
use Rattle.ch_timed.specs.Timed.{Step, step}
use Rattle.ch_timed.specs.declared.element.Cell.{Cell}
use Rattle.ch_timed.specs.declared.element.Element.{Element}

within_more : (extents more : List (List ℕ)) (k : ℕ) (subs : List ℤ) → IsTrue (within_array extents k subs) → IsTrue (within_array (extents ++ more) k subs)
within_more [] more k subs h = cc
within_more (es ∷ ess) more zero subs h = h
within_more (es ∷ ess) more (suc k) subs h = within_more ess more k subs h

place_in_more : (extents more : List (List ℕ)) (k : ℕ) (subs : List ℤ) → IsTrue (within_array extents k subs) → place_in (extents ++ more) k subs ≡ place_in extents k subs
place_in_more [] more k subs h = cc
place_in_more (es ∷ ess) more zero subs h = refl
place_in_more (es ∷ ess) more (suc k) subs h = let r = place_in_more ess more k subs h in omega (arith, r)

pub place_more : (extents more : List (List ℕ)) (c : Cell) → IsTrue (within_array extents c.array c.subs) → place_of (extents ++ more) c ≡ place_of extents c
place_more extents more c h = place_in_more extents more c.array c.subs h

all_more : (extents more : List (List ℕ)) (cells : List Cell) → AllInside extents cells → AllInside (extents ++ more) cells
all_more extents more [] h = tt
all_more extents more (c ∷ cs) h = (within_more extents more c.array c.subs h.0, all_more extents more cs h.1)

steps_more : (extents more : List (List ℕ)) (ss : List Step) → Each (IsInside extents) ss → Each (IsInside (extents ++ more)) ss
steps_more extents more [] h = tt
steps_more extents more (s ∷ ss) h = (
  record {
    writes = within_more extents more _ _ h.0.writes;
    reads = all_more extents more _ h.0.reads;
  },
  steps_more extents more ss h.1,
)

pub stays_more : (extents more : List (List ℕ)) (list : List Element) → StaysInside extents list → StaysInside (extents ++ more) list
stays_more extents more list h = steps_more extents more (map step list) h

-- cells behind those of the arrays stay as they are

agree_more : (extents more : List (List ℕ)) (iters cells rest : List ℤ) (accesses : List Access) → length cells ≡ total extents
    → AllInside extents (map (cell_of iters) accesses) → Agree iters (look (extents ++ more) (cells ++ rest)) (look extents cells) accesses
agree_more extents more iters cells rest [] l h = tt
agree_more extents more iters cells rest (a ∷ accesses) l h =
    let c : Cell = cell_of iters a in
    let below : place_of extents c < length cells = rw l (place_below extents c.array c.subs h.0) in (
      ap (λ k. get_or (cells ++ rest) k (pos 0)) (place_more extents more c h.0) ∙ get_or_append_left cells rest (pos 0) (place_of extents c) below,
      agree_more extents more iters cells rest accesses l h.1,
    )

step_more : (extents more : List (List ℕ)) (s : Step) (cells rest : List ℤ) → length cells ≡ total extents → IsInside extents s
    → execute_flat (extents ++ more) s (cells ++ rest) ≡ execute_flat extents s cells ++ rest
step_more extents more s cells rest l i =
    let k : ℕ = place_of extents (written s) in
    let below : k < length cells = rw l (place_below extents (written s).array (written s).subs i.writes) in
    let same : expr_value (extents ++ more) s.identity.iters (cells ++ rest) s.body.right ≡ expr_value extents s.identity.iters cells s.body.right =
    flat_value (extents ++ more) s.identity.iters (cells ++ rest) s.body.right
    ∙ same_value s.identity.iters (look (extents ++ more) (cells ++ rest)) (look extents cells) s.body.right
    (agree_more extents more s.identity.iters cells rest (reads s.body.right) l i.reads)
    ∙ sym (flat_value extents s.identity.iters cells s.body.right) in
    ap (λ k. set (cells ++ rest) k (expr_value (extents ++ more) s.identity.iters (cells ++ rest) s.body.right)) (place_more extents more (written s) i.writes)
    ∙ ap (set (cells ++ rest) k) same ∙ set-append_left cells rest k (expr_value extents s.identity.iters cells s.body.right) below

all_steps_more : (extents more : List (List ℕ)) (ss : List Step) (cells rest : List ℤ) → length cells ≡ total extents → Each (IsInside extents) ss
    → do_all (execute_flat (extents ++ more)) ss (cells ++ rest) ≡ do_all (execute_flat extents) ss cells ++ rest
all_steps_more extents more [] cells rest l i = refl
all_steps_more extents more (s ∷ ss) cells rest l i =
    ap (do_all (execute_flat (extents ++ more)) ss) (step_more extents more s cells rest l i.0)
    ∙ all_steps_more extents more ss (execute_flat extents s cells) rest
    (length-set cells (place_of extents (written s)) (expr_value extents s.identity.iters cells s.body.right) ∙ l) i.1

pub done_more : (extents more : List (List ℕ)) (list : List Element) (cells rest : List ℤ) → StaysInside extents list → length cells ≡ total extents
    → done_flat (extents ++ more) list (cells ++ rest) ≡ done_flat extents list cells ++ rest
done_more extents more list cells rest i l = all_steps_more extents more (map step list) cells rest l i

steps_length : (extents : List (List ℕ)) (ss : List Step) (cells : List ℤ) → length (do_all (execute_flat extents) ss cells) ≡ length cells
steps_length extents [] cells = refl
steps_length extents (s ∷ ss) cells =
    steps_length extents ss (execute_flat extents s cells)
    ∙ length-set cells (place_of extents (written s)) (expr_value extents s.identity.iters cells s.body.right)

pub done_length : (extents : List (List ℕ)) (list : List Element) (cells : List ℤ) → length (done_flat extents list cells) ≡ length cells
done_length extents list cells = steps_length extents (map step list) cells
