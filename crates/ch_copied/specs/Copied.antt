-- Copying the cells of an array that a loop uses into a buffer around the loop: before each run of the loop the cells that it reads
-- are moved into the buffer, the loop works on the buffer, and behind it the cells that it wrote are moved back.
use Rattle.std.specs.Prelude.{ℕ, suc, ◌+◌, ◌-◌, ℤ, pos, ◌+ℤ◌, ◌*ℤ◌, if◌then◌else◌, List, [], ◌∷◌, ◌++◌, length, map, slice_index_or, take}
use Rattle.std.specs.Ordering.{int_eq}
use Rattle.ch_nest.specs.declared.nest.Body.{Body}
use Rattle.ch_timed.specs.declared.element.Element.{Element}
use Rattle.ch_timed.specs.declared.element.Label.TheVariants.{Move}
use Rattle.ch_timed.specs.Closed.{closed_up}
use Rattle.ch_timed.specs.Timed.{in_order}
use Rattle.ch_timed.specs.Vectors.{places, shares}
use Rattle.ch_copied.specs.Bodies.{in_body, out_body, redirected}
use Rattle.ch_copied.specs.Plans.{Plan, plan}
use Rattle.ch_copied.specs.Uses.{Transfer, Use, uses}

-- vectors

-- places and as many loop values in turn
abbrev pub paired : List ℤ → List ℤ → List ℤ
paired [] xs = []
paired (p ∷ ps) [] = []
paired (p ∷ ps) (x ∷ xs) = p ∷ x ∷ paired ps xs

-- each loop value with the place 0 behind it
abbrev pub alone : List ℤ → List ℤ
alone [] = []
alone (c ∷ cs) = c ∷ pos 0 ∷ alone cs

-- Behind these places, the next place of a vector is changed.
abbrev pub replaced : List ℤ → (ℤ → ℤ) → List ℤ → List ℤ
replaced front f [] = []
replaced [] f (p ∷ v) = f p ∷ v
replaced (q ∷ front) f (p ∷ []) = p ∷ []
replaced (q ∷ front) f (p ∷ x ∷ v) = p ∷ x ∷ (if int_eq p q then replaced front f v else v)

-- what this does to places
abbrev pub placed : (ℤ → ℤ) → List ℤ → List ℤ → List ℤ
placed f front [] = []
placed f [] (p ∷ ps) = f p ∷ ps
placed f (q ∷ front) (p ∷ ps) = p ∷ (if int_eq p q then placed f front ps else ps)

-- how many places the loop takes, with its moves
abbrev pub width : Plan → ℤ
width p = pos ((length p.ins + length p.outs) + 1)

-- the place of the loop
abbrev pub loop_place : Plan → ℤ
loop_place p = slice_index_or p.ours p.around (pos 0)

-- Each loop beside it gets room for as many; the loop stands behind the moves into the buffer.
abbrev pub new_place : Plan → ℤ → ℤ
new_place p q = q *ℤ width p +ℤ (if int_eq q (loop_place p) then pos (length p.ins) else pos 0)

-- elements

-- the element of the new list
abbrev pub kept : Plan → Element → Element
kept p e = record {
  identity = e.identity;
  vector = replaced (take p.around p.ours) (new_place p) e.vector;
  body = if shares (suc p.around) p.ours (places e.vector) then redirected p e.body else e.body;
}

-- the move of a cell
abbrev pub move : Plan → Body → ℕ → ℕ → Use → Element
move p body label place u = record {
  identity = record { label = Move label; iters = u.prefix ++ u.cell };
  vector = paired (take p.around p.ours) u.prefix ++ (loop_place p *ℤ width p +ℤ pos place) ∷ alone u.cell;
  body = body;
}

-- the moves of these accesses, one after another
abbrev pub moves : Plan → List Element → Body → ℕ → ℕ → List Transfer → List Element
moves p list body label place [] = []
moves p list body label place (t ∷ ts) =
    map (move p body label place) (uses list p.around t) ++ moves p list body (suc label) (suc place) ts

abbrev pub copy_ins : Plan → List Element → List Element
copy_ins p list = moves p list (in_body p) p.label 0 p.ins

abbrev pub copy_outs : Plan → List Element → List Element
copy_outs p list = moves p list (out_body p) (p.label + length p.ins) (length p.ins + 1) p.outs

-- the list in the order of its new vectors, closed up
abbrev pub copied : Plan → List Element → List Element
copied p list = closed_up (in_order (map (kept p) list ++ (copy_ins p list ++ copy_outs p list)))

-- The list after the cells of the array that the group of piece s and the level uses were copied to a buffer of that number.
abbrev pub datacopied : List Element → ℕ → ℕ → ℕ → ℕ → List Element
datacopied list s level array buffer = copied (plan list s (level - 1) array buffer) list

-- the extents of that buffer
abbrev pub buffer_extents : List Element → ℕ → ℕ → ℕ → ℕ → List ℕ
buffer_extents list s level array buffer = (plan list s (level - 1) array buffer).extents
