-- Lists that leave the same in a program's arrays. What they leave in buffers, which are arrays behind
-- these, may differ.
use Rattle.std.specs.Prelude.{◌≡◌, ◌<◌, ℕ, List, ◌++◌, length}
use Rattle.ch_timed.specs.declared.element.Cell.{Cell}
use Rattle.ch_timed.specs.declared.element.Element.{Element}
use Rattle.ch_timed.specs.Do.{Store, done}
use Rattle.ch_timed.specs.Flat.{StaysInside}

-- each cell of the first so many arrays holds the same after both lists, from every store, whatever its
-- buffers hold
abbrev pub AgreeOn : ℕ → List Element → List Element → Type 0
AgreeOn arrays old new = (store : Store) (c : Cell) → c.array < arrays → done old store c ≡ done new store c

-- A list with its buffers may stand in the place of another list with its own: it leaves the same in the
-- arrays, and accesses no cell that isn't there where the other one doesn't.
pub record KeepsArrays (arrays : List (List ℕ)) (old : List Element) (old_buffers : List (List ℕ))
    (new : List Element) (new_buffers : List (List ℕ)) : Type 0 where
  pub agree : AgreeOn (length arrays) old new
  pub inside : StaysInside (arrays ++ old_buffers) old → StaysInside (arrays ++ new_buffers) new
