-- Which pairs of a list that must keep their order a second list has the other way round, and which of them is the least.
use Rattle.std.specs.Prelude.{◌≡◌, Bool, true, false, IsTrue, Some, List}
use Rattle.ch_order.specs.Legal.{Conflict}
use Rattle.ch_reduce.specs.Relaxed.{free_conflict}
use Rattle.ch_timed.specs.Conflict.{conflict}
use Rattle.ch_timed.specs.Members.{In}
use Rattle.ch_timed.specs.Timed.{step}
use Rattle.ch_timed.specs.Vectors.{comes_before}
use Rattle.ch_timed.specs.declared.element.Cell.{Cell}
use Rattle.ch_timed.specs.declared.element.Element.{Element}

-- Which pairs must keep their order: those that conflict, or where sums may be made in any order those in free conflict.
abbrev pub must_keep : Bool → Conflict
must_keep false = conflict
must_keep true = free_conflict

-- a comes before b in the old list, they must keep their order for the cell c, and in the new list b's step comes before a's
pub record IsTurned (conflicts : Conflict) (old new : List Element) (a b : Element) (c : Cell) : Type 0 where
  pub first : In a old
  pub second : In b old
  pub before : IsTrue (comes_before a.vector b.vector)
  pub conflicting : conflicts (step a) (step b) ≡ Some c
  -- where the two steps stand in the new list
  pub first_now : Element
  pub second_now : Element
  pub first_there : In first_now new
  pub second_there : In second_now new
  pub same_first : step first_now ≡ step a
  pub same_second : step second_now ≡ step b
  pub turned : IsTrue (comes_before second_now.vector first_now.vector)

-- no such pair has an earlier first element, and none has this first element and an earlier second one
pub record IsLeastTurned (conflicts : Conflict) (old new : List Element) (a b : Element) (c : Cell) : Type 0 where
  pub is : IsTurned conflicts old new a b c
  pub no_first : (e f : Element) (d : Cell) → IsTurned conflicts old new e f d → IsTrue (comes_before e.vector a.vector) → ⊥
  pub no_second : (f : Element) (d : Cell) → IsTurned conflicts old new a f d → IsTrue (comes_before f.vector b.vector) → ⊥
