-- What is told of dependences: the least reversed pair, and which pieces depend on one another at which level.
use Rattle.std.specs.Prelude.{◌≡◌, ◌≢◌, ℤ, pos, Option, Some, None, List, [], ◌∷◌, IsTrue}
use Rattle.ch_depends.specs.declared.answers.Level.{Level}
use Rattle.ch_depends.specs.declared.answers.Pair.{Pair}
use Rattle.ch_meeting.specs.Meeting.{differing_level}
use Rattle.ch_timed.specs.Conflict.{conflict}
use Rattle.ch_timed.specs.declared.element.Cell.{Cell}
use Rattle.ch_timed.specs.declared.element.Element.{Element}
use Rattle.ch_timed.specs.Groups.{piece}
use Rattle.ch_timed.specs.Members.{Each, In}
use Rattle.ch_timed.specs.Order as order
use Rattle.ch_timed.specs.Timed.{Step, step}
use Rattle.ch_timed.specs.Vectors.{comes_before, places}

-- the identities of both steps, and the cell
abbrev pub pair_of : Option (order.Pair Step Cell) → Option Pair
pair_of None = None
pair_of (Some p) =
    Some (record { first = p.first.identity; second = p.second.identity; cell = p.cell })

-- the two pieces and the level
abbrev pub numbers : Level → List ℤ
numbers t = pos t.from ∷ pos t.to ∷ pos t.level ∷ []

-- by the first piece, then by the second one, then by the level
abbrev pub Precedes : Level → Level → Type 0
Precedes t u = IsTrue (comes_before (numbers t) (numbers u))

-- each triple precedes those behind it
abbrev pub Ascends : List Level → Type 0
Ascends [] = Unit {0}
Ascends (t ∷ ts) = Each (Precedes t) ts × Ascends ts

-- An element of the first piece and a later one of the second conflict, and their vectors first differ at that level.
pub record IsDependence (list : List Element) (t : Level) : Type 0 where
  pub first : Element
  pub second : Element
  pub first_in : In first list
  pub second_in : In second list
  pub earlier : IsTrue (comes_before first.vector second.vector)
  pub conflicting : conflict (step first) (step second) ≢ None
  pub from : piece list t.from ≡ places first.vector
  pub to : piece list t.to ≡ places second.vector
  pub level : differing_level 1 first.vector second.vector ≡ t.level
