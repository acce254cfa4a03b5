-- When a list may stand in the place of another one: the same steps are executed, each once, and no two that conflict are
-- executed the other way round.
use Rattle.std.specs.Prelude.{◌≡◌, Option, None, List, [], ◌∷◌, IsTrue, map}
use Rattle.ch_timed.specs.declared.element.Element.{Element}
use Rattle.ch_timed.specs.declared.element.Cell.{Cell}
use Rattle.ch_timed.specs.Conflict.{conflict}
use Rattle.ch_timed.specs.Members.{In}
use Rattle.ch_timed.specs.Order as order
use Rattle.ch_timed.specs.Timed.{Step, step, same_step, identities_differ}

-- the statement instances and their bodies, whatever their vectors are
abbrev pub steps : List Element → List Step
steps list = map step list

-- each step of the one list is a step of the other
abbrev pub AreAmong : List Element → List Element → Type 0
AreAmong list other = (s : Step) → In s (steps list) → In s (steps other)

-- which pairs of steps must keep their order, each with a cell that tells why
abbrev pub Conflict : Type 0
Conflict = Step → Step → Option Cell

pub record IsLegalBy (conflicts : Conflict) (old new : List Element) : Type 0 where
  -- no identity stands twice
  pub old_once : IsTrue (identities_differ old)
  pub new_once : IsTrue (identities_differ new)
  -- the steps are the same
  pub kept : AreAmong old new
  pub no_others : AreAmong new old
  -- no pair that must keep its order is the other way round
  pub in_turn : order.reversed same_step conflicts (steps old) (steps new) ≡ None

-- so it is where two steps that access one cell, one of them writing it, keep their order
abbrev pub IsLegal : List Element → List Element → Type 0
IsLegal = IsLegalBy conflict

-- each of the later lists may stand in the place of the one before it
abbrev pub IsChain : (List Element → List Element → Type 0) → List Element → List (List Element) → Type 0
IsChain MayStand first [] = Unit {0}
IsChain MayStand first (next ∷ later) = MayStand first next × IsChain MayStand next later

abbrev pub IsLegalChain : List Element → List (List Element) → Type 0
IsLegalChain = IsChain IsLegal

-- the last of the later lists, or the first list where there are none
abbrev pub last_list : List Element → List (List Element) → List Element
last_list first [] = first
last_list first (next ∷ later) = last_list next later
