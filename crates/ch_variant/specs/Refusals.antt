-- What a refusal for a reversed pair says of the program before the refused command and after it.
use Rattle.std.specs.Prelude.{◌≡◌, ℕ, ◌+◌, ℤ, Bool, false, None, Result, Ok, Err, List, ◌∷◌, ◌++◌, length}
use Rattle.std.specs.List.{list_any}
use Rattle.ch_nest.specs.LoopNest.{LoopNest}
use Rattle.ch_script.specs.declared.recipe.Command.{Command}
use Rattle.ch_script.specs.declared.refusal.Refusal.TheVariants.{Illegal, Shape}
use Rattle.ch_space.specs.Listed.{Listed}
use Rattle.ch_timed.specs.declared.element.Cell.{Cell}
use Rattle.ch_timed.specs.declared.element.Element.{Element}
use Rattle.ch_timed.specs.declared.element.Identity.{Identity}
use Rattle.ch_variant.specs.Applied.{applied}
use Rattle.ch_variant.specs.Arguments.{Scope, scope}
use Rattle.ch_variant.specs.Commands.{cause, changed, copies, frees_sums}
use Rattle.ch_variant.specs.LeastPairs.{IsLeastTurned, must_keep}
use Rattle.ch_variant.specs.declared.error.ApplyError.{ApplyError}
use Rattle.ch_variant.specs.declared.error.ApplyError.TheVariants.{Refused, Memory}

-- A command that gives another order has the pair of these identities, which must keep its order for this cell, the other way round, and no
-- lesser pair; the shape of the program forbids nothing.
pub record IsLeastPair (here : Scope) (sums : Bool) (c : Command) (p : Listed) (first second : Identity) (cell : Cell) : Type 0 where
  pub orders : copies c ≡ false
  pub shape : cause here c p ≡ None
  pub before : Element
  pub behind : Element
  pub first_is : first ≡ before.identity
  pub second_is : second ≡ behind.identity
  pub least : IsLeastTurned (must_keep sums) p.list (changed here c p) before behind cell

-- of what a call answers to one command
abbrev pub StepIsLeast : Scope → Bool → ℕ → Command → Listed → ApplyError → Type 0
StepIsLeast here sums step c p Memory = Unit {0}
StepIsLeast here sums step c p (Refused (Shape k forbidden)) = Unit {0}
StepIsLeast here sums step c p (Refused (Illegal k first second cell)) =
    (k ≡ step) × IsLeastPair here sums c p first second cell

-- It is the command of this number that does so, to what the commands before it make of the nest. Sums may be made in any order where one
-- of these is `accumulate`.
pub record IsIllegal (nest : LoopNest) (commands : List Command) (values : List ℤ) (step : ℕ) (first second : Identity) (cell : Cell) : Type 0 where
  pub earlier : List Command
  pub command : Command
  pub later : List Command
  pub stands : commands ≡ earlier ++ command ∷ later
  pub number : step ≡ length earlier + 1
  pub program : Listed
  pub reached : applied nest earlier values ≡ Ok program
  pub pair : IsLeastPair (scope nest values) (list_any frees_sums earlier) command program first second cell

-- of a call's answer
abbrev pub PairIsLeast : LoopNest → List Command → List ℤ → {X : Type 0} → Result X ApplyError → Type 0
PairIsLeast nest commands values (Ok x) = Unit {0}
PairIsLeast nest commands values (Err Memory) = Unit {0}
PairIsLeast nest commands values (Err (Refused (Shape step c))) = Unit {0}
PairIsLeast nest commands values (Err (Refused (Illegal step first second cell))) =
    IsIllegal nest commands values step first second cell
