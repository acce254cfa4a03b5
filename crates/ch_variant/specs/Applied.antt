-- What a recipe makes of a program, command by command, or why it is refused.
use Rattle.std.specs.Prelude.{◌≡◌, ℕ, ◌+◌, ℤ, Bool, true, false, ◌||◌, if◌then◌else◌, Option, Some, None, Result, Ok, Err, List, [], ◌∷◌, length}
use Rattle.ch_nest.specs.LoopNest.{LoopNest}
use Rattle.ch_nest.specs.declared.cause.Shape.{Shape}
use Rattle.ch_reduce.specs.Relaxed.{relaxed_reversed}
use Rattle.ch_script.specs.declared.recipe.Command.{Command}
use Rattle.ch_script.specs.declared.refusal.Refusal.{Refusal}
use Rattle.ch_script.specs.declared.refusal.Refusal.TheVariants as refusal
use Rattle.ch_space.specs.Listed.{Listed}
use Rattle.ch_space.specs.declared.error.ShapeError.{ShapeError}
use Rattle.ch_space.specs.declared.error.ShapeError.TheVariants as shape
use Rattle.ch_timed.specs.Conflict.{reversed}
use Rattle.ch_timed.specs.Order.{Pair}
use Rattle.ch_timed.specs.Start.{start}
use Rattle.ch_timed.specs.Timed.{Step}
use Rattle.ch_timed.specs.declared.element.Cell.{Cell}
use Rattle.ch_timed.specs.declared.element.Element.{Element}
use Rattle.ch_variant.specs.Arguments.{Scope, scope}
use Rattle.ch_variant.specs.Commands.{cause, changed, copies, frees_sums, next}
use Rattle.ch_variant.specs.declared.error.ApplyError.{ApplyError}
use Rattle.ch_variant.specs.declared.error.ApplyError.TheVariants.{Refused, Memory}

-- The first cause counts, then the least pair that the command reverses; without either there is a next program.
abbrev pub decided : ℕ → Option Shape → Option (Pair Step Cell) → Listed → Result Listed Refusal
decided step (Some c) pair p = Err (refusal.Shape step c)
decided step None (Some pair) p = Err (refusal.Illegal step pair.first.identity pair.second.identity pair.cell)
decided step None None p = Ok p

-- The least pair of conflicting steps that the new list has the other way round. Where sums may be made in any order, it is the least
-- pair in free conflict.
abbrev pub turned : Bool → List Element → List Element → Option (Pair Step Cell)
turned false old new = reversed old new
turned true old new = relaxed_reversed old new

-- The least pair that a command reverses. A copy reverses none: it is no other order, and keeps the meaning by what it is.
abbrev pub reversal : Scope → Bool → Command → Listed → Option (Pair Step Cell)
reversal here sums c p = if copies c then None else turned sums p.list (changed here c p)

-- one command, which has this number in the recipe; sums may be made in any order, or not
abbrev pub one : Scope → Bool → ℕ → Command → Listed → Result Listed Refusal
one here sums step c p =
    if frees_sums c then Ok p else decided step (cause here c p) (reversal here sums c p) (next here c p)

abbrev pub and_then : Result Listed Refusal → (Listed → Result Listed Refusal) → Result Listed Refusal
and_then (Ok p) more = more p
and_then (Err refused) more = Err refused

-- The commands one after another, the first of which has this number. Sums may be made in any order behind the first `accumulate`.
abbrev pub from_step : Scope → Bool → ℕ → List Command → Listed → Result Listed Refusal
from_step here sums step [] p = Ok p
from_step here sums step (c ∷ cs) p =
    and_then (one here sums step c p) (from_step here (sums || frees_sums c) (step + 1) cs)

-- the nest itself, before any command
abbrev pub plain : LoopNest → Listed
plain nest = record { list = start nest; arrays = length nest.arrays; temps = []; weight = 1; commands = 0 }

-- what the commands make of the nest, at these values of the parameters; steps count from 1
abbrev pub applied : LoopNest → List Command → List ℤ → Result Listed Refusal
applied nest commands values = from_step (scope nest values) false 1 commands (plain nest)

-- a call answers this, unless memory runs out
abbrev pub IsAnswer : {X : Type 0} → Result X ApplyError → Result X Refusal → Type 0
IsAnswer (Ok x) answer = answer ≡ Ok x
IsAnswer (Err (Refused refused)) answer = answer ≡ Err refused
IsAnswer (Err Memory) answer = Unit {0}

-- what a command's refusal by the shape of the program is at that step
abbrev pub forbidden_at : ℕ → ShapeError → ApplyError
forbidden_at step (shape.Shape cause) = Refused (refusal.Shape step cause)
forbidden_at step shape.Memory = Memory
