-- What is told of a recipe at values of its parameters: its refusal, or what a measure tells of the program that it makes.
use Rattle.std.specs.Prelude.{ℤ, Result, Ok, Err, List, length}
use Rattle.ch_nest.specs.LoopNest.{LoopNest}
use Rattle.ch_script.specs.declared.recipe.Command.{Command}
use Rattle.ch_script.specs.declared.refusal.Refusal.{Refusal}
use Rattle.ch_space.specs.Listed.{Listed}
use Rattle.ch_timed.specs.Timed.{pieces}
use Rattle.ch_variant.specs.Applied.{applied}
use Rattle.ch_variant.specs.declared.judging.Judgement.{Judgement}

abbrev pub measured : {X : Type 0} → (Listed → X) → Result Listed Refusal → Result X Refusal
measured measure (Ok p) = Ok (measure p)
measured measure (Err refused) = Err refused

abbrev pub judged : {X : Type 0} → (Listed → X) → LoopNest → List Command → List ℤ → Result X Refusal
judged measure nest commands values = measured measure (applied nest commands values)

-- how many pieces and statement instances a program has
abbrev pub sizes_of : Listed → Judgement
sizes_of p = record { pieces = length (pieces p.list); instances = length p.list }
