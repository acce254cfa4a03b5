-- Variants of a nest: what they were made from, and what the type of a variant keeps.
use Rattle.std.specs.Prelude.{◌≡◌, ℕ, Option, Some, None, Result, Ok, Err, IsTrue, List, []}
use Rattle.ch_code.specs.Trace.{unit_trace}
use Rattle.ch_code.specs.UnitParts.{UnitParts}
use Rattle.ch_grid.specs.declared.param.Param.{Param}
use Rattle.ch_nest.specs.LoopNest.{LoopNest}
use Rattle.ch_nest.specs.Sound.{is_sound}
use Rattle.ch_script.specs.Recipes.{RecipeParts}
use Rattle.ch_script.specs.declared.refusal.Refusal.{Refusal}
use Rattle.ch_session.specs.Making.{Making, Origin}
use Rattle.ch_space.specs.Listed.{Listed}
use Rattle.ch_timed.specs.Timed.{is_well_formed}
use Rattle.ch_timed.specs.declared.element.Element.{Element}
use Rattle.ch_variant.specs.Applied.{applied, plain}
use Rattle.ch_variant.specs.Meaning.{KeepsNest}
use Rattle.ch_variant.specs.Points.{used_values}
use Rattle.ch_variant.specs.declared.error.ApplyError.{ApplyError}
use Rattle.ch_variant.specs.declared.error.ApplyError.TheVariants.{Refused, Memory}

-- this recipe at this point of the grid
abbrev pub origin_at : RecipeParts → List Param → List ℕ → Origin
origin_at recipe grid point = record { recipe = recipe; grid = grid; point = point }

-- what a recipe makes of a nest there: at the values of the nearest point that meets the conditions of the recipe
abbrev pub applied_at : LoopNest → Origin → Result Listed Refusal
applied_at nest o = applied nest o.recipe.commands (used_values o.recipe o.grid o.point)

-- the nest itself has no point
abbrev pub point_of : Option Origin → List ℕ
point_of None = []
point_of (Some o) = o.point

abbrev pub made_of : LoopNest → Option Origin → Result Listed Refusal
made_of nest None = Ok (plain nest)
made_of nest (Some o) = applied_at nest o

abbrev pub program_of : Making → Result Listed Refusal
program_of m = made_of m.nest m.origin

-- the program that was made has this list and these buffers
abbrev pub HasList : Result Listed Refusal → List Element → List (List ℕ) → Type 0
HasList (Ok p) list buffers = (p.list ≡ list) × (p.temps ≡ buffers)
HasList (Err refused) list buffers = ⊥

-- a variant as contracts see it: what it was made from, and its code
pub record VariantParts : Type 0 where
  pub making : Making
  pub unit : UnitParts

-- The nest can be run. The code works on the nest's arrays and the program's buffers, and executes the program's list, which leaves
-- in the arrays what the nest leaves there.
pub record IsVariant (v : VariantParts) : Type 0 where
  pub sound : IsTrue (is_sound v.making.nest)
  pub arrays : v.unit.arrays ≡ v.making.nest.arrays
  pub program : HasList (program_of v.making) (unit_trace v.unit) v.unit.temps
  pub well_formed : IsTrue (is_well_formed (unit_trace v.unit))
  pub keeps : KeepsNest v.making.nest (unit_trace v.unit) v.unit.temps

-- A build answers the refusal exactly where there is one, unless memory runs out.
abbrev pub Refuses : {X : Type 0} → Result X ApplyError → Result Listed Refusal → Type 0
Refuses (Ok x) (Ok p) = Unit {0}
Refuses (Ok x) (Err refused) = ⊥
Refuses (Err (Refused refused)) answer = answer ≡ Err refused
Refuses (Err Memory) answer = Unit {0}
