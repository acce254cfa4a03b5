-- The arguments of a command as numbers, once each parameter has a value and the nest is known.
use Rattle.std.specs.Prelude.{ℕ, ℤ, pos, Option, List, map, slice_index_or}
use Rattle.std.specs.List.{position}
use Rattle.std.specs.Str.{bytes_eq}
use Rattle.ch_nest.specs.LoopNest.{LoopNest}
use Rattle.ch_nest.specs.declared.nest.ArrayDecl.{ArrayDecl}
use Rattle.ch_script.specs.declared.recipe.Arg.{Arg}
use Rattle.ch_script.specs.declared.recipe.Arg.TheVariants.{Number, Param}

abbrev pub number : List ℤ → Arg → ℤ
number values (Number n) = n
number values (Param k) = slice_index_or values k (pos 0)

abbrev pub numbers : List ℤ → List Arg → List ℤ
numbers values = map (number values)

-- what the words of a command are read by: the arrays of the nest, and the values of the parameters
pub record Scope : Type 0 where
  pub arrays : List ArrayDecl
  pub values : List ℤ

abbrev pub scope : LoopNest → List ℤ → Scope
scope nest values = record { arrays = nest.arrays; values = values }

-- the number of the array of that name
abbrev pub array_of : List ArrayDecl → List ℕ → Option ℕ
array_of arrays name = position (λ a. bytes_eq a.name name) arrays
