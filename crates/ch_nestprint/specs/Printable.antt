-- What is known of the parts of every program that was parsed, besides that its nest is well formed.
use Rattle.std.specs.Prelude.{◌≡◌, ℕ, IsTrue, List, length}
use Rattle.std.specs.List.{list_all}
use Rattle.ch_nest.specs.declared.nest.ArrayDecl.{ArrayDecl}
use Rattle.ch_nest.specs.declared.nest.Fill.{Fill}
use Rattle.ch_nestparse.specs.Distinct.{are_distinct}
use Rattle.ch_nestparse.specs.Spelling.{is_fill, is_name, is_named}

-- The program and its arrays have names of the language, those of the arrays differ from one another, and there is one fill
-- for each array, of numbers of the language.
pub record IsPrintable (name : List ℕ) (arrays : List ArrayDecl) (fills : List Fill) : Type 0 where
  pub called : IsTrue (is_name name)
  pub named : IsTrue (list_all is_named arrays)
  pub differ : IsTrue (are_distinct arrays)
  pub each : length fills ≡ length arrays
  pub filled : IsTrue (list_all is_fill fills)
