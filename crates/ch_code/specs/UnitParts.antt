-- What contracts see of a unit: its code, and the arrays and the extents of the buffers that the code works on.
use Rattle.std.specs.Prelude.{ℕ, List}
use Rattle.ch_nest.specs.declared.nest.ArrayDecl.{ArrayDecl}
use Rattle.ch_code.specs.declared.code.Code.{Code}

pub record UnitParts : Type 0 where
  pub root : Code
  pub arrays : List ArrayDecl
  pub temps : List (List ℕ)

abbrev pub unit_of : Code → List ArrayDecl → List (List ℕ) → UnitParts
unit_of root arrays temps = record { root = root; arrays = arrays; temps = temps }
