-- A loop nest as contracts see it: its arrays, and its items in text order.
use Rattle.std.specs.Prelude.{List}
use Rattle.ch_nest.specs.declared.nest.ArrayDecl.{ArrayDecl}
use Rattle.ch_nest.specs.declared.nest.Item.{Item}

pub record LoopNest : Type 0 where
  pub arrays : List ArrayDecl
  pub items : List Item
