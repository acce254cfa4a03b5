-- Items below the loops of a well formed nest, at a point of these loops' boxes.
use Rattle.std.specs.Prelude.{ℤ, IsTrue, List}
use Rattle.std.specs.List.{All}
use Rattle.ch_affine.specs.Rows.{lies_in}
use Rattle.ch_affine.specs.declared.system.Range.{Range}
use Rattle.ch_nest.specs.declared.nest.ArrayDecl.{ArrayDecl}
use Rattle.ch_nest.specs.declared.nest.Item.{Item}
use Rattle.ch_nest.specs.Shape.{item_fits, items_fit, IsSmall}

pub record AreAt (arrays : List ArrayDecl) (items : List Item) (point : List ℤ) : Type 0 where
  pub boxes : List Range
  pub small : All IsSmall boxes
  pub inside : IsTrue (lies_in boxes point)
  pub fit : IsTrue (items_fit arrays items boxes)

pub record IsAt (arrays : List ArrayDecl) (item : Item) (point : List ℤ) : Type 0 where
  pub boxes : List Range
  pub small : All IsSmall boxes
  pub inside : IsTrue (lies_in boxes point)
  pub fit : IsTrue (item_fits arrays item boxes)
