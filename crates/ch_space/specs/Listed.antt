-- What contracts see of a space.
use Rattle.std.specs.Prelude.{ℕ, List}
use Rattle.ch_timed.specs.declared.element.Element.{Element}

pub record Listed : Type 0 where
  pub list : List Element
  pub arrays : ℕ
  pub temps : List (List ℕ)
  pub weight : ℕ
  pub commands : ℕ
