-- What an affine form is to a contract: a coefficient for each variable, and a constant.
use Rattle.std.specs.Prelude.{ℤ, List}

pub record Form : Type 0 where
  pub coefs : List ℤ
  pub constant : ℤ
