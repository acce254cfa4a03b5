-- What is added at the end of a text.
use Rattle.std.specs.Prelude.{◌≡◌, ℕ, List, ◌++◌}

-- a text of which P holds was added
pub record Adds (P : List ℕ → Type 0) (old new : List ℕ) : Type 0 where
  pub text : List ℕ
  pub fits : P text
  pub added : new ≡ old ++ text
