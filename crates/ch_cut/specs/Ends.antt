-- The least value of a level in a group of pieces.
use Rattle.std.specs.Prelude.{◌≡◌, ◌≤ℤ◌, ◌⊎◌, ℕ, ℤ, ◌*ℤ◌, true, List}
use Rattle.ch_moved.specs.Arguments.{at_level}
use Rattle.ch_space.specs.declared.piece.Piece.{Piece}
use Rattle.ch_space.specs.Keeps.{places_of}
use Rattle.ch_space.specs.Pieces.{instances}
use Rattle.ch_timed.specs.Members.{In}
use Rattle.ch_timed.specs.Vectors.{shares}

-- the product of the factor and a value of the level in the piece
pub record HasValue (p : Piece) (level : ℕ) (factor v : ℤ) : Type 0 where
  pub instance : List ℤ
  pub is_instance : In instance (instances p)
  pub is : factor *ℤ at_level level instance ≡ v

-- no such product is less
abbrev pub IsBelow : Piece → ℕ → ℤ → ℤ → Type 0
IsBelow p level factor v = (xs : List ℤ) → In xs (instances p) → v ≤ℤ (factor *ℤ at_level level xs)

-- the least of these products
pub record IsLeastIn (p : Piece) (level : ℕ) (factor v : ℤ) : Type 0 where
  pub has : HasValue p level factor v
  pub below : IsBelow p level factor v

-- the lesser of the number and the least of these products, if the piece shares the level with our places
pub record IsLesser (ours : List ℤ) (p : Piece) (level : ℕ) (factor least v : ℤ) : Type 0 where
  pub most : v ≤ℤ least
  pub below : shares level ours (places_of p) ≡ true → IsBelow p level factor v
  pub from : (v ≡ least) ⊎ ((shares level ours (places_of p) ≡ true) × HasValue p level factor v)

-- the product of the factor and a value of the level in some piece that shares the level with our places
pub record IsReached (ps : List Piece) (ours : List ℤ) (level : ℕ) (factor v : ℤ) : Type 0 where
  pub piece : Piece
  pub is_piece : In piece ps
  pub shared : shares level ours (places_of piece) ≡ true
  pub has : HasValue piece level factor v

-- no such product is less in these pieces
abbrev pub IsBelowAll : List Piece → List ℤ → ℕ → ℤ → ℤ → Type 0
IsBelowAll ps ours level factor v = (p : Piece) → In p ps → shares level ours (places_of p) ≡ true → IsBelow p level factor v

-- the least of these products in the group
pub record IsLeastOf (ps : List Piece) (ours : List ℤ) (level : ℕ) (factor v : ℤ) : Type 0 where
  pub reached : IsReached ps ours level factor v
  pub below : IsBelowAll ps ours level factor v
