-- What is known of the values of the loops around, and what the ends of a loop keep and tell.
use Rattle.std.specs.Prelude.{◌≡◌, ◌≢◌, ℕ, suc, ◌^◌, ℤ, pos, ◌≤ℤ◌, Bool, true, List, [], ◌∷◌, ◌++◌, length, take, drop, slice_index_or}
use Rattle.ch_affine.specs.Affine.{IsAtMost, value}
use Rattle.ch_affine.specs.Form.{Form}
use Rattle.ch_code.specs.declared.code.Code.{Code}
use Rattle.ch_code.specs.Trace.{trace}
use Rattle.ch_space.specs.declared.piece.Piece.{Piece}
use Rattle.ch_space.specs.Pieces.{instances}
use Rattle.ch_timed.specs.Members.{Each, In}
use Rattle.ch_codegen.specs.Parts.{End, InRanges, IsAmong, Lists}

-- the row has no variable from this number on
abbrev pub IsDone : ℕ → Form → Type 0
IsDone d f = Each (λ c. c ≡ pos 0) (drop d f.coefs)

-- its last variable is this one
abbrev pub IsLast : ℕ → Form → Type 0
IsLast d f = (slice_index_or f.coefs d (pos 0) ≢ pos 0) × IsDone (suc d) f

-- The values of the first levels lie in their ranges, and each row over these levels alone holds.
pub record Follows (d : ℕ) (p : Piece) (xs : List ℤ) : Type 0 where
  pub inside : InRanges (take d p.system.boxes) xs
  pub rows : (f : Form) → In f p.system.rows → IsDone d f → pos 0 ≤ℤ value f xs

-- values of so many loops, which follow the rows of these pieces where that is known
pub record IsAround (d : ℕ) (known : Bool) (ps : List Piece) (xs : List ℤ) : Type 0 where
  pub long : length xs ≡ d
  pub follows : known ≡ true → (p : Piece) → In p ps → Follows d p xs

-- at values of so many loops the code executes exactly the elements of these pieces, in the order of their vectors
abbrev pub Executes : ℕ → Bool → List Piece → Code → Type 0
Executes d known ps code = Lists (IsAround d known ps) (IsAmong ps) (trace code)

-- no instance of the piece has a value there outside the ends
pub record Keeps (d : ℕ) (p : Piece) (low high : End) : Type 0 where
  pub keeps : (xs ys : List ℤ) (x : ℤ) → length xs ≡ d → In (xs ++ x ∷ ys) (instances p) → (low xs ≤ℤ x) × (x ≤ℤ high xs)

-- a number between the ends follows the piece's rows where the values before it do
pub record Ties (d : ℕ) (p : Piece) (low high : End) : Type 0 where
  pub ties : (xs : List ℤ) (x : ℤ) → Follows d p xs → length xs ≡ d → low xs ≤ℤ x → x ≤ℤ high xs → Follows (suc d) p (xs ++ x ∷ [])

-- the numbers between the ends are small
pub record IsNarrow (low high : End) : Type 0 where
  pub small : (xs : List ℤ) (x : ℤ) → low xs ≤ℤ x → x ≤ℤ high xs → IsAtMost (2 ^ 54) x
