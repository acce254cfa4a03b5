-- Which accesses of which pieces are moved, and the cells that they use.
use Rattle.std.specs.Prelude.{◌≡◌, ◌≤◌, ◌+◌, ℕ, suc, ℤ, true, List, [], ◌∷◌, ◌++◌, length, map}
use Rattle.std.specs.List.{All, filter, flat_map}
use Rattle.ch_affine.specs.Form.{Form}
use Rattle.ch_copied.specs.Accesses.{read_accesses, written_accesses}
use Rattle.ch_datacopy.specs.declared.cells.Cells.{Cells}
use Rattle.ch_datacopy.specs.declared.uses.Way.{Way}
use Rattle.ch_datacopy.specs.declared.uses.Way.TheVariants.{Read, Written}
use Rattle.ch_datacopy.specs.Used.{AreNear, IsCellsOf}
use Rattle.ch_nest.specs.declared.nest.Access.{Access}
use Rattle.ch_nest.specs.declared.nest.Body.{Body}
use Rattle.ch_space.specs.Keeps.{IsWhole, places_of}
use Rattle.ch_space.specs.declared.piece.Piece.{Piece}
use Rattle.ch_timed.specs.Vectors.{shares}

-- an access of a piece
pub record Source : Type 0 where
  pub piece : Piece
  pub access : Access

abbrev pub forms : Access → List Form
forms a = map (λ s. s.form) a.subs

abbrev pub accesses_by : Way → ℕ → Body → List Access
accesses_by Read = read_accesses
accesses_by Written = written_accesses

abbrev pub from_piece : Piece → List Access → List Source
from_piece q accesses = map (λ a. record { piece = q; access = a }) accesses

-- those of the group, piece by piece
abbrev pub sources : Way → ℕ → List ℤ → ℕ → List Piece → List Source
sources way array ours around ps =
    flat_map (λ q. from_piece q (accesses_by way array q.body)) (filter (λ q. shares (suc around) ours (places_of q)) ps)

-- the cells of each
abbrev pub AreCellsOf : ℕ → List Source → List Cells → Type 0
AreCellsOf around [] [] = Unit {0}
AreCellsOf around [] (u ∷ us) = ⊥
AreCellsOf around (s ∷ ss) [] = ⊥
AreCellsOf around (s ∷ ss) (u ∷ us) = IsCellsOf s.piece around (forms s.access) u × AreCellsOf around ss us

-- the new list has these cells behind the old one
abbrev pub AddsCells : ℕ → List Source → List Cells → List Cells → Type 0
AddsCells around ss old new = (more : List Cells) × (new ≡ old ++ more) × AreCellsOf around ss more

-- what a space keeps of an access of one of its pieces, whose subscripts have no modulus
pub record IsReady (around : ℕ) (q : Piece) (a : Access) : Type 0 where
  pub whole : IsWhole q
  pub deep : around ≤ q.levels
  pub few : q.levels + q.hidden ≤ 1000
  pub iterators : length q.origin ≤ 10
  pub dimensions : length a.subs ≤ 4
  pub long : All (λ f. length f.coefs ≡ length q.origin) (forms a)
  pub near : AreNear q (forms a)

abbrev pub AreReady : ℕ → Way → ℕ → List ℤ → Piece → Type 0
AreReady around way array ours q =
    shares (suc around) ours (places_of q) ≡ true → All (IsReady around q) (accesses_by way array q.body)
