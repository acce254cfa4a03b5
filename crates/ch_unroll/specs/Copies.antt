-- The candidates that a piece becomes: copies for each remainder, or the piece as it was.
use Rattle.std.specs.Prelude.{◌≡◌, ◌≤◌, ◌<◌, ◌^◌, ◌*◌, ◌-◌, ℕ, suc, ℤ, Bool, true, false, Some, None, List, [], ◌∷◌, ◌++◌, length, slice_index_or, take}
use Rattle.ch_moved.specs.Room.{HasRoom}
use Rattle.ch_moved.specs.Reindexed.{IsReindexed}
use Rattle.ch_pieces.specs.declared.candidate.Candidate.{Candidate}
use Rattle.ch_space.specs.Keeps.{IsWhole, places_of}
use Rattle.ch_space.specs.Pieces.{instances}
use Rattle.ch_space.specs.declared.piece.Piece.{Piece}
use Rattle.ch_timed.specs.Vectors.{shares}
use Rattle.ch_unroll.specs.declared.layout.Layout.{Layout}
use Rattle.ch_unroll.specs.Turns.{offset_places, turn_boxes, turn_forms}

-- the piece as it was
pub record IsCopy (p : Piece) (c : Candidate) : Type 0 where
  pub piece : c.piece ≡ p
  pub places : c.places ≡ p.places
  pub count : c.count ≡ Some (length (instances p))

-- the turns of the piece that leave the remainder, behind those that leave a lesser one
pub record IsTurn (u : Layout) (p : Piece) (remainder : ℕ) (c : Candidate) : Type 0 where
  pub piece : IsReindexed p (turn_forms p.levels (u.level - 1) u.amount remainder)
      (turn_boxes (u.level - 1) u.amount (take p.levels p.system.boxes)) [] p.places c.piece
  pub places : c.places ≡ offset_places u.behind (remainder * u.width) p.places
  pub count : c.count ≡ None

-- the turns of the remainders from this one on
abbrev pub AreTurns : Layout → Piece → ℕ → List Candidate → Type 0
AreTurns u p remainder [] = Unit {0}
AreTurns u p remainder (c ∷ cs) = IsTurn u p remainder c × AreTurns u p (suc remainder) cs

pub record AreAllTurns (u : Layout) (p : Piece) (cs : List Candidate) : Type 0 where
  pub many : length cs ≡ u.amount
  pub are : AreTurns u p 0 cs

pub record IsOneCopy (p : Piece) (cs : List Candidate) : Type 0 where
  pub one : Candidate
  pub is : cs ≡ one ∷ []
  pub copy : IsCopy p one

-- copies for all remainders where it is unrolled, and else the piece as it was
abbrev pub Becomes : Bool → Layout → Piece → List Candidate → Type 0
Becomes true u p = AreAllTurns u p
Becomes false u p = IsOneCopy p

-- Some candidates with the fact stand behind the others.
pub record PushesOn (P : List Candidate → Type 0) (old new : List Candidate) : Type 0 where
  pub more : List Candidate
  pub behind : new ≡ old ++ more
  pub are : P more

-- Candidates with the one fact stand before those with the other.
pub record StandBefore (P Q : List Candidate → Type 0) (cs : List Candidate) : Type 0 where
  pub first : List Candidate
  pub rest : List Candidate
  pub is : cs ≡ first ++ rest
  pub are : P first
  pub rest_are : Q rest

-- what becomes of all pieces, those that share the level with our places being unrolled
abbrev pub AllBecome : Layout → List ℤ → List Piece → List Candidate → Type 0
AllBecome u ours [] cs = cs ≡ []
AllBecome u ours (p ∷ ps) cs =
    StandBefore (Becomes (shares u.level ours (places_of p)) u p) (AllBecome u ours ps) cs

-- The piece may be unrolled so: it has the levels, and its place is one of those that a copy takes.
pub record IsPlaced (u : Layout) (p : Piece) : Type 0 where
  pub whole : IsWhole p
  pub level : 1 ≤ u.level
  pub deeper : u.level ≤ u.behind
  pub behind : u.behind ≤ p.levels
  pub room : HasRoom u.amount p
  pub some : 1 ≤ u.amount
  pub few : u.amount ≤ 32
  pub near : u.width ≤ 2 ^ 32
  pub place : slice_index_or p.places u.behind 0 < u.width

-- it may be unrolled if it shares the level with our places
abbrev pub ArePlaced : Layout → List ℤ → Piece → Type 0
ArePlaced u ours p = shares u.level ours (places_of p) ≡ true → IsPlaced u p
