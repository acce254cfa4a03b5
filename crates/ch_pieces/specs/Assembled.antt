-- Candidate pieces made into the pieces of a space.
use Rattle.std.specs.Prelude.{◌≡◌, ℕ, Bool, true, false, List, [], ◌∷◌, length, map}
use Rattle.std.specs.List.{filter}
use Rattle.ch_pieces.specs.declared.candidate.Candidate.{Candidate}
use Rattle.ch_space.specs.declared.piece.Piece.{Piece}
use Rattle.ch_space.specs.Keeps.{places_of}
use Rattle.ch_space.specs.Pieces.{instances}
use Rattle.ch_space.specs.Renumbered.{AreRanks, all_placed, placed}
use Rattle.ch_timed.specs.Ordered.{ordered}

-- whether the list has an element
abbrev pub has_some : {X : Type 0} → List X → Bool
has_some [] = false
has_some (x ∷ xs) = true

-- whether the piece has an instance
abbrev pub has_instance : Piece → Bool
has_instance p = has_some (instances p)

-- the piece at the candidate's places
abbrev pub wide : Candidate → Piece
wide c = placed c.piece c.places

-- those of the candidates that have instances, in the order of their places
abbrev pub assembled : List Candidate → List Piece
assembled cs = ordered places_of (filter has_instance (map wide cs))

-- These are the assembled pieces with their places closed up, and how many instances each has.
pub record IsAssembled (cs : List Candidate) (pieces : List Piece) (counts : List ℕ) : Type 0 where
  pub ranks : List (List ℕ)
  pub are_ranks : AreRanks (map places_of (assembled cs)) (assembled cs) ranks
  pub is : pieces ≡ all_placed (assembled cs) ranks
  pub counted : counts ≡ map (λ p. length (instances p)) pieces
