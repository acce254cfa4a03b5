-- What the functions of this crate say among themselves of the candidates that a cut loop leaves.
use Rattle.std.specs.Prelude.{◌≡◌, ◌≢◌, ℕ, ◌+◌, ◌-◌, ◌<◌, ◌≤◌, ℤ, pos, ◌+ℤ◌, ◌*ℤ◌, Bool, if◌then◌else◌, None, List, [], ◌∷◌, ◌++◌, length, map, take, slice_index_or, slice_set}
use Rattle.ch_affine.specs.Form.{Form}
use Rattle.ch_cut.specs.Cut.{behind}
use Rattle.ch_cut.specs.Forms.{failing}
use Rattle.ch_moved.specs.Arguments.{beside}
use Rattle.ch_moved.specs.Reindexed.{IsReindexed}
use Rattle.ch_moved.specs.Spread.{widened}
use Rattle.ch_pieces.specs.declared.candidate.Candidate.{Candidate}
use Rattle.ch_pieces.specs.Assembled.{wide}
use Rattle.ch_pieces.specs.Candidates.{IsKnown}
use Rattle.ch_space.specs.Built.{units}
use Rattle.ch_space.specs.declared.piece.Piece.{Piece}
use Rattle.ch_space.specs.Keeps.{IsLimited, IsWhole, most_commands, most_weight, places_of}
use Rattle.ch_space.specs.Pieces.{element_at, instances}
use Rattle.ch_timed.specs.declared.element.Element.{Element}
use Rattle.ch_timed.specs.Closed.{at_vector}
use Rattle.ch_timed.specs.Members.{In, Pairwise}
use Rattle.ch_timed.specs.Vectors.{places, shares, values, woven}

-- the place before the level doubled, and the number more
abbrev pub doubled : ℕ → ℤ → List ℤ → List ℤ
doubled level more ps =
    slice_set ps (level - 1) (slice_index_or ps (level - 1) (pos 0) *ℤ pos 2 +ℤ more)

-- the places beside the loop of that level around our piece doubled, and one more where the condition fails
abbrev pub cut_places : ℕ → List ℤ → Bool → List ℤ → List ℤ
cut_places level ours holds ps = if beside level ours ps then doubled level (behind holds) ps else ps

-- the loop of that level around our piece cut
abbrev pub cut_element : ℕ → List ℤ → (List ℤ → Bool) → Element → Element
cut_element level ours holds e =
    if beside level ours (places e.vector) then
    at_vector e
    (woven
    (doubled level (if shares level ours (places e.vector) then behind (holds (values e.vector)) else pos 0)
    (places e.vector))
    (values e.vector))
    else e

-- The candidate is at these places, and has the instances of the piece at which the row is at least 0.
pub record IsHalf (p : Piece) (row : Form) (ps : List ℤ) (c : Candidate) : Type 0 where
  pub piece : IsReindexed p (units 0 p.levels) (take p.levels p.system.boxes)
      (widened (p.levels - length row.coefs) row ∷ []) p.places c.piece
  pub places : map pos c.places ≡ ps
  pub count : c.count ≡ None

-- the instances at which the form is at least 0, and behind them the others
pub record AreHalves (level : ℕ) (f : Form) (p : Piece) (cs : List Candidate) : Type 0 where
  pub first : Candidate
  pub second : Candidate
  pub are : cs ≡ first ∷ second ∷ []
  pub is_first : IsHalf p f (doubled level (pos 0) (places_of p)) first
  pub is_second : IsHalf p (failing f) (doubled level (pos 1) (places_of p)) second

-- The candidate has some of the elements of the piece.
pub record IsPart (level : ℕ) (ours : List ℤ) (holds : List ℤ → Bool) (p : Piece) (c : Candidate) : Type 0 where
  pub whole : IsWhole (wide c)
  pub known : IsKnown c
  pub label : c.piece.label ≡ p.label
  pub body : c.piece.body ≡ p.body
  pub iterators : length c.piece.origin ≡ length p.origin
  pub limited : (weight commands : ℕ) → 1 ≤ weight → weight ≤ most_weight → commands < most_commands → IsLimited weight commands p
      → IsLimited weight (commands + 1) (wide c)
  pub side : Bool
  pub places : places_of (wide c) ≡ cut_places level ours side (places_of p)
  pub from : (xs : List ℤ) → In xs (instances c.piece) → In xs (instances p)
  pub element : (xs : List ℤ) → In xs (instances c.piece)
      → cut_element level ours holds (element_at p xs) ≡ element_at (wide c) xs

-- The candidates have the elements of the piece.
pub record AreParts (level : ℕ) (ours : List ℤ) (holds : List ℤ → Bool) (p : Piece) (cs : List Candidate) : Type 0 where
  pub few : length cs ≤ 2
  pub each : (c : Candidate) → In c cs → IsPart level ours holds p c
  pub all : (xs : List ℤ) → In xs (instances p) → (c : Candidate) × In c cs × In xs (instances c.piece)
  pub differ : Pairwise (λ c d. places_of (wide c) ≢ places_of (wide d)) cs

-- the candidates of the first piece, then those of the others
pub record Begins (level : ℕ) (ours : List ℤ) (holds : List ℤ → Bool) (p : Piece) (rest : List Candidate → Type 0)
    (cs : List Candidate) : Type 0 where
  pub here : List Candidate
  pub others : List Candidate
  pub are : cs ≡ here ++ others
  pub are_here : AreParts level ours holds p here
  pub are_others : rest others

-- the candidates have the elements of the pieces
abbrev pub AllParts : ℕ → List ℤ → (List ℤ → Bool) → List Piece → List Candidate → Type 0
AllParts level ours holds [] cs = cs ≡ []
AllParts level ours holds (p ∷ ps) cs = Begins level ours holds p (AllParts level ours holds ps) cs
