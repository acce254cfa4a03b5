-- Pieces at other places.
use Rattle.std.specs.Prelude.{◌≡◌, ℤ, pos, Bool, if◌then◌else◌, Some, List, [], ◌∷◌, length, map}
use Rattle.ch_pieces.specs.declared.candidate.Candidate.{Candidate}
use Rattle.ch_space.specs.declared.piece.Piece.{Piece}
use Rattle.ch_space.specs.Keeps.{places_of}
use Rattle.ch_space.specs.Pieces.{instances}
use Rattle.ch_timed.specs.declared.element.Element.{Element}
use Rattle.ch_timed.specs.Closed.{at_vector}
use Rattle.ch_timed.specs.Vectors.{places, values, woven}

-- other places where the test holds of the old ones
abbrev pub replaced : (List ℤ → Bool) → (List ℤ → List ℤ) → List ℤ → List ℤ
replaced inside f ps = if inside ps then f ps else ps

-- the element at these places
abbrev pub relocated : (List ℤ → Bool) → (List ℤ → List ℤ) → Element → Element
relocated inside f e =
    if inside (places e.vector) then at_vector e (woven (f (places e.vector)) (values e.vector)) else e

-- The candidate is the piece at the new places, with the number of its instances.
pub record IsPlaced (new : List ℤ) (p : Piece) (c : Candidate) : Type 0 where
  pub piece : c.piece ≡ p
  pub places : map pos c.places ≡ new
  pub count : c.count ≡ Some (length (instances p))

-- each candidate is the piece of the same number at its new places
abbrev pub ArePlaced : (List ℤ → List ℤ) → List Piece → List Candidate → Type 0
ArePlaced new [] [] = Unit {0}
ArePlaced new [] (c ∷ cs) = ⊥
ArePlaced new (p ∷ ps) [] = ⊥
ArePlaced new (p ∷ ps) (c ∷ cs) = IsPlaced (new (places_of p)) p c × ArePlaced new ps cs
