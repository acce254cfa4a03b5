-- Candidates for the pieces that a command leaves.
use Rattle.std.specs.Prelude.{◌≡◌, ◌≢◌, ℕ, ℤ, Bool, true, not, ◌&&◌, ◌||◌, IfSome, List, length, map}
use Rattle.std.specs.List.{All, filter, flat_map}
use Rattle.ch_pieces.specs.declared.candidate.Candidate.{Candidate}
use Rattle.ch_pieces.specs.Assembled.{has_instance, wide}
use Rattle.ch_space.specs.declared.piece.Piece.{Piece}
use Rattle.ch_space.specs.Keeps.{IsLimited, IsWhole, places_of}
use Rattle.ch_space.specs.Pieces.{elements, instances}
use Rattle.ch_timed.specs.declared.element.Element.{Element}
use Rattle.ch_timed.specs.Members.{In, Pairwise}
use Rattle.ch_timed.specs.Timed.{step}
use Rattle.ch_timed.specs.Vectors.{begins_with, same_numbers}

-- the count of the candidate's instances, where it has one
abbrev pub IsKnown : Candidate → Type 0
IsKnown c = IfSome c.count (λ n. n ≡ length (instances c.piece))

-- the places are the same, or neither are the front of the others
abbrev pub stand_apart : List ℤ → List ℤ → Bool
stand_apart ps qs = same_numbers ps qs || (not (begins_with ps qs) && not (begins_with qs ps))

-- The piece executes a statement of the list: it has the label, the body and the number of iterators of some element.
pub record ExecutesOne (list : List Element) (q : Piece) : Type 0 where
  pub element : Element
  pub is_element : In element list
  pub label : q.label ≡ element.identity.label
  pub body : q.body ≡ element.body
  pub iterators : length q.origin ≡ length element.identity.iters

-- The candidates have the elements of the list, moved, and keep to the limits.
pub record AreCandidates (change : Element → Element) (list : List Element) (weight commands : ℕ) (cs : List Candidate)
    : Type 0 where
  -- the change gives other vectors alone
  pub steps : (e : Element) → step (change e) ≡ step e
  pub whole : All (λ c. IsWhole (wide c)) cs
  pub known : All IsKnown cs
  -- those with instances stand at different places, and no places are the front of others
  pub differ : Pairwise (λ q r. places_of q ≢ places_of r) (filter has_instance (map wide cs))
  pub apart : (q r : Piece) → In q (map wide cs) → In r (map wide cs) → stand_apart (places_of q) (places_of r) ≡ true
  pub executes : (q : Piece) → In q (map wide cs) → ExecutesOne list q
  -- each element goes to one of theirs, and each of theirs comes from one
  pub forth : (e : Element) → In e list → In (change e) (flat_map elements (map wide cs))
  pub back : (f : Element) → In f (flat_map elements (map wide cs)) → (e : Element) × In e list × (change e ≡ f)
  pub limited : All (λ c. IsLimited weight commands (wide c)) cs

-- some change of vectors gives them
pub record AreSomeCandidates (list : List Element) (weight commands : ℕ) (cs : List Candidate) : Type 0 where
  pub change : Element → Element
  pub are : AreCandidates change list weight commands cs
