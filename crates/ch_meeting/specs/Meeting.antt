-- Pairs of elements of two pieces that access one cell, and pairs that other pieces have the other way round.
use Rattle.std.specs.Prelude.{◌≡◌, ◌+◌, ◌≤◌, ◌^◌, ℕ, suc, ℤ, if◌then◌else◌, Option, Some, None, List, ◌∷◌, ◌++◌, length, map, take, drop, IsTrue}
use Rattle.std.specs.List.{All}
use Rattle.std.specs.Ordering.{int_eq}
use Rattle.ch_affine.specs.Affine.{IsAtMost, value}
use Rattle.ch_meeting.specs.declared.question.FourPieces.{FourPieces}
use Rattle.ch_meeting.specs.declared.question.TwoAccesses.{TwoAccesses}
use Rattle.ch_nest.specs.declared.nest.Access.{Access}
use Rattle.ch_space.specs.declared.piece.Piece.{Piece}
use Rattle.ch_space.specs.Following.{UpTo}
use Rattle.ch_space.specs.Keeps.{IsWhole, IsWrapped, most_commands, most_levels, most_variables, places_of}
use Rattle.ch_space.specs.Pieces.{elements, instances}
use Rattle.ch_timed.specs.Conflict.{cell_of}
use Rattle.ch_timed.specs.Members.{In}
use Rattle.ch_timed.specs.Vectors.{comes_before, woven}

-- What a space keeps of each of its pieces.
pub record IsPlain (p : Piece) : Type 0 where
  pub whole : IsWhole p
  pub variables : p.levels + p.hidden ≤ most_variables most_commands
  pub iterators : length p.origin ≤ most_levels
  pub near : All (λ e. All (IsAtMost (2 ^ 54)) e.identity.iters) (elements p)

-- What a space keeps of each access of a piece's body.
pub record IsAccessOf (p : Piece) (a : Access) : Type 0 where
  pub few : length a.subs ≤ 4
  pub forms : All (λ s. length s.form.coefs ≡ length p.origin) a.subs
  pub wrapped : All (λ e. All (IsWrapped e.identity.iters) a.subs) (elements p)

-- the iterators of a piece's element at these values of the levels
abbrev pub iters_at : Piece → List ℤ → List ℤ
iters_at p xs = map (λ f. value f xs) p.origin

-- its vector
abbrev pub vector_at : Piece → List ℤ → List ℤ
vector_at p xs = woven (places_of p) xs

-- the element of p at xs comes before that of q at ys
abbrev pub ComesBefore : Piece → List ℤ → Piece → List ℤ → Type 0
ComesBefore p xs q ys = IsTrue (comes_before (vector_at p xs) (vector_at q ys))

-- They are instances of the two pieces, the first comes before the second, and the two accesses name one cell there.
pub record IsMeeting (p q : Piece) (a b : Access) (xs ys : List ℤ) : Type 0 where
  pub first : In xs (instances p)
  pub second : In ys (instances q)
  pub earlier : ComesBefore p xs q ys
  pub cell : cell_of (iters_at p xs) a ≡ cell_of (iters_at q ys) b

-- Elements of two other pieces have the same iterators, and there the second comes before the first.
pub record IsTurned (p q r s : Piece) (xs ys : List ℤ) : Type 0 where
  pub first : List ℤ
  pub second : List ℤ
  pub is_first : In first (instances r)
  pub is_second : In second (instances s)
  pub same_first : iters_at r first ≡ iters_at p xs
  pub same_second : iters_at s second ≡ iters_at q ys
  pub turned : ComesBefore s second r first

abbrev pub IsReversal : Piece → Piece → Piece → Piece → Access → Access → List ℤ → List ℤ → Type 0
IsReversal p q r s a b xs ys = IsMeeting p q a b xs ys × IsTurned p q r s xs ys

-- The point has the values of n levels and then those of the second piece's; it is the least pair with a property. None where no
-- pair has it.
abbrev pub IsLeastPair : ℕ → (List ℤ → List ℤ → Type 0) → Option (List ℤ) → Type 0
IsLeastPair n P None = (xs ys : List ℤ) → P xs ys → ⊥
IsLeastPair n P (Some point) =
    P (take n point) (drop n point) × ((xs ys : List ℤ) → P xs ys → UpTo point (xs ++ ys))

-- The level, from k on, of the loop value at which two vectors first differ; 0 where they first differ at a place.
abbrev pub differing_level : ℕ → List ℤ → List ℤ → ℕ
differing_level k (p ∷ x ∷ v) (q ∷ y ∷ w) =
    if int_eq p q then (if int_eq x y then differing_level (suc k) v w else k) else 0
differing_level k v w = 0

-- Some pair meets, and its vectors first differ at that level.
pub record MeetsAt (p q : Piece) (a b : Access) (level : ℕ) : Type 0 where
  pub first : List ℤ
  pub second : List ℤ
  pub meeting : IsMeeting p q a b first second
  pub differs : differing_level 1 (vector_at p first) (vector_at q second) ≡ level

-- Some elements of both pieces have the same iterators.
pub record HaveCommon (p q : Piece) : Type 0 where
  pub first : List ℤ
  pub second : List ℤ
  pub is_first : In first (instances p)
  pub is_second : In second (instances q)
  pub same : iters_at p first ≡ iters_at q second

-- What is asked of four pieces and two accesses.

-- what a space keeps of all four
pub record ArePlain (w : FourPieces) : Type 0 where
  pub first : IsPlain w.first.now
  pub second : IsPlain w.second.now
  pub new_first : IsPlain w.new_first.now
  pub new_second : IsPlain w.new_second.now

-- what it keeps of an access of the first piece's body and one of the second's
pub record AreAccessesOf (p q : Piece) (c : TwoAccesses) : Type 0 where
  pub first : IsAccessOf p c.first.now
  pub second : IsAccessOf q c.second.now

-- both name one array with equally many subscripts
pub record AreAlike (c : TwoAccesses) : Type 0 where
  pub array : c.first.now.array ≡ c.second.now.array
  pub subscripts : length c.first.now.subs ≡ length c.second.now.subs

-- the new pieces have as many iterators as the others
pub record AreComparable (w : FourPieces) : Type 0 where
  pub first : length w.new_first.now.origin ≡ length w.first.now.origin
  pub second : length w.new_second.now.origin ≡ length w.second.now.origin

abbrev pub IsReversalOf : FourPieces → TwoAccesses → List ℤ → List ℤ → Type 0
IsReversalOf w c = IsReversal w.first.now w.second.now w.new_first.now w.new_second.now
    c.first.now c.second.now
