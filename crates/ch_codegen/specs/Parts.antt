-- What the code of some pieces executes inside the loops that they share.
use Rattle.std.specs.Prelude.{◌≡◌, ◌≢◌, ◌⊎◌, ℕ, suc, ◌<◌, ◌≤◌, ℤ, pos, ◌≤ℤ◌, List, [], ◌∷◌, ◌++◌, take, slice_index_or}
use Rattle.std.specs.Ordering.{int_cmp}
use Rattle.std.specs.Cmp.Lexicographic.{slice_cmp}
use Rattle.std.specs.declared.cmp.Ordering.TheVariants.{Less}
use Rattle.ch_affine.specs.declared.system.Range.{Range}
use Rattle.ch_affine.specs.Rows.{IsSystem}
use Rattle.ch_code.specs.Trace.{Traced, turns_listed}
use Rattle.ch_nest.specs.Run.{count}
use Rattle.ch_space.specs.declared.piece.Piece.{Piece}
use Rattle.ch_space.specs.Pieces.{element_at, instances}
use Rattle.ch_space.specs.Keeps.{places_of}
use Rattle.ch_timed.specs.declared.element.Element.{Element}
use Rattle.ch_timed.specs.Members.{Each, In}

-- the values lie in the ranges of the loops around, one in each
abbrev pub InRanges : List Range → List ℤ → Type 0
InRanges [] [] = Unit {0}
InRanges [] (x ∷ xs) = ⊥
InRanges (b ∷ bs) [] = ⊥
InRanges (b ∷ bs) (x ∷ xs) = (b.low ≤ℤ x) × (x ≤ℤ b.high) × InRanges bs xs

-- the element is one of these pieces', at level values that begin with xs
abbrev pub IsAmong : List Piece → List ℤ → Element → Type 0
IsAmong ps xs e = (p : Piece) × (In p ps × ((ys : List ℤ) × (In (xs ++ ys) (instances p) × (element_at p (xs ++ ys) ≡ e))))

-- the first element's vector comes before the other's
abbrev pub IsEarlier : Element → Element → Type 0
IsEarlier e d = slice_cmp int_cmp e.vector d.vector ≡ Less

-- each element comes before those behind it
abbrev pub Ascends : List Element → Type 0
Ascends [] = Unit {0}
Ascends (e ∷ es) = Each (IsEarlier e) es × Ascends es

-- At such values of the loops around, exactly such elements are executed, in the order of their vectors.
pub record Lists (Around : List ℤ → Type 0) (Among : List ℤ → Element → Type 0) (executed : Traced) : Type 0 where
  pub ascends : (xs : List ℤ) → Around xs → Ascends (executed xs)
  pub only : (xs : List ℤ) (e : Element) → Around xs → In e (executed xs) → Among xs e
  pub each : (xs : List ℤ) (e : Element) → Around xs → Among xs e → In e (executed xs)

-- an end of a loop, from the values of the loops around
abbrev pub End : Type 0
End = List ℤ → ℤ

-- a loop from low to high around what is executed
abbrev pub looped : End → End → Traced → Traced
looped low high executed xs = turns_listed (count (low xs) (high xs)) (low xs) (λ x. executed (xs ++ x ∷ []))

-- the element is one of these pieces', at level values that begin with xs and go on with a number from low to high
abbrev pub IsTurn : ℤ → ℤ → List Piece → List ℤ → Element → Type 0
IsTurn low high ps xs e =
    (p : Piece) × (In p ps × ((x : ℤ) × ((low ≤ℤ x) × ((x ≤ℤ high) × ((ys : List ℤ) × (In (xs ++ x ∷ ys) (instances p) × (element_at p (xs ++ x ∷ ys) ≡ e)))))))

-- The pieces are at least so deep, and share the places and the loops down to that depth.
pub record Together (depth : ℕ) (ps : List Piece) : Type 0 where
  pub deep : (p : Piece) → In p ps → depth ≤ p.levels
  pub same : (p q : Piece) → In p ps → In q ps → take depth p.places ≡ take depth q.places

abbrev pub AreSystems : List Piece → Type 0
AreSystems ps = Each (λ p. IsSystem p.system) ps

abbrev pub place : ℕ → Piece → ℕ
place depth p = slice_index_or p.places depth 0

abbrev pub range_at : ℕ → Piece → Range
range_at depth p = slice_index_or p.system.boxes depth (record { low = pos 0; high = pos 0 })

-- A run: one piece that ends at this depth, or pieces that share the next loop.
abbrev pub IsRun : ℕ → List Piece → Type 0
IsRun depth [] = ⊥
IsRun depth (p ∷ ps) = ((p.levels ≡ depth) × (ps ≡ [])) ⊎ Together (suc depth) (p ∷ ps)

-- the first of these pieces, if there is one, has another place at this depth
abbrev pub StopsAt : ℕ → ℕ → List Piece → Type 0
StopsAt depth here [] = Unit {0}
StopsAt depth here (q ∷ qs) = place depth q ≢ here

-- p ends at this depth and comes first, or its place there is less than that of q.
abbrev pub Precedes : ℕ → Piece → Piece → Type 0
Precedes depth p q = ((p.levels ≡ depth) × (slice_cmp int_cmp (places_of p) (places_of q) ≡ Less)) ⊎ (place depth p < place depth q)

abbrev pub AllPrecede : ℕ → List Piece → List Piece → Type 0
AllPrecede depth ps qs = (p q : Piece) → In p ps → In q qs → Precedes depth p q

-- the second range has all numbers of the first
abbrev pub Widens : Range → Range → Type 0
Widens r s = (s.low ≤ℤ r.low) × (r.high ≤ℤ s.high)

-- the range has the numbers of the piece's box at this depth
abbrev pub Covers : ℕ → Range → Piece → Type 0
Covers depth r p = Widens (range_at depth p) r

-- the range of one of these pieces at this depth begins there
abbrev pub BeginsSome : ℕ → ℤ → List Piece → Type 0
BeginsSome depth low ps = (p : Piece) × (In p ps × ((range_at depth p).low ≡ low))

abbrev pub EndsSome : ℕ → ℤ → List Piece → Type 0
EndsSome depth high ps = (p : Piece) × (In p ps × ((range_at depth p).high ≡ high))
