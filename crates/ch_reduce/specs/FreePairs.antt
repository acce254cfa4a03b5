-- The pairs of pieces whose elements may change places.
use Rattle.std.specs.Prelude.{◌≡◌, ◌≤◌, ◌<◌, ℕ, suc, IsTrue, if◌then◌else◌, List, [], ◌∷◌, ◌++◌, length}
use Rattle.std.proofs.Common.{◌⊎◌}
use Rattle.ch_depends.specs.Free.{are_free}
use Rattle.ch_depends.specs.declared.answers.PiecePair.{PiecePair}
use Rattle.ch_nest.specs.declared.nest.Body.{Body}
use Rattle.ch_reduce.specs.Relaxed.{add_to_one, bodies_add_to_one}
use Rattle.ch_space.specs.Members.{members}
use Rattle.ch_timed.specs.declared.element.Element.{Element}
use Rattle.ch_timed.specs.Members.{Each, In}
use Rattle.ch_timed.specs.Timed.{pieces, step}

-- by the first piece, then by the second one
abbrev pub Precedes : PiecePair → PiecePair → Type 0
Precedes p q = (p.one < q.one) ⊎ ((p.one ≡ q.one) × (p.other < q.other))

-- each pair precedes those behind it
abbrev pub Ascends : List PiecePair → Type 0
Ascends [] = Unit {0}
Ascends (p ∷ ps) = Each (Precedes p) ps × Ascends ps

-- two pieces of the list, or one piece twice, whose elements all accumulate into one array
pub record IsFreePair (list : List Element) (p : PiecePair) : Type 0 where
  pub ordered : p.one ≤ p.other
  pub exists : p.other < length (pieces list)
  pub adds : (e f : Element) → In e (members list p.one) → In f (members list p.other)
      → IsTrue (add_to_one (step e) (step f))

-- elements are of a listed pair exactly where both accumulate and write one array
abbrev pub AreFreePairs : List Element → List PiecePair → Type 0
AreFreePairs list free = (e f : Element) → In e list → In f list
    → are_free list free e f ≡ add_to_one (step e) (step f)

-- The pairs by the pieces' bodies.

-- of piece i with those from j on, whose bodies are these
abbrev pub pairs_with : ℕ → Body → ℕ → List Body → List PiecePair
pairs_with i b j [] = []
pairs_with i b j (c ∷ cs) =
    if bodies_add_to_one b c then record { one = i; other = j } ∷ pairs_with i b (suc j) cs
    else pairs_with i b (suc j) cs

-- of each piece from i on with itself and those behind it
abbrev pub pairs_from : ℕ → List Body → List PiecePair
pairs_from i [] = []
pairs_from i (b ∷ bs) = pairs_with i b i (b ∷ bs) ++ pairs_from (suc i) bs
