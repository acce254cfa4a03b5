-- The least instance whose vector comes after a given one, and the least element of several pieces.
use Rattle.std.specs.Prelude.{◌≡◌, ◌<ℤ◌, ◌≤ℤ◌, ℤ, Bool, true, false, IsTrue, Option, Some, None, List, [], ◌∷◌}
use Rattle.std.proofs.Common.{◌⊎◌}
use Rattle.std.specs.Int.{int_max, int_min}
use Rattle.std.specs.Ordering.{int_cmp}
use Rattle.std.specs.declared.cmp.Ordering.TheVariants.{Less}
use Rattle.std.specs.Cmp.Lexicographic.{slice_cmp}
use Rattle.ch_affine.specs.Rows.{Rows, system}
use Rattle.ch_affine.specs.declared.system.Range.{Range}
use Rattle.ch_timed.specs.Members.{In}
use Rattle.ch_timed.specs.Vectors.{comes_before, woven}
use Rattle.ch_timed.specs.declared.element.Element.{Element}

-- it is the other or comes before it
abbrev pub UpTo : List ℤ → List ℤ → Type 0
UpTo xs ys = (xs ≡ ys) ⊎ (slice_cmp int_cmp xs ys ≡ Less)

-- the least of some lists that have a property; None where none has it
abbrev pub IsLeast : (List ℤ → Type 0) → List (List ℤ) → Option (List ℤ) → Type 0
IsLeast P xss None = (xs : List ℤ) → In xs xss → P xs → ⊥
IsLeast P xss (Some m) = In m xss × P m × ((xs : List ℤ) → In xs xss → P xs → UpTo m xs)

-- the values begin with these, and those behind them have a property
abbrev pub BeginsWith : List ℤ → (List ℤ → Type 0) → List ℤ → Type 0
BeginsWith [] P xs = P xs
BeginsWith (f ∷ fixed) P [] = ⊥
BeginsWith (f ∷ fixed) P (x ∷ xs) = (x ≡ f) × BeginsWith fixed P xs

abbrev pub IsAny : List ℤ → Type 0
IsAny xs = Unit {0}

-- the first value is greater
abbrev pub IsAbove : ℤ → List ℤ → Type 0
IsAbove value [] = ⊥
IsAbove value (x ∷ xs) = value <ℤ x

-- with these places the values make a vector that comes after the given one
abbrev pub ComesAfter : List ℤ → List ℤ → List ℤ → Type 0
ComesAfter places vector xs = IsTrue (comes_before vector (woven places xs))

-- the first values are in these ranges
abbrev pub BeginsIn : List Range → List ℤ → Type 0
BeginsIn [] xs = Unit {0}
BeginsIn (r ∷ front) [] = ⊥
BeginsIn (r ∷ front) (x ∷ xs) = (r.low ≤ℤ x) × (x ≤ℤ r.high) × BeginsIn front xs

abbrev pub single : ℤ → Range
single x = record { low = x; high = x }

-- the numbers of both ranges
abbrev pub shared : Range → Range → Range
shared a b = record { low = int_max a.low b.low; high = int_min a.high b.high }

-- the ranges, as many as are in front each with that one
abbrev pub narrowed : List Range → List Range → List Range
narrowed [] front = []
narrowed (b ∷ boxes) [] = b ∷ boxes
narrowed (b ∷ boxes) (f ∷ front) = shared b f ∷ narrowed boxes front

abbrev pub with_boxes : Rows → List Range → Rows
with_boxes s boxes = system s.vars s.rows boxes

-- some range has no number
abbrev pub HasEmpty : List Range → Type 0
HasEmpty [] = ⊥
HasEmpty (b ∷ boxes) = (b.high <ℤ b.low) ⊎ HasEmpty boxes

-- the least element, by its vector, of those that come after a vector
abbrev pub IsNext : List ℤ → List Element → Option Element → Type 0
IsNext vector es None = (e : Element) → In e es → IsTrue (comes_before vector e.vector) → ⊥
IsNext vector es (Some m) =
    In m es × IsTrue (comes_before vector m.vector)
    × ((e : Element) → In e es → IsTrue (comes_before vector e.vector) → UpTo m.vector e.vector)

abbrev pub second_if : Bool → Element → Element → Element
second_if true a b = b
second_if false a b = a

-- the one with the lesser vector
abbrev pub earlier : Option Element → Option Element → Option Element
earlier None b = b
earlier (Some a) None = Some a
earlier (Some a) (Some b) = Some (second_if (comes_before b.vector a.vector) a b)
