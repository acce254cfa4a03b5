-- The ways in which the values of one vector can be, against those of a second that it comes before.
use Rattle.std.specs.Prelude.{◌≡◌, ◌≤◌, ◌<◌, ◌+◌, ◌<ℤ◌, ℕ, ℤ, true, false, nat_lt, if◌then◌else◌, IsTrue, List, [], ◌∷◌, map}
use Rattle.ch_meeting.specs.declared.orders.Order.{Order}
use Rattle.ch_poly.specs.Boxes.{at}
use Rattle.ch_timed.specs.Members.{In}

-- The first values are the same, and where the order says so, the next one of the first is less.
pub record InOrder (o : Order) (xs ys : List ℤ) : Type 0 where
  pub same : (k : ℕ) → k < o.equal → at xs k ≡ at ys k
  pub less : IsTrue o.less → at xs o.equal <ℤ at ys o.equal

-- vectors with so many values each have the values that the order compares
pub record IsWithin (n m : ℕ) (o : Order) : Type 0 where
  pub first : o.equal ≤ n
  pub second : o.equal ≤ m
  pub next_first : IsTrue o.less → o.equal < n
  pub next_second : IsTrue o.less → o.equal < m

-- some member has the property
abbrev pub OneOf : {X : Type 0} → (X → Type 0) → List X → Type 0
OneOf {X} P xs = (x : X) × (In x xs × P x)

-- the order of any two lists of values: a place decides
abbrev pub always : Order
always = record { equal = 0; less = false }

-- the order of lists of which the first begins with the lesser value
abbrev pub at_once : Order
at_once = record { equal = 0; less = true }

-- the order of values that have so many equal ones in front of them
abbrev pub behind : ℕ → Order → Order
behind n o = record { equal = o.equal + n; less = o.less }

-- the orders where both vectors begin with the same place, from those of what follows the first value
abbrev pub from_values : List ℕ → List ℕ → List Order → List Order
from_values ps [] later = []
from_values [] (q ∷ qs) later = always ∷ []
from_values (p ∷ ps) (q ∷ qs) later = at_once ∷ map (behind 1) later

-- the orders of the values where the vector of the first places comes before that of the second
abbrev pub orders_of : List ℕ → List ℕ → List Order
orders_of [] qs = []
orders_of (p ∷ ps) [] = []
orders_of (p ∷ ps) (q ∷ qs) =
    if nat_lt p q then always ∷ []
    else (if nat_lt q p then [] else from_values ps qs (orders_of ps qs))
