-- Numbers between the bounds of a loop, and the bounds that the rows of a system give.
use Rattle.std.specs.Prelude.{◌≡◌, Bool, true, false, ℕ, suc, ◌<◌, ◌≤◌, ◌^◌, ℤ, pos, ◌≤ℤ◌, ◌*ℤ◌, neg_ℤ, unsigned_abs, IsTrue, List, [], ◌∷◌, ◌++◌, length, map, take, slice_index_or}
use Rattle.std.specs.List.{All, list_all}
use Rattle.std.specs.Int.{int_div_euclid}
use Rattle.ch_affine.specs.Affine.{form, value}
use Rattle.ch_affine.specs.Form.{Form}
use Rattle.ch_affine.specs.Rows.{IsBox, Rows, all_hold}
use Rattle.ch_affine.specs.declared.system.Range.{Range}
use Rattle.ch_code.specs.declared.code.Bound.{Bound}
use Rattle.ch_code.specs.WellFormed.{bound_fits, bounds_fit}
use Rattle.ch_space.specs.declared.piece.Piece.{Piece}
use Rattle.ch_timed.specs.Members.{Each, In}
use Rattle.ch_code.specs.Trace.{high_of, low_of}
use Rattle.ch_codegen.specs.Around.{IsLast, IsNarrow, Keeps, Ties}
use Rattle.ch_codegen.specs.Parts.{InRanges}

abbrev pub at_range : List Range → ℕ → Range
at_range boxes d = slice_index_or boxes d (record { low = pos 0; high = pos 0 })

-- the number is at least this low, at most this high
abbrev pub IsAbove : List ℤ → ℤ → Bound → Type 0
IsAbove xs x b = value b.form xs ≤ℤ (pos b.divisor *ℤ x)

abbrev pub IsBelow : List ℤ → ℤ → Bound → Type 0
IsBelow xs x b = (pos b.divisor *ℤ x) ≤ℤ value b.form xs

pub record IsBetween (lows highs : List Bound) (xs : List ℤ) (x : ℤ) : Type 0 where
  pub above : Each (IsAbove xs x) lows
  pub below : Each (IsBelow xs x) highs

-- the first coefficients and the constant
abbrev pub front : ℕ → Form → Form
front d f = form (take d f.coefs) f.constant

abbrev pub negated_front : ℕ → Form → Form
negated_front d f = form (map neg_ℤ (take d f.coefs)) (neg_ℤ f.constant)

-- a row as a low or a high of its last variable's loop
abbrev pub low_bound : ℕ → Form → ℕ → Bound
low_bound d f c = record { form = negated_front d f; divisor = c }

abbrev pub high_bound : ℕ → Form → ℕ → Bound
high_bound d f c = record { form = front d f; divisor = c }

-- the coefficient of its last variable fits in 32 bits
abbrev pub HasSmallEnd : Form → Type 0
HasSmallEnd f = (d : ℕ) → IsLast d f → unsigned_abs (slice_index_or f.coefs d (pos 0)) < 2 ^ 32

-- the bounds fit a loop inside d others
pub record AreFit (d : ℕ) (lows highs : List Bound) : Type 0 where
  pub low : IsTrue (bounds_fit d lows)
  pub high : IsTrue (bounds_fit d highs)

-- the row holds at this number
abbrev pub HoldsAt : List ℤ → ℤ → Form → Type 0
HoldsAt xs x f = pos 0 ≤ℤ value f (xs ++ x ∷ [])

-- the rows whose last variable is that of the number hold at it
abbrev pub LastHold : ℕ → List Form → List ℤ → ℤ → Type 0
LastHold d rows xs x = (f : Form) → In f rows → IsLast d f → HoldsAt xs x f

-- a number that meets a bound is at least a low, and at most a high
abbrev pub Meets : Bool → List ℤ → ℤ → Bound → Type 0
Meets true = IsAbove
Meets false = IsBelow

-- what meets the first bound meets the second
abbrev pub Implies : Bool → Bound → Bound → Type 0
Implies is_low b c = (xs : List ℤ) (x : ℤ) → Meets is_low xs x b → Meets is_low xs x c

-- what meets the bounds meets this one
abbrev pub IsSaid : Bool → List Bound → Bound → Type 0
IsSaid is_low bounds b = (xs : List ℤ) (x : ℤ) → Each (Meets is_low xs x) bounds → Meets is_low xs x b

-- at least the second number, or, for a high, at most
abbrev pub IsBeyond : Bool → ℤ → ℤ → Type 0
IsBeyond true y z = z ≤ℤ y
IsBeyond false y z = y ≤ℤ z

-- the end that a bound without variables gives
abbrev pub end_of : Bool → Bound → ℤ
end_of true b = neg_ℤ (int_div_euclid (neg_ℤ b.form.constant) (pos b.divisor))
end_of false b = int_div_euclid b.form.constant (pos b.divisor)

-- the same numbers meet another bound
pub record Replaces (is_low : Bool) (b c : Bound) : Type 0 where
  pub fit : (d : ℕ) → IsTrue (bound_fits d b) → IsTrue (bound_fits d c)
  pub from : Implies is_low c b
  pub to : Implies is_low b c

-- Some of the bounds, which the others follow from where a new one is met.
pub record Thins (is_low : Bool) (new : Bound) (bounds kept : List Bound) : Type 0 where
  pub fit : (d : ℕ) → IsTrue (list_all (bound_fits d) bounds) → IsTrue (list_all (bound_fits d) kept)
  pub from : (xs : List ℤ) (x : ℤ) → Meets is_low xs x new → Each (Meets is_low xs x) kept → Each (Meets is_low xs x) bounds
  pub to : (xs : List ℤ) (x : ℤ) → Each (Meets is_low xs x) bounds → Each (Meets is_low xs x) kept

-- What meets these bounds meets the old ones and the new one, and no other number.
pub record Adds (is_low : Bool) (bounds : List Bound) (new : Bound) (all : List Bound) : Type 0 where
  pub fit : (d : ℕ) → IsTrue (bounds_fit d bounds) → IsTrue (bound_fits d new) → IsTrue (bounds_fit d all)
  pub old : (xs : List ℤ) (x : ℤ) → Each (Meets is_low xs x) all → Each (Meets is_low xs x) bounds
  pub told : (xs : List ℤ) (x : ℤ) → Each (Meets is_low xs x) all → Meets is_low xs x new
  pub kept : (xs : List ℤ) (x : ℤ) → Each (Meets is_low xs x) bounds → Meets is_low xs x new → Each (Meets is_low xs x) all

-- New bounds by a row: between them lie the numbers between the old ones at which it holds.
pub record IsGrown (d : ℕ) (f : Form) (lows highs new_lows new_highs : List Bound) : Type 0 where
  pub fit : AreFit d new_lows new_highs
  pub kept : (xs : List ℤ) (x : ℤ) → length xs ≡ d → IsBetween lows highs xs x → HoldsAt xs x f → IsBetween new_lows new_highs xs x
  pub old : (xs : List ℤ) (x : ℤ) → IsBetween new_lows new_highs xs x → IsBetween lows highs xs x
  pub told : (xs : List ℤ) (x : ℤ) → length xs ≡ d → IsBetween new_lows new_highs xs x → HoldsAt xs x f

-- Between the bounds of a loop inside d others lie the numbers of its range at which the rows hold that it is the last variable of:
-- all of them, and where the values around lie in their ranges no others.
pub record AreBounds (d : ℕ) (rows : List Form) (boxes : List Range) (lows highs : List Bound) : Type 0 where
  pub fit : AreFit d lows highs
  pub range : (xs : List ℤ) (x : ℤ) → IsBetween lows highs xs x → ((at_range boxes d).low ≤ℤ x) × (x ≤ℤ (at_range boxes d).high)
  pub kept : (xs : List ℤ) (x : ℤ) → length xs ≡ d → (at_range boxes d).low ≤ℤ x → x ≤ℤ (at_range boxes d).high → LastHold d rows xs x → IsBetween lows highs xs x
  pub told : (xs : List ℤ) (x : ℤ) → length xs ≡ d → InRanges (take (suc d) boxes) (xs ++ x ∷ []) → IsBetween lows highs xs x → LastHold d rows xs x

-- all bounds are numbers: between them lie the numbers of this range
pub record AreFixed (lows highs : List Bound) (r : Range) : Type 0 where
  pub from : (xs : List ℤ) (x : ℤ) → IsBetween lows highs xs x → (r.low ≤ℤ x) × (x ≤ℤ r.high)
  pub to : (xs : List ℤ) (x : ℤ) → r.low ≤ℤ x → x ≤ℤ r.high → IsBetween lows highs xs x

-- the rows of a piece, and others that hold at each of its points
pub record AreRowsOf (p : Piece) (rows : List Form) : Type 0 where
  pub own : (f : Form) → In f p.system.rows → In f rows
  pub hold : (f : Form) (point : List ℤ) → In f rows → InRanges p.system.boxes point → all_hold p.system.rows point ≡ true → pos 0 ≤ℤ value f point

-- no variable is hidden, and each row can bound the loop of its last variable
pub record IsPlain (p : Piece) : Type 0 where
  pub none : p.hidden ≡ 0
  pub ends : All HasSmallEnd p.system.rows

abbrev pub HaveDivisors : List Bound → Type 0
HaveDivisors bounds = All (λ b. 1 ≤ b.divisor) bounds

-- its form has no variable
abbrev pub IsNumber : Bound → Type 0
IsNumber b = All (λ c. c ≡ pos 0) b.form.coefs

-- the numbers from this one on are those that are at least these lows
pub record IsFixedLow (lows : List Bound) (z : ℤ) : Type 0 where
  pub from : (xs : List ℤ) (x : ℤ) → Each (IsAbove xs x) lows → z ≤ℤ x
  pub to : (xs : List ℤ) (x : ℤ) → z ≤ℤ x → Each (IsAbove xs x) lows

-- the numbers up to this one are those that are at most these highs
pub record IsFixedHigh (highs : List Bound) (z : ℤ) : Type 0 where
  pub from : (xs : List ℤ) (x : ℤ) → Each (IsBelow xs x) highs → x ≤ℤ z
  pub to : (xs : List ℤ) (x : ℤ) → x ≤ℤ z → Each (IsBelow xs x) highs

-- bounds of the loop inside d others that keep the piece's instances and tell that its rows hold
pub record Binds (d : ℕ) (lows highs : List Bound) (p : Piece) : Type 0 where
  pub fit : AreFit d lows highs
  pub keeps : Keeps d p (low_of lows) (high_of highs)
  pub ties : Ties d p (low_of lows) (high_of highs)
  pub narrow : IsNarrow (low_of lows) (high_of highs)

-- numbers that do the same
pub record IsRangeOf (d : ℕ) (r : Range) (p : Piece) : Type 0 where
  pub fits : IsBox r
  pub keeps : Keeps d p (λ xs. r.low) (λ xs. r.high)
  pub ties : Ties d p (λ xs. r.low) (λ xs. r.high)

abbrev pub AreRanges : ℕ → List Piece → List Range → Type 0
AreRanges d [] [] = Unit {0}
AreRanges d [] (r ∷ rs) = ⊥
AreRanges d (p ∷ ps) [] = ⊥
AreRanges d (p ∷ ps) (r ∷ rs) = IsRangeOf d r p × AreRanges d ps rs

-- the row has a coefficient for each variable, and holds at each point of the system
pub record IsSound (s : Rows) (f : Form) : Type 0 where
  pub long : length f.coefs ≡ s.vars
  pub holds : (point : List ℤ) → InRanges s.boxes point → all_hold s.rows point ≡ true → pos 0 ≤ℤ value f point

abbrev pub AreSound : Rows → List Form → Type 0
AreSound s fs = Each (IsSound s) fs

-- the second list begins with the first
abbrev pub Extends : List Form → List Form → Type 0
Extends fs gs = (more : List Form) × (gs ≡ fs ++ more)
