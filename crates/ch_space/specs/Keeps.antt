-- What the type of a space keeps.
use Rattle.std.specs.Prelude.{◌≡◌, ◌≢◌, ℕ, ℤ, pos, ◌+◌, ◌*◌, ◌<◌, ◌≤◌, ◌^◌, Bool, true, ◌&&◌, nat_lt, IsTrue, List, [], ◌∷◌, ◌++◌, length, map, take}
use Rattle.std.specs.List.{All, flat_map, sum}
use Rattle.std.specs.Ordering.{int_cmp}
use Rattle.std.specs.declared.cmp.Ordering.TheVariants.{Less}
use Rattle.std.specs.Cmp.Lexicographic.{slice_cmp}
use Rattle.ch_affine.specs.Affine.{IsAtMost, value}
use Rattle.ch_affine.specs.Form.{Form}
use Rattle.ch_affine.specs.declared.system.Range.{Range}
use Rattle.ch_nest.specs.declared.nest.Access.{Access}
use Rattle.ch_nest.specs.declared.nest.Body.{Body}
use Rattle.ch_nest.specs.declared.nest.Expr.{Expr}
use Rattle.ch_nest.specs.declared.nest.Expr.TheOpen.{Expr-F}
use Rattle.ch_nest.specs.declared.nest.Expr.TheFolds.{fold-Expr}
use Rattle.ch_nest.specs.declared.nest.Sub.{Sub}
use Rattle.ch_space.specs.declared.piece.Piece.{Piece}
use Rattle.ch_space.specs.Pieces.{instances, listed}
use Rattle.ch_timed.specs.Conflict.{reads}
use Rattle.ch_timed.specs.declared.element.Label.{Label}
use Rattle.ch_timed.specs.declared.element.Label.TheVariants.{Stmt, Move}
use Rattle.ch_timed.specs.Members.{In}
use Rattle.ch_timed.specs.Timed.{is_well_formed}

abbrev pub most_instances : ℕ
most_instances = 2097152

abbrev pub most_arrays : ℕ
most_arrays = 262144

abbrev pub most_pieces : ℕ
most_pieces = 256

abbrev pub most_levels : ℕ
most_levels = 10

abbrev pub most_commands : ℕ
most_commands = 32

abbrev pub most_weight : ℕ
most_weight = 2 ^ 20

-- The most variables of a piece's system after so many commands. A nest has at most 6 levels, and a hidden value for each of them
-- that a loop steps through; a command adds at most one level and the values of the levels before it, or, for a move, those of the
-- iterators and a level for each dimension of the array.
abbrev pub most_variables : ℕ → ℕ
most_variables commands = 12 + 16 * commands

-- The greatest magnitude of a level's value. The iterators of a nest have magnitude at most 2^30; a command moves a value by at
-- most 2^20, or multiplies it by no more than it multiplies the weight.
abbrev pub farthest : ℕ → ℕ → ℕ
farthest weight commands = weight * (2 ^ 30 + commands * 2 ^ 20)

-- A piece has one place more than levels, its system the levels and the hidden values with a range for each, and its origin gives
-- iterators from the levels.
pub record IsWhole (p : Piece) : Type 0 where
  pub places : length p.places ≡ p.levels + 1
  pub variables : p.system.vars ≡ p.levels + p.hidden
  pub boxes : length p.system.boxes ≡ p.levels + p.hidden
  pub origin : All (λ f. length f.coefs ≡ p.levels) p.origin

abbrev pub places_of : Piece → List ℤ
places_of p = map pos p.places

-- the places come before those of each of these pieces
abbrev pub AllLater : List ℤ → List Piece → Type 0
AllLater places [] = Unit {0}
AllLater places (q ∷ qs) = (slice_cmp int_cmp places (places_of q) ≡ Less) × AllLater places qs

-- The places ascend, and each piece has an instance: so piece k of the list is the k-th.
abbrev pub AreApart : List Piece → Type 0
AreApart [] = Unit {0}
AreApart (p ∷ ps) = IsWhole p × (instances p ≢ []) × AllLater (places_of p) ps × AreApart ps

-- the accesses of a body: the reads from left to right, then the write
abbrev pub accesses : Body → List Access
accesses b = reads b.right ++ b.write ∷ []

abbrev pub iters_below_step : ℕ → Expr-F Bool → Bool
iters_below_step n (Expr-F.Number m) = true
iters_below_step n (Expr-F.Iter k) = nat_lt k n
iters_below_step n (Expr-F.Read a) = true
iters_below_step n (Expr-F.Neg x) = x
iters_below_step n (Expr-F.Add x y) = x && y
iters_below_step n (Expr-F.Sub x y) = x && y
iters_below_step n (Expr-F.Mul x y) = x && y

-- each iterator of a right side is one of the first n
abbrev pub iters_below : ℕ → Expr → Bool
iters_below n = fold-Expr Bool (iters_below_step n)

-- An access names an array that is declared or a buffer, by 1 to 4 subscripts over so many iterators, which have no modulus where
-- the array is declared.
pub record IsAccess (arrays temps iters : ℕ) (a : Access) : Type 0 where
  pub array : a.array < arrays + temps
  pub some : 1 ≤ length a.subs
  pub few : length a.subs ≤ 4
  pub forms : All (λ s. length s.form.coefs ≡ iters) a.subs
  pub plain : a.array < arrays → All (λ s. s.modulus ≡ 0) a.subs

pub record IsBody (arrays temps iters : ℕ) (b : Body) : Type 0 where
  pub iterators : IsTrue (iters_below iters b.right)
  pub accesses : All (IsAccess arrays temps iters) (accesses b)

-- both ends have at most that magnitude
pub record IsBounded (most : ℕ) (b : Range) : Type 0 where
  pub low : IsAtMost most b.low
  pub high : IsAtMost most b.high

-- The form of an iterator over the levels: its numbers grow as those of the levels' values do.
pub record IsNarrow (weight commands : ℕ) (f : Form) : Type 0 where
  pub coefs : All (IsAtMost weight) f.coefs
  pub constant : IsAtMost (farthest weight commands) f.constant

-- How large a piece may be after so many commands that made this weight. The iterators of a statement are the levels of its nest,
-- those of a move the levels that it was made with.
pub record IsLimited (weight commands : ℕ) (p : Piece) : Type 0 where
  pub levels : p.levels ≤ most_levels
  pub iterators : length p.origin ≤ most_levels
  pub variables : p.levels + p.hidden ≤ most_variables commands
  pub boxes : All (IsBounded (farthest weight commands)) (take p.levels p.system.boxes)
  pub origin : All (IsNarrow weight commands) p.origin

-- the form of a subscript with a modulus has a value of magnitude at most 2^54
abbrev pub IsWrapped : List ℤ → Sub → Type 0
IsWrapped iters s = (s.modulus ≢ 0) → IsAtMost (2 ^ 54) (value s.form iters)

-- the value of a subscript's form lies within the most cells of an array
abbrev pub IsReached : List ℤ → Sub → Type 0
IsReached iters s = IsAtMost (2 ^ 18) (value s.form iters)

abbrev pub IsMoveBelow : ℕ → Label → Type 0
IsMoveBelow n (Stmt k) = Unit {0}
IsMoveBelow n (Move k) = k < n

pub record IsSpace (arrays : ℕ) (pieces : List Piece) (counts : List ℕ) (temps : List (List ℕ))
    (weight commands : ℕ) : Type 0 where
  pub apart : AreApart pieces
  pub well_formed : IsTrue (is_well_formed (listed pieces))
  pub counted : counts ≡ map (λ p. length (instances p)) pieces
  pub few : sum counts ≤ most_instances
  pub few_arrays : arrays ≤ most_arrays
  pub few_pieces : length pieces ≤ most_pieces
  pub few_commands : commands ≤ most_commands
  pub some_weight : 1 ≤ weight
  pub small_weight : weight ≤ most_weight
  pub limited : All (IsLimited weight commands) pieces
  pub bodies : All (λ p. IsBody arrays (length temps) (length p.origin) p.body) pieces
  -- accesses of one array have equally many subscripts
  pub agree : (a b : Access) → In a (flat_map (λ p. accesses p.body) pieces)
      → In b (flat_map (λ p. accesses p.body) pieces) → a.array ≡ b.array
      → length a.subs ≡ length b.subs
  pub moves : All (λ p. IsMoveBelow (256 * commands) p.label) pieces
  pub near : All (λ e. All (IsAtMost (2 ^ 54)) e.identity.iters) (listed pieces)
  pub wrapped : All (λ e. All (λ a. All (IsWrapped e.identity.iters) a.subs) (accesses e.body))
      (listed pieces)
  pub reached : All (λ e. All (λ a. All (IsReached e.identity.iters) a.subs) (accesses e.body))
      (listed pieces)
