-- The steps by which a copy is judged before it is made.
use Rattle.std.proofs.Common.{◌≡◌, refl, sym, ap, ◌∙◌, subst, ℕ, zero, suc, max, ◌+◌, ◌-◌, ◌*◌, ◌<◌, ◌≤◌, ◌^◌, ℤ, true, nat_le, Option, Some, None, Result, Ok, Err, List, [], ◌∷◌, ◌++◌, map, length, get_or, arith}
use Rattle.std.specs.List.{All, list_all}
use Rattle.std.specs.Result.{IsErrAnd}
use Rattle.std.proofs.lemmas.Bool.{and_from, le-leb}
use Rattle.std.proofs.lemmas.List.Elements.{All-head, All-tail}
use Rattle.std.proofs.lemmas.Nat.{mul-le}
use Rattle.ch_datacopy.specs.Causes.{above, above_first, before_copy, deepest, most_cells, not_there}
use Rattle.ch_datacopy.specs.Moved.{AreMoves, all_sources, dimensions}
use Rattle.ch_datacopy.specs.Sources.{AddsCells, AreCellsOf, sources}
use Rattle.ch_datacopy.specs.Widths.{AreWidths, IsRoomy}
use Rattle.ch_datacopy.specs.declared.cells.Cells.{Cells}
use Rattle.ch_datacopy.specs.declared.uses.Way.TheVariants.{Read, Written}
use Rattle.ch_datacopy.proofs.Planned.{cells_many}
use Rattle.ch_datacopy.proofs.Spans.{one_width}
use Rattle.ch_datacopy.proofs.Steps.{adds_both}
use Rattle.ch_moved.specs.Causes.{first_of}
use Rattle.ch_nest.specs.Arrays.{cells_in}
use Rattle.ch_nest.specs.declared.cause.Shape.{Shape}
use Rattle.ch_space.specs.declared.error.ShapeError.{ShapeError}
use Rattle.ch_space.specs.declared.piece.Piece.{Piece}
use Rattle.ch_space.specs.Keeps.{most_levels, most_pieces, places_of}

-- the exit of a `?`
pub at_exit : (X : Type 0) (P : Result X ShapeError → Type 0) (r : Result X ShapeError) (e : ShapeError) → IsErrAnd r (λ x. x ≡ e) → P (Err e) → P r
at_exit X P (Ok x) e h k = absurd h
at_exit X P (Err x) e h k = subst (λ y. P (Err y)) (sym h) k

-- what is moved, reads first
pub moves_made : (ps : List Piece) (ours : List ℤ) (around array ins : ℕ) (none mid new : List Cells) → none ≡ [] → AddsCells around (sources Read array ours around ps) none mid → ins ≡ length mid
    → AddsCells around (sources Written array ours around ps) mid new → AreMoves ps ours around array (record { ins = ins; all = new })
moves_made ps ours around array ins none mid new e a i b = record {
  ins = i ∙ ap length (a.1 ∙ ap (λ z. z ++ a.0) e) ∙ cells_many around (sources Read array ours around ps) a.0 a.2;
  cells = subst (AreCellsOf around (all_sources ps ours around array)) (sym (both.1 ∙ ap (λ z. z ++ both.0) e)) both.2;
}
  where
    both : AddsCells around (all_sources ps ours around array) none new
    both = adds_both around (sources Read array ours around ps) (sources Written array ours around ps) none mid new a b

-- causes

two_some : (a b c : Option Shape) (x : Shape) → first_of (a ∷ b ∷ []) ≡ Some x → first_of (a ∷ b ∷ c ∷ []) ≡ Some x
two_some None None c x e = cc
two_some None (Some y) c x e = e
two_some (Some y) b c x e = e

two_none : (a b c : Option Shape) → first_of (a ∷ b ∷ []) ≡ None → first_of (a ∷ b ∷ c ∷ []) ≡ c
two_none None None None e = refl
two_none None None (Some x) e = refl
two_none None (Some y) c e = cc
two_none (Some y) b c e = cc

-- nothing is moved
pub none_cause : (ps : List Piece) (us : List Cells) (es : List ℕ) (x : Shape) → us ≡ [] → Some x ≡ not_there → first_of (before_copy ps us es) ≡ Some x
none_cause ps us es x e h = ap (λ z. first_of (before_copy ps z es)) e ∙ sym h

module _ (ps : List Piece) (us : List Cells) (u : Cells) (some : 0 < length us) (first : u ≡ get_or us 0 u) (found : Option Shape)
    (is : found ≡ above_first (length ps + length us) (max (deepest (map places_of ps)) u.levels)) where
  causes_are : (es : List ℕ) → first_of (before_copy ps us es)
      ≡ first_of (above 7 most_pieces (length ps + length us) ∷ above 8 most_levels (max (deepest (map places_of ps)) u.levels) ∷ above 9 most_cells (cells_in es) ∷ [])
  causes_are es = by us some first
    where
      by : (vs : List Cells) → 0 < length vs → u ≡ get_or vs 0 u → first_of (before_copy ps vs es)
          ≡ first_of (above 7 most_pieces (length ps + length vs) ∷ above 8 most_levels (max (deepest (map places_of ps)) u.levels) ∷ above 9 most_cells (cells_in es) ∷ [])
      by [] l e = absurd (omega (arith, l))
      by (v ∷ vs) l e = ap (λ (z : Cells). first_of (above 7 most_pieces (length ps + length (v ∷ vs)) ∷ above 8 most_levels (max (deepest (map places_of ps)) z.levels) ∷ above 9 most_cells (cells_in es) ∷ [])) (sym e)

  -- there are too many pieces, or they are too deep
  pub first_cause : (x : Shape) → found ≡ Some x → (es : List ℕ) → first_of (before_copy ps us es) ≡ Some x
  first_cause x f es =
      causes_are es
      ∙ two_some (above 7 most_pieces (length ps + length us)) (above 8 most_levels (max (deepest (map places_of ps)) u.levels)) (above 9 most_cells (cells_in es)) x (sym is ∙ f)

  -- if neither, the cells of the buffer tell
  pub last_is : found ≡ None → (around cells : ℕ) (sizes es : List ℕ) → AreWidths around cells us sizes → AreWidths around cells us es → (c : Option Shape) → c ≡ above 9 most_cells (cells_in sizes)
      → first_of (before_copy ps us es) ≡ c
  last_is f around cells sizes es a b c e =
      causes_are es
      ∙ two_none (above 7 most_pieces (length ps + length us)) (above 8 most_levels (max (deepest (map places_of ps)) u.levels)) (above 9 most_cells (cells_in es)) (sym is ∙ f)
      ∙ ap (λ z. above 9 most_cells (cells_in z)) (one_width around cells us es sizes b a) ∙ sym e

-- how many subscripts the cells have
pub dimensions_is : (around : ℕ) (us : List Cells) (u : Cells) → 0 < length us → u ≡ get_or us 0 u → dimensions around us ≡ u.levels - around
dimensions_is around [] u l e = absurd (omega (arith, l))
dimensions_is around (v ∷ us) u l e = ap (λ (z : Cells). z.levels - around) (sym e)

pub around_inside : (around m : ℕ) (us : List Cells) (u : Cells) → 0 < length us → u ≡ get_or us 0 u → All (IsRoomy around m) us → around ≤ u.levels
around_inside around m us u l e h =
    let r = subst (IsRoomy around m) (sym e) (h 0 u l) in
    let f = r.framed.levels in
    omega (arith, f)

-- cells of a buffer

abbrev power : ℕ → ℕ
power zero = 1
power (suc k) = 2 ^ 20 * power k

cells_most : (es : List ℕ) → All (λ e. e ≤ 2 ^ 20) es → cells_in es ≤ power (length es)
cells_most [] h = omega arith
cells_most (e ∷ es) h =
    mul-le e (cells_in es) (2 ^ 20) (power (length es)) (All-head (λ (e : ℕ). e ≤ 2 ^ 20) e es h) (cells_most es (All-tail (λ (e : ℕ). e ≤ 2 ^ 20) e es h))

power_few : (k : ℕ) → k ≤ 4 → power k ≤ 2 ^ 100
power_few zero l = omega arith
power_few (suc zero) l = omega arith
power_few (suc (suc zero)) l = omega arith
power_few (suc (suc (suc zero))) l = omega arith
power_few (suc (suc (suc (suc zero)))) l = omega arith
power_few (suc (suc (suc (suc (suc k))))) l = absurd (omega (arith, l))

-- a buffer of 4 dimensions at most has not too many cells to count
pub cells_few : (es : List ℕ) → length es ≤ 4 → All (λ e. e ≤ 2 ^ 20) es → cells_in es ≤ 2 ^ 100
cells_few es l h =
    let a = cells_most es h in
    let b = power_few (length es) l in
    omega (arith, a, b)

some_each : (es : List ℕ) → ((k : ℕ) → k < length es → 1 ≤ get_or es k 0) → list_all (nat_le 1) es ≡ true
some_each [] h = refl
some_each (e ∷ es) h = and_from (nat_le 1 e) (list_all (nat_le 1) es) (le-leb 1 e (h 0 (omega arith))) (some_each es (λ k l. h (suc k) (omega (arith, l))))

pub widths_some : (around cells : ℕ) (us : List Cells) (es : List ℕ) → AreWidths around cells us es → list_all (nat_le 1) es ≡ true
widths_some around cells us es a = some_each es (λ k l.
    let c = a.count in
    let x = a.each k (omega (arith, l, c)) in
    let e = x.1 in
    omega (arith, e))
