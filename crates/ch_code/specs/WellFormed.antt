-- What the type of a unit keeps: its code fits the arrays and the loops around it, and no number that it comes to is large.
use Rattle.std.specs.Prelude.{ℕ, zero, suc, ℤ, pos, ◌+◌, ◌^◌, ◌+ℤ◌, Bool, true, cond, ◌&&◌, nat_eq, nat_lt, nat_le, IsTrue, List, [], ◌∷◌, ◌++◌, length}
use Rattle.std.specs.List.{All, flat_map, list_all}
use Rattle.ch_affine.specs.Affine.{IsAtMost}
use Rattle.ch_affine.specs.Form.{Form}
use Rattle.ch_affine.specs.Rows.{Rows, IsSystem}
use Rattle.ch_nest.specs.declared.nest.Access.{Access}
use Rattle.ch_nest.specs.declared.nest.Body.{Body}
use Rattle.ch_nest.specs.declared.nest.Expr.{Expr}
use Rattle.ch_nest.specs.declared.nest.Expr.TheOpen.{Expr-F}
use Rattle.ch_nest.specs.declared.nest.Expr.TheFolds.{fold-Expr}
use Rattle.ch_nest.specs.Run.{count}
use Rattle.ch_poly.specs.Points.{begins_some}
use Rattle.ch_timed.specs.Conflict.{reads}
use Rattle.ch_code.specs.declared.code.Bound.{Bound}
use Rattle.ch_code.specs.declared.code.Code.{Code}
use Rattle.ch_code.specs.declared.code.Code.TheOpen.{Code-F}
use Rattle.ch_code.specs.declared.code.Code.TheFolds.{fold-Code}
use Rattle.ch_code.specs.Trace.{high_of, low_of, unit_trace}
use Rattle.ch_code.specs.UnitParts.{UnitParts}

-- each iterator of a right side is one of the first so many
abbrev pub iterators_fit_step : ℕ → Expr-F Bool → Bool
iterators_fit_step iterators (Expr-F.Number n) = true
iterators_fit_step iterators (Expr-F.Iter k) = nat_lt k iterators
iterators_fit_step iterators (Expr-F.Read a) = true
iterators_fit_step iterators (Expr-F.Neg x) = x
iterators_fit_step iterators (Expr-F.Add x y) = x && y
iterators_fit_step iterators (Expr-F.Sub x y) = x && y
iterators_fit_step iterators (Expr-F.Mul x y) = x && y

abbrev pub iterators_fit : ℕ → Expr → Bool
iterators_fit iterators = fold-Expr Bool (iterators_fit_step iterators)

-- a form of so many variables
abbrev pub form_fits : ℕ → Form → Bool
form_fits variables f = nat_eq (length f.coefs) variables

-- an array or a buffer that there is, by subscripts over so many iterators
abbrev pub access_fits : ℕ → ℕ → Access → Bool
access_fits arrays iterators a = nat_lt a.array arrays && list_all (λ s. form_fits iterators s.form) a.subs

abbrev pub body_fits : ℕ → ℕ → Body → Bool
body_fits arrays iterators b = iterators_fit iterators b.right && list_all (access_fits arrays iterators) (reads b.right ++ b.write ∷ [])

-- a bound inside so many loops
abbrev pub bound_fits : ℕ → Bound → Bool
bound_fits around b = form_fits around b.form && nat_le 1 b.divisor

abbrev pub bounds_fit : ℕ → List Bound → Bool
bounds_fit around bounds = nat_le 1 (length bounds) && list_all (bound_fits around) bounds

-- a statement has one place more than there are loops around, and a form of their values for each of its iterators
abbrev pub leaf_fits : ℕ → ℕ → Body → List Form → List ℕ → Bool
leaf_fits arrays around body origin places =
    body_fits arrays (length origin) body && list_all (form_fits around) origin && nat_eq (length places) (suc around)

-- whether code fits, by the number of loops around
abbrev pub Fitting : Type 0
Fitting = ℕ → Bool

-- A loop inside so many others has the level that comes next. A guard's system has a variable for each loop around.
abbrev pub fits_step : ℕ → Code-F Fitting → Fitting
fits_step arrays (Code-F.Seq parts) around = list_all (λ part. part around) parts
fits_step arrays (Code-F.Loop level lows highs inner) around =
    nat_eq level (suc around) && bounds_fit around lows && bounds_fit around highs && inner (suc around)
fits_step arrays (Code-F.Guard system inner) around = nat_le around system.vars && inner around
fits_step arrays (Code-F.Leaf label body origin places) around = leaf_fits arrays around body origin places

-- whether code fits so many arrays, buffers included
abbrev pub fits : ℕ → Code → Fitting
fits arrays = fold-Code Fitting (fits_step arrays)

abbrev pub guards_step : Code-F (List Rows) → List Rows
guards_step (Code-F.Seq parts) = flat_map (λ part. part) parts
guards_step (Code-F.Loop level lows highs inner) = inner
guards_step (Code-F.Guard system inner) = system ∷ inner
guards_step (Code-F.Leaf label body origin places) = []

-- the systems of the guards
abbrev pub guards : Code → List Rows
guards = fold-Code (List Rows) guards_step

-- the values that loops come to, from the values of the loops around
abbrev pub Valued : Type 0
Valued = List ℤ → List ℤ

-- each value of a loop, and then those of the loops inside
abbrev pub turn_values : ℕ → ℤ → (ℤ → List ℤ) → List ℤ
turn_values zero low inner = []
turn_values (suc n) low inner = turn_values n low inner ++ (low +ℤ pos n) ∷ inner (low +ℤ pos n)

abbrev pub values_step : Code-F Valued → Valued
values_step (Code-F.Seq parts) xs = flat_map (λ part. part xs) parts
values_step (Code-F.Loop level lows highs inner) xs =
    turn_values (count (low_of lows xs) (high_of highs xs)) (low_of lows xs) (λ x. inner (xs ++ x ∷ []))
values_step (Code-F.Guard system inner) xs = cond (begins_some system xs) (inner xs) []
values_step (Code-F.Leaf label body origin places) xs = []

abbrev pub loop_values : Code → Valued
loop_values = fold-Code Valued values_step

-- The code fits the arrays and the loops around it; guards have systems; and the values of the loops and the iterators of the
-- elements have magnitude at most 2^54.
pub record IsUnit (u : UnitParts) : Type 0 where
  pub fits : IsTrue (fits (length u.arrays + length u.temps) u.root 0)
  pub guards : All IsSystem (guards u.root)
  pub values : All (IsAtMost (2 ^ 54)) (loop_values u.root [])
  pub iterators : All (λ e. All (IsAtMost (2 ^ 54)) e.identity.iters) (unit_trace u)
