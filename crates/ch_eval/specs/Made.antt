-- What a plan has to do with the code that it was made from.
use Rattle.std.specs.Prelude.{◌≡◌, ◌≤◌, ◌<◌, ℕ, ◌+◌, ◌-◌, ◌*◌, ◌^◌, min, ℤ, pos, ◌+ℤ◌, ◌*ℤ◌, IsTrue, List, [], ◌∷◌, ◌++◌, length, map, replicate, take, slice_index_or}
use Rattle.std.specs.List.{All, list_all}
use Rattle.ch_affine.specs.Affine.{IsAtMost}
use Rattle.ch_affine.specs.Form.{Form}
use Rattle.ch_code.specs.declared.code.Bound.{Bound}
use Rattle.ch_code.specs.declared.code.Code.{Code}
use Rattle.ch_code.specs.Trace.{trace}
use Rattle.ch_code.specs.WellFormed.{access_fits, iterators_fit, loop_values}
use Rattle.ch_cost.specs.Meter.{Meter, metered, visit}
use Rattle.ch_nest.specs.declared.nest.Expr.{Expr}
use Rattle.ch_nest.specs.Arrays.{total}
use Rattle.ch_nest.specs.Run.{expr_value}
use Rattle.ch_plan.specs.Ready.{IsPoint, IsSumOf, iters_at}
use Rattle.ch_timed.specs.Conflict.{cell_of, reads}
use Rattle.ch_timed.specs.Flat.{AllInside, StaysInside, done_flat, place_of}
use Rattle.ch_timed.specs.Order.{do_all}
use Rattle.ch_eval.specs.declared.make.Needs.{Needs}
use Rattle.ch_eval.specs.declared.ready.Ready.{Ready}
use Rattle.ch_nest.specs.CostModel.{CostModel}
use Rattle.ch_plan.specs.Divisor.{IsDivisor}
use Rattle.ch_plan.specs.declared.plan.Plan.TheVariants.{Loop}
use Rattle.ch_plan.specs.declared.meter.Setting.{Setting}
use Rattle.ch_plan.specs.declared.plan.Limit.{Limit}
use Rattle.ch_plan.specs.declared.plan.Plan.{Plan}
use Rattle.ch_plan.specs.declared.plan.Right.{Right}
use Rattle.ch_plan.specs.Agreement.{Agree}
use Rattle.ch_plan.specs.Planned.{Walked, machine_of, meter_plan, right_value, run_plan, spot_place, spots, state}

-- a right side, and what it reads
pub record SameRight (extents : List (List ℕ)) (iters point : List ℤ) (e : Expr) (right : Right) : Type 0 where
  pub value : (cells : List ℤ) → right_value point cells right ≡ expr_value extents iters cells e
  pub reads : map (spot_place point) (spots right) ≡ map (place_of extents) (map (cell_of iters) (reads e))

abbrev pub IsRight : List (List ℕ) → List Form → ℕ → Expr → Right → Type 0
IsRight extents origin around e right =
    (point : List ℤ) → IsPoint origin around point → total extents < 2 ^ 63 → AllInside extents (map (cell_of (iters_at origin (take around point))) (reads e))
    → SameRight extents (iters_at origin (take around point)) point e right

-- its iterators and accesses are those that there are
pub record RightFits (arrays count : ℕ) (e : Expr) : Type 0 where
  pub iterators : IsTrue (iterators_fit count e)
  pub accesses : IsTrue (list_all (access_fits arrays count) (reads e))

-- ends of loops

-- both lists have the same length, and the relation holds of members at the same place
abbrev pub Pairs : {X Y : Type 0} → (X → Y → Type 0) → List X → List Y → Type 0
Pairs R [] [] = Unit {0}
Pairs R [] (y ∷ ys) = ⊥
Pairs R (x ∷ xs) [] = ⊥
Pairs R (x ∷ xs) (y ∷ ys) = R x y × Pairs R xs ys

pub record IsLimit (b : Bound) (l : Limit) : Type 0 where
  pub sum : IsSumOf b.form l.sum
  pub divisor : l.divisor ≡ b.divisor

abbrev pub AreLimits : List Bound → List Limit → Type 0
AreLimits = Pairs IsLimit

-- code

-- what is needed has only become more
pub record Grows (old new : Needs) : Type 0 where
  pub deep : old.deep ≤ new.deep
  pub vars : old.vars ≤ new.vars
  pub rows : old.rows ≤ new.rows
  pub count : length old.places ≤ length new.places
  pub places : (k : ℕ) → k < length old.places → slice_index_or new.places k [] ≡ slice_index_or old.places k []

-- the setting of a walk, and how many loop values its points have, suffice
pub record Serves (s : Setting) (levels : ℕ) (needs : Needs) : Type 0 where
  pub deep : needs.deep ≤ levels
  pub vars : needs.vars ≤ s.vars
  pub rows : needs.rows ≤ s.rows
  pub places : (k : ℕ) → k < length needs.places → slice_index_or s.places k [] ≡ slice_index_or needs.places k []

-- code at a point that has the values of the loops around: all numbers are small, and all accesses stay inside their arrays
pub record IsAt (extents : List (List ℕ)) (around : ℕ) (code : Code) (point : List ℤ) : Type 0 where
  pub long : around ≤ length point
  pub near : All (IsAtMost (2 ^ 54)) (take around point)
  pub values : All (IsAtMost (2 ^ 54)) (loop_values code (take around point))
  pub iterators : All (λ e. All (IsAtMost (2 ^ 54)) e.identity.iters) (trace code (take around point))
  pub inside : StaysInside extents (trace code (take around point))

-- the plan does to cells and meter what the elements of the code do
pub record IsDone (extents : List (List ℕ)) (s : Setting) (around : ℕ) (code : Code) (plan : Plan) (point : List ℤ) : Type 0 where
  pub cells : (cells : List ℤ) → run_plan s.vars s.rows plan point cells ≡ done_flat extents (trace code (take around point)) cells
  pub meter : (w : Walked) (m : Meter) → Agree s (length point) w m
      → Agree s (length point) (meter_plan s plan point w) (do_all (metered (machine_of s)) (map (visit extents) (trace code (take around point))) m)

abbrev pub IsPlan : List (List ℕ) → ℕ → Needs → Code → Plan → Type 0
IsPlan extents around needs code plan =
    (s : Setting) (point : List ℤ) → Serves s (length point) needs → total extents < 2 ^ 63 → IsAt extents around code point → IsDone extents s around code plan point

abbrev pub ArePlans : List (List ℕ) → ℕ → Needs → List Code → List Plan → Type 0
ArePlans extents around needs = Pairs (IsPlan extents around needs)

-- a loop of these ends around a plan
pub record IsLoopOf (low_bounds high_bounds : List Bound) (around : ℕ) (inner p : Plan) : Type 0 where
  pub low_limits : List Limit
  pub high_limits : List Limit
  pub made : p ≡ Loop around low_limits high_limits inner
  pub lows : AreLimits low_bounds low_limits
  pub highs : AreLimits high_bounds high_limits

-- a unit made ready

-- the walk over the plan can begin
pub record CanWalk (r : Ready) : Type 0 where
  pub lines : IsDivisor r.setting.lines
  pub width : IsDivisor r.setting.width
  pub vars : r.room.vars ≡ r.setting.vars
  pub rows : r.room.rows ≡ r.setting.rows
  pub depth : length r.tally.last.items ≡ length r.point.items

-- what the plan does to these cells, and what the meter says then

abbrev pub cells_after : Ready → List ℤ → List ℤ
cells_after r cells = run_plan r.setting.vars r.setting.rows r.plan r.point.items cells

abbrev pub sum_after : Ready → ℕ
sum_after r = (meter_plan r.setting r.plan r.point.items (state r.tally)).sum

-- it is this code's, over arrays and buffers of these extents and on this machine, and nothing was executed yet
pub record IsReadyFor (extents : List (List ℕ)) (root : Code) (m : CostModel) (r : Ready) : Type 0 where
  pub needs : Needs
  pub plan : IsPlan extents 0 needs root r.plan
  pub serves : Serves r.setting (length r.point.items) needs
  pub machine : machine_of r.setting ≡ m
  pub walk : CanWalk r
  pub slots : r.tally.slots.items ≡ replicate m.lines 0
  pub leaf : r.tally.leaf ≡ length r.setting.places
  pub sum : r.tally.sum ≡ 0
