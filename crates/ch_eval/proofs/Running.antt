-- A unit that was made ready leaves what its trace leaves, and its meter says what the trace costs.
use Rattle.std.proofs.Common.{◌≡◌, ap, ap₂, sym, ◌∙◌, refl, subst, ℕ, ◌+◌, ◌-◌, ◌<◌, ◌≤◌, ◌^◌, min, ℤ, pos, Result, Ok, Err, IfOk, OnOk, List, [], ◌∷◌, ◌++◌, get_or, length, map, replicate, sum, take, arith}
use Rattle.std.specs.List.{All}
use Rattle.std.proofs.lemmas.List.{get_or_past, length-replicate}
use Rattle.std.proofs.lemmas.List.Elements.{All-nil}
use Rattle.ch_affine.specs.Affine.{IsAtMost}
use Rattle.ch_code.specs.declared.code.Code.{Code}
use Rattle.ch_code.specs.Trace.{trace, unit_trace}
use Rattle.ch_code.specs.UnitParts.{UnitParts}
use Rattle.ch_code.specs.WellFormed.{IsUnit}
use Rattle.ch_cost.specs.Cost.{cost, most_cost}
use Rattle.ch_cost.specs.Meter.{at_start, read_off}
use Rattle.ch_cost.proofs.Metering.{cost_metered}
use Rattle.ch_nest.specs.CostModel.{CostModel}
use Rattle.ch_nest.specs.Arrays.{extents_of, total}
use Rattle.ch_plan.specs.Agreement.{Agree}
use Rattle.ch_plan.specs.Planned.{machine_of, places_of, state}
use Rattle.ch_timed.specs.Flat.{StaysInside, done_flat, with_buffers}
use Rattle.ch_timed.specs.Vectors.{woven}
use Rattle.ch_eval.specs.declared.ready.Ready.{Ready}
use Rattle.ch_eval.specs.Cells.{joined, most_length, sizes_of, unit_extents}
use Rattle.ch_eval.specs.Made.{IsAt, IsDone, IsReadyFor, cells_after, sum_after}
use Rattle.ch_eval.proofs.Cutting.{joined_length}
use Rattle.ch_eval.proofs.Filling.{sizes_total}

-- the whole code of a unit
pub root_at : (u : UnitParts) (point : List ℤ) → IsUnit u → StaysInside (unit_extents u) (unit_trace u) → IsAt (unit_extents u) 0 u.root point
root_at u point i inside = record {
  long = omega arith;
  near = All-nil (IsAtMost (2 ^ 54));
  values = i.values;
  iterators = i.iterators;
  inside = inside;
}

module _ (extents : List (List ℕ)) (root : Code) (m : CostModel) (r : Ready) (ready : IsReadyFor extents root m r) where
  agree_at_start : Agree r.setting (length r.point.items) (state r.tally) (at_start (machine_of r.setting))
  agree_at_start =
      let places : places_of r.setting r.tally.leaf ≡ [] = ap (places_of r.setting) ready.leaf ∙ get_or_past r.setting.places (length r.setting.places) [] (omega arith) in
      record {
        long = ready.walk.depth;
        slots = ready.slots ∙ ap (λ (k : CostModel). replicate k.lines 0) (sym ready.machine);
        last = sym (ap (λ ps. woven (map pos ps) (take (length ps - 1) r.tally.last.items)) places);
        sum = ready.sum;
      }

  done : total extents < 2 ^ 63 → IsAt extents 0 root r.point.items → IsDone extents r.setting 0 root r.plan r.point.items
  done few at = ready.plan r.setting r.point.items ready.serves few at

  pub cells_are : total extents < 2 ^ 63 → IsAt extents 0 root r.point.items → (cells : List ℤ) → cells_after r cells ≡ done_flat extents (trace root []) cells
  cells_are few at cells = (done few at).cells cells

  pub sum_is : total extents < 2 ^ 63 → IsAt extents 0 root r.point.items → sum_after r ≡ cost m extents (trace root [])
  sum_is few at =
      let a = (done few at).meter (state r.tally) (at_start (machine_of r.setting)) agree_at_start in
      a.sum ∙ ap (λ k. min most_cost (read_off k extents (trace root [])).sum) ready.machine ∙ sym (cost_metered m extents (trace root []))

-- a unit on arrays, and on buffers behind them that start as 0

total_both : (xs ys : List (List ℕ)) → total (xs ++ ys) ≡ total xs + total ys
total_both [] ys = omega arith
total_both (x ∷ xs) ys = omega (arith, total_both xs ys)

module _ (u : UnitParts) (m : CostModel) (r : Ready) (old new : List (List ℤ)) (buffers : List ℤ) (unit : IsUnit u) (ready : IsReadyFor (unit_extents u) u.root m r)
    (inside : StaysInside (unit_extents u) (unit_trace u)) (sizes : map length old ≡ sizes_of u.arrays) (zeros : buffers ≡ replicate (min most_length (total u.temps)) (pos 0))
    (few : length (joined old) + length buffers < 2 ^ 63) where
  zeros_count : length buffers ≡ min most_length (total u.temps)
  zeros_count = ap length zeros ∙ length-replicate (min most_length (total u.temps)) (pos 0)

  buffers_whole : min most_length (total u.temps) ≡ total u.temps
  buffers_whole = omega (arith, few, zeros_count)

  cells_count : length (joined old) ≡ total (extents_of u.arrays)
  cells_count = joined_length old ∙ ap sum sizes ∙ sizes_total u.arrays

  extents_few : total (unit_extents u) < 2 ^ 63
  extents_few = omega (arith, few, cells_count, zeros_count, buffers_whole, total_both (extents_of u.arrays) u.temps)

  with_buffers_is : joined old ++ buffers ≡ with_buffers u.temps (joined old)
  with_buffers_is = ap (λ zs. joined old ++ zs) (zeros ∙ ap (λ (n : ℕ). replicate n (pos 0)) buffers_whole)

  pub run_cells : joined new ≡ take (length (joined old)) (cells_after r (joined old ++ buffers))
      → joined new ≡ take (length (joined old)) (done_flat (unit_extents u) (unit_trace u) (with_buffers u.temps (joined old)))
  run_cells h =
      h
      ∙ ap (take (length (joined old)))
      (cells_are (unit_extents u) u.root m r ready extents_few (root_at u r.point.items unit inside) (joined old ++ buffers)
      ∙ ap (done_flat (unit_extents u) (unit_trace u)) with_buffers_is)

  pub run_cost : (c : ℕ) → c ≡ sum_after r → c ≡ cost m (unit_extents u) (unit_trace u)
  run_cost c h = h ∙ sum_is (unit_extents u) u.root m r ready extents_few (root_at u r.point.items unit inside)

-- where a call succeeds

pub ok_both : {T E P Q R : Type 0} (r : Result T E) → (P → Q → R) → OnOk r P → OnOk r Q → OnOk r R
ok_both (Ok x) f p q = f p q
ok_both (Err e) f p q = tt

pub ok_with : {T E P : Type 0} (r : Result T E) (Q R : T → Type 0) → ((x : T) → P → Q x → R x) → OnOk r P → IfOk r Q → IfOk r R
ok_with (Ok x) Q R f p q = f x p q
ok_with (Err e) Q R f p q = tt

pub ok_pair : {T E : Type 0} (P Q : Type 0) (r : Result T E) → OnOk r P → OnOk r Q → OnOk r (P × Q)
ok_pair P Q (Ok x) p q = (p, q)
ok_pair P Q (Err e) p q = tt
