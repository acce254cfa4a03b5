-- What a plan does to the cells and to the meter. A place that isn't there reads as 0 and isn't written, so nothing is
-- asked of plans here.
use Rattle.std.specs.Prelude.{ℕ, zero, suc, ◌+◌, ◌-◌, ◌*◌, ◌^◌, min, ℤ, pos, ◌+ℤ◌, ◌-ℤ◌, ◌*ℤ◌, neg_ℤ, unsigned_abs, Bool, true, false, ◌&&◌, nat_le, nat_eq, if◌then◌else◌, List, [], ◌∷◌, ◌++◌, map, length, take, slice_index_or, slice_set}
use Rattle.std.specs.Int.{int_wrap, int_div_euclid, int_rem_euclid, w64, w128}
use Rattle.std.specs.Ordering.{int_eq}
use Rattle.ch_affine.specs.Rows.{Rows}
use Rattle.ch_cost.specs.Cost.{held, line, most_cost, slot}
use Rattle.ch_nest.specs.CostModel.{CostModel}
use Rattle.ch_nest.specs.Run.{Change, count, greatest, in_order, least}
use Rattle.ch_poly.specs.Points.{begins_some}
use Rattle.ch_plan.specs.declared.meter.Setting.{Setting}
use Rattle.ch_plan.specs.declared.meter.Tally.{Tally}
use Rattle.ch_plan.specs.declared.plan.Limit.{Limit}
use Rattle.ch_plan.specs.declared.plan.Plan.{Plan}
use Rattle.ch_plan.specs.declared.plan.Plan.TheOpen.{Plan-F}
use Rattle.ch_plan.specs.declared.plan.Plan.TheFolds.{fold-Plan}
use Rattle.ch_plan.specs.declared.plan.Residue.{Residue}
use Rattle.ch_plan.specs.declared.plan.Right.{Right}
use Rattle.ch_plan.specs.declared.plan.Right.TheOpen.{Right-F}
use Rattle.ch_plan.specs.declared.plan.Right.TheFolds.{fold-Right}
use Rattle.ch_plan.specs.declared.plan.Spot.{Spot}
use Rattle.ch_plan.specs.declared.plan.Sum.{Sum}
use Rattle.ch_plan.specs.declared.plan.Term.{Term}
use Rattle.ch_plan.specs.declared.plan.Weight.{Weight}
use Rattle.ch_plan.specs.Divisor.{number_of}

abbrev pub at : List ℤ → ℕ → ℤ
at point k = slice_index_or point k (pos 0)

-- sums

-- the sum of a number for each member
abbrev pub summed : {X : Type 0} → (X → ℤ) → List X → ℤ
summed f [] = pos 0
summed f (x ∷ xs) = f x +ℤ summed f xs

abbrev pub weighed : List Term → List ℤ → ℤ
weighed ts point = summed (λ t. t.coef *ℤ at point t.level) ts

-- the sum, wrapped at 64 bits
abbrev pub sum_value : Sum → List ℤ → ℤ
sum_value s point = int_wrap w64 (s.constant +ℤ weighed s.terms point)

-- the sum, wrapped at 128 bits
abbrev pub wide_value : Sum → List ℤ → ℤ
wide_value s point = int_wrap w128 (s.constant +ℤ weighed s.terms point)

-- multiples of sums
abbrev pub mixed : List Weight → List ℤ → ℤ
mixed ws point = summed (λ w. w.coef *ℤ sum_value w.sum point) ws

abbrev pub residue_value : Residue → List ℤ → ℤ
residue_value r point =
    if nat_eq r.modulus 0 then pos 0 else int_rem_euclid (int_wrap w128 (r.constant +ℤ mixed r.weights point)) (pos r.modulus)

abbrev pub residues_value : List Residue → List ℤ → ℤ
residues_value [] point = pos 0
residues_value (r ∷ rs) point = int_wrap w64 (int_wrap w64 (r.stride *ℤ residue_value r point) +ℤ residues_value rs point)

-- the residues added to a number
abbrev pub with_residues : ℤ → List Residue → List ℤ → ℤ
with_residues at [] point = at
with_residues at (r ∷ rs) point = int_wrap w64 (at +ℤ residues_value (r ∷ rs) point)

abbrev pub spot_value : List ℤ → Spot → ℤ
spot_value point s = with_residues (sum_value s.sum point) s.residues point

abbrev pub spot_place : List ℤ → Spot → ℕ
spot_place point s = unsigned_abs (spot_value point s)

-- right sides

abbrev pub right_step : List ℤ → List ℤ → Right-F ℤ → ℤ
right_step point cells (Right-F.Number n) = n
right_step point cells (Right-F.Value s) = sum_value s point
right_step point cells (Right-F.Read s) = at cells (spot_place point s)
right_step point cells (Right-F.Neg x) = int_wrap w64 (neg_ℤ x)
right_step point cells (Right-F.Add x y) = int_wrap w64 (x +ℤ y)
right_step point cells (Right-F.Sub x y) = int_wrap w64 (x -ℤ y)
right_step point cells (Right-F.Mul x y) = int_wrap w64 (x *ℤ y)

abbrev pub right_value : List ℤ → List ℤ → Right → ℤ
right_value point cells = fold-Right ℤ (right_step point cells)

abbrev pub spots_step : Right-F (List Spot) → List Spot
spots_step (Right-F.Number n) = []
spots_step (Right-F.Value s) = []
spots_step (Right-F.Read s) = s ∷ []
spots_step (Right-F.Neg x) = x
spots_step (Right-F.Add x y) = x ++ y
spots_step (Right-F.Sub x y) = x ++ y
spots_step (Right-F.Mul x y) = x ++ y

-- what is read, from left to right
abbrev pub spots : Right → List Spot
spots = fold-Right (List Spot) spots_step

-- ends of loops, and guards

abbrev pub is_small : ℤ → Bool
is_small z = nat_le (unsigned_abs z) (2 ^ 54)

-- how many turns a loop has; none where it isn't between small numbers
abbrev pub turns_between : ℤ → ℤ → ℕ
turns_between low high = if is_small low && is_small high then count low high else 0

-- an end of a loop, a low rounded up and a high rounded down
abbrev pub low_end : Limit → List ℤ → ℤ
low_end l point =
    if nat_le l.divisor 1 then wide_value l.sum point
    else int_wrap w128 (neg_ℤ (int_div_euclid (int_wrap w128 (neg_ℤ (wide_value l.sum point))) (pos l.divisor)))

abbrev pub high_end : Limit → List ℤ → ℤ
high_end l point = if nat_le l.divisor 1 then wide_value l.sum point else int_div_euclid (wide_value l.sum point) (pos l.divisor)

abbrev pub low_of : List Limit → List ℤ → ℤ
low_of lows point = greatest (map (λ l. low_end l point) lows)

abbrev pub high_of : List Limit → List ℤ → ℤ
high_of highs point = least (map (λ l. high_end l point) highs)

-- whether a guard lets its inner part be executed; never where it has more variables or rows than there is room for
abbrev pub passes : ℕ → ℕ → Rows → ℕ → List ℤ → Bool
passes vars rows system around point =
    ((nat_le around (length point) && nat_le around system.vars) && (nat_le system.vars vars && nat_le (length system.rows) rows))
    && begins_some system (take around point)

-- what is done to the cells

abbrev pub done_if : Bool → List ℤ → List ℤ → List ℤ
done_if true new old = new
done_if false new old = old

-- the first n turns of a loop from `low` on
abbrev pub turns_done : ℕ → ℤ → (ℤ → List ℤ → List ℤ) → List ℤ → List ℤ
turns_done zero low turn cells = cells
turns_done (suc n) low turn cells = turn (low +ℤ pos n) (turns_done n low turn cells)

abbrev pub plan_step : ℕ → ℕ → Plan-F Change → Change
plan_step vars rows (Plan-F.Seq parts) point cells = in_order parts point cells
plan_step vars rows (Plan-F.Loop level lows highs inner) point cells =
    turns_done (turns_between (low_of lows point) (high_of highs point)) (low_of lows point) (λ x. inner (slice_set point level x)) cells
plan_step vars rows (Plan-F.Guard system around inner) point cells = done_if (passes vars rows system around point) (inner point cells) cells
plan_step vars rows (Plan-F.Leaf leaf write right) point cells = slice_set cells (spot_place point write) (right_value point cells right)

-- what a plan does to the cells
abbrev pub run_plan : ℕ → ℕ → Plan → Change
run_plan vars rows = fold-Plan Change (plan_step vars rows)

abbrev pub run_plans : ℕ → ℕ → List Plan → Change
run_plans vars rows plans = in_order (map (run_plan vars rows) plans)

-- the meter

-- the slots, the values of the loops at the last element, its statement, and the sum
pub record Walked : Type 0 where
  pub slots : List ℕ
  pub last : List ℤ
  pub leaf : ℕ
  pub sum : ℕ

abbrev pub walked : List ℕ → List ℤ → ℕ → ℕ → Walked
walked slots last leaf sum = record { slots = slots; last = last; leaf = leaf; sum = sum }

abbrev pub state : Tally → Walked
state t = walked t.slots.items t.last.items t.leaf t.sum

-- the machine of a walk
abbrev pub machine_of : Setting → CostModel
machine_of s = record { turn = s.turn; miss = s.miss; lines = number_of s.lines; width = number_of s.width }

-- an access
abbrev pub touched : CostModel → ℕ → Walked → Walked
touched m a w =
    walked (held m w.slots a) w.last w.leaf
    (if nat_eq (slice_index_or w.slots (slot m a) 0) (line m a + 1) then w.sum else min most_cost (w.sum + m.miss))

abbrev pub all_touched : CostModel → List ℕ → Walked → Walked
all_touched m [] w = w
all_touched m (a ∷ more) w = all_touched m more (touched m a w)

-- both statements have the same place and the same loop value at level k
abbrev pub same_at : List ℕ → List ℕ → List ℤ → List ℤ → ℕ → Bool
same_at ours theirs point last k = nat_eq (slice_index_or ours k 0) (slice_index_or theirs k 0) && int_eq (at point k) (at last k)

-- at how many of the n levels from k on, added to k
abbrev pub kept_from : List ℕ → List ℕ → List ℤ → List ℤ → ℕ → ℕ → ℕ
kept_from ours theirs point last zero k = k
kept_from ours theirs point last (suc n) k = if same_at ours theirs point last k then kept_from ours theirs point last n (k + 1) else k

abbrev pub levels_of : List ℕ → List ℕ → List ℤ → List ℤ → ℕ
levels_of ours theirs point last = min (min (min (length ours) (length theirs) - 1) (length point)) (length last)

abbrev pub kept_levels : List ℕ → List ℕ → List ℤ → List ℤ → ℕ
kept_levels ours theirs point last = kept_from ours theirs point last (levels_of ours theirs point last) 0

abbrev pub begun_levels : List ℕ → List ℕ → List ℤ → List ℤ → ℕ
begun_levels ours theirs point last = (length ours - 1) - kept_levels ours theirs point last

abbrev pub places_of : Setting → ℕ → List ℕ
places_of s leaf = slice_index_or s.places leaf []

-- the sum with an element's own 1, and the turns that begin at it
abbrev pub begun_sum : Setting → ℕ → List ℤ → Walked → ℕ
begun_sum s leaf point w =
    min most_cost (min most_cost (w.sum + 1) + s.turn * begun_levels (places_of s leaf) (places_of s w.leaf) point w.last)

-- a statement that begins at a point
abbrev pub begun : Setting → ℕ → List ℤ → Walked → Walked
begun s leaf point w = walked w.slots point leaf (begun_sum s leaf point w)

-- one element: its turns, then its accesses
abbrev pub metered_leaf : Setting → ℕ → Spot → Right → List ℤ → Walked → Walked
metered_leaf s leaf write right point w =
    touched (machine_of s) (spot_place point write)
    (all_touched (machine_of s) (map (spot_place point) (spots right)) (begun s leaf point w))

abbrev pub Metering : Type 0
Metering = List ℤ → Walked → Walked

abbrev pub parts_metered : List Metering → Metering
parts_metered [] point w = w
parts_metered (f ∷ fs) point w = parts_metered fs point (f point w)

abbrev pub turns_metered : ℕ → ℤ → (ℤ → Walked → Walked) → Walked → Walked
turns_metered zero low turn w = w
turns_metered (suc n) low turn w = turn (low +ℤ pos n) (turns_metered n low turn w)

abbrev pub metered_if : Bool → Walked → Walked → Walked
metered_if true new old = new
metered_if false new old = old

abbrev pub meter_step : Setting → Plan-F Metering → Metering
meter_step s (Plan-F.Seq parts) point w = parts_metered parts point w
meter_step s (Plan-F.Loop level lows highs inner) point w =
    turns_metered (turns_between (low_of lows point) (high_of highs point)) (low_of lows point) (λ x. inner (slice_set point level x)) w
meter_step s (Plan-F.Guard system around inner) point w = metered_if (passes s.vars s.rows system around point) (inner point w) w
meter_step s (Plan-F.Leaf leaf write right) point w = metered_leaf s leaf write right point w

-- what a plan does to the meter
abbrev pub meter_plan : Setting → Plan → Metering
meter_plan s = fold-Plan Metering (meter_step s)

abbrev pub meter_plans : Setting → List Plan → Metering
meter_plans s plans = parts_metered (map (meter_plan s) plans)
