-- The meter, element by element.
use Rattle.std.proofs.Common.{◌≡◌, refl, sym, ap, ◌∙◌, ℕ, ◌+◌, ◌*◌, min, List, [], ◌∷◌, ◌++◌, length, map, arith}
use Rattle.std.specs.List.{flat_map}
use Rattle.ch_nest.specs.CostModel.{CostModel}
use Rattle.ch_timed.specs.Order.{do_all}
use Rattle.ch_timed.specs.declared.element.Element.{Element}
use Rattle.ch_cost.specs.Cost.{addresses, all_turns, cost, held, misses, most_cost, turns_begun, whole_cost}
use Rattle.ch_cost.specs.Meter.{Meter, all_held, at_start, metered, read_off, visit}

misses_append : (m : CostModel) (slots xs ys : List ℕ) → misses m slots (xs ++ ys) ≡ misses m slots xs + misses m (all_held m slots xs) ys
misses_append m slots [] ys = omega arith
misses_append m slots (x ∷ xs) ys = omega (arith, misses_append m (held m slots x) xs ys)

meter_sum : (m : CostModel) (extents : List (List ℕ)) (list : List Element) (meter : Meter)
    → (do_all (metered m) (map (visit extents) list) meter).sum
    ≡ meter.sum + (length list + m.turn * all_turns meter.last (map (λ e. e.vector) list) + m.miss * misses m meter.slots (flat_map (addresses extents) list))
meter_sum m extents [] meter = omega arith
meter_sum m extents (e ∷ es) meter =
    let more = meter_sum m extents es (metered m (visit extents e) meter) in
    let split = misses_append m meter.slots (addresses extents e) (flat_map (addresses extents) es) in
    omega (arith, more, ap (λ n. m.miss * n) split)

pub cost_metered : (m : CostModel) (extents : List (List ℕ)) (list : List Element) → cost m extents list ≡ min most_cost (read_off m extents list).sum
cost_metered m extents list =
    let s : (read_off m extents list).sum ≡ whole_cost m extents list = omega (arith, meter_sum m extents list (at_start m)) in
    ap (λ n. min most_cost n) (sym s)
