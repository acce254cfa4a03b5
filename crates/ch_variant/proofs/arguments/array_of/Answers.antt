use Rattle.std.proofs.Common.{◌≡◌, ◌∙◌, ap, arith, ◌<◌, ◌≤◌, length}
use Rattle.ch_nest.specs.LoopNest.{LoopNest}
use Rattle.ch_space.proofs.Bodies.{few_arrays, nest_arrays}
use Rattle.ch_variant.proofs.arguments.array_of.Goals as goal

pub overflow_cast-result : goal.overflow_cast-result
overflow_cast-result c =
    let few : length c.args.nest.now.arrays ≤ 262144 = few_arrays c.args.nest.now.arrays (nest_arrays c.args.nest.now c.known.ensures) in
    let same : length c.as_slice.result.now ≡ length c.args.nest.now.arrays = ap length (c.as_slice.ensures ∙ ap (λ (n : LoopNest). n.arrays) c.nest.view_is) in
    let inside : c.in-Some.k < length c.as_slice.result.now = c.in-Some.ensures.inside in
    omega (arith, few, same, inside)
