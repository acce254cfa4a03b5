use Rattle.std.proofs.Common.{◌+◌, ◌∙◌, ap, ap₂, arith}
use Rattle.ch_space.specs.Built.{rows_of}
use Rattle.ch_space.proofs.Builds.{all_few, system_fits}
use Rattle.ch_space.proofs.nest_pieces.piece_of.Goals as goal

pub overflow_add-levels : goal.overflow_add-levels
overflow_add-levels c =
    let few = all_few c.args.around.now c.loops_in-levels.result c.hidden_in-hidden.result c.loops_in-levels.ensures c.hidden_in-hidden.ensures c.requires.few in
    omega arith

pub overflow_cast-result-2 : goal.overflow_cast-result-2
overflow_cast-result-2 c =
    let few = all_few c.args.around.now c.loops_in-levels.result c.hidden_in-hidden.result c.loops_in-levels.ensures c.hidden_in-hidden.ensures c.requires.few in
    omega arith

pub overflow_add-result : goal.overflow_add-result
overflow_add-result c =
    let few = all_few c.args.around.now c.loops_in-levels.result c.hidden_in-hidden.result c.loops_in-levels.ensures c.hidden_in-hidden.ensures c.requires.few in
    omega arith

pub overflow_cast-result-3 : goal.overflow_cast-result-3
overflow_cast-result-3 c =
    let few = all_few c.args.around.now c.loops_in-levels.result c.hidden_in-hidden.result c.loops_in-levels.ensures c.hidden_in-hidden.ensures c.requires.few in
    omega arith

pub invariant_of-result : goal.invariant_of-result
invariant_of-result c =
    let all = ap₂ ◌+◌ c.loops_in-levels.ensures c.hidden_in-hidden.ensures in
    system_fits c.args.around.now _ _ _ c.requires.fit c.requires.few all
    (c.in_ok-rows.ensures ∙ ap₂ (λ n at. rows_of n at c.args.around.now) all c.loops_in-levels.ensures) c.in_ok-boxes.ensures
