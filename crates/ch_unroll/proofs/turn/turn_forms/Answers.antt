use Rattle.std.proofs.Common.{◌∙◌, ◌<◌, ◌≤◌, length, arith}
use Rattle.std.proofs.lemmas.List.{take_all}
use Rattle.ch_unroll.specs.Turns.{turn_forms}
use Rattle.ch_unroll.proofs.Forms.{count_turn, next_form}
use Rattle.ch_unroll.proofs.turn.turn_forms.Goals as goal

pub loop-k-preserved : goal.loop-k-preserved
loop-k-preserved c =
    let fs = turn_forms c.args.levels c.args.level c.args.amount c.args.remainder in
    let n = count_turn c.args.levels c.args.level c.args.amount c.args.remainder in
    let l : c.loop-k.k < length fs = omega arith in
    next_form fs c.loop-k.forms _ c.loop-k.k _ l c.in_ok-turn_form.ensures c.loop-k.invariant c.in_ok-push.ensures.ok

pub returns : goal.returns
returns c =
    let fs = turn_forms c.args.levels c.args.level c.args.amount c.args.remainder in
    let n = count_turn c.args.levels c.args.level c.args.amount c.args.remainder in
    let l : length fs ≤ c.loop-k.k = omega arith in
    c.loop-k.invariant ∙ take_all c.loop-k.k fs l
