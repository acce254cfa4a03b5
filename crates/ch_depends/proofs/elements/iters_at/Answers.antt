use Rattle.std.proofs.Common.{◌^◌, arith}
use Rattle.std.proofs.lemmas.Int.{ints}
use Rattle.ch_affine.specs.Affine.{IsAtMost}
use Rattle.ch_space.proofs.EndsOf.{instance_small, same_at, value_at, iters_more}
use Rattle.ch_depends.proofs.elements.iters_at.Goals as goal

pub value-requires-clause-same : goal.value-requires-clause-same
value-requires-clause-same c =
    same_at c.args.piece.now c.as_slice-form-items.result.now c.args.values.now c.loop-form.form-index c.form-item.result c.requires.plain.whole c.requires.one
    c.as_slice-form-items.ensures c.form-item.is c.loop-form-test.true

pub value-requires-clause-small : goal.value-requires-clause-small
value-requires-clause-small c = instance_small c.args.piece.now c.args.values.now c.known.ensures c.requires.one

pub overflow_cast-value : goal.overflow_cast-value
overflow_cast-value c =
    let v : IsAtMost (2 ^ 54) c.value.result =
    value_at c.args.piece.now c.as_slice-form-items.result.now c.args.values.now c.loop-form.form-index c.form-item.result c.value.result c.requires.plain.near c.requires.one
    c.as_slice-form-items.ensures c.form-item.is c.loop-form-test.true c.value.ensures in
    omega (arith, ints)

pub loop-form-preserved : goal.loop-form-preserved
loop-form-preserved c =
    let v : IsAtMost (2 ^ 54) c.value.result =
    value_at c.args.piece.now c.as_slice-form-items.result.now c.args.values.now c.loop-form.form-index c.form-item.result c.value.result c.requires.plain.near c.requires.one
    c.as_slice-form-items.ensures c.form-item.is c.loop-form-test.true c.value.ensures in
    iters_more c.args.piece.now c.as_slice-form-items.result.now c.args.values.now c.loop-form.iters c.push.new.self c.loop-form.form-index c.form-item.result _ c.value.result
    c.as_slice-form-items.ensures c.form-item.is c.loop-form-test.true c.value.ensures c.loop-form.invariant c.in_ok-push.ensures.ok (omega (arith, ints))
