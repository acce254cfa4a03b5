use Rattle.std.proofs.Common.{length, arith}
use Rattle.std.proofs.lemmas.Int.{ints}
use Rattle.ch_moved.specs.Arguments.{natural}
use Rattle.ch_moved.proofs.Leaving.{found_from, next_from}
use Rattle.ch_timed.specs.Groups.{in_group, piece}
use Rattle.ch_timed.specs.Timed.{pieces}
use Rattle.ch_moved.proofs.causes.unshared.Goals as goal

pub returns-then-is_left : goal.returns-then-is_left
returns-then-is_left c =
    let list = c.args.space.now.list in
    found_from (λ k. in_group list c.args.number c.args.last (piece list (natural k))) (λ k. in_group list c.args.number c.args.first (piece list k)) (length (pieces list)) c.loop-k.k _ _ (omega (arith, c.pieces-k-end.ensures)) c.if-is_left.ensures
    (omega (arith, ints)) c.loop-k.invariant

pub loop-k-preserved : goal.loop-k-preserved
loop-k-preserved c =
    let list = c.args.space.now.list in
    next_from (λ k. in_group list c.args.number c.args.last (piece list (natural k))) (λ k. in_group list c.args.number c.args.first (piece list k)) (length (pieces list)) c.loop-k.k _ (omega (arith, c.pieces-k-end.ensures)) c.if-is_left.ensures
    c.loop-k.invariant
