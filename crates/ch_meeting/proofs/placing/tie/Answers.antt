use Rattle.std.proofs.Common.{◌≡◌, ◌<◌, ◌≤◌, subst, length, get_or}
use Rattle.ch_meeting.proofs.Steps.{tie_all, tie_more}
use Rattle.ch_meeting.proofs.placing.tie.Goals as goal

pub loop-k-preserved : goal.loop-k-preserved
loop-k-preserved c =
    tie_more c.args.piece.now c.args.draft.now c.loop-k.draft c.zero.new.self c.args.levels c.args.iters c.loop-k.k c.index-origin-k.result c.index-origin-k.result c.in_ok-row.row c.requires.whole
    c.requires.inside (subst (λ xs. c.loop-k.k < length xs) c.as_slice-origin.ensures c.loop-k-test.true)
    (subst (λ xs. c.index-origin-k.result ≡ get_or xs c.loop-k.k c.index-origin-k.result) c.as_slice-origin.ensures c.index-origin-k.is)
    c.in_ok-row.ensures.value c.loop-k.invariant c.in_ok-zero.ensures

pub returns : goal.returns
returns c =
    tie_all c.args.piece.now c.args.draft.now c.loop-k.draft c.args.levels c.args.iters c.loop-k.k (subst (λ xs. length xs ≤ c.loop-k.k) c.as_slice-origin.ensures c.loop-k-test.false)
    (subst (λ xs. c.loop-k.k ≤ length xs) c.as_slice-origin.ensures c.loop-k.auto.k-end) c.loop-k.invariant
