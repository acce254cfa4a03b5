use Rattle.std.proofs.Common.{◌≡◌, ◌<◌, ap, subst, length, get_or, arith}
use Rattle.std.proofs.lemmas.List.{get_or_read}
use Rattle.ch_meeting.specs.Drafts.{Narrows}
use Rattle.ch_meeting.specs.Placed.{SameUpTo}
use Rattle.ch_meeting.proofs.Steps.{same_more}
use Rattle.ch_meeting.proofs.cells.same_cell.Goals as goal

pub loop-k-preserved : goal.loop-k-preserved
loop-k-preserved c =
    let l : c.loop-k.k < length c.args.accesses.now.first.now.subs = subst (λ xs. c.loop-k.k < length xs) c.as_slice-subs.ensures c.loop-k-test.true in
    let m : c.loop-k.k < length c.args.accesses.now.second.now.subs = subst (λ n. c.loop-k.k < n) c.requires.same l in
    let is = subst (λ xs. c.index-subs-k.result ≡ get_or xs c.loop-k.k c.index-subs-k.result) c.as_slice-subs.ensures c.index-subs-k.is in
    let are = subst (λ xs. c.index-others-k.result ≡ get_or xs c.loop-k.k c.index-others-k.result) c.as_slice-others.ensures c.index-others-k.is in
    same_more c.args.accesses.now.first.now c.args.accesses.now.second.now c.args.sites.here c.args.sites.there c.loop-k.k c.index-subs-k.result c.index-others-k.result
    (λ d. get_or_read c.args.accesses.now.first.now.subs c.loop-k.k c.index-subs-k.result l is d) (λ d. get_or_read c.args.accesses.now.second.now.subs c.loop-k.k c.index-others-k.result m are d)
    c.args.draft.now c.loop-k.draft c.same_subscript.new.draft c.loop-k.invariant c.in_ok-same_subscript.ensures

pub returns : goal.returns
returns c =
    let e : c.loop-k.k ≡ length c.args.accesses.now.first.now.subs = omega (arith, c.loop-k-test.false, c.loop-k.auto.k-end, ap length c.as_slice-subs.ensures) in
    subst (λ n. Narrows c.args.draft.now c.loop-k.draft (SameUpTo n c.args.accesses.now.first.now c.args.accesses.now.second.now c.args.sites.here c.args.sites.there)) e c.loop-k.invariant
