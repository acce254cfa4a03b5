use Rattle.std.proofs.Common.{◌<◌, length, arith}
use Rattle.std.proofs.lemmas.Int.{ints}
use Rattle.std.proofs.lemmas.List.Elements.{All-push, All-same}
use Rattle.ch_affine.specs.Rows.{IsBox}
use Rattle.ch_nest.proofs.Corners.{origin}
use Rattle.ch_datacopy.proofs.Pairing.{empty_none, shared_box, shared_end, shared_more}
use Rattle.ch_datacopy.proofs.widths.all_shared.Goals as goal

pub returns-then-range : goal.returns-then-range
returns-then-range c =
    let l : c.loop-k.k < length c.args.seconds.now = let t = c.loop-k-test.true in let s = c.requires.same in omega (arith, t, s) in
    empty_none c.args.firsts.now c.args.seconds.now c.loop-k.ranges _ c.loop-k.k origin origin c.shared-range.result c.loop-k-test.true l c.shared-range.ensures c.loop-k.invariant.same
    (λ h. omega (arith, ints, h))

pub loop-k-preserved : goal.loop-k-preserved
loop-k-preserved c =
    let l : c.loop-k.k < length c.args.seconds.now = let t = c.loop-k-test.true in let s = c.requires.same in omega (arith, t, s) in
    record {
      same = shared_more c.args.firsts.now c.args.seconds.now c.loop-k.ranges c.push.new.self _ c.loop-k.k origin origin c.shared-range.result c.loop-k-test.true l c.shared-range.ensures c.loop-k.invariant.same c.in_ok-push.ensures.ok;
      boxes = All-same IsBox _ _ c.in_ok-push.ensures.ok (All-push IsBox c.loop-k.ranges c.shared-range.result c.loop-k.invariant.boxes
          (shared_box _ _ c.shared-range.result (c.requires.firsts c.loop-k.k origin c.loop-k-test.true) (c.requires.seconds c.loop-k.k origin l) c.shared-range.ensures (let f = c.if-range.false in omega (arith, ints, f))));
    }

pub returns : goal.returns
returns c = (shared_end c.args.firsts.now c.args.seconds.now c.loop-k.ranges _ c.loop-k.k c.loop-k-test.false c.loop-k.invariant.same, c.loop-k.invariant.boxes)
