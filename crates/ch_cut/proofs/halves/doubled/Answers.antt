use Rattle.std.proofs.Common.{◌≤◌, length, refl, arith}
use Rattle.ch_cut.proofs.Doubling.{all_doubled, next_doubled}
use Rattle.ch_cut.proofs.halves.doubled.Goals as goal

pub loop-k-preserved : goal.loop-k-preserved
loop-k-preserved c =
    next_doubled _ c.loop-k.k c.args.level c.args.more c.args.places.now c.loop-k.new c.push.new.self c.doubled_place.result refl c.loop-k-test.true c.doubled_place.ensures c.loop-k.invariant c.in_ok-push.ensures.ok

pub returns : goal.returns
returns c =
    let l : length c.args.places.now ≤ c.loop-k.k = let t = c.loop-k-test.false in omega arith in
    all_doubled c.loop-k.k c.args.level c.args.more c.args.places.now c.loop-k.new l c.loop-k.invariant
