use Rattle.std.proofs.Common.{◌∙◌, sym}
use Rattle.ch_codegen.proofs.Steps.{kept_more, place_known, run_many, run_one, run_whole, stops_here}
use Rattle.ch_codegen.proofs.runs.run_end.Goals as goal

pub returns-then-first-depth-clause-precede : goal.returns-then-first-depth-clause-precede
returns-then-first-depth-clause-precede c =
    run_one c.args.pieces.now c.args.depth c.index-pieces-0.result c.requires.apart c.requires.some c.index-pieces-0.is c.if-first-depth.true

pub place_of-here-requires : goal.place_of-here-requires
place_of-here-requires c = place_known c.args.pieces.now 0 c.args.depth c.index-pieces-0.result c.requires.apart c.requires.together c.requires.some c.index-pieces-0.is

pub place_of-requires : goal.place_of-requires
place_of-requires c =
    place_known c.args.pieces.now c.loop-k.k c.args.depth c.index-pieces-k.result c.requires.apart c.requires.together c.loop-k-test.true c.index-pieces-k.is

pub returns-then-place_of-here-clause-run : goal.returns-then-place_of-here-clause-run
returns-then-place_of-here-clause-run c =
    (run_many c.args.pieces.now c.args.depth c.loop-k.k c.place_of-here.result c.index-pieces-0.result c.requires.apart c.requires.systems c.requires.together c.requires.some
    c.index-pieces-0.is c.if-first-depth.false c.place_of-here.ensures c.loop-k.auto.k c.loop-k.invariant
    (stops_here c.args.pieces.now c.loop-k.k c.args.depth c.place_of-here.result c.index-pieces-k.result c.loop-k-test.true c.index-pieces-k.is
    (λ e. c.if-place_of-here.true (c.place_of.ensures ∙ e)))).0

pub returns-then-place_of-here-clause-precede : goal.returns-then-place_of-here-clause-precede
returns-then-place_of-here-clause-precede c =
    (run_many c.args.pieces.now c.args.depth c.loop-k.k c.place_of-here.result c.index-pieces-0.result c.requires.apart c.requires.systems c.requires.together c.requires.some
    c.index-pieces-0.is c.if-first-depth.false c.place_of-here.ensures c.loop-k.auto.k c.loop-k.invariant
    (stops_here c.args.pieces.now c.loop-k.k c.args.depth c.place_of-here.result c.index-pieces-k.result c.loop-k-test.true c.index-pieces-k.is
    (λ e. c.if-place_of-here.true (c.place_of.ensures ∙ e)))).1

pub loop-k-preserved : goal.loop-k-preserved
loop-k-preserved c =
    kept_more c.args.pieces.now c.loop-k.k c.args.depth c.place_of-here.result c.index-pieces-k.result c.loop-k-test.true c.index-pieces-k.is c.loop-k.invariant
    (sym c.place_of.ensures ∙ c.if-place_of-here.false)

pub returns-clause-run : goal.returns-clause-run
returns-clause-run c =
    run_whole c.args.pieces.now c.args.depth c.loop-k.k c.place_of-here.result c.index-pieces-0.result c.requires.apart c.requires.systems c.requires.together c.requires.some
    c.index-pieces-0.is c.if-first-depth.false c.place_of-here.ensures c.loop-k.auto.k c.loop-k.invariant c.loop-k-test.false
