use Rattle.std.proofs.lemmas.Bool.{both_ways}
use Rattle.ch_depends.proofs.Answering.{pushes, skips}
use Rattle.ch_depends.proofs.Gathered.{slice_at}
use Rattle.ch_depends.proofs.levels.push_level.Goals as goal

pub returns-then-branch : goal.returns-then-branch
returns-then-branch c =
    pushes c.args.sides.now c.args.at.from c.args.at.to c.args.at.level c.args.levels.now c.index-sides-at.result c.index-sides-at-2.result
    (slice_at c.args.sides.now c.args.at.from c.index-sides-at.result c.requires.from c.index-sides-at.is)
    (slice_at c.args.sides.now c.args.at.to c.index-sides-at-2.result c.requires.to c.index-sides-at-2.is)
    c.requires.before c.push.new.self c.push.result (c.in_ok-depend_at.ensures.0 c.if-branch.true) c.push.ensures.ok

pub returns : goal.returns
returns c =
    skips c.args.sides.now c.args.at.from c.args.at.to c.args.at.level c.args.levels.now c.index-sides-at.result c.index-sides-at-2.result
    (slice_at c.args.sides.now c.args.at.from c.index-sides-at.result c.requires.from c.index-sides-at.is)
    (slice_at c.args.sides.now c.args.at.to c.index-sides-at-2.result c.requires.to c.index-sides-at-2.is)
    c.requires.before (λ m. both_ways _ c.if-branch.false (c.in_ok-depend_at.ensures.1 m))
