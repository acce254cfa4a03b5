use Rattle.std.proofs.Common.{◌≡◌, ◌∙◌, ◌+◌, ◌≤◌, min, sym, ap₂, subst}
use Rattle.ch_depends.proofs.Answering.{few_between}
use Rattle.ch_depends.proofs.Gathered.{slice_at}
use Rattle.ch_depends.proofs.Listing.{met_between}
use Rattle.ch_depends.proofs.levels.push_between.Goals as goal

pub returns : goal.returns
returns c =
    let depth : c.min-depth.result ≡ min c.index-sides-from.result.piece.now.levels c.index-sides-to.result.piece.now.levels =
    c.min-depth.ensures ∙ ap₂ (λ s u. min s.piece.now.levels u.piece.now.levels) (sym c.index-sides-from.is) (sym c.index-sides-to.is) in
    let few : min c.index-sides-from.result.piece.now.levels c.index-sides-to.result.piece.now.levels + 1 ≤ c.loop-level.level = subst (λ n. n + 1 ≤ c.loop-level.level) depth c.loop-level-test.false in
    met_between c.args.sides.now c.args.from c.args.to c.loop-level.level c.loop-level.levels c.loop-level.invariant
    (few_between c.args.sides.now c.args.from c.args.to c.loop-level.level c.index-sides-from.result c.index-sides-to.result c.requires.sides
    (slice_at c.args.sides.now c.args.from c.index-sides-from.result c.requires.from c.index-sides-from.is)
    (slice_at c.args.sides.now c.args.to c.index-sides-to.result c.requires.to c.index-sides-to.is) few)
