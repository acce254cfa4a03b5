use Rattle.std.proofs.Common.{pos, get_or, set, ◌∙◌, rules, SFits, w64}
use Rattle.std.specs.Int.{w128}
use Rattle.std.proofs.lemmas.Int.{to_z-of_z}
use Rattle.std.proofs.lemmas.List.{length-set}
use Rattle.ch_poly.specs.Boxes.{at}
use Rattle.ch_poly.proofs.Equal.{missed_empty, restored}
use Rattle.ch_poly.proofs.equality.misses_lowest.Goals as goal

pub returns-clause-highs : goal.returns-clause-highs
returns-clause-highs c =
    let l : SFits w64 (get_or c.args.lows.now c.args.k (pos 0)) = search rules in
    let h : SFits w64 (get_or c.args.highs.now c.args.k (pos 0)) = search rules in
    simp to_z-of_z (restored c.args.highs.now c.args.k (at c.args.lows.now c.args.k))

pub returns-clause-empty : goal.returns-clause-empty
returns-clause-empty c = λ t.
    let l : SFits w64 (get_or c.args.lows.now c.args.k (pos 0)) = search rules in
    let v : SFits w128 c.args.e.now.value = search rules in
    let m = simp to_z-of_z at (c.misses-missed.ensures t) in
    missed_empty _ _ c.args.lows.now (set c.args.highs.now c.args.k (at c.args.lows.now c.args.k)) c.requires.same (length-set c.args.highs.now c.args.k (at c.args.lows.now c.args.k) ∙ c.requires.boxed.same) m
