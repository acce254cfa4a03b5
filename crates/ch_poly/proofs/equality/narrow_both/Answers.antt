use Rattle.std.proofs.Common.{rules, SFits}
use Rattle.std.specs.Int.{w128}
use Rattle.std.proofs.lemmas.Int.{to_z-of_z}
use Rattle.ch_poly.proofs.Equal.{both_then_empty, both_keep}
use Rattle.ch_poly.proofs.Ranges.{inside_then}
use Rattle.ch_poly.proofs.equality.narrow_both.Goals as goal

pub returns-in_default-narrow_by-clause-inside : goal.returns-in_default-narrow_by-clause-inside
returns-in_default-narrow_by-clause-inside c = inside_then _ _ _ _ _ _ c.narrow_by.ensures.inside c.narrow_by-2.ensures.inside

pub returns-clause-inside : goal.returns-clause-inside
returns-clause-inside c = inside_then _ _ _ _ _ _ c.narrow_by.ensures.inside c.narrow_by-2.ensures.inside

pub returns-in_default-narrow_by-clause-keeps : goal.returns-in_default-narrow_by-clause-keeps
returns-in_default-narrow_by-clause-keeps c =
    let v : SFits w128 c.args.e.now.value = search rules in
    let w : SFits w128 c.args.e.now.opposite = search rules in
    let before = simp to_z-of_z at c.in-Some.ensures.keeps in
    let none = simp to_z-of_z at c.in_default-narrow_by.ensures.keeps in
    both_then_empty _ _ _ _ c.requires.opposite c.args.lows.now c.args.highs.now c.narrow_by.new.lows c.narrow_by.new.highs c.args.lows.now c.args.highs.now before none

pub returns-clause-keeps : goal.returns-clause-keeps
returns-clause-keeps c =
    let v : SFits w128 c.args.e.now.value = search rules in
    let w : SFits w128 c.args.e.now.opposite = search rules in
    let before = simp to_z-of_z at c.in-Some.ensures.keeps in
    let after = simp to_z-of_z at c.in-Some-narrow_by.ensures.keeps in
    both_keep _ _ _ _ c.requires.opposite c.args.lows.now c.args.highs.now c.narrow_by.new.lows c.narrow_by.new.highs c.narrow_by-2.new.lows c.narrow_by-2.new.highs before after
