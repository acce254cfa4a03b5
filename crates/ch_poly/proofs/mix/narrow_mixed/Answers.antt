use Rattle.std.proofs.Common.{◌≡◌, length, arith, rules, SFits}
use Rattle.std.specs.Int.{w128}
use Rattle.std.proofs.lemmas.Int.{to_z-of_z}
use Rattle.ch_poly.proofs.Mixed.{mixed_either}
use Rattle.ch_poly.proofs.mix.narrow_mixed.Goals as goal

pub returns-clause-keeps : goal.returns-clause-keeps
returns-clause-keeps c =
    let b : SFits w128 c.in-Some.bound = search rules in
    let len : length c.mix.new.sums ≡ length c.args.lows.now = omega (arith, c.requires.sums) in
    let i = c.in-Some.ensures.implied in
    let k = simp to_z-of_z at c.narrow_by.ensures.keeps in
    mixed_either _ c.mix.new.sums _ _ _ _ _ c.narrow_by.result i len k
