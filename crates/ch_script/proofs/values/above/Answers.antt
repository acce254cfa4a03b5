use Rattle.std.proofs.Common.{rules, ◌≤◌, ◌^◌, unsigned_abs, length, ◌∙◌, SFits, w64}
use Rattle.std.proofs.lemmas.Int.{to_z-of_z}
use Rattle.ch_script.proofs.ValuesFit.{form_small}
use Rattle.ch_script.proofs.values.above.Goals as goal

pub invariant_of-result : goal.invariant_of-result
invariant_of-result c =
    let fits : SFits w64 c.constant_between-constant.result = search rules in
    let near : unsigned_abs c.constant_between-constant.result ≤ 2 ^ 60 = search rules in
    simp to_z-of_z (form_small (length c.args.values.now) c.args.more.now c.args.less.now c.in_ok-coefs.coefs c.constant_between-constant.result c.requires.more_fit c.requires.less_fit (c.in_ok-coefs.ensures.count ∙ c.levels_in-levels.ensures) c.in_ok-coefs.ensures.small near)
