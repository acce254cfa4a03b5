use Rattle.std.proofs.Common.{◌<◌, ◌+◌, ◌-◌, ap, ◌∙◌, ◌++◌, SFits, w64, arith}
use Rattle.std.proofs.lemmas.Int.{to_z-of_z}
use Rattle.ch_space.specs.Built.{zeros}
use Rattle.ch_cut.proofs.Leasts.{multiple_is_small}
use Rattle.ch_cut.proofs.ends.multiple.Goals as goal

pub invariant_of-result : goal.invariant_of-result
invariant_of-result c =
    let s : SFits w64 c.args.factor = c.ranges.factor in
    let n : (c.args.level - 1) + (c.args.variables - c.args.level) < 4096 = let a = c.requires.some in let d = c.requires.deep in let f = c.requires.few in omega arith in
    let front = c.in_ok-push_zeros.ensures ∙ ap (λ z. z ++ zeros (c.args.level - 1)) c.new-coefs.ensures in
    let p = simp to_z-of_z at c.in_ok-push.ensures.ok in
    multiple_is_small (c.args.level - 1) (c.args.variables - c.args.level) c.args.factor c.push_zeros.new.numbers c.push.new.self c.push_zeros-2.new.numbers n c.requires.factor front p c.in_ok-push_zeros-2.ensures
