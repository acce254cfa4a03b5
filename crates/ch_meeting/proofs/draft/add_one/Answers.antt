use Rattle.std.proofs.Common.{[], ◌∷◌, SFits, w64, rules}
use Rattle.std.proofs.lemmas.Int.{to_z-of_z}
use Rattle.std.proofs.lemmas.Result.{on_ok_weaker}
use Rattle.ch_meeting.proofs.Stretches.{added_long, added_small, added_one_sum, one_small}
use Rattle.ch_meeting.proofs.draft.add_one.Goals as goal

pub returns-clause-long : goal.returns-clause-long
returns-clause-long c =
    let f : SFits w64 c.args.coef = search rules in
    on_ok_weaker c.push.result
    (λ e. added_long c.args.coefs.now c.pad.new.coefs c.push.new.self (c.args.coef ∷ []) c.args.variable c.requires.after c.in_ok-pad.ensures e) (simp to_z-of_z at c.push.ensures.ok)

pub returns-clause-small : goal.returns-clause-small
returns-clause-small c =
    let f : SFits w64 c.args.coef = search rules in
    on_ok_weaker c.push.result
    (λ e. added_small c.args.coefs.now c.pad.new.coefs c.push.new.self (c.args.coef ∷ []) c.args.variable c.requires.after c.in_ok-pad.ensures e c.requires.small
    (one_small c.args.coef c.requires.small_one)) (simp to_z-of_z at c.push.ensures.ok)

pub returns-clause-sum : goal.returns-clause-sum
returns-clause-sum c =
    let f : SFits w64 c.args.coef = search rules in
    on_ok_weaker c.push.result
    (λ e. added_one_sum c.args.coefs.now c.pad.new.coefs c.push.new.self c.args.coef c.args.variable c.requires.after c.in_ok-pad.ensures e) (simp to_z-of_z at c.push.ensures.ok)
