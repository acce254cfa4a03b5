use Rattle.std.proofs.Common.{◌∙◌, sym}
use Rattle.std.proofs.lemmas.Bool.{both_ways}
use Rattle.std.proofs.lemmas.Result.{IfOk-weaker}
use Rattle.ch_depends.specs.Sought.{IsBest, Kept, Reversed}
use Rattle.ch_depends.proofs.Bests.{best_same}
use Rattle.ch_depends.proofs.candidates.least_unless_free.Goals as goal

pub returns-then-is_listed : goal.returns-then-is_listed
returns-then-is_listed c = λ e f k. both_ways _ k.0 (sym c.is_listed.ensures ∙ c.if-is_listed.true)

pub returns : goal.returns
returns c = IfOk-weaker c.least_of_sides.result (IsBest (Reversed c.args.from.now c.args.to.now)) (IsBest (Kept c.args.free.now c.args.from.now c.args.to.now))
    (λ o. best_same (Reversed c.args.from.now c.args.to.now) (Kept c.args.free.now c.args.from.now c.args.to.now) o (λ x y r. (sym c.is_listed.ensures ∙ c.if-is_listed.false, r)) (λ x y k. k.1)) c.least_of_sides.ensures
