use Rattle.std.proofs.Common.{◌∙◌, ◌++◌, ◌∷◌, [], ap, sym, if◌then◌else◌, append-nil}
use Rattle.std.proofs.lemmas.Result.{on_ok_weaker}
use Rattle.ch_reduce.proofs.pairs.push_pair.Goals as goal

pub returns-then-bodies_add_to_one : goal.returns-then-bodies_add_to_one
returns-then-bodies_add_to_one c =
    on_ok_weaker c.push.result (λ e. e ∙ ap (λ t. c.args.pairs.now ++ (if t then c.args.pair ∷ [] else [])) (sym (sym c.bodies_add_to_one.ensures ∙ c.if-bodies_add_to_one.true))) c.push.ensures.ok

pub returns : goal.returns
returns c = sym (append-nil c.args.pairs.now) ∙ ap (λ t. c.args.pairs.now ++ (if t then c.args.pair ∷ [] else [])) (sym (sym c.bodies_add_to_one.ensures ∙ c.if-bodies_add_to_one.false))
