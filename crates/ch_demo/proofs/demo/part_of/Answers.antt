use Rattle.std.proofs.Common.{◌∙◌, ap}
use Rattle.std.proofs.lemmas.Result.{IfOk-weaker}
use Rattle.ch_demo.specs.Product.{product}
use Rattle.ch_demo.proofs.Made.{as_session}
use Rattle.ch_demo.proofs.demo.part_of.Goals as goal

pub returns-clause-tuned : goal.returns-clause-tuned
returns-clause-tuned c =
    IfOk-weaker c.searched.result _ _ (λ part h. as_session c.args.number c.args.k c.args.grid.now.params _ _ _ part c.requires.there c.requires.grid
    c.turns_alone-machine.ensures (c.in_ok-nest.ensures.value ∙ ap product c.size_of.ensures.value) c.requires.recipe h) c.searched.ensures.tuned
