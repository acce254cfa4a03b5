use Rattle.std.proofs.Common.{◌≡◌, ◌∙◌, []}
use Rattle.std.proofs.lemmas.Result.{IfOk-weaker}
use Rattle.ch_depends.specs.Depends.{pair_of}
use Rattle.ch_depends.specs.Free.{pair_of_elements, reversed_but}
use Rattle.ch_depends.proofs.BySteps.{none_free}
use Rattle.ch_timed.specs.Conflict.{reversed}
use Rattle.ch_depends.proofs.reversal.reversed.Goals as goal

pub returns : goal.returns
returns c = IfOk-weaker c.reversed_but.result (λ pair. pair ≡ pair_of_elements (reversed_but c.args.old.now.list c.args.new.now.list []))
    (λ pair. pair ≡ pair_of (reversed c.args.old.now.list c.args.new.now.list)) (λ pair e. e ∙ none_free c.args.old.now.list c.args.new.now.list) c.reversed_but.ensures
