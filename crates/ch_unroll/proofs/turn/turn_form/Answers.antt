use Rattle.std.proofs.Common.{◌≡◌, sym, subst}
use Rattle.std.specs.Result.{IfOk}
use Rattle.ch_unroll.proofs.Forms.{turn_elsewhere, turn_there}
use Rattle.ch_unroll.proofs.turn.turn_form.Goals as goal

pub returns-then-k-level : goal.returns-then-k-level
returns-then-k-level c =
    subst (λ z. IfOk c.multiple.result (λ form. form ≡ z)) (sym (turn_there c.args.levels c.args.level c.args.amount c.args.remainder c.args.k c.requires.level c.if-k-level.true)) c.multiple.ensures

pub returns-else-k-level : goal.returns-else-k-level
returns-else-k-level c =
    subst (λ z. IfOk c.unit.result (λ form. form ≡ z)) (sym (turn_elsewhere c.args.levels c.args.level c.args.amount c.args.remainder c.args.k c.requires.k c.if-k-level.false)) c.unit.ensures
