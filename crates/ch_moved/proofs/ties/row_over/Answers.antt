use Rattle.std.proofs.Common.{◌≡◌, length}
use Rattle.ch_affine.specs.Affine.{IsSmall}
use Rattle.ch_moved.specs.Spread.{spread}
use Rattle.ch_moved.specs.Substituted.{substituted}
use Rattle.ch_moved.proofs.Fitted.{some_value}
use Rattle.ch_moved.proofs.Over.{spread_over, kept_ok}
use Rattle.ch_moved.proofs.ties.row_over.Goals as goal

pub returns-in-Some : goal.returns-in-Some
returns-in-Some c =
    spread_over c.args.variables c.args.forms.now c.args.row.now c.in-Some.new c.requires.long c.requires.old
    (some_value c.in_ok-new.field-0 (IsSmall (substituted c.args.variables c.args.forms.now c.args.row.now) → ⊥)
    (λ f. f ≡ spread c.args.variables c.args.forms.now (length c.args.forms.now) c.args.row.now) c.in-Some.new c.in_ok-new.ensures c.in-Some.is)

pub returns-in-None : goal.returns-in-None
returns-in-None c = kept_ok c.kept.result c.args.variables c.args.forms.now c.args.row.now c.kept.ensures
