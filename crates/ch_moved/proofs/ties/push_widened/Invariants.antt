use Rattle.std.proofs.Common.{◌≡◌, ◌++◌, map, take}
use Rattle.ch_moved.specs.Spread.{widened}
use Rattle.ch_moved.proofs.ties.push_widened.Given as goal

abbrev pub invariant-loop-form : goal.invariant-loop-form
invariant-loop-form l = l.rows ≡ l.initial.rows ++ map (widened l.more) (take l.form-index l.forms)
