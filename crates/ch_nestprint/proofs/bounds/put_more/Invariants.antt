use Rattle.std.proofs.Common.{◌≡◌, ◌++◌, drop}
use Rattle.std.specs.List.{flat_map}
use Rattle.ch_nestprint.specs.Ends.{comma_end}
use Rattle.ch_nestprint.proofs.bounds.put_more.Given as goal

abbrev pub invariant-loop-form : goal.invariant-loop-form
invariant-loop-form l = l.out ++ flat_map (comma_end l.letters l.raises) (drop l.form-index l.forms) ≡ l.initial.out ++ flat_map (comma_end l.letters l.raises) l.forms
