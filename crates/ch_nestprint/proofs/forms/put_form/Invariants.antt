use Rattle.std.proofs.Common.{◌≡◌, ◌++◌, drop}
use Rattle.ch_nestprint.specs.Ends.{form_symbols, terms_symbols}
use Rattle.ch_nestprint.proofs.forms.put_form.Given as goal

abbrev pub invariant-loop-level : goal.invariant-loop-level
invariant-loop-level l = l.out ++ terms_symbols l.letters l.first l.level (drop l.level l.coefs) l.constant ≡ l.initial.out ++ form_symbols l.letters l.coefs l.constant
