use Rattle.std.proofs.Common.{◌≡◌, drop, max}
use Rattle.ch_script.specs.Values.{greatest_level}
use Rattle.ch_script.proofs.values.greatest_level.Given as goal

abbrev pub invariant-loop-term : goal.invariant-loop-term
invariant-loop-term l = max l.greatest (greatest_level (drop l.term-index l.terms)) ≡ greatest_level l.terms
