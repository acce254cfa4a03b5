use Rattle.std.proofs.Common.{◌≡◌, ◌-◌}
use Rattle.ch_nestprint.specs.Names.{first_free, letters_for}
use Rattle.ch_nestprint.proofs.named.letters_for.Given as goal

abbrev pub invariant-loop-letters : goal.invariant-loop-letters
invariant-loop-letters l = first_free l.arrays (l.most - l.letters) l.letters ≡ letters_for l.arrays
