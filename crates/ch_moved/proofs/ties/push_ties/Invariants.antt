use Rattle.std.proofs.Common.{◌≡◌, ◌++◌, drop}
use Rattle.ch_moved.specs.Spread.{ties}
use Rattle.ch_moved.proofs.ties.push_ties.Given as goal

abbrev pub invariant-loop-k : goal.invariant-loop-k
invariant-loop-k l = l.rows ++ ties l.k l.hidden (drop l.k l.forms) ≡ l.initial.rows ++ ties 0 l.hidden l.forms
