use Rattle.std.proofs.Common.{◌≡◌, ◌+◌, ◌-◌, ◌++◌, drop}
use Rattle.ch_datacopy.specs.Cells.{iterator_ties}
use Rattle.ch_datacopy.proofs.rows.push_iterators.Given as goal

abbrev pub invariant-loop-k : goal.invariant-loop-k
invariant-loop-k l =
    l.rows ++ iterator_ties l.frame.around l.frame.cells ((l.frame.around + l.frame.inner) - l.levels) l.k (drop l.k l.origin)
    ≡ l.initial.rows ++ iterator_ties l.frame.around l.frame.cells ((l.frame.around + l.frame.inner) - l.levels) 0 l.origin
