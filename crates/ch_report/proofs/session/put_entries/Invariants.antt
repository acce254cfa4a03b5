use Rattle.std.proofs.Common.{◌≡◌, ◌++◌, ◌+◌, drop}
use Rattle.ch_report.specs.Numbered.{numbered}
use Rattle.ch_report.specs.Sessions.{entry_line}
use Rattle.ch_report.proofs.session.put_entries.Given as goal

abbrev pub invariant-loop-i : goal.invariant-loop-i
invariant-loop-i l =
    l.out ++ numbered (entry_line l.tuning.grid.now.params l.tuning.arrays.now) (l.i + 1) (drop l.i l.entries) ≡ l.initial.out ++ numbered (entry_line l.tuning.grid.now.params l.tuning.arrays.now) 1 l.entries
