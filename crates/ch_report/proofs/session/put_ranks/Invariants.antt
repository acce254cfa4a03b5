use Rattle.std.proofs.Common.{◌≡◌, ◌++◌, ◌+◌, drop}
use Rattle.ch_report.specs.Numbered.{numbered}
use Rattle.ch_report.specs.Sessions.{rank_line}
use Rattle.ch_report.proofs.session.put_ranks.Given as goal

abbrev pub invariant-loop-i : goal.invariant-loop-i
invariant-loop-i l =
    l.out ++ numbered (rank_line l.grid.params) (l.i + 1) (drop l.i l.ranks) ≡ l.initial.out ++ numbered (rank_line l.grid.params) 1 l.ranks
