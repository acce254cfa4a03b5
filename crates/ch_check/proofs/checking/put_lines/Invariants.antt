use Rattle.std.proofs.Common.{◌≡◌, ◌++◌, drop, take}
use Rattle.std.specs.List.{list_any}
use Rattle.ch_check.specs.Checked.{check_line, is_refused}
use Rattle.ch_report.specs.Numbered.{numbered}
use Rattle.ch_check.proofs.checking.put_lines.Given as goal

abbrev pub invariant-loop-k : goal.invariant-loop-k
invariant-loop-k l = record {
  text : l.out ++ numbered (check_line l.deck l.at) l.k (drop l.k l.deck.sessions)
      ≡ l.initial.out ++ numbered (check_line l.deck l.at) 0 l.deck.sessions;
  refused : l.refused ≡ list_any (is_refused l.deck l.at) (take l.k l.deck.sessions);
}
