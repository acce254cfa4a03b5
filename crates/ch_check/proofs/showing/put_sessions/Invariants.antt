use Rattle.std.proofs.Common.{◌≡◌, take}
use Rattle.std.specs.List.{list_any}
use Rattle.ch_check.specs.Added.{Adds}
use Rattle.ch_check.specs.Checked.{is_refused}
use Rattle.ch_check.proofs.ShowTexts.{ShowsTo}
use Rattle.ch_check.proofs.showing.put_sessions.Given as goal

abbrev pub invariant-loop-k : goal.invariant-loop-k
invariant-loop-k l = record {
  text : Adds (ShowsTo l.deck l.at l.k) l.initial.out l.out;
  refused : l.refused ≡ list_any (is_refused l.deck l.at) (take l.k l.deck.sessions);
}
