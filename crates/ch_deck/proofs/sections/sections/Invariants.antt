use Rattle.std.proofs.Common.{◌≡◌, ◌-◌, ◌≤◌, length}
use Rattle.ch_deck.specs.Kept.{AreFound}
use Rattle.ch_deck.specs.Sections.{sections_from, sections_of}
use Rattle.ch_deck.proofs.sections.sections.Given as goal

abbrev pub invariant-loop-k : goal.invariant-loop-k
invariant-loop-k l = record {
  rest : sections_from (length l.source.tokens.now - l._k) l.source.bytes.now l.source.tokens.now l.found ≡ sections_of l.source.bytes.now l.source.tokens.now;
  fine : AreFound l.found;
  on : l._k ≤ l.found.next;
  within : l.found.next ≤ length l.source.tokens.now;
}
