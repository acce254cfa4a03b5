use Rattle.std.proofs.Common.{◌≡◌, drop, map}
use Rattle.ch_deck.specs.Programs.{has_name}
use Rattle.ch_deck.proofs.titles.has_name.Given as goal

abbrev pub invariant-loop-thing : goal.invariant-loop-thing
invariant-loop-thing g l = has_name l.name (map g.T.Titled.title (drop l.thing-index l.things)) ≡ has_name l.name (map g.T.Titled.title l.things)
