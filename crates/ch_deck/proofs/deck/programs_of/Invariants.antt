use Rattle.std.proofs.Common.{◌≡◌, map}
use Rattle.ch_deck.specs.Judged.{program_of}
use Rattle.ch_deck.proofs.deck.programs_of.Given as goal

abbrev pub invariant-loop-parsed : goal.invariant-loop-parsed
invariant-loop-parsed l = l.programs ≡ map program_of l.yielded
