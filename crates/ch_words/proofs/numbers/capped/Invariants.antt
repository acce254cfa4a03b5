use Rattle.std.proofs.Common.{◌≡◌, ◌+◌, min, take}
use Rattle.ch_lex.specs.Bytes.{number_of}
use Rattle.ch_words.proofs.numbers.capped.Given as goal

abbrev pub invariant-loop-digit : goal.invariant-loop-digit
invariant-loop-digit l = l.number ≡ min (number_of (take l.digit-index l.digits)) (l.most + 1)
