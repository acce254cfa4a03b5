use Rattle.std.proofs.Common.{◌≡◌, ◌≤◌, ◌∷◌, drop}
use Rattle.ch_lex.specs.Bytes.{number_of}
use Rattle.ch_lex.specs.Tokens.{most_number}
use Rattle.ch_lex.proofs.Numbers.{number_after}
use Rattle.ch_lex.proofs.ahead.small_number.Given as goal

abbrev pub invariant-loop-digit : goal.invariant-loop-digit
invariant-loop-digit l = record {
  small : l.number ≤ most_number;
  rest : number_after l.number (drop l.digit-index l.others) ≡ number_of (l.first ∷ l.others);
}
