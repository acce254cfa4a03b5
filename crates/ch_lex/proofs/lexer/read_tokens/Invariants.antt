use Rattle.std.proofs.Common.{◌≡◌, ◌≤◌, ◌-◌, length, drop}
use Rattle.ch_lex.specs.Tokens.{tokens_from, tokens_of}
use Rattle.ch_lex.proofs.Pieces.{with_front}
use Rattle.ch_lex.proofs.lexer.read_tokens.Given as goal

abbrev pub invariant-loop-at : goal.invariant-loop-at
invariant-loop-at l = record {
  within : l.at ≤ length l.bytes;
  rest : with_front l.found (tokens_from 0 l.at (drop l.at l.bytes)) ≡ tokens_of l.bytes;
}

abbrev pub decreases-loop-at : goal.decreases-loop-at
decreases-loop-at l = length l.bytes - l.at
