use Rattle.ch_lex.proofs.Cuts.{cut_result}
use Rattle.ch_lex.proofs.Plain.{ascii_result}
use Rattle.ch_lex.proofs.lexer.tokens.Goals as goal

pub returns-clause-cut : goal.returns-clause-cut
returns-clause-cut c = cut_result c.args.bytes.now c.read_tokens.result c.read_tokens.ensures

pub returns-clause-ascii : goal.returns-clause-ascii
returns-clause-ascii c = ascii_result c.args.bytes.now c.read_tokens.result c.read_tokens.ensures
