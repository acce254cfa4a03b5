use Rattle.ch_lex.proofs.KeywordLaws.{each_is_found}
use Rattle.ch_lex.proofs.keyword.keyword_of.Goals as goal

pub returns-clause-each : goal.returns-clause-each
returns-clause-each c = λ k text. each_is_found c.args.word.now k c.look_up.result c.look_up.ensures text
