use Rattle.std.proofs.Common.{arith}
use Rattle.std.proofs.lemmas.Bool.Decides.{nat_tests}
use Rattle.ch_lex.proofs.ByLength.{found, none}
use Rattle.ch_lex.proofs.keyword.look_up.Goals as goal

pub returns-then-len-eq2 : goal.returns-then-len-eq2
returns-then-len-eq2 c = found 2 c.args.word.now _ c.if-len-eq2.true c.among.ensures

pub returns-then-len-eq3 : goal.returns-then-len-eq3
returns-then-len-eq3 c = found 3 c.args.word.now _ c.if-len-eq3.true c.among-then-len-eq3.ensures

pub returns-then-len-eq4 : goal.returns-then-len-eq4
returns-then-len-eq4 c = found 4 c.args.word.now _ c.if-len-eq4.true c.among-then-len-eq4.ensures

pub returns-then-len-eq5 : goal.returns-then-len-eq5
returns-then-len-eq5 c = found 5 c.args.word.now _ c.if-len-eq5.true c.among-then-len-eq5.ensures

pub returns-then-len-eq6 : goal.returns-then-len-eq6
returns-then-len-eq6 c = found 6 c.args.word.now _ c.if-len-eq6.true c.among-then-len-eq6.ensures

pub returns-then-len-eq7 : goal.returns-then-len-eq7
returns-then-len-eq7 c = found 7 c.args.word.now _ c.if-len-eq7.true c.among-then-len-eq7.ensures

pub returns-else-len-eq7 : goal.returns-else-len-eq7
returns-else-len-eq7 c = none c.args.word.now (grind (arith, nat_tests))
