use Rattle.std.proofs.Common.{sym}
use Rattle.ch_datacopy.proofs.widths.pair_rows.Goals as goal

pub push_firsts-requires-clause-long : goal.push_firsts-requires-clause-long
push_firsts-requires-clause-long c = c.requires.first.rows

pub push_firsts-requires-clause-levels : goal.push_firsts-requires-clause-levels
push_firsts-requires-clause-levels c = sym c.requires.first.levels

pub push_seconds-requires-clause-long : goal.push_seconds-requires-clause-long
push_seconds-requires-clause-long c = c.requires.second.rows

pub push_seconds-requires-clause-levels : goal.push_seconds-requires-clause-levels
push_seconds-requires-clause-levels c = sym c.requires.second.levels
