use Rattle.std.proofs.Common.{◌-◌, vec_len, vec_capacity}
use Rattle.ch_rank.proofs.Finding.{best_now}
use Rattle.ch_rank.proofs.search.Search.best.Goals as goal

pub returns-in-Some-clause-here : goal.returns-in-Some-clause-here
returns-in-Some-clause-here c = (best_now c.self.inside.params.items c.self.inside.repeat _ c.self.inside.outcomes.items c.self.inside.tallies.items c.self.inside.entries.items c.self.inside.best c.self.inside.versions c.self.inside.most (vec_capacity c.self.inside.entries - vec_len c.self.inside.entries) c.args.self.now c.in-Some.entry c.self.invariant c.self.view_is c.in-Some.is).0

pub returns-in-Some-clause-outcome : goal.returns-in-Some-clause-outcome
returns-in-Some-clause-outcome c = (best_now c.self.inside.params.items c.self.inside.repeat _ c.self.inside.outcomes.items c.self.inside.tallies.items c.self.inside.entries.items c.self.inside.best c.self.inside.versions c.self.inside.most (vec_capacity c.self.inside.entries - vec_len c.self.inside.entries) c.args.self.now c.in-Some.entry c.self.invariant c.self.view_is c.in-Some.is).1
