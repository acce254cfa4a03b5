use Rattle.std.proofs.Common.{◌-◌, vec_len, vec_capacity}
use Rattle.ch_rank.proofs.Waiting.{known_before}
use Rattle.ch_rank.proofs.search.Search.first_waiting.Goals as goal

pub returns : goal.returns
returns c = known_before c.self.inside.params.items c.self.inside.repeat _ c.self.inside.outcomes.items c.self.inside.tallies.items c.self.inside.entries.items c.self.inside.best c.self.inside.versions c.self.inside.most (vec_capacity c.self.inside.entries - vec_len c.self.inside.entries) c.first_waiting.result c.args.self.now c.self.invariant c.self.view_is c.first_waiting.ensures
