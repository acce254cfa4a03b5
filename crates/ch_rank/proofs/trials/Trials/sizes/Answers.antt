use Rattle.std.proofs.Common.{◌≤◌, length, map, take, subst}
use Rattle.ch_grid.specs.Points.{count}
use Rattle.ch_rank.specs.Trials.{Listed}
use Rattle.ch_rank.proofs.Table.{few_trials}
use Rattle.ch_rank.proofs.trials.Trials.sizes.Goals as goal

pub returns-clause-fits : goal.returns-clause-fits
returns-clause-fits c =
    let l = few_trials c.self.inside.sizes.items (map (take (length c.self.inside.sizes.items)) c.self.inside.points.items) c.self.invariant.in_grid c.self.invariant.apart in
    subst (λ (v : Listed). length v.points ≤ count v.sizes) c.self.view_is l
