use Rattle.std.proofs.Common.{ap}
use Rattle.ch_rank.specs.Search.{Game}
use Rattle.ch_rank.proofs.Ranges.{led_now}
use Rattle.ch_rank.proofs.game.Game.stepped.Goals as goal

pub begins-requires-clause-here : goal.begins-requires-clause-here
begins-requires-clause-here c = led_now c.self.inside.trials.points c.self.inside.simplex c.as_slice.result.now c.args.row.now c.led_by-next.result c.best.result c.args.self.now
    (ap (λ (g : Game). g.points) c.self.view_is) (ap (λ (g : Game). g.simplex) c.self.view_is) c.requires.some c.self.invariant.simplex_in c.requires.here c.as_slice.ensures.value c.best.ensures c.led_by-next.ensures
