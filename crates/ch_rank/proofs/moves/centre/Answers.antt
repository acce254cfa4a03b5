use Rattle.std.proofs.Common.{◌≡◌, ◌-◌, ◌/◌, List, ℕ, true, get_or, refl, sym, ◌∙◌, arith, subst}
use Rattle.std.proofs.Math.ListN.{length-set}
use Rattle.ch_grid.specs.Points.{is_point}
use Rattle.ch_rank.proofs.Starting.{centre_next, centre_written, centre_point}
use Rattle.ch_rank.proofs.moves.centre.Goals as goal

pub loop-k-preserved : goal.loop-k-preserved
loop-k-preserved c = (
  length-set c.loop-k.indices c.loop-k.k ((get_or c.args.sizes.now c.loop-k.k 0 - 1) / 2) ∙ c.loop-k.invariant.0,
  centre_next c.args.sizes.now c.loop-k.indices c.loop-k.k ((get_or c.args.sizes.now c.loop-k.k 0 - 1) / 2) c.loop-k-test.true (omega (arith, c.loop-k.invariant.0, c.requires.dims)) refl c.loop-k.invariant.1,
)

pub returns-clause-in_grid : goal.returns-clause-in_grid
returns-clause-in_grid c =
    subst (λ (p : List ℕ). is_point c.args.sizes.now p ≡ true) (sym (centre_written c.args.sizes.now c.loop-k.indices c.loop-k.k (omega arith) c.loop-k.invariant.1)) (centre_point c.args.sizes.now c.requires.some)
