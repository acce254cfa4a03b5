use Rattle.std.proofs.Common.{arith, sym, subst, ℕ, List}
use Rattle.std.specs.Bool.{IsTrue}
use Rattle.ch_grid.specs.Grid.{sizes}
use Rattle.ch_grid.specs.Points.{is_point}
use Rattle.ch_check.proofs.Values.{centre_inside, index_more, whole_centre}
use Rattle.ch_check.proofs.place.centre.Goals as goal

pub loop-k-preserved : goal.loop-k-preserved
loop-k-preserved c =
    index_more c.args.grid.now.params c.loop-k.k c.size_of.result c.loop-k.point c.push.new.self (omega arith) c.size_of.ensures.value c.loop-k.invariant c.in_ok-push.ensures.ok

pub returns-clause-inside : goal.returns-clause-inside
returns-clause-inside c =
    subst (λ (p : List ℕ). IsTrue (is_point (sizes c.args.grid.now.params) p)) (sym (whole_centre c.args.grid.now.params c.loop-k.k c.loop-k.point (omega arith) c.loop-k.invariant))
    (centre_inside c.args.grid.now.params)
