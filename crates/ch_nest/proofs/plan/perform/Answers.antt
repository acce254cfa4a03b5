use Rattle.std.proofs.Common.{◌∙◌, ap, subst}
use Rattle.std.specs.Bool.{IsTrue}
use Rattle.ch_nest.specs.Shape.{is_nest}
use Rattle.ch_nest.proofs.FlatItems.{performed}
use Rattle.ch_nest.proofs.plan.perform.Goals as goal

pub returns-in-Ok-clause-ok : goal.returns-in-Ok-clause-ok
returns-in-Ok-clause-ok c =
    performed c.args.nest.now c.as_slice.result.now c.as_slice-2.result.now c.in-Ok.flat c.as_slice-in-Ok.result.now c.args.cells.now c.as_mut_slice.result.now
    c.run_flats.new.cells (subst (λ n. IsTrue (is_nest n)) c.nest.view_is c.nest.invariant) c.requires.inside
    (c.as_slice.ensures ∙ ap (λ n. n.arrays) c.nest.view_is) (c.as_slice-2.ensures ∙ ap (λ n. n.items) c.nest.view_is) c.in-Ok.ensures
    c.as_slice-in-Ok.ensures c.as_mut_slice.ensures.value c.run_flats.auto.cells c.run_flats.ensures
