use Rattle.std.proofs.Common.{◌∙◌, sym, ap, subst, arith, Bool, true, ◌+◌}
use Rattle.ch_script.specs.Recipes.{RecipeParts}
use Rattle.ch_space.specs.Listed.{Listed}
use Rattle.ch_variant.specs.Applied.{IsAnswer, applied, plain}
use Rattle.ch_variant.specs.Arguments.{scope}
use Rattle.ch_variant.specs.Refusals.{PairIsLeast}
use Rattle.ch_variant.proofs.Kept.{keeps_nest, runs_nest}
use Rattle.ch_script.proofs.RecipeFacts.{few_commands}
use Rattle.ch_variant.proofs.RecipeFacts.{all_done, command_at_fits, item_of}
use Rattle.ch_variant.proofs.Stepwise.{answer_stops, at_exit, pair_stops, reached_all}
use Rattle.ch_variant.proofs.Turns.{Holds, freed_now, one_more}
use Rattle.ch_variant.proofs.applying.apply.Goals.{then-frees_sums, else-frees_sums+in_ok-space-2}
use Rattle.ch_variant.proofs.applying.apply.Goals as goal

pub one-requires-clause-few : goal.one-requires-clause-few
one-requires-clause-few c =
    let same = c.as_slice-command-items.ensures ∙ ap (λ (r : RecipeParts). r.commands) c.recipe.view_is in
    let item = item_of c.as_slice-command-items.result.now c.args.recipe.now.commands c.loop-k.k c.command-item.result same c.loop-k-test.true c.command-item.is in
    let few = few_commands c.args.recipe.now c.known.ensures in
    omega (arith, few, c.loop-k.invariant.counted, item.0)

pub one-requires-clause-buffers : goal.one-requires-clause-buffers
one-requires-clause-buffers c =
    let same = c.as_slice-command-items.ensures ∙ ap (λ (r : RecipeParts). r.commands) c.recipe.view_is in
    let item = item_of c.as_slice-command-items.result.now c.args.recipe.now.commands c.loop-k.k c.command-item.result same c.loop-k-test.true c.command-item.is in
    let few = few_commands c.args.recipe.now c.known.ensures in
    omega (arith, few, c.loop-k.invariant.buffered, item.0)

pub one-requires-clause-fits : goal.one-requires-clause-fits
one-requires-clause-fits c =
    let same = c.as_slice-command-items.ensures ∙ ap (λ (r : RecipeParts). r.commands) c.recipe.view_is in
    let item = item_of c.as_slice-command-items.result.now c.args.recipe.now.commands c.loop-k.k c.command-item.result same c.loop-k-test.true c.command-item.is in
    command_at_fits c.args.recipe.now _ c.loop-k.k c.command-item.result c.requires.params c.known.ensures item.0 item.1

pub loop-k-preserved : goal.loop-k-preserved
loop-k-preserved c =
    let same = c.as_slice-command-items.ensures ∙ ap (λ (r : RecipeParts). r.commands) c.recipe.view_is in
    let item = item_of c.as_slice-command-items.result.now c.args.recipe.now.commands c.loop-k.k c.command-item.result same c.loop-k-test.true c.command-item.is in
    let after : Bool → Listed → Type 0 = λ b p. Holds c.args.nest.now c.args.values.now c.args.recipe.now.commands (c.loop-k.k + 1) b p in
    elim c.if-frees_sums.branch [
      | then-frees_sums w ↦
          subst (λ b. after b c.if-frees_sums.space) (sym w.sums-is)
          (subst (λ p. after true p) (sym w.space-is)
          (freed_now c.args.nest.now c.args.values.now c.args.recipe.now.commands c.loop-k.space c.loop-k.k c.loop-k.sums c.command-item.result
          (sym c.frees_sums.ensures ∙ w.if-frees_sums.true) item.0 item.1 c.loop-k.invariant))
      | else-frees_sums+in_ok-space-2 w ↦
          subst (λ b. after b c.if-frees_sums.space) (sym w.sums-is)
          (subst (λ p. after c.loop-k.sums p) (sym w.space-is)
          (one_more c.args.nest.now c.args.values.now c.args.recipe.now.commands c.loop-k.space w.in_ok-space-2.space c.loop-k.k c.loop-k.sums c.command-item.result
          (sym c.frees_sums.ensures ∙ w.if-frees_sums.false) w.in_ok-space-2.ensures.answer item.0 item.1 c.loop-k.invariant
          w.in_ok-space-2.ensures.keeps w.in_ok-space-2.ensures.parts))
    ]

pub returns-in_err-space-2-clause-answer : goal.returns-in_err-space-2-clause-answer
returns-in_err-space-2-clause-answer c =
    let same = c.as_slice-command-items.ensures ∙ ap (λ (r : RecipeParts). r.commands) c.recipe.view_is in
    let item = item_of c.as_slice-command-items.result.now c.args.recipe.now.commands c.loop-k.k c.command-item.result same c.loop-k-test.true c.command-item.is in
    at_exit Listed (λ r. IsAnswer r (applied c.args.nest.now c.args.recipe.now.commands c.args.values.now)) c.from_residual-in_err-space-2.result c.in_err-space-2.field-0.0 c.from_residual-in_err-space-2.ensures.1
    (answer_stops (scope c.args.nest.now c.args.values.now) c.args.recipe.now.commands (plain c.args.nest.now) c.loop-k.space c.loop-k.k c.loop-k.sums c.command-item.result c.in_err-space-2.field-0.0
    c.loop-k.invariant.reached item.0 item.1 c.in_err-space-2.ensures.answer)

pub returns-in_err-space-2-clause-least : goal.returns-in_err-space-2-clause-least
returns-in_err-space-2-clause-least c =
    let same = c.as_slice-command-items.ensures ∙ ap (λ (r : RecipeParts). r.commands) c.recipe.view_is in
    let item = item_of c.as_slice-command-items.result.now c.args.recipe.now.commands c.loop-k.k c.command-item.result same c.loop-k-test.true c.command-item.is in
    at_exit Listed (PairIsLeast c.args.nest.now c.args.recipe.now.commands c.args.values.now {X = Listed}) c.from_residual-in_err-space-2.result c.in_err-space-2.field-0.0 c.from_residual-in_err-space-2.ensures.1
    (pair_stops c.args.nest.now c.args.values.now c.args.recipe.now.commands c.loop-k.space c.loop-k.k c.loop-k.sums c.command-item.result c.in_err-space-2.field-0.0
    c.loop-k.invariant.reached item.0 item.1 c.in_err-space-2.ensures.least)

pub returns-clause-answer : goal.returns-clause-answer
returns-clause-answer c =
    let same = c.as_slice-command-items.ensures ∙ ap (λ (r : RecipeParts). r.commands) c.recipe.view_is in
    reached_all (scope c.args.nest.now c.args.values.now) c.args.recipe.now.commands (plain c.args.nest.now) c.loop-k.space c.loop-k.k c.loop-k.sums c.loop-k.invariant.reached
    (all_done c.as_slice-command-items.result.now c.args.recipe.now.commands c.loop-k.k same c.loop-k-test.false)

pub returns-clause-keeps : goal.returns-clause-keeps
returns-clause-keeps c = keeps_nest c.args.nest.now c.loop-k.space c.loop-k.invariant.keeps

pub returns-clause-runs : goal.returns-clause-runs
returns-clause-runs c =
    runs_nest c.args.nest.now c.loop-k.space.list c.loop-k.space.temps c.requires.sound (keeps_nest c.args.nest.now c.loop-k.space c.loop-k.invariant.keeps)
