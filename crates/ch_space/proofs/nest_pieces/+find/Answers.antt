use Rattle.std.proofs.Common.{refl, rules, arith, [], ◌∙◌}
use Rattle.ch_nest.specs.declared.nest.Item.TheViews.{the_lemmas}
use Rattle.ch_space.specs.Fitting.{Places}
use Rattle.ch_space.specs.Statements.{findings, findings_of}
use Rattle.ch_space.proofs.Builds.{levels_few}
use Rattle.ch_space.proofs.FindSteps.{if_below, item_below, loop_below, ok_places, places_if, places_more}
use Rattle.ch_space.proofs.nest_pieces.+find.Goals as goal

pub find_item-add_statement-requires-clause-few : goal.find_item-add_statement-requires-clause-few
find_item-add_statement-requires-clause-few t c = let few = levels_few [] c.args.around.now c.requires.below.fit (omega arith) in omega arith

pub find_item-find_items-requires : goal.find_item-find_items-requires
find_item-find_items-requires t c = (
  rw c.as_slice-in-Loop-3.ensures (search (rules, the_lemmas)),
  loop_below c.args.item.now c.in-Loop.lows c.in-Loop.highs c.in-Loop.step c.in-Loop.items c.as_slice-in-Loop-3.result.now c.args.around.now c.as_slice-in-Loop-4.result.now c.args.place _ _ c.in-Loop.is
      c.requires.below c.as_slice-in-Loop-3.ensures c.as_slice-in-Loop.ensures c.as_slice-in-Loop-2.ensures (c.as_slice-in-Loop-4.ensures ∙ c.in_ok-inside-in-Loop.ensures),
)

pub find_item-find_items-requires-in-If : goal.find_item-find_items-requires-in-If
find_item-find_items-requires-in-If t c = (
  rw c.as_slice-in-If.ensures (search (rules, the_lemmas)),
  if_below c.args.item.now c.in-If.row c.in-If.items c.as_slice-in-If.result.now c.args.around.now c.as_slice-in-If-2.result.now c.args.place c.in-If.is c.requires.below c.as_slice-in-If.ensures
      (c.as_slice-in-If-2.ensures ∙ c.in_ok-inside-in-If.ensures),
)

pub find_item-returns-in_ok-inside-in-If : goal.find_item-returns-in_ok-inside-in-If
find_item-returns-in_ok-inside-in-If t c =
    ok_places c.find_items-in-If.result
    (λ next. Places (findings c.as_slice-in-If.result.now) c.as_slice-in-If-2.result.now c.args.places.now c.args.place next c.args.found.now c.find_items-in-If.new.found)
    (λ next. Places (findings_of c.args.item.now) c.args.around.now c.args.places.now c.args.place next c.args.found.now c.find_items-in-If.new.found)
    (λ next h. places_if c.args.item.now c.in-If.row c.in-If.items c.as_slice-in-If.result.now c.args.around.now c.as_slice-in-If-2.result.now c.args.places.now c.args.place next _ _ c.in-If.is
    c.as_slice-in-If.ensures (c.as_slice-in-If-2.ensures ∙ c.in_ok-inside-in-If.ensures) h)
    c.find_items-in-If.ensures

pub find_items-find_item-requires : goal.find_items-find_item-requires
find_items-find_item-requires t c = (
  search (rules, the_lemmas),
  item_below c.args.items.now c.args.around.now c.args.first c.loop-item.place c.loop-item.item-index c.item-item.result c.item-item.result c.loop-item-test.true c.item-item.is c.loop-item.invariant.after
      c.requires.below,
)

pub find_items-loop-item-preserved : goal.find_items-loop-item-preserved
find_items-loop-item-preserved t c =
    places_more c.args.items.now c.item-item.result c.item-item.result c.args.around.now c.args.places.now c.loop-item.item-index c.args.first c.loop-item.place c.in_ok-place.place _ _ _ c.loop-item-test.true
    c.item-item.is c.loop-item.invariant c.in_ok-place.ensures
