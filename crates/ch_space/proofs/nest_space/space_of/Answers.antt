use Rattle.std.proofs.Common.{◌∙◌, ap, subst, length, arith}
use Rattle.std.specs.Bool.{IsTrue}
use Rattle.ch_nest.specs.LoopNest.{LoopNest}
use Rattle.ch_nest.specs.Shape.{is_nest}
use Rattle.ch_space.proofs.FindSteps.{all_found, arrays_counted, space_is, space_kept, top_below}
use Rattle.ch_space.proofs.nest_space.space_of.Goals as goal

pub find_items-requires : goal.find_items-requires
find_items-requires c =
    let known : IsTrue (is_nest c.args.nest.now) = subst (λ n. IsTrue (is_nest n)) c.nest.view_is c.nest.invariant in
    record { below = top_below c.args.nest.now c.as_slice.result.now known (c.as_slice.ensures ∙ ap (λ (n : LoopNest). n.items) c.nest.view_is) }

pub overflow_cast-result : goal.overflow_cast-result
overflow_cast-result c =
    let known : IsTrue (is_nest c.args.nest.now) = subst (λ n. IsTrue (is_nest n)) c.nest.view_is c.nest.invariant in
    let few = arrays_counted c.args.nest.now c.nest.inside.arrays known (ap (λ (n : LoopNest). n.arrays) c.nest.view_is) in
    let is = c.len.ensures in
    omega arith

pub invariant_of-result : goal.invariant_of-result
invariant_of-result c =
    let known : IsTrue (is_nest c.args.nest.now) = subst (λ n. IsTrue (is_nest n)) c.nest.view_is c.nest.invariant in
    space_kept c.args.nest.now c.len.result c.find_items.new.found c.new-3.result known c.requires.sound (c.len.ensures ∙ ap (λ (n : LoopNest). length n.arrays) c.nest.view_is)
    (all_found c.args.nest.now c.as_slice.result.now _ _ c.find_items.new.found c.requires.sound (c.as_slice.ensures ∙ ap (λ (n : LoopNest). n.items) c.nest.view_is) c.new.ensures c.new-2.ensures c.in_ok-find_items.ensures)
    c.new-3.ensures

pub returns : goal.returns
returns c =
    let known : IsTrue (is_nest c.args.nest.now) = subst (λ n. IsTrue (is_nest n)) c.nest.view_is c.nest.invariant in
    space_is c.args.nest.now c.len.result c.find_items.new.found c.new-3.result known (c.len.ensures ∙ ap (λ (n : LoopNest). length n.arrays) c.nest.view_is)
    (all_found c.args.nest.now c.as_slice.result.now _ _ c.find_items.new.found c.requires.sound (c.as_slice.ensures ∙ ap (λ (n : LoopNest). n.items) c.nest.view_is) c.new.ensures c.new-2.ensures c.in_ok-find_items.ensures)
    c.new-3.ensures
