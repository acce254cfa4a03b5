use Rattle.std.proofs.Common.{◌≡◌, ◌≢◌, ◌∙◌, sym, [], ◌∷◌, length, length-append, arith, rules}
use Rattle.std.proofs.lemmas.Slice.Zip.{zip_turn}
use Rattle.std.specs.Iterator.Adapters.{zip_first, zip_second}
use Rattle.std.specs.Slice.Iter.{iter_rest}
use Rattle.ch_nest.specs.Run.{sub_value}
use Rattle.ch_order.proofs.Equality.{lengths_differ, values_differ, values_same}
use Rattle.ch_order.proofs.cells.same_subscripts.Goals as goal

pub returns-then-subs-others : goal.returns-then-subs-others
returns-then-subs-others c =
    let apart : length c.args.subs.now ≢ length c.args.others.now = omega arith in
    sym (lengths_differ (sub_value c.args.iters.now) (sub_value c.args.their_iters.now) c.args.subs.now c.args.others.now apart)

pub returns-then-not-same_subscript : goal.returns-then-not-same_subscript
returns-then-not-same_subscript c =
    let first : iter_rest (zip_first c.into_iter-sub-iterator.result) ≡ c.args.subs.now = search rules in
    let second : iter_rest (zip_second c.into_iter-sub-iterator.result) ≡ c.args.others.now = search rules in
    let turn = zip_turn c.args.subs.now c.args.others.now c.loop-sub.yielded c.into_iter-sub-iterator.result c.loop-sub.sub-iterator c.next.new.self c.next.result first second c.loop-sub.yielded_by (c.in-Some.sub, c.in-Some.other) c.in-Some.is c.next.ensures.steps in
    sym (values_differ (sub_value c.args.iters.now) (sub_value c.args.their_iters.now) c.args.subs.now c.args.others.now (length c.loop-sub.yielded) c.in-Some.sub.now c.in-Some.other.now
    turn.0 turn.1 turn.2 turn.3 (sym c.same_subscript.ensures ∙ c.if-not-same_subscript.true) c.loop-sub.invariant)

pub loop-sub-preserved : goal.loop-sub-preserved
loop-sub-preserved c =
    let first : iter_rest (zip_first c.into_iter-sub-iterator.result) ≡ c.args.subs.now = search rules in
    let second : iter_rest (zip_second c.into_iter-sub-iterator.result) ≡ c.args.others.now = search rules in
    let turn = zip_turn c.args.subs.now c.args.others.now c.loop-sub.yielded c.into_iter-sub-iterator.result c.loop-sub.sub-iterator c.next.new.self c.next.result first second c.loop-sub.yielded_by (c.in-Some.sub, c.in-Some.other) c.in-Some.is c.next.ensures.steps in
    values_same (sub_value c.args.iters.now) (sub_value c.args.their_iters.now) c.args.subs.now c.args.others.now (length c.loop-sub.yielded) c.in-Some.sub.now c.in-Some.other.now
    _ (length-append c.loop-sub.yielded ((c.in-Some.sub, c.in-Some.other) ∷ [])) turn.0 turn.1 turn.2 turn.3 (sym c.same_subscript.ensures ∙ c.if-not-same_subscript.false) c.loop-sub.invariant
