use Rattle.std.proofs.Common.{◌≡◌, [], ◌∷◌, length, length-append, rules}
use Rattle.std.proofs.lemmas.Slice.Zip.{zip_end, zip_turn}
use Rattle.std.specs.Iterator.Adapters.{zip_first, zip_second}
use Rattle.std.specs.Slice.Iter.{iter_rest}
use Rattle.ch_datacopy.proofs.Steps.{wrapped_end, wrapped_next}
use Rattle.ch_datacopy.proofs.redirect.wrapped.Goals as goal

pub loop-sub-preserved : goal.loop-sub-preserved
loop-sub-preserved c =
    let first : iter_rest (zip_first c.into_iter-sub-iterator.result) ≡ c.args.subs.now = search rules in
    let second : iter_rest (zip_second c.into_iter-sub-iterator.result) ≡ c.args.extents.now = search rules in
    let turn = zip_turn c.args.subs.now c.args.extents.now c.loop-sub.yielded c.into_iter-sub-iterator.result c.loop-sub.sub-iterator c.next.new.self c.next.result first second c.loop-sub.yielded_by (c.in-Some.sub, c.in-Some.extent) c.in-Some.is c.next.ensures.steps in
    wrapped_next c.args.subs.now c.args.extents.now (length c.loop-sub.yielded) _ c.in-Some.sub.now c.in-Some.extent.now c.in_ok-form.form c.loop-sub.new c.push.new.self _
    (length-append c.loop-sub.yielded ((c.in-Some.sub, c.in-Some.extent) ∷ [])) turn.0 turn.1 (turn.2 c.in-Some.sub.now) (turn.3 c.in-Some.extent.now) c.in_ok-form.ensures c.loop-sub.invariant c.in_ok-push.ensures.ok

pub returns : goal.returns
returns c =
    let first : iter_rest (zip_first c.into_iter-sub-iterator.result) ≡ c.args.subs.now = search rules in
    let second : iter_rest (zip_second c.into_iter-sub-iterator.result) ≡ c.args.extents.now = search rules in
    let turns = zip_end c.args.subs.now c.args.extents.now c.loop-sub.yielded c.into_iter-sub-iterator.result c.loop-sub.sub-iterator c.next.new.self c.next.result first second c.loop-sub.yielded_by c.in-None.is c.next.ensures.steps in
    wrapped_end c.args.subs.now c.args.extents.now (length c.loop-sub.yielded) c.loop-sub.new _ turns c.loop-sub.invariant
