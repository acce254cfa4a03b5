use Rattle.std.proofs.Common.{◌≡◌, ◌≤◌, refl, length, arith, rules}
use Rattle.std.proofs.lemmas.Slice.Zip.{zip_end}
use Rattle.std.specs.Iterator.Adapters.{zip_first, zip_second}
use Rattle.std.specs.Slice.Iter.{iter_rest}
use Rattle.ch_order.proofs.Equality.{elements_same}
use Rattle.ch_order.proofs.bodies.same_subs.Goals as goal

pub returns : goal.returns
returns c =
    let first : iter_rest (zip_first c.into_iter-sub-iterator.result) ≡ c.args.a.now = search rules in
    let second : iter_rest (zip_second c.into_iter-sub-iterator.result) ≡ c.args.b.now = search rules in
    let turns = zip_end c.args.a.now c.args.b.now c.loop-sub.yielded c.into_iter-sub-iterator.result c.loop-sub.sub-iterator c.next.new.self c.next.result first second c.loop-sub.yielded_by c.in-None.is c.next.ensures.steps in
    let same : length c.args.a.now ≡ length c.args.b.now = omega arith in
    let all : length c.args.a.now ≤ length c.loop-sub.yielded = omega arith in
    (λ h. elements_same c.args.a.now c.args.b.now (length c.loop-sub.yielded) same all c.loop-sub.invariant, λ e. refl)
