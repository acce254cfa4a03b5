use Rattle.std.proofs.Common.{◌≡◌, ap, sym, to_z, pos, ◌∙◌, ◌-◌, SFits, w64, arith}
use Rattle.std.specs.List.{list_any}
use Rattle.std.specs.Ordering.{int_eq}
use Rattle.std.proofs.lemmas.Int.{ints, to_z-of_z}
use Rattle.ch_affine.specs.Affine.{form}
use Rattle.ch_moved.specs.Arguments.{is_named, natural}
use Rattle.ch_permute.specs.Lowered.{plus}
use Rattle.ch_permute.specs.Raised.{growth}
use Rattle.ch_permute.proofs.Becoming.{next_become}
use Rattle.ch_moved.proofs.Named.{is_deep, item_whole, named_is}
use Rattle.ch_space.specs.Keeps.{places_of}
use Rattle.ch_space.specs.Pieces.{listed}
use Rattle.ch_permute.proofs.change.raised_pieces.Goals as goal

pub raised_if-requires-clause-whole : goal.raised_if-requires-clause-whole
raised_if-requires-clause-whole c = item_whole c.args.pieces.now c.loop-k.k c.index-pieces-k.result c.requires.apart c.loop-k-test.true c.index-pieces-k.is

pub raised_if-requires-clause-some : goal.raised_if-requires-clause-some
raised_if-requires-clause-some c t =
    let f : SFits w64 c.args.level = c.ranges.level in
    let z : to_z w64 c.loop-k.k ≡ pos c.loop-k.k = omega (arith, ints) in
    let e = c.contains-is_named.ensures ∙ ap (λ y. list_any (int_eq y) c.args.numbers.now) z in
    let d = is_deep c.args.pieces.now c.loop-k.k c.index-pieces-k.result c.args.numbers.now c.args.level c.requires.apart c.loop-k-test.true c.index-pieces-k.is c.requires.deep (sym e ∙ t) in
    simp to_z-of_z (c.requires.before d.0)

pub raised_if-requires-clause-deep : goal.raised_if-requires-clause-deep
raised_if-requires-clause-deep c t =
    let f : SFits w64 c.args.level = c.ranges.level in
    let z : to_z w64 c.loop-k.k ≡ pos c.loop-k.k = omega (arith, ints) in
    let e = c.contains-is_named.ensures ∙ ap (λ y. list_any (int_eq y) c.args.numbers.now) z in
    let d = is_deep c.args.pieces.now c.loop-k.k c.index-pieces-k.result c.args.numbers.now c.args.level c.requires.apart c.loop-k-test.true c.index-pieces-k.is c.requires.deep (sym e ∙ t) in
    simp to_z-of_z d.1

pub loop-k-preserved : goal.loop-k-preserved
loop-k-preserved c =
    let f : SFits w64 c.args.level = c.ranges.level in
    let z : to_z w64 c.loop-k.k ≡ pos c.loop-k.k = omega (arith, ints) in
    let e = c.contains-is_named.ensures ∙ ap (λ y. list_any (int_eq y) c.args.numbers.now) z in
    let g : SFits w64 c.args.amount = c.ranges.amount in
    let i = simp to_z-of_z at c.loop-k.invariant in
    let b = simp to_z-of_z at c.in_ok-raised_if.ensures in
    simp to_z-of_z (next_become (is_named (listed c.args.pieces.now) c.args.numbers.now) (plus (form c.args.amounts.now c.args.amount) (natural c.args.level - 1)) (growth c.args.amounts.now)
    c.args.pieces.now c.loop-k.new c.push.new.self c.loop-k.k c.index-pieces-k.result c.in_ok-raised_if.field-0 c.contains-is_named.result c.loop-k-test.true c.index-pieces-k.is
    (e ∙ named_is c.args.pieces.now c.loop-k.k c.index-pieces-k.result c.args.numbers.now c.requires.apart c.loop-k-test.true ∙ ap (λ q. is_named (listed c.args.pieces.now) c.args.numbers.now (places_of q)) (sym c.index-pieces-k.is))
    i b c.in_ok-push.ensures.ok)
