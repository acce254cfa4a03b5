use Rattle.std.proofs.Common.{◌+◌, [], ◌∷◌, sym, subst, ◌∙◌, take, SFits, arith, rules}
use Rattle.std.specs.Int.{w128}
use Rattle.std.proofs.lemmas.Int.{to_z-of_z}
use Rattle.ch_datacopy.specs.Pairs.{IsWidest}
use Rattle.ch_datacopy.specs.Widths.{IsRoomy, IsWidth}
use Rattle.ch_datacopy.proofs.Apart.{next_none, next_some, widest_small}
use Rattle.ch_datacopy.proofs.widths.width_with.Goals as goal
use Rattle.ch_datacopy.proofs.widths.width_with.Goals.{in-Some, in_default}

pub wider-wide-requires-clause-greatest : goal.wider-wide-requires-clause-greatest
wider-wide-requires-clause-greatest c =
    let f : SFits w128 c.in-Some.greatest = search rules in
    simp to_z-of_z
    (widest_small c.args.around c.args.cells c.args.k c.args.first.now c.other-item.result c.in-Some.greatest c.requires.k c.requires.first
    (subst (IsRoomy c.args.around c.args.cells) (sym c.other-item.is) (c.requires.others c.loop-other.other-index c.other-item.result c.loop-other-test.true))
    (subst (IsWidest c.args.around c.args.cells c.args.k c.args.first.now c.other-item.result) c.in-Some.is c.in_ok-greatest.ensures))

pub loop-other-preserved : goal.loop-other-preserved
loop-other-preserved c = elim c.match-branch-2.branch [
  | in-Some w ↦
      let f : SFits w128 w.in-Some.greatest = search rules in
      let e = w.wide-is in
      let n = w.wider-wide.ensures.near in
      record {
        width = next_some c.args.around c.args.cells c.args.k c.args.first.now c.other-item.result c.args.others.now c.loop-other.other-index c.loop-other.wide c.match-branch-2.wide w.in-Some.greatest
            c.loop-other-test.true c.other-item.is c.loop-other.invariant.width
            (subst (IsWidest c.args.around c.args.cells c.args.k c.args.first.now c.other-item.result) w.in-Some.is c.in_ok-greatest.ensures)
            (w.wide-is ∙ (simp to_z-of_z at w.wider-wide.ensures.value));
        near = omega (arith, e, n);
      }
  | in_default w ↦
      let e = w.wide-is in
      let n = c.loop-other.invariant.near in
      record {
        width = subst (IsWidth c.args.around c.args.cells c.args.k (c.args.first.now ∷ []) (take (c.loop-other.other-index + 1) c.args.others.now)) (sym w.wide-is)
            (next_none c.args.around c.args.cells c.args.k c.args.first.now c.other-item.result c.args.others.now c.loop-other.other-index c.loop-other.wide c.loop-other-test.true c.other-item.is
            c.loop-other.invariant.width (subst (IsWidest c.args.around c.args.cells c.args.k c.args.first.now c.other-item.result) w.in_default.is c.in_ok-greatest.ensures));
        near = omega (arith, e, n);
      }
]
