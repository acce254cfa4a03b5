use Rattle.std.proofs.Common.{Some, ap, sym, ◌∙◌, arith, SFits}
use Rattle.std.specs.Int.{w128}
use Rattle.std.proofs.lemmas.Int.{to_z-of_z}
use Rattle.ch_poly.proofs.Ranges.{inside_then}
use Rattle.ch_poly.proofs.Meeting.{row_keeps, row_empties}
use Rattle.ch_poly.proofs.narrow.narrow_rows.Goals as goal
use Rattle.ch_poly.proofs.narrow.narrow_rows.Goals.{then-changed, else-changed}

pub returns-in-None-clause-inside : goal.returns-in-None-clause-inside
returns-in-None-clause-inside c = inside_then _ _ _ _ _ _ c.loop-row.invariant.inside c.narrow_to.ensures.inside

pub returns-in-None-clause-keeps : goal.returns-in-None-clause-keeps
returns-in-None-clause-keeps c =
    let b : SFits w128 c.args.bound = c.ranges.bound in
    let before = simp to_z-of_z at c.loop-row.invariant.keeps in
    let none = simp to_z-of_z at c.in-None.ensures.keeps in
    row_empties _ _ _ _ c.loop-row-test.true c.row-item.is _ _ _ _ before none

pub loop-row-preserved : goal.loop-row-preserved
loop-row-preserved c =
    let b : SFits w128 c.args.bound = c.ranges.bound in
    let before = simp to_z-of_z at c.loop-row.invariant.keeps in
    let after = simp to_z-of_z at c.in-Some.ensures.keeps in
    record {
      boxed = c.narrow_to.ensures.boxed;
      inside = inside_then _ _ _ _ _ _ c.loop-row.invariant.inside c.narrow_to.ensures.inside;
      keeps = simp to_z-of_z (row_keeps _ _ _ _ c.loop-row-test.true c.row-item.is _ _ _ _ _ _ before after);
      narrower = omega (arith, c.narrow_to.ensures.narrower, c.loop-row.invariant.narrower);
      changed = elim c.if-changed.branch [
        | then-changed w ↦ λ t. omega (arith, c.loop-row.invariant.changed w.if-changed.true, c.narrow_to.ensures.narrower)
        | else-changed w ↦ λ t. omega (arith, c.in-Some.ensures.changed (ap (λ b. Some b) (sym w.changed-is ∙ t)), c.loop-row.invariant.narrower)
      ];
    }
