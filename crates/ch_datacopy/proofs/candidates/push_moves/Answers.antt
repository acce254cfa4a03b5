use Rattle.std.proofs.Common.{◌∷◌, ◌++◌, [], refl, length-append, arith}
use Rattle.ch_datacopy.proofs.Steps.{moved_more}
use Rattle.ch_datacopy.proofs.candidates.push_moves.Goals as goal

pub loop-cells-preserved : goal.loop-cells-preserved
loop-cells-preserved c = record {
  count = let h = c.loop-cells.invariant.count in let l = length-append c.loop-cells.yielded (c.in-Some.cells ∷ []) in omega (arith, h, l);
  moved = λ p w.
      moved_more p c.loop-cells.k c.loop-cells.yielded (c.loop-cells.yielded ++ c.in-Some.cells ∷ []) c.args.candidates.now c.loop-cells.candidates c.push.new.self c.in-Some.cells c.in_ok-moved.field-0
      c.loop-cells.invariant.count refl (c.loop-cells.invariant.moved p w) (c.in_ok-moved.ensures p w) c.in_ok-push.ensures.ok;
}
