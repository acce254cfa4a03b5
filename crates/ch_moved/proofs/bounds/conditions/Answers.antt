use Rattle.std.proofs.Common.{ap, ◌∙◌, ◌&&◌, int_le, get_or}
use Rattle.ch_affine.specs.Affine.{value}
use Rattle.ch_affine.specs.Rows.{all_hold}
use Rattle.ch_nest.proofs.Corners.{origin}
use Rattle.ch_moved.proofs.Bounded.{conditions_more}
use Rattle.ch_moved.proofs.bounds.conditions.Goals as goal

pub loop-k-preserved : goal.loop-k-preserved
loop-k-preserved c = record {
  long = c.in_ok-push_bounds.ensures.long;
  hold = λ ys i.
      conditions_more c.args.ranges.now c.args.forms.now ys c.loop-k.k origin c.index-forms-k.result (all_hold c.args.extra.now ys) (all_hold c.loop-k.rows ys) _ c.loop-k-test.true c.requires.many
      (c.loop-k.invariant.hold ys i)
      (c.in_ok-push_bounds.ensures.hold ys i
      ∙ ap (λ f. all_hold c.loop-k.rows ys && (int_le (get_or c.args.ranges.now c.loop-k.k origin).low (value f ys) && int_le (value f ys) (get_or c.args.ranges.now c.loop-k.k origin).high)) c.index-forms-k.is);
}
