use Rattle.std.proofs.Common.{◌≡◌, ◌+◌, ◌<◌, ◌∙◌, refl, sym, ap, length, arith}
use Rattle.ch_grid.specs.Grid.{sizes}
use Rattle.ch_grid.specs.Points.{count, number}
use Rattle.ch_grid.proofs.PointNumbers.{same_length}
use Rattle.ch_constrain.proofs.Coordinates.{few_params, length_of}
use Rattle.ch_constrain.proofs.Onward.{numbers_small, rows_fit}
use Rattle.ch_constrain.proofs.Scanned.{all_scanned, is_at, scanned_numbers}
use Rattle.ch_constrain.proofs.search.scan.Goals as goal

pub distance-distance-requires-clause-same : goal.distance-distance-requires-clause-same
distance-distance-requires-clause-same c =
    sym (same_length (sizes c.args.grid.now.params) c.args.point.now c.requires.point) ∙ same_length (sizes c.args.grid.now.params) c.loop-number.other c.loop-number.invariant.inside

pub distance-distance-requires-clause-few : goal.distance-distance-requires-clause-few
distance-distance-requires-clause-few c =
    let l = length_of c.args.grid.now.params c.args.point.now c.requires.point in
    let f = few_params c.args.grid.now.params c.args.grid.now.within in omega arith

pub better-best-requires-clause-same : goal.better-best-requires-clause-same
better-best-requires-clause-same c =
    rows_fit c.args.grid.now.params c.loop-number.other c.loop-number.numbers c.loop-number.invariant.numbers c.loop-number.invariant.inside (λ row. length row.coefs) c.args.rows.now c.requires.rows

pub better-best-requires-clause-small : goal.better-best-requires-clause-small
better-best-requires-clause-small c =
    numbers_small c.args.grid.now.params c.loop-number.other c.loop-number.numbers c.loop-number.invariant.numbers c.loop-number.invariant.inside c.args.grid.now.within

pub loop-number-preserved : goal.loop-number-preserved
loop-number-preserved c = record {
  inside = c.advance.ensures.point;
  numbers = c.advance.ensures.numbers;
  at = λ l.
      let here : number (sizes c.args.grid.now.params) c.loop-number.other ≡ c.loop-number.number = c.loop-number.invariant.at (omega arith) in
      c.advance.ensures.next (omega arith) ∙ ap (λ n. n + 1) here;
  best =
      let below : c.loop-number.number < count (sizes c.args.grid.now.params) = omega arith in
      scanned_numbers c.args.grid.now.params c.args.rows.now c.args.point.now c.loop-number.other c.loop-number.number _ c.loop-number.numbers c.loop-number.best c.better-best.result c.better-best.ensures c.loop-number.invariant.numbers
      (is_at (sizes c.args.grid.now.params) c.loop-number.other c.loop-number.number c.loop-number.invariant.inside (c.loop-number.invariant.at below)) refl below c.distance-distance.ensures c.loop-number.invariant.best;
}

pub returns : goal.returns
returns c = all_scanned c.args.grid.now.params c.args.rows.now c.args.point.now c.loop-number.best c.loop-number.number (omega arith) c.loop-number.invariant.best
