use Rattle.std.proofs.Common.{◌<◌, ◌^◌, subst, sym}
use Rattle.ch_pieces.proofs.Counts.{all_counted, counted_ok, none_counted}
use Rattle.ch_pieces.proofs.count.count_instances.Goals as goal

pub returns-then-not-has_point : goal.returns-then-not-has_point
returns-then-not-has_point c = none_counted c.args.piece.now (sym c.if-not-has_point.ensures.found)

pub count_from-requires-clause-few : goal.count_from-requires-clause-few
count_from-requires-clause-few c =
    subst (λ n. n < 2 ^ 64) (all_counted c.args.piece.now c.in_ok-front.front c.in_ok-front.ensures) c.requires.few

pub returns : goal.returns
returns c = counted_ok c.args.piece.now c.in_ok-front.front c.count_from.result c.in_ok-front.ensures c.count_from.ensures.count
