use Rattle.std.proofs.Common.{◌≡◌, length, drop, map}
use Rattle.ch_nest.specs.Run.{sub_value}
use Rattle.ch_timed.specs.Vectors.{same_numbers}
use Rattle.ch_order.proofs.cells.same_subscripts.Given as goal

abbrev pub invariant-loop-sub : goal.invariant-loop-sub
invariant-loop-sub l =
    same_numbers (drop (length l.yielded) (map (sub_value l.iters) l.subs)) (drop (length l.yielded) (map (sub_value l.their_iters) l.others))
    ≡ same_numbers (map (sub_value l.iters) l.subs) (map (sub_value l.their_iters) l.others)
