use Rattle.ch_poly.specs.Fixed.{IsFixed}
use Rattle.ch_poly.proofs.room.fix_front.Given as goal

abbrev pub invariant-loop-k : goal.invariant-loop-k
invariant-loop-k l = IsFixed l.k l.fixed l.initial.lows l.initial.highs l.lows l.highs
