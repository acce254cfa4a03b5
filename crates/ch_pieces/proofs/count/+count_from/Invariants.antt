use Rattle.std.proofs.Common.{◌≡◌, ◌+◌, ◌-◌, length}
use Rattle.ch_pieces.specs.Counting.{count_from}
use Rattle.ch_pieces.proofs.Counts.{GoesOn, distance, next_count, range_at, remaining}
use Rattle.ch_pieces.proofs.count.+count_from.Given as goal

abbrev pub decreases-count_from : goal.decreases-count_from
decreases-count_from l = l.levels - length l.front.now

abbrev pub invariant-loop-next : goal.invariant-loop-next
invariant-loop-next l = record {
  front : l.front ≡ l.initial.front;
  room : l.room ≡ l.initial.room;
  goes : GoesOn l.system l.initial.front (range_at l.system l.initial.front).low l.next;
  total : l.count + remaining (next_count l.system l.levels l.initial.front) (range_at l.system l.initial.front).high l.next
      ≡ count_from l.system l.levels l.initial.front;
}

abbrev pub decreases-loop-next : goal.decreases-loop-next
decreases-loop-next l = distance (range_at l.system l.initial.front).high l.next
