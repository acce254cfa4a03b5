use Rattle.std.proofs.Common.{◌≡◌, ◌-◌, length, map, pos}
use Rattle.std.specs.List.{filter, range_with_len}
use Rattle.ch_moved.specs.Arguments.{natural}
use Rattle.ch_moved.specs.Causes.{first_failing}
use Rattle.ch_space.specs.Members.{group}
use Rattle.ch_timed.specs.Groups.{in_group, piece}
use Rattle.ch_timed.specs.Timed.{pieces}
use Rattle.ch_moved.proofs.causes.unshared.Given as goal

abbrev pub invariant-loop-k : goal.invariant-loop-k
invariant-loop-k l =
    first_failing 5 (λ k. in_group l.space.list l.number l.last (piece l.space.list (natural k))) (map pos (group l.space.list l.number l.first))
    ≡ first_failing 5 (λ k. in_group l.space.list l.number l.last (piece l.space.list (natural k)))
    (map pos (filter (λ k. in_group l.space.list l.number l.first (piece l.space.list k)) (range_with_len l.k (length (pieces l.space.list) - l.k))))
