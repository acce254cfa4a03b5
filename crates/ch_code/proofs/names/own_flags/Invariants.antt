use Rattle.std.proofs.Common.{◌≡◌, take}
use Rattle.ch_code.specs.BodyText.{own_flags}
use Rattle.ch_code.proofs.Seen.{AreSeen}
use Rattle.ch_code.proofs.names.own_flags.Given as goal

abbrev pub invariant-loop-number : goal.invariant-loop-number
invariant-loop-number l = (l.own ≡ own_flags l.arrays l.number) × AreSeen l.seen.keys (take l.number l.arrays)
