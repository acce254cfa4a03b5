use Rattle.std.proofs.Common.{◌≡◌, take}
use Rattle.ch_moved.proofs.Substitutes.{front}
use Rattle.ch_moved.proofs.substitute.new_coefs.Given as goal

abbrev pub invariant-loop-place : goal.invariant-loop-place
invariant-loop-place l = l.coefs ≡ take l.place (front l.variables l.forms l.row).coefs
