use Rattle.std.proofs.Common.{◌≡◌, map}
use Rattle.ch_pieces.proofs.assemble.split.Given as goal

abbrev pub invariant-loop-part : goal.invariant-loop-part
invariant-loop-part l = record {
  pieces : l.pieces ≡ map (λ p. p.piece) l.yielded;
  counts : l.counts ≡ map (λ p. p.count) l.yielded;
}
