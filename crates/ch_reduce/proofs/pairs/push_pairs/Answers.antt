use Rattle.std.proofs.Common.{◌∙◌, ◌++◌, ◌∷◌, [], ap, if◌then◌else◌, arith}
use Rattle.ch_reduce.specs.Relaxed.{bodies_add_to_one}
use Rattle.ch_reduce.proofs.FreePairs.{pair_more, pairs_all_pushed}
use Rattle.ch_space.specs.declared.piece.Piece.{Piece}
use Rattle.ch_reduce.proofs.pairs.push_pairs.Goals as goal

pub loop-other-preserved : goal.loop-other-preserved
loop-other-preserved c =
    pair_more c.args.pieces.now c.args.piece.now c.args.one c.loop-other.other c.index-pieces-other.result _ c.loop-other.pairs c.push_pair.new.pairs (omega arith)
    (c.in_ok-push_pair.ensures ∙ ap (λ (q : Piece). c.loop-other.pairs ++ (if bodies_add_to_one c.args.piece.now.body q.body then record { one = c.args.one; other = c.loop-other.other } ∷ [] else [])) c.index-pieces-other.is)
    c.loop-other.invariant

pub returns : goal.returns
returns c = pairs_all_pushed c.args.pieces.now c.args.piece.now c.args.one c.loop-other.other _ c.loop-other.pairs (omega arith) c.loop-other.invariant
