use Rattle.std.proofs.Common.{◌∙◌, ◌++◌, ◌≤◌, List, ap, drop, length, map, subst, sym, arith}
use Rattle.ch_reduce.specs.FreePairs.{pairs_from, pairs_with}
use Rattle.ch_reduce.proofs.FreePairs.{piece_more, pieces_all, told_ascends, told_exactly, told_free}
use Rattle.ch_space.specs.declared.piece.Piece.{Piece}
use Rattle.ch_space.specs.Listed.{Listed}
use Rattle.ch_reduce.proofs.pairs.free_pairs.Goals as goal

pub overflow_cast-one : goal.overflow_cast-one
overflow_cast-one c = let few : length c.as_slice-pieces.result.now ≤ 256 = subst (λ xs. length xs ≤ 256) (sym c.as_slice-pieces.ensures) c.space.invariant.few_pieces in omega arith

pub push_pairs-requires : goal.push_pairs-requires
push_pairs-requires c = subst (λ xs. length xs ≤ 256) (sym c.as_slice-pieces.ensures) c.space.invariant.few_pieces

pub loop-one-preserved : goal.loop-one-preserved
loop-one-preserved c =
    piece_more c.as_slice-pieces.result.now c.loop-one.one c.index-pieces-one.result c.loop-one.pairs c.push_pairs.new.pairs (omega arith)
    (c.in_ok-push_pairs.ensures ∙ ap (λ (q : Piece). c.loop-one.pairs ++ pairs_with c.loop-one.one q.body c.loop-one.one (drop c.loop-one.one (map (λ p. p.body) c.as_slice-pieces.result.now))) c.index-pieces-one.is)
    c.loop-one.invariant

pub returns-clause-ascending : goal.returns-clause-ascending
returns-clause-ascending c =
    told_ascends c.args.space.now.list c.space.inside.pieces c.space.invariant.apart (ap (λ (r : Listed). r.list) c.space.view_is) c.loop-one.pairs
    (pieces_all c.as_slice-pieces.result.now c.loop-one.one c.loop-one.pairs (omega arith) c.loop-one.invariant ∙ ap (λ (ps : List Piece). pairs_from 0 (map (λ p. p.body) ps)) c.as_slice-pieces.ensures)

pub returns-clause-exactly : goal.returns-clause-exactly
returns-clause-exactly c =
    told_exactly c.args.space.now.list c.space.inside.pieces c.space.invariant.apart (ap (λ (r : Listed). r.list) c.space.view_is) c.loop-one.pairs
    (pieces_all c.as_slice-pieces.result.now c.loop-one.one c.loop-one.pairs (omega arith) c.loop-one.invariant ∙ ap (λ (ps : List Piece). pairs_from 0 (map (λ p. p.body) ps)) c.as_slice-pieces.ensures)

pub returns-clause-free : goal.returns-clause-free
returns-clause-free c =
    told_free c.args.space.now.list c.space.inside.pieces c.space.invariant.apart (ap (λ (r : Listed). r.list) c.space.view_is) c.loop-one.pairs
    (pieces_all c.as_slice-pieces.result.now c.loop-one.one c.loop-one.pairs (omega arith) c.loop-one.invariant ∙ ap (λ (ps : List Piece). pairs_from 0 (map (λ p. p.body) ps)) c.as_slice-pieces.ensures)
