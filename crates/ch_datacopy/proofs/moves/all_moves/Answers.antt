use Rattle.std.proofs.Common.{map, pos}
use Rattle.ch_datacopy.proofs.Judging.{moves_made}
use Rattle.ch_datacopy.proofs.moves.all_moves.Goals as goal

pub returns : goal.returns
returns c =
    moves_made c.args.pieces.now (map pos c.args.ours.now) c.args.around c.args.array c.len-ins.result c.new-all.result c.push_uses.new.all c.push_uses-2.new.all c.new-all.ensures c.in_ok-push_uses.ensures
    c.len-ins.ensures c.in_ok-push_uses-2.ensures
