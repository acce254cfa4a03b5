use Rattle.std.proofs.Common.{◌-◌, ◌<◌, arith}
use Rattle.ch_datacopy.proofs.SmallRows.{difference_made}
use Rattle.ch_datacopy.proofs.widths.difference.Goals as goal

pub invariant_of-result : goal.invariant_of-result
invariant_of-result c =
    let k : c.args.k < c.args.cells = c.requires.k in
    let room = c.requires.room in
    difference_made c.args.around c.args.k ((c.args.cells - 1) - c.args.k) c.args.hidden c.new-coefs.result c.push_zeros.new.numbers c.push_zeros-2.new.numbers c.push.new.self c.push_zeros-3.new.numbers
    c.push_zeros-4.new.numbers c.push-2.new.self c.push_zeros-5.new.numbers _ (omega (arith, k, room)) c.new-coefs.ensures c.in_ok-push_zeros.ensures c.in_ok-push_zeros-2.ensures
    c.in_ok-push.ensures.ok c.in_ok-push_zeros-3.ensures c.in_ok-push_zeros-4.ensures c.in_ok-push-2.ensures.ok c.in_ok-push_zeros-5.ensures c.in_ok-push_zeros-6.ensures
