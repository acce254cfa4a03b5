use Rattle.ch_check.proofs.Lines.{told_added}
use Rattle.ch_check.proofs.line.put_told.Goals as goal

pub returns : goal.returns
returns c =
    told_added c.put_number-3.result c.args.told c.args.out.now c.append.new.self c.put_number.new.out c.append-2.new.self c.put_number-2.new.out c.append-3.new.self c.put_number-3.new.out
    c.in_ok-append.ensures.ok (rw c.from.ensures at c.in_ok-put_number.ensures) c.in_ok-append-2.ensures.ok c.in_ok-put_number-2.ensures c.in_ok-append-3.ensures.ok c.put_number-3.ensures
