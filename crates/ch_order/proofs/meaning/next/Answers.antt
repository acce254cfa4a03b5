use Rattle.ch_order.proofs.Walks.{next_told}
use Rattle.ch_order.proofs.meaning.next.Goals as goal

pub returns : goal.returns
returns g c = next_told c.after.result c.args.at.now (g.T.Timed.list c.args.list.now) c.requires c.after.ensures
