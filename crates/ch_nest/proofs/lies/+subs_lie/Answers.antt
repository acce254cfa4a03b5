use Rattle.ch_nest.proofs.Boxed.{subs_step}
use Rattle.ch_nest.proofs.lies.+subs_lie.Goals as goal

pub returns-else-not-sub_lies : goal.returns-else-not-sub_lies
returns-else-not-sub_lies t c = λ yes.
    subs_step c.args.extents.now c.args.subs.now c.sub-item.result c.args.boxes.now c.in-len1-up.len_at_least c.in-len1-up-subs.len_at_least c.sub-item.is
    (c.sub_lies.ensures c.if-not-sub_lies.false) (c.subs_lie.ensures yes)
