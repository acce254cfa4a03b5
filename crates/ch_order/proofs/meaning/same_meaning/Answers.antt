use Rattle.std.proofs.lemmas.Result.{IfOk-weaker}
use Rattle.ch_order.proofs.Legal.{legal_end, legal_end_flat}
use Rattle.ch_order.proofs.meaning.same_meaning.Goals as goal

pub returns-clause-legal : goal.returns-clause-legal
returns-clause-legal g c = c.same_meaning_by.ensures

pub returns-clause-store : goal.returns-clause-store
returns-clause-store g c = IfOk-weaker c.same_meaning_by.result _ _
    (λ t told is store. legal_end (g.A.Timed.list c.args.old.now) (g.B.Timed.list c.args.new.now) (told.0 is) store) c.same_meaning_by.ensures

pub returns-clause-flat : goal.returns-clause-flat
returns-clause-flat g c = IfOk-weaker c.same_meaning_by.result _ _
    (λ t told is extents inside cells. legal_end_flat (g.A.Timed.list c.args.old.now) (g.B.Timed.list c.args.new.now) (told.0 is) extents inside cells) c.same_meaning_by.ensures
