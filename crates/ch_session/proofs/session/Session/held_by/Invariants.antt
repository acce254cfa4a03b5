use Rattle.ch_session.specs.History.{is_held_by, is_free}
use Rattle.ch_session.proofs.KeptLeases.{AllBefore}
use Rattle.ch_session.proofs.session.Session.held_by.Given as goal

abbrev pub invariant-loop-trial : goal.invariant-loop-trial
invariant-loop-trial g l = AllBefore (is_held_by l.self.theme l.self.events l.fn.client) l.trial
