-- What the seats of a session, taken together again, tell of its closed history.
use Rattle.std.specs.Prelude.{◌≡◌, ℕ, ◌+◌, ◌<◌, ◌≤◌, true, List, [], length}
use Rattle.ch_conduct.specs.Conduct.{Conduct, BuilderConduct}
use Rattle.ch_conduct.specs.Lines.{Each, lines_on}
use Rattle.ch_conduct.specs.Lived.{IsWorker}
use Rattle.ch_conduct.specs.Meaning.{Task, Meaning}
use Rattle.ch_conduct.specs.Places.{events_by}
use Rattle.ch_conduct.specs.declared.report.RunReport.{RunReport}
use Rattle.ch_session.specs.declared.event.Event.{Event}
use Rattle.ch_session.specs.History.{is_legal}
use Rattle.ch_turn.specs.History.{IsPrefix}

-- Each client and builder conducted itself in what its seat had seen, which begins the history and has all of its own events; the numbers that
-- no client and no builder has made none.
pub record Gathered (m : Meaning) (builders : ℕ) (r : RunReport) (n : ℕ) (task : Task) (h : List Event) : Type 0 where
  pub legal : is_legal task.theme h ≡ true
  pub clients : Each (λ c s p. (seen : List Event) × (reads : List ℕ) × IsPrefix seen h × (events_by c seen ≡ events_by c h)
      × Conduct task.theme task.judge c s.patient s.machine seen (lines_on n p.calls) (events_by c h) reads) 0 m.clients r.clients
  pub builders_did : (b : ℕ) → 100 ≤ b → b < 100 + builders → (seen : List Event) × IsPrefix seen h × (events_by b seen ≡ events_by b h)
      × BuilderConduct task.theme task.judge b seen (events_by b h)
  pub others : (b : ℕ) → (IsWorker (length m.clients) builders b → ⊥) → events_by b h ≡ []
