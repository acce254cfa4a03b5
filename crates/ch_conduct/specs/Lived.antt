-- Which reports have a history behind them: each session has one in which each client and each builder conducted itself, and whose entries
-- the report shows.
use Rattle.std.specs.Prelude.{◌≡◌, ◌⊎◌, ℕ, ◌+◌, ◌<◌, ◌≤◌, true, List, [], ◌∷◌, ◌++◌, length}
use Rattle.std.specs.List.{AllByRecursion}
use Rattle.ch_conduct.specs.Conduct.{Conduct, BuilderConduct}
use Rattle.ch_conduct.specs.Lines.{Each, lines_on}
use Rattle.ch_conduct.specs.Meaning.{Task, Meaning}
use Rattle.ch_conduct.specs.Places.{events_by, point}
use Rattle.ch_conduct.specs.declared.report.RunReport.{RunReport}
use Rattle.ch_report.specs.declared.part.EntryLine.{EntryLine}
use Rattle.ch_report.specs.declared.part.Found.TheVariants as found
use Rattle.ch_report.specs.declared.part.SessionPart.{SessionPart}
use Rattle.ch_session.specs.declared.event.Event.{Event}
use Rattle.ch_session.specs.declared.event.Event.TheVariants.{Fetch, Report, Claim, Good, Refused, Leave}
use Rattle.ch_session.specs.Growth.{by}
use Rattle.ch_session.specs.History.{is_legal}

-- the line of a report or of a refused build, with its trial's point; `at` gives the points
abbrev pub line_of : (ℕ → List ℕ) → Event → List EntryLine
line_of at (Fetch c t v) = []
line_of at (Report c t j x l) = record { trial = t; point = at t; found = found.Cost c j x } ∷ []
line_of at (Claim b t) = []
line_of at (Good b t) = []
line_of at (Refused b t r) = record { trial = t; point = at t; found = found.Refused r } ∷ []
line_of at (Leave c t) = []

-- those of a history, in order
abbrev pub lines_of : (ℕ → List ℕ) → List Event → List EntryLine
lines_of at [] = []
lines_of at (e ∷ es) = line_of at e ++ lines_of at es

-- the numbers of clients, and of builders, which are counted on from 100
abbrev pub IsWorker : ℕ → ℕ → ℕ → Type 0
IsWorker clients builders n = (n < clients) ⊎ ((100 ≤ n) × (n < 100 + builders))

-- Session n has a legal history whose entries are the part's. In it the lines of each client on the session, with its own events and some reads
-- of the news, are a client's conduct; each builder's own events are a builder's, that found memory; and nobody else made an event.
pub record SessionLived (m : Meaning) (builders : ℕ) (r : RunReport) (n : ℕ) (task : Task) (part : SessionPart) : Type 0 where
  pub history : List Event
  pub legal : is_legal task.theme history ≡ true
  pub entries : part.entries ≡ lines_of (point task.theme history) history
  pub clients : Each (λ c s p. (reads : List ℕ)
      × Conduct task.theme task.judge c s.patient s.machine history (lines_on n p.calls) (events_by c history) reads) 0 m.clients r.clients
  pub builders_did : (b : ℕ) → 100 ≤ b → b < 100 + builders → BuilderConduct task.theme task.judge b history (events_by b history)
  pub all_theirs : AllByRecursion (λ e. IsWorker (length m.clients) builders (by e)) history

abbrev pub Lived : Meaning → ℕ → RunReport → Type 0
Lived m builders r = Each (SessionLived m builders r) 0 m.tasks r.sessions
