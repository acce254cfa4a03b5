-- An example: a patient client alone on a session at each of whose points the recipe is refused. Its lines are fresh, and nothing is best. A
-- client that claims nothing is none that `solo` knows.
use Rattle.std.proofs.Common.{◌≡◌, ◌≢◌, ℕ, ◌≤◌, ◌<◌, List, [], ◌∷◌, ◌++◌, Option, Some, None, true, refl, ap, arith, length}
use Rattle.std.specs.Prelude.{pos}
use Rattle.ch_conduct.specs.Fits.{Fits}
use Rattle.ch_conduct.specs.Lines.{lines_on}
use Rattle.ch_conduct.specs.Meaning.{Judge, Meaning}
use Rattle.ch_conduct.specs.Solo.{AllPlayed, solo, part_of}
use Rattle.ch_conduct.specs.declared.report.CallLine.{CallLine}
use Rattle.ch_conduct.specs.declared.report.How.TheVariants.{Fresh}
use Rattle.ch_conduct.specs.declared.report.RunReport.{RunReport}
use Rattle.ch_conduct.proofs.PatientAlone.{theme, script, meaning_of, line, machine}
use Rattle.ch_grid.specs.Grid.{size}
use Rattle.ch_rank.specs.Bound.{bound, halvings}
use Rattle.ch_rank.specs.Search.{play, search_on}
use Rattle.ch_rank.specs.declared.phase.Phase.TheVariants.{Converged}
use Rattle.ch_report.specs.declared.part.EntryLine.{EntryLine}
use Rattle.ch_report.specs.declared.part.Found.TheVariants as found
use Rattle.ch_report.specs.declared.part.SessionPart.{SessionPart}
use Rattle.ch_script.specs.declared.refusal.Refusal.{Refusal}
use Rattle.ch_script.specs.declared.refusal.Refusal.TheVariants.{Illegal}
use Rattle.ch_session.specs.declared.event.Event.{Event}
use Rattle.ch_session.specs.declared.event.Event.TheVariants.{Fetch, Claim, Refused}
use Rattle.ch_timed.specs.declared.element.Cell.{Cell}
use Rattle.ch_timed.specs.declared.element.Identity.{Identity}
use Rattle.ch_timed.specs.declared.element.Label.TheVariants.{Stmt}

-- S0(1,1) before S0(2,0) on A[1][1]
abbrev pair : Refusal
pair = Illegal 1 (record { label = Stmt 0; iters = pos 1 ∷ pos 1 ∷ [] }) (record { label = Stmt 0; iters = pos 2 ∷ pos 0 ∷ [] }) (record { array = 0; subs = pos 1 ∷ pos 1 ∷ [] })

abbrev judge : Judge
judge = record { refusal = λ p. Some pair; cost = λ m p. 0 }

abbrev meaning : Meaning
meaning = meaning_of (record { program = 0; theme = theme (pos 0) (pos 2) 1; judge = judge } ∷ []) (script true (record { session = 0; times = 4 } ∷ []) ∷ [])

abbrev lines : List CallLine
lines = line 0 (Fresh 0 0) ∷ line 0 (Fresh 0 0) ∷ line 0 (Fresh 0 0) ∷ line 0 (Fresh 0 0) ∷ []

abbrev entry : ℕ → ℕ → EntryLine
entry t x = record { trial = t; point = x ∷ []; found = found.Refused pair }

abbrev part : SessionPart
part = record {
  entries = entry 0 1 ∷ entry 1 2 ∷ entry 2 0 ∷ [];
  steps = 2;
  phase = Converged;
  ranks = record { place = 0; point = 1 ∷ []; cost = None } ∷ record { place = 1; point = 1 ∷ []; cost = None } ∷ record { place = 2; point = 1 ∷ []; cost = None } ∷ [];
  best = None;
}

abbrev report : RunReport
report = record { clients = record { calls = lines; stores = record { program = 0; cells = pos 16 ∷ pos 32 ∷ [] } ∷ [] } ∷ []; sessions = part ∷ [] }

fits : Fits meaning report
unfolding search_on play bound halvings size
fits = record {
  parts = (((refl, refl), tt), refl);
  stores = ((refl, tt), tt);
  sessions = (
    record {
      legal = (refl, (refl, (refl, (refl, tt))));
      judged = (refl, (refl, (refl, tt)));
      searched = refl;
      calls_fit = record { named = ((tt, (tt, (tt, (tt, tt)))), tt); names = (tt, (tt, (tt, tt))); order = (tt, tt) };
      versions_fit = (
        (
          record { exists = omega arith; not_below = tt; since_entry = omega arith; news = omega arith },
          (
            record { exists = omega arith; not_below = (omega arith, omega arith); since_entry = omega arith; news = omega arith },
            (
              record { exists = omega arith; not_below = (omega arith, omega arith); since_entry = omega arith; news = omega arith },
              (record { exists = omega arith; not_below = (omega arith, omega arith); since_entry = omega arith; news = omega arith }, tt),
            ),
          ),
        ),
        tt,
      );
    },
    tt,
  );
}

abbrev builds : ℕ → List Event
builds t = Fetch 0 None 0 ∷ Claim 200 t ∷ Refused 200 t pair ∷ Fetch 0 None 0 ∷ []

abbrev history : List Event
history = builds 0 ++ (builds 1 ++ (builds 2 ++ Fetch 0 None 0 ∷ []))

solo_is : solo (theme (pos 0) (pos 2) 1) judge 0 true machine (1 ∷ 2 ∷ 3 ∷ 4 ∷ []) ≡ record { history = history; lines = lines_on 0 lines }
unfolding search_on play bound halvings size
solo_is = refl

part_is : part_of (theme (pos 0) (pos 2) 1) history ≡ part
unfolding search_on play bound halvings size
part_is = refl

different : (a b : ℕ) → b < a → a ≡ b → ⊥
different a b l e = absurd (omega arith)

claims_nothing : solo (theme (pos 0) (pos 2) 1) judge 0 true machine (1 ∷ []) ≢ record { history = Fetch 0 None 0 ∷ []; lines = (1, Fresh 0 0) ∷ [] }
unfolding search_on play bound halvings size
claims_nothing e = different 4 1 (omega arith) (ap (λ p. length p.history) e)
