-- An example: an eager client beside a builder. Its first call is fresh, the second is kept, and the third measures the trial that was built
-- meanwhile.
use Rattle.std.proofs.Common.{◌≡◌, ◌≢◌, ℕ, ◌≤◌, ◌<◌, ◌+◌, List, [], ◌∷◌, ◌++◌, Option, Some, None, true, false, refl, subst, arith, inl, inr}
use Rattle.std.specs.Prelude.{pos}
use Rattle.ch_conduct.specs.Conduct.{Step, Conduct, BuilderConduct, Turns}
use Rattle.ch_conduct.specs.Conduct.Turns.{at_once, built}
use Rattle.ch_conduct.specs.Fits.{Fits}
use Rattle.ch_conduct.specs.Lines.{lines_on}
use Rattle.ch_conduct.specs.Lived.{Lived}
use Rattle.ch_conduct.specs.Meaning.{Meaning}
use Rattle.ch_conduct.specs.Places.{events_by}
use Rattle.ch_conduct.specs.declared.report.CallLine.{CallLine}
use Rattle.ch_conduct.specs.declared.report.How.{How}
use Rattle.ch_conduct.specs.declared.report.How.TheVariants.{Trial, Fresh, Kept}
use Rattle.ch_conduct.specs.declared.report.RunReport.{RunReport}
use Rattle.ch_conduct.proofs.PatientAlone.{theme, task, script, meaning_of, line, entry, judge, machine}
use Rattle.ch_grid.specs.Grid.{size}
use Rattle.ch_rank.specs.Bound.{bound, halvings}
use Rattle.ch_rank.specs.Search.{play, search_on}
use Rattle.ch_rank.specs.declared.phase.Phase.TheVariants.{Start}
use Rattle.ch_report.specs.declared.part.SessionPart.{SessionPart}
use Rattle.ch_session.specs.declared.event.Event.{Event}
use Rattle.ch_session.specs.declared.event.Event.TheVariants.{Fetch, Report, Claim, Good}

abbrev meaning : Meaning
meaning = meaning_of (task (pos 0) (pos 2) ∷ []) (script false (record { session = 0; times = 3 } ∷ []) ∷ [])

abbrev lines : List CallLine
lines = line 0 (Fresh 0 0) ∷ line 0 (Kept 0 0) ∷ line 0 (Trial 0) ∷ []

abbrev part : SessionPart
part = record { entries = entry 0 1 3 4 ∷ []; steps = 0; phase = Start; ranks = []; best = Some (record { point = 1 ∷ []; cost = 4 }) }

abbrev report : RunReport
report = record { clients = record { calls = lines; stores = record { program = 0; cells = pos 8 ∷ pos 16 ∷ [] } ∷ [] } ∷ []; sessions = part ∷ [] }

fits : Fits meaning report
unfolding search_on play bound halvings size
fits = record {
  parts = (((refl, refl), tt), refl);
  stores = ((refl, tt), tt);
  sessions = (
    record {
      legal = (refl, (refl, tt));
      judged = ((refl, refl), tt);
      searched = refl;
      calls_fit = record { named = ((tt, (tt, (refl, tt))), tt); names = (refl, tt); order = ((tt, tt), tt) };
      versions_fit = (
        (
          record { exists = omega arith; not_below = tt; since_entry = omega arith; news = omega arith },
          (record { exists = omega arith; not_below = (omega arith, omega arith); since_entry = omega arith; news = omega arith }, refl, inl refl, tt),
        ),
        tt,
      );
    },
    tt,
  );
}

abbrev history : List Event
history = Fetch 0 None 0 ∷ Claim 100 0 ∷ Good 100 0 ∷ Fetch 0 (Some 0) 0 ∷ Report 0 0 3 4 0 ∷ Claim 100 1 ∷ Good 100 1 ∷ Claim 100 2 ∷ Good 100 2 ∷ []

abbrev step : ℕ → How → List Event → List ℕ → Step
step j how es reads = record { call = j; how = how; gained = record { events = es; reads = reads } }

other : (a b : ℕ) → b < a → a ≢ b
other a b l e = absurd (omega arith)

conduct : Conduct (theme (pos 0) (pos 2) 1) judge 0 false machine history (lines_on 0 lines) (events_by 0 history) (0 ∷ 1 ∷ [])
unfolding search_on play bound halvings size
conduct = record {
  so_far = record {
    steps = step 1 (Fresh 0 0) (Fetch 0 None 0 ∷ []) [] ∷ step 2 (Kept 0 0) [] (0 ∷ []) ∷ step 3 (Trial 0) (Fetch 0 (Some 0) 0 ∷ Report 0 0 3 4 0 ∷ []) (1 ∷ []) ∷ [];
    lines_are = refl;
    own_are = refl;
    reads_are = refl;
    calls = (
      (refl, at_once (refl, ([], ((_, refl), refl), refl)) tt),
      (
        (refl, inl refl, refl, refl),
        (
          ((1, refl, other 1 0 (omega arith)), at_once (0, refl, refl) tt),
          tt,
        ),
      ),
    );
  };
  reads_within = (omega arith, (omega arith, tt));
}

builder : BuilderConduct (theme (pos 0) (pos 2) 1) judge 100 history (events_by 100 history)
unfolding search_on play bound halvings size
builder = ((refl, refl, (refl, refl, (refl, refl, tt))), (history, ([], refl), refl, refl))

lived : Lived meaning 1 report
unfolding search_on play bound halvings size
lived = (
  record {
    history = history;
    legal = refl;
    entries = refl;
    clients = ((0 ∷ 1 ∷ [], conduct), tt);
    builders_did = λ b l h. one b l h;
    all_theirs = (inl (omega arith), (inr (omega arith, omega arith), (inr (omega arith, omega arith), (inl (omega arith), (inl (omega arith), (inr (omega arith, omega arith), (inr (omega arith, omega arith), (inr (omega arith, omega arith), (inr (omega arith, omega arith), tt)))))))));
  },
  tt,
)
  where
    one : (b : ℕ) → 100 ≤ b → b < 100 + 1 → BuilderConduct (theme (pos 0) (pos 2) 1) judge b history (events_by b history)
    one b l h = let e : 100 ≡ b = omega arith in subst (λ (z : ℕ). BuilderConduct (theme (pos 0) (pos 2) 1) judge z history (events_by z history)) e builder
