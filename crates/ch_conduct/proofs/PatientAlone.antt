-- An example: a patient client alone on two sessions, of three points and of one, each point of the same cost. Its report fits, has a history
-- behind it, and is what `solo` computes.
use Rattle.std.proofs.Common.{◌≡◌, ℕ, ◌≤◌, ◌<◌, ◌+◌, List, [], ◌∷◌, ◌++◌, map, Option, Some, None, Bool, true, false, refl, inl, inr, arith, rules}
use Rattle.std.specs.Prelude.{ℤ, pos, ◌*ℤ◌}
use Rattle.ch_conduct.specs.Conduct.{Step, Gained, Conduct, Turns}
use Rattle.ch_conduct.specs.Conduct.Turns.{at_once, built}
use Rattle.ch_conduct.specs.Fits.{Fits}
use Rattle.ch_conduct.specs.Lines.{lines_on}
use Rattle.ch_conduct.specs.Lived.{SessionLived, Lived}
use Rattle.ch_conduct.specs.Meaning.{Judge, Task, Meaning}
use Rattle.ch_conduct.specs.Solo.{solo, part_of}
use Rattle.ch_conduct.specs.declared.report.CallLine.{CallLine}
use Rattle.ch_conduct.specs.declared.report.How.{How}
use Rattle.ch_conduct.specs.declared.report.How.TheVariants.{Trial, Fresh, Kept}
use Rattle.ch_conduct.specs.declared.report.RunReport.{RunReport}
use Rattle.ch_grid.specs.declared.param.Param.{Param}
use Rattle.ch_grid.specs.Grid.{size}
use Rattle.ch_nest.specs.CostModel.{CostModel, cost_model}
use Rattle.ch_nest.specs.LoopNest.{LoopNest}
use Rattle.ch_rank.specs.Bound.{bound, halvings}
use Rattle.ch_rank.specs.Search.{play, search_on}
use Rattle.ch_rank.specs.declared.phase.Phase.TheVariants.{Converged}
use Rattle.ch_report.specs.declared.part.EntryLine.{EntryLine}
use Rattle.ch_report.specs.declared.part.Found.TheVariants.{Cost}
use Rattle.ch_report.specs.declared.part.SessionPart.{SessionPart}
use Rattle.ch_script.specs.Recipes.{RecipeParts, recipe_of}
use Rattle.ch_session.specs.declared.event.Event.{Event}
use Rattle.ch_session.specs.declared.event.Event.TheVariants.{Fetch, Report, Claim, Good}
use Rattle.ch_session.specs.History.{Theme}
use Rattle.ch_workload.specs.declared.calls.CallDecl.{CallDecl}
use Rattle.ch_workload.specs.declared.client.Script.{Script}

abbrev pub nest : LoopNest
nest = record { arrays = []; items = [] }

abbrev pub recipe : RecipeParts
recipe = recipe_of [] [] [] []

-- one parameter from low to high, each trial measured r times
abbrev pub theme : ℤ → ℤ → ℕ → Theme
theme low high r = record { nest = nest; recipe = recipe; grid = record { low = low; high = high; step = pos 1 } ∷ []; repeat = r }

abbrev pub machine : CostModel
machine = cost_model 1 0 1 1

abbrev pub judge : Judge
judge = record { refusal = λ p. None; cost = λ m p. 4 }

abbrev pub task : ℤ → ℤ → Task
task low high = record { program = 0; theme = theme low high 1; judge = judge }

abbrev pub script : Bool → List CallDecl → Script
script patient calls = record { name = []; patient = patient; machine = machine; fills = []; calls = calls }

-- one program, whose run doubles its two cells
abbrev pub meaning_of : List Task → List Script → Meaning
meaning_of tasks clients = record {
  programs = 1;
  tasks = tasks;
  clients = clients;
  filled = λ c p. pos 1 ∷ pos 2 ∷ [];
  run = λ p cells. map (λ z. z *ℤ pos 2) cells;
}

abbrev pub meaning : Meaning
meaning = meaning_of (task (pos 0) (pos 2) ∷ task (pos 5) (pos 5) ∷ []) (script true (record { session = 0; times = 4 } ∷ record { session = 1; times = 2 } ∷ []) ∷ [])

abbrev pub line : ℕ → How → CallLine
line n how = record { session = n; how = how }

abbrev pub lines : List CallLine
lines = line 0 (Trial 0) ∷ line 0 (Trial 1) ∷ line 0 (Trial 2) ∷ line 0 (Fresh 1 4) ∷ line 1 (Trial 0) ∷ line 1 (Fresh 1 2) ∷ []

abbrev pub entry : ℕ → ℕ → ℕ → ℕ → EntryLine
entry t x j cost = record { trial = t; point = x ∷ []; found = Cost 0 j cost }

abbrev pub part : List EntryLine → ℕ → ℕ → SessionPart
part es steps x = record {
  entries = es;
  steps = steps;
  phase = Converged;
  ranks = record { place = 0; point = x ∷ []; cost = Some 4 } ∷ record { place = 1; point = x ∷ []; cost = Some 4 } ∷ record { place = 2; point = x ∷ []; cost = Some 4 } ∷ [];
  best = Some (record { point = x ∷ []; cost = 4 });
}

abbrev pub entries_s : List EntryLine
entries_s = entry 0 1 1 4 ∷ entry 1 2 2 4 ∷ entry 2 0 3 4 ∷ []

-- a report by its call lines, its last cell, and its first session's entries and steps
abbrev pub report_of : List CallLine → ℤ → List EntryLine → ℕ → RunReport
report_of ls z es steps = record {
  clients = record { calls = ls; stores = record { program = 0; cells = pos 64 ∷ z ∷ [] } ∷ [] } ∷ [];
  sessions = part es steps 1 ∷ part (entry 0 0 5 4 ∷ []) 1 0 ∷ [];
}

abbrev pub report : RunReport
report = report_of lines (pos 128) entries_s 2

pub fits : Fits meaning report
unfolding search_on play bound halvings size
fits = record {
  parts = (((refl, refl), tt), refl);
  stores = ((refl, tt), tt);
  sessions = (
    record {
      legal = (refl, (refl, (refl, (refl, tt))));
      judged = ((refl, refl), ((refl, refl), ((refl, refl), tt)));
      searched = refl;
      calls_fit = record {
        named = ((refl, (refl, (refl, (tt, tt)))), tt);
        names = (refl, (refl, (refl, tt)));
        order = (((omega arith, (omega arith, tt)), ((omega arith, tt), (tt, tt))), tt);
      };
      versions_fit = ((record { exists = omega arith; not_below = tt; since_entry = omega arith; news = omega arith }, tt), tt);
    },
    (
      record {
        legal = (refl, (refl, tt));
        judged = ((refl, refl), tt);
        searched = refl;
        calls_fit = record {
          named = ((refl, (tt, tt)), tt);
          names = (refl, tt);
          order = ((tt, tt), tt);
        };
        versions_fit = ((record { exists = omega arith; not_below = tt; since_entry = omega arith; news = omega arith }, tt), tt);
      },
      tt,
    ),
  );
}

-- ---- its history

-- a call that builds the trial t, where version v is the current one, and then measures it
abbrev builds : ℕ → ℕ → ℕ → List Event
builds v t j = Fetch 0 None v ∷ Claim 200 t ∷ Good 200 t ∷ Fetch 0 (Some t) 0 ∷ Report 0 t j 4 0 ∷ []

abbrev history_s : List Event
history_s = builds 0 0 1 ++ (builds 1 1 2 ++ (builds 1 2 3 ++ Fetch 0 None 1 ∷ []))

abbrev history_u : List Event
history_u = builds 0 0 5 ++ Fetch 0 None 1 ∷ []

solo_s : solo (theme (pos 0) (pos 2) 1) judge 0 true machine (1 ∷ 2 ∷ 3 ∷ 4 ∷ []) ≡ record { history = history_s; lines = lines_on 0 lines }
unfolding search_on play bound halvings size
solo_s = refl

solo_u : solo (theme (pos 5) (pos 5) 1) judge 0 true machine (5 ∷ 6 ∷ []) ≡ record { history = history_u; lines = lines_on 1 lines }
unfolding search_on play bound halvings size
solo_u = refl

part_s : part_of (theme (pos 0) (pos 2) 1) history_s ≡ part entries_s 2 1
unfolding search_on play bound halvings size
part_s = refl

part_u : part_of (theme (pos 5) (pos 5) 1) history_u ≡ part (entry 0 0 5 4 ∷ []) 1 0
unfolding search_on play bound halvings size
part_u = refl

abbrev step : ℕ → How → List Event → Step
step j how es = record { call = j; how = how; gained = record { events = es; reads = [] } }

conduct_s : Conduct (theme (pos 0) (pos 2) 1) judge 0 true machine history_s (lines_on 0 lines) history_s []
unfolding search_on play bound halvings size
conduct_s = record {
  so_far = record {
    steps = step 1 (Trial 0) (builds 0 0 1) ∷ step 2 (Trial 1) (builds 1 1 2) ∷ step 3 (Trial 2) (builds 1 2 3) ∷ step 4 (Fresh 1 4) (Fetch 0 None 1 ∷ []) ∷ [];
    lines_are = refl;
    own_are = refl;
    reads_are = refl;
    calls = (
      (refl, built 0 0 (Fetch 0 (Some 0) 0 ∷ Report 0 0 1 4 0 ∷ []) refl refl (0, refl, refl)),
      (
        (refl, built 1 1 (Fetch 0 (Some 1) 0 ∷ Report 0 1 2 4 0 ∷ []) refl refl (0, refl, refl)),
        (
          (refl, built 1 2 (Fetch 0 (Some 2) 0 ∷ Report 0 2 3 4 0 ∷ []) refl refl (0, refl, refl)),
          (
            (refl, at_once (refl, (builds 0 0 1 ++ (builds 1 1 2 ++ builds 1 2 3), (([], refl), refl), refl)) (history_s, ([], refl), refl, refl)),
            tt,
          ),
        ),
      ),
    );
  };
  reads_within = tt;
}

conduct_u : Conduct (theme (pos 5) (pos 5) 1) judge 0 true machine history_u (lines_on 1 lines) history_u []
unfolding search_on play bound halvings size
conduct_u = record {
  so_far = record {
    steps = step 5 (Trial 0) (builds 0 0 5) ∷ step 6 (Fresh 1 2) (Fetch 0 None 1 ∷ []) ∷ [];
    lines_are = refl;
    own_are = refl;
    reads_are = refl;
    calls = (
      (refl, built 0 0 (Fetch 0 (Some 0) 0 ∷ Report 0 0 5 4 0 ∷ []) refl refl (0, refl, refl)),
      (
        (refl, at_once (refl, (builds 0 0 5, (([], refl), refl), refl)) (history_u, ([], refl), refl, refl)),
        tt,
      ),
    );
  };
  reads_within = tt;
}

no_builder : {A : Type 0} (b : ℕ) → 100 ≤ b → b < 100 + 0 → A
no_builder b l h = absurd (omega arith)

lived : Lived meaning 0 report
unfolding search_on play bound halvings size
lived = (
  record {
    history = history_s;
    legal = refl;
    entries = refl;
    clients = (([], conduct_s), tt);
    builders_did = λ b l h. no_builder b l h;
    all_theirs = search rules;
  },
  (
    record {
      history = history_u;
      legal = refl;
      entries = refl;
      clients = (([], conduct_u), tt);
      builders_did = λ b l h. no_builder b l h;
      all_theirs = search rules;
    },
    tt,
  ),
)
