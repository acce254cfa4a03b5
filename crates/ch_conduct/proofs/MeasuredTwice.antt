-- An example: a patient client alone, each point measured twice.
use Rattle.std.proofs.Common.{◌≡◌, ℕ, List, [], ◌∷◌, ◌++◌, ◌+◌, Option, Some, None, true, refl}
use Rattle.std.specs.Prelude.{pos}
use Rattle.ch_conduct.specs.Solo.{solo, part_of}
use Rattle.ch_conduct.specs.declared.report.How.TheVariants.{Trial}
use Rattle.ch_conduct.proofs.PatientAlone.{theme, judge, machine, entry}
use Rattle.ch_grid.specs.Grid.{size}
use Rattle.ch_rank.specs.Bound.{bound, halvings}
use Rattle.ch_rank.specs.Search.{play, search_on}
use Rattle.ch_rank.specs.declared.phase.Phase.TheVariants.{Start}
use Rattle.ch_session.specs.declared.event.Event.{Event}
use Rattle.ch_session.specs.declared.event.Event.TheVariants.{Fetch, Report, Claim, Good}
use Rattle.ch_session.specs.History.{is_legal}

-- two calls that build and measure the trial t, where version v is the current one
abbrev trial : ℕ → ℕ → ℕ → List Event
trial v t j = Fetch 0 None v ∷ Claim 200 t ∷ Good 200 t ∷ Fetch 0 (Some t) 0 ∷ Report 0 t j 4 1 ∷ Fetch 0 (Some t) 0 ∷ Report 0 t (j + 1) 4 0 ∷ []

abbrev history : List Event
history = trial 0 0 1 ++ trial 1 1 3

twice : solo (theme (pos 1) (pos 3) 2) judge 0 true machine (1 ∷ 2 ∷ 3 ∷ 4 ∷ []) ≡ record { history = history; lines = (1, Trial 0) ∷ (2, Trial 0) ∷ (3, Trial 1) ∷ (4, Trial 1) ∷ [] }
unfolding search_on play bound halvings size
twice = refl

part : part_of (theme (pos 1) (pos 3) 2) history ≡ record { entries = entry 0 1 1 4 ∷ entry 0 1 2 4 ∷ entry 1 2 3 4 ∷ entry 1 2 4 4 ∷ []; steps = 0; phase = Start; ranks = []; best = Some (record { point = 1 ∷ []; cost = 4 }) }
unfolding search_on play bound halvings size
part = refl

legal : is_legal (theme (pos 1) (pos 3) 2) history ≡ true
unfolding search_on play bound halvings size
legal = refl
