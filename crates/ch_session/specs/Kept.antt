-- How a session keeps its history: a cell for each trial that was claimed.
use Rattle.std.specs.Prelude.{◌≡◌, ℕ, ◌+◌, ◌-◌, ◌<◌, ◌≤◌, eqb, Bool, true, false, ◌&&◌, ◌||◌, List, [], ◌∷◌, ◌++◌, length, filter, sum_by, slice_index_or, Option, Some, None, if◌then◌else◌}
use Rattle.std.specs.List.{list_any}
use Rattle.std.specs.Arc.{arc_value}
use Rattle.std.specs.declared.sync.Arc.{Arc}
use Rattle.std.specs.declared.alloc.Global.{Global}
use Rattle.ch_rank.specs.declared.outcome.Outcome.{Outcome}
use Rattle.ch_rank.specs.declared.outcome.Costed.{Costed}
use Rattle.ch_rank.specs.Ranks.{versions, last_of}
use Rattle.ch_rank.specs.Entries.{Searched, measured, outcome_from, completed}
use Rattle.ch_session.specs.declared.event.Event.{Event}
use Rattle.ch_session.specs.declared.cell.Cell.{Cell}
use Rattle.ch_session.specs.declared.cell.Cell.TheVariants.{Claimed, Built, Done}
use Rattle.ch_nest.specs.LoopNest.{LoopNest}
use Rattle.ch_script.specs.Recipes.{RecipeParts}
use Rattle.ch_session.specs.Making.{Making}
use Rattle.ch_session.specs.History.{Theme, entries, counts, completing_after, names_claim, names_claim_by, names_good, names_end, holder_from, holder_after, entry_of, is_legal, is_client, trials}
use Rattle.ch_session.specs.Replies.{Past, trial_made, version_made}

-- what contracts see, by the fields
abbrev pub past_of : ℕ → LoopNest → RecipeParts → Searched → List Event → Past
past_of subject nest recipe search events = record { subject = subject; theme = record { nest = nest; recipe = recipe; grid = search.grid; repeat = search.repeat }; events = events }

-- all that the events say of a trial
pub record About : Type 0 where
  pub claimed : Bool
  pub claimed_by : ℕ → Bool
  pub ended : Bool
  pub good : Bool
  pub outcomes : List Outcome
  pub holder : Option ℕ

abbrev pub about : ℕ → List Event → About
about t h = record {
  claimed = list_any (names_claim t) h;
  claimed_by = λ b. list_any (names_claim_by b t) h;
  ended = list_any (names_end t) h;
  good = list_any (names_good t) h;
  outcomes = measured (entries h) t;
  holder = holder_from t None h;
}

abbrev pub untouched : About
untouched = record { claimed = false; claimed_by = λ b. false; ended = false; good = false; outcomes = []; holder = None }

abbrev pub claimed_once : ℕ → About
claimed_once b = record untouched { claimed = true; claimed_by = λ a. eqb b a }

module _ {V : Type 0} where
  abbrev pub CellFits : ℕ → About → Cell V → Type 0
  CellFits r a (Claimed b) = a ≡ claimed_once b
  CellFits r a (Built v o) = (a.claimed ≡ true) × (a.ended ≡ true) × (a.good ≡ true) × (outcome_from r a.outcomes ≡ None) × (a.holder ≡ o)
  CellFits r a Done = (a.claimed ≡ true) × (a.ended ≡ true) × ((o : Outcome) × (outcome_from r a.outcomes ≡ Some o))

  abbrev pub CellMade : (V → Making) → Making → Cell V → Type 0
  CellMade made m (Claimed b) = Unit {0}
  CellMade made m (Built v o) = made (arc_value v) ≡ m
  CellMade made m Done = Unit {0}

  -- the events that a cell may still add without memory: a build, or a report or leave
  abbrev pub owes : Cell V → ℕ
  owes (Claimed b) = 1
  owes (Built v None) = 0
  owes (Built v (Some c)) = 1
  owes Done = 0

  abbrev pub cell_claimed : ℕ → Cell V → Bool
  cell_claimed b (Claimed a) = eqb a b
  cell_claimed b (Built v o) = false
  cell_claimed b Done = false

  abbrev pub cell_held : ℕ → Cell V → Bool
  cell_held c (Claimed a) = false
  cell_held c (Built v o) = is_client c o
  cell_held c Done = false

  abbrev pub cell_free : Cell V → Bool
  cell_free (Claimed a) = false
  cell_free (Built v None) = true
  cell_free (Built v (Some c)) = false
  cell_free Done = false

  abbrev pub leased : Cell V → Option ℕ → Cell V
  leased (Claimed b) o = Claimed b
  leased (Built v p) o = Built v o
  leased Done o = Done

  -- the current version, after a trial that may be a new one
  abbrev pub renewed : Arc V Global → Cell V → Bool → Arc V Global
  renewed c (Claimed b) new = c
  renewed c (Built v o) new = if new then v else c
  renewed c Done new = c

  pub record IsSession (made : V → Making) (p : Past) (search : Searched) (cells : List (Cell V)) (owed counted : ℕ) (current : V) (capacity : ℕ) : Type 0 where
    pub grid_is : search.grid ≡ p.theme.grid
    pub repeat_is : search.repeat ≡ p.theme.repeat
    pub entries_are : search.entries ≡ entries p.events
    pub repeat : 1 ≤ p.theme.repeat
    pub fit : (t : ℕ) (d : Cell V) → t < length cells → CellFits p.theme.repeat (about t p.events) (slice_index_or cells t d)
    pub rest : (t : ℕ) → length cells ≤ t → about t p.events ≡ untouched
    pub made_of : (t : ℕ) (d : Cell V) → t < length cells → CellMade made (trial_made p t) (slice_index_or cells t d)
    pub claimed : length cells ≤ trials p.theme p.events
    pub owed_is : owed ≡ sum_by owes cells
    pub room : owed + length p.events ≤ capacity
    pub spare : owed ≤ search.spare
    pub counted_is : counted ≡ length (filter counts p.events)
    pub completed_are : completed p.theme.repeat (entries p.events) ≡ completing_after [] p.events
    pub best_here : (e : Costed) → last_of (versions (completed p.theme.repeat (entries p.events))) ≡ Some e → e.trial < length cells
    pub current_made : made current ≡ version_made p
    pub legal : is_legal p.theme p.events ≡ true
