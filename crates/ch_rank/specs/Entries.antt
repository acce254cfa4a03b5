-- The entries of a search, the outcomes that they give to trials, and the search played anew on them.
use Rattle.std.specs.Prelude.{◌≡◌, ℕ, ◌-◌, ◌<◌, ◌≤◌, ◌^◌, eqb, nat_lt, nat_le, Bool, true, false, not, ◌&&◌, ◌||◌, List, [], ◌∷◌, ◌++◌, filter, length, slice_index_or, Option, Some, None, is_some, if◌then◌else◌, ◌⊎◌}
use Rattle.std.specs.List.{All, list_any, range_with_len}
use Rattle.ch_grid.specs.declared.param.Param.{Param}
use Rattle.ch_grid.specs.Grid.{sizes}
use Rattle.ch_grid.specs.Points.{count}
use Rattle.ch_rank.specs.declared.outcome.Outcome.{Outcome}
use Rattle.ch_rank.specs.declared.outcome.Outcome.TheVariants.{Cost, Refused}
use Rattle.ch_rank.specs.declared.outcome.Costed.{Costed}
use Rattle.ch_rank.specs.declared.tally.Tally.{Tally}
use Rattle.ch_rank.specs.Search.{Game, Known, below, search_on}
use Rattle.ch_rank.specs.Board.{known_by}
use Rattle.ch_rank.specs.Bound.{bound}
use Rattle.ch_rank.specs.Ranks.{versions, last_of}

abbrev pub In : {A : Type 0} → A → List A → Type 0
In x [] = ⊥
In x (y ∷ ys) = (x ≡ y) ⊎ In x ys

-- ---- outcomes of trials

-- what the entries of a trial say, in order
abbrev pub measured : List Costed → ℕ → List Outcome
measured [] t = []
measured (e ∷ es) t = if eqb e.trial t then e.outcome ∷ measured es t else measured es t

abbrev pub is_refused : Outcome → Bool
is_refused Refused = true
is_refused (Cost x) = false

abbrev pub lesser : Outcome → Outcome → Outcome
lesser a b = if below b a then b else a

abbrev pub least_from : Outcome → List Outcome → Outcome
least_from least [] = least
least_from least (o ∷ os) = least_from (lesser least o) os

-- a trial is refused where an entry refuses it; with r costs it has the least of them as its outcome, and before that none
abbrev pub outcome_from : ℕ → List Outcome → Option Outcome
outcome_from r os = if list_any is_refused os then Some Refused else if nat_le r (length os) then Some (least_from Refused os) else None

abbrev pub known : ℕ → List Costed → Known
known r es t = outcome_from r (measured es t)

-- how many measurements are missing, and the least so far
abbrev pub tally_from : ℕ → List Outcome → Tally
tally_from r os = record { left = r - length os; least = least_from Refused os }

-- what one more measurement makes of a trial
abbrev pub outcome_with : Tally → Outcome → Option Outcome
outcome_with y o = if is_refused o then Some Refused else if nat_le y.left 1 then Some (lesser y.least o) else None

-- ---- entries that give their trial its outcome

abbrev pub completed_now : ℕ → Option Outcome → Option Outcome → List Costed
completed_now t None (Some o) = record { trial = t; outcome = o } ∷ []
completed_now t None None = []
completed_now t (Some p) after = []

-- the entry's trial with its outcome, where it has one with this entry and none before it
abbrev pub completes : ℕ → List Costed → Costed → List Costed
completes r before e = completed_now e.trial (known r before e.trial) (known r (before ++ e ∷ []) e.trial)

abbrev pub completed_after : ℕ → List Costed → List Costed → List Costed
completed_after r before [] = []
completed_after r before (e ∷ es) = completes r before e ++ completed_after r (before ++ e ∷ []) es

-- the trials that have an outcome, in the order in which they got it
abbrev pub completed : ℕ → List Costed → List Costed
completed r es = completed_after r [] es

-- ---- the search

-- spare: how many entries can be made without memory
pub record Searched : Type 0 where
  pub grid : List Param
  pub repeat : ℕ
  pub entries : List Costed
  pub spare : ℕ

abbrev pub most_steps : Searched → ℕ
most_steps s = bound (sizes s.grid)

abbrev pub known_in : Searched → Known
known_in s = known s.repeat s.entries

-- the search played anew on these entries
abbrev pub played : Searched → Game
played s = search_on (sizes s.grid) (known_in s)

-- a trial without an outcome
abbrev pub is_pending : Searched → ℕ → Bool
is_pending s t = nat_lt t (length (played s).points) && not (is_some (known_in s t))

abbrev pub pending : Searched → List ℕ
pending s = filter (λ t. not (is_some (known_in s t))) (range_with_len 0 (length (played s).points))

-- a pending trial may be measured, and refused where it has no entry yet
abbrev pub may_enter : Searched → ℕ → Outcome → Bool
may_enter s t o = is_pending s t && not (is_refused o && nat_lt 0 (length (measured s.entries t)))

-- how many measurements a trial still needs
abbrev pub left_of : Searched → ℕ → ℕ
left_of s t = if is_some (known_in s t) then 0 else s.repeat - length (measured s.entries t)

-- the search that these entries were made in
abbrev pub at_entries : List Param → ℕ → List Costed → Searched
at_entries grid r es = record { grid = grid; repeat = r; entries = es; spare = 0 }

abbrev pub completed_in : Searched → List Costed
completed_in s = completed s.repeat s.entries

-- each entry may follow `before` and the entries before it
abbrev pub are_legal_after : List Param → ℕ → List Costed → List Costed → Bool
are_legal_after grid r before [] = true
are_legal_after grid r before (e ∷ es) = may_enter (at_entries grid r before) e.trial e.outcome && are_legal_after grid r (before ++ e ∷ []) es

-- a list of entries is legal where each may follow those before it
abbrev pub are_legal : List Param → ℕ → List Costed → Bool
are_legal grid r es = are_legal_after grid r [] es

-- each entry is that of a trial, no trial has more than r, and those completed are those with an outcome, each with its own
pub record AreKept (trials r : ℕ) (entries : List Costed) : Type 0 where
  pub here : All (λ e. e.trial < trials) entries
  pub few : (t : ℕ) → length (measured entries t) ≤ r
  pub whole : (t : ℕ) (o : Outcome) → known r entries t ≡ Some o → In (record { trial = t; outcome = o }) (completed r entries)
  pub done : All (λ e. (e.trial < trials) × (known r entries e.trial ≡ Some e.outcome)) (completed r entries)

-- the code's fields are those of the search played anew
pub record IsSearch (grid : List Param) (r : ℕ) (g : Game) (outcomes : List (Option Outcome)) (tallies : List Tally) (entries : List Costed) (best : Option Costed) (count_versions : ℕ) (most : ℕ) : Type 0 where
  pub repeat : (1 ≤ r) × (r ≤ 9)
  pub sizes_are : g.sizes ≡ sizes grid
  pub game : g ≡ search_on (sizes grid) (known r entries)
  pub outcomes_are : (t : ℕ) → known_by outcomes t ≡ known r entries t
  pub tallies_are : (t : ℕ) → slice_index_or tallies t (tally_from r []) ≡ tally_from r (measured entries t)
  pub long : length outcomes ≡ count g.sizes
  pub tallies_long : length tallies ≡ count g.sizes
  pub within : length g.points ≤ count g.sizes
  pub legal : are_legal grid r entries ≡ true
  pub kept : AreKept (length g.points) r entries
  pub best_is : best ≡ last_of (versions (completed r entries))
  pub versions_are : count_versions ≡ length (versions (completed r entries))
  pub points_few : count (sizes grid) ≤ 65536
  pub most_is : most ≡ bound (sizes grid)
  pub small : most < 2 ^ 63
