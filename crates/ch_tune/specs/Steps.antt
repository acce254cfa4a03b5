-- One more entry of a search that one thread leads.
use Rattle.std.specs.Prelude.{◌≡◌, ◌<◌, [], ◌∷◌, ◌++◌, length}
use Rattle.std.specs.List.{All}
use Rattle.ch_rank.specs.Entries.{Searched, played}
use Rattle.ch_rank.specs.Search.{point_at}
use Rattle.ch_rank.specs.declared.outcome.Costed.{Costed}
use Rattle.ch_report.specs.declared.part.EntryLine.{EntryLine}
use Rattle.ch_tune.specs.Tuned.{IsNext, Judged, line_of, outcome_of}

-- each entry so far has what is said of its trial's point
abbrev pub AreJudged : Judged → Searched → Type 0
AreJudged judged s =
    All (λ e. (e.trial < length (played s).points) × (e.outcome ≡ outcome_of (judged (point_at (played s) e.trial)))) s.entries

-- the next entry was made, and this is its line
pub record Adds (judged : Judged) (old new : Searched) (line : EntryLine) : Type 0 where
  pub entry : Costed
  pub next : IsNext old.grid old.repeat judged old.entries entry
  pub added : new.entries ≡ old.entries ++ entry ∷ []
  pub told : line ≡ line_of (point_at (played old) entry.trial) judged entry.trial
  pub all : AreJudged judged new
