-- What a search came to, as the lines of its session tell it.
use Rattle.std.specs.Prelude.{ℕ, Option, Some, None, List, map, option_map}
use Rattle.ch_rank.specs.Entries.{Searched, completed_in, known_in, played}
use Rattle.ch_rank.specs.Ranks.{last_of, rank_of, ranks, versions}
use Rattle.ch_rank.specs.Search.{point_at}
use Rattle.ch_rank.specs.declared.outcome.Outcome.{Outcome}
use Rattle.ch_rank.specs.declared.outcome.Outcome.TheVariants.{Cost, Refused}
use Rattle.ch_rank.specs.declared.ranks.Rank.{Rank}
use Rattle.ch_report.specs.declared.part.BestLine.{BestLine}
use Rattle.ch_report.specs.declared.part.EntryLine.{EntryLine}
use Rattle.ch_report.specs.declared.part.RankLine.{RankLine}
use Rattle.ch_report.specs.declared.part.SessionPart.{SessionPart}

-- the cost of a trial, if it has one
abbrev pub cost_of : Option Outcome → Option ℕ
cost_of (Some (Cost cost)) = Some cost
cost_of (Some Refused) = None
cost_of None = None

-- and 0 where it has none
abbrev pub or_0 : Option ℕ → ℕ
or_0 (Some cost) = cost
or_0 None = 0

-- a place of the simplex, with its trial's point and cost
abbrev pub line_of : Searched → Rank → RankLine
line_of s r = record { place = r.place; point = point_at (played s) r.trial; cost = cost_of (known_in s r.trial) }

abbrev pub best_of : Searched → ℕ → BestLine
best_of s trial = record { point = point_at (played s) trial; cost = or_0 (cost_of (known_in s trial)) }

-- the trial of the last version
abbrev pub best_trial : Searched → Option ℕ
best_trial s = option_map (λ e. e.trial) (last_of (versions (completed_in s)))

-- these entries, and the search's steps, round, ranks and best
abbrev pub summary : Searched → List EntryLine → SessionPart
summary s entries = record {
  entries = entries;
  steps = (played s).steps;
  phase = (played s).phase;
  ranks = map (λ p. line_of s (rank_of p)) (ranks (played s).simplex);
  best = option_map (best_of s) (best_trial s);
}
