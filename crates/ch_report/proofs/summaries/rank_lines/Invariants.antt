use Rattle.std.proofs.Common.{◌≡◌, map, take}
use Rattle.std.specs.Bool.{IsTrue}
use Rattle.std.specs.List.{list_all}
use Rattle.ch_grid.specs.Grid.{sizes}
use Rattle.ch_grid.specs.Points.{is_point}
use Rattle.ch_rank.specs.Entries.{played}
use Rattle.ch_rank.specs.Ranks.{rank_of, ranks}
use Rattle.ch_report.specs.Summary.{line_of}
use Rattle.ch_report.proofs.summaries.rank_lines.Given as goal

abbrev pub invariant-loop-r : goal.invariant-loop-r
invariant-loop-r l = record {
  value : l.lines ≡ map (λ p. line_of l.search (rank_of p)) (take l.r (ranks (played l.search).simplex));
  inside : IsTrue (list_all (λ r. is_point (sizes l.search.grid) r.point) l.lines);
}
