use Rattle.std.proofs.Common.{◌≡◌, ◌∙◌, sym, subst, ◌++◌, ◌∷◌, [], rules}
use Rattle.std.specs.Bool.{IsTrue}
use Rattle.std.specs.List.{list_all}
use Rattle.ch_grid.specs.Grid.{sizes}
use Rattle.ch_grid.specs.Points.{is_point}
use Rattle.ch_rank.specs.Entries.{played}
use Rattle.ch_rank.specs.Ranks.{rank_of, ranks}
use Rattle.ch_report.specs.Summary.{line_of}
use Rattle.ch_report.proofs.RankLines.{all_with, next_line}
use Rattle.ch_report.proofs.summaries.rank_lines.Goals as goal

pub loop-r-preserved : goal.loop-r-preserved
loop-r-preserved c =
    let s = c.args.search.now in
    let line = c.in_ok-line_of.field-0 in
    let pushed : c.push.new.self ≡ c.loop-r.lines ++ line ∷ [] = search rules in
    record {
      value = next_line rank_of (line_of s) (ranks (played s).simplex) c.loop-r.r c.in-Some.rank line c.loop-r.lines c.push.new.self
          (sym c.in-Some.is ∙ c.rank_at.ensures.value) c.in_ok-line_of.ensures.value c.loop-r.invariant.value pushed;
      inside = subst (λ ls. IsTrue (list_all (λ r. is_point (sizes s.grid) r.point) ls)) (sym pushed)
          (all_with (λ r. is_point (sizes s.grid) r.point) c.loop-r.lines line c.loop-r.invariant.inside c.in_ok-line_of.ensures.inside);
    }
