use Rattle.std.proofs.Common.{◌≡◌, ◌*◌, ◌-◌, [], length}
use Rattle.std.specs.Bool.{IsTrue}
use Rattle.std.specs.List.{list_all}
use Rattle.ch_grid.specs.Grid.{sizes}
use Rattle.ch_grid.specs.Points.{count, is_point}
use Rattle.ch_tune.specs.Steps.{AreJudged}
use Rattle.ch_tune.specs.Tuned.{Follow, lines_of}
use Rattle.ch_tune.proofs.tuning.tune.Given as goal

abbrev pub invariant-loop-search : goal.invariant-loop-search
invariant-loop-search g l = record {
  grid : l.search.grid ≡ g.J.Judge.params l.judge;
  repeat : l.search.repeat ≡ l.repeat;
  follows : Follow l.search.grid l.search.repeat (g.J.Judge.judged l.judge) [] l.search.entries;
  told : l.lines ≡ lines_of l.search.grid l.search.repeat (g.J.Judge.judged l.judge) [] l.search.entries;
  all : AreJudged (g.J.Judge.judged l.judge) l.search;
  inside : IsTrue (list_all (λ e. is_point (sizes l.search.grid) e.point) l.lines);
}

abbrev pub decreases-loop-search : goal.decreases-loop-search
decreases-loop-search g l = l.search.repeat * count (sizes l.search.grid) - length l.search.entries
