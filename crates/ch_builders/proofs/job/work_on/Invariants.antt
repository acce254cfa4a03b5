use Rattle.std.proofs.Common.{◌≡◌, ◌+◌, ◌≤◌, ℕ}
use Rattle.ch_book.specs.Books.{seen, owns, left_of}
use Rattle.ch_builders.proofs.job.work_on.Given as goal
use Rattle.ch_builders.specs.Work.{turns_of}
use Rattle.ch_conduct.specs.Conduct.{Builds}
use Rattle.ch_conduct.specs.Meaning.{judge_of}
use Rattle.ch_seats.specs.Seated.{theme_in, Sits}
use Rattle.ch_turn.specs.Holdings.{own_entries}

abbrev pub invariant-loop : goal.invariant-loop
invariant-loop g l =
    let w = l.at in
    record {
      sits : Sits w.number w.book.now l.seat;
      builds : Builds (theme_in w.book.now) (judge_of (g.B.Bench.means w.bench.now) w.session) w.number (seen l.seat) (own_entries w.number (owns l.seat));
      left : l.floor ≤ left_of l.fn.seat + 1 → l.floor ≤ left_of l.seat + 1;
      kept : turns_of w.number l.fn.seat ≤ turns_of w.number l.seat;
    }
