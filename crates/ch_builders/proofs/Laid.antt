-- What the outcomes of a builder's work have in common.
use Rattle.std.proofs.Common.{◌≡◌, ℕ, ◌+◌, ◌*◌, ◌≤◌, List, length, refl, arith}
use Rattle.ch_book.specs.Books.{seen, owns, left_of}
use Rattle.ch_book.specs.declared.book.Book.{Book}
use Rattle.ch_book.specs.declared.seat.Seat.{Seat}
use Rattle.ch_builders.proofs.Enough.{enough}
use Rattle.ch_builders.specs.Work.{MayWork, WorkedAt, turns_of}
use Rattle.ch_builders.specs.declared.job.Outcome.TheVariants.{Done, More, Memory}
use Rattle.ch_conduct.proofs.Building.{so_far}
use Rattle.ch_conduct.specs.Meaning.{Meaning, judge_of}
use Rattle.ch_grid.specs.Grid.{sizes}
use Rattle.ch_grid.specs.Points.{count}
use Rattle.ch_seats.specs.Seated.{theme_in}
use Rattle.ch_session.specs.declared.event.Event.{Event}
use Rattle.ch_session.specs.declared.session.Session.{Session}
use Rattle.ch_turn.specs.Holdings.{own_entries}
use Rattle.ch_turn.specs.declared.listed.Listed.{Ghosts}

module _ {V : Type 0} {G : Ghosts (Session V) Event} (m : Meaning) (n : ℕ) where
  more_so_far : (i : ℕ) (b : Book V) (s : Seat V G) → WorkedAt m n More i b s → WorkedAt m n Memory i b s
  more_so_far i b s w = (w.0, w.1, so_far (theme_in b) (judge_of m i) n (seen s) (own_entries n (owns s)) w.2)

  pub works_so_far : (i : ℕ) (b : Book V) (s : Seat V G) → MayWork m n i b s → WorkedAt m n Memory i b s
  works_so_far i b s k = more_so_far i b s k.0

  pub finished_so_far : (i : ℕ) (b : Book V) (s : Seat V G) → WorkedAt m n Done i b s → WorkedAt m n Memory i b s
  finished_so_far i b s w = more_so_far i b s (w.0, w.1, w.2.0)

  -- after a round on a seat that kept its turns
  pub keeps_on : (i : ℕ) (b : Book V) (s z : Seat V G) → MayWork m n i b s → (262144 ≤ left_of s + 1 → 262144 ≤ left_of z + 1) → WorkedAt m n More i b z → MayWork m n i b z
  keeps_on i b s z k room w = (w, k.1, room k.2)

  pub done_keeps_on : (i : ℕ) (b : Book V) (s z : Seat V G) → MayWork m n i b s → (262144 ≤ left_of s + 1 → 262144 ≤ left_of z + 1) → WorkedAt m n Done i b z → MayWork m n i b z
  done_keeps_on i b s z k room w = keeps_on i b s z k room (w.0, w.1, w.2.0)

  -- so a round never uses them up
  pub suffices : (i : ℕ) (b : Book V) (s z : Seat V G) → MayWork m n i b s → WorkedAt m n More i b z → left_of z ≤ 1 → turns_of n s ≤ turns_of n z → ⊥
  suffices i b s z k w low kept =
      let long : length (own_entries n (owns z)) ≤ 2 * count (sizes (theme_in b).grid) = enough (theme_in b) (judge_of m i) n (seen z) (own_entries n (owns z)) w.1.known.0 w.1.known.1 w.2 in
      let few = k.1 in
      let room = k.2 in
      absurd (omega (arith, long, few, room, low, kept))
