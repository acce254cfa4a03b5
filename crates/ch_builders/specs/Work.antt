-- What a builder's work on a session makes of its conduct.
use Rattle.std.specs.Prelude.{◌≡◌, ℕ, ◌+◌, ◌≤◌, List, Bool, true, false, length}
use Rattle.ch_book.specs.Books.{seen, owns, left_of}
use Rattle.ch_book.specs.declared.book.Book.{Book}
use Rattle.ch_book.specs.declared.seat.Seat.{Seat}
use Rattle.ch_builders.specs.declared.job.Outcome.{Outcome}
use Rattle.ch_builders.specs.declared.job.Outcome.TheVariants.{Done, More, Memory}
use Rattle.ch_conduct.specs.Conduct.{Builds, BuildsSoFar, BuilderConduct}
use Rattle.ch_conduct.specs.Meaning.{Judge, Meaning, judge_of}
use Rattle.ch_grid.specs.Grid.{sizes}
use Rattle.ch_grid.specs.Points.{count}
use Rattle.ch_seats.specs.Seated.{theme_in, IsBook, Sits}
use Rattle.ch_seats.specs.Walk.{Row}
use Rattle.ch_session.specs.History.{Theme}
use Rattle.ch_session.specs.declared.event.Event.{Event}
use Rattle.ch_session.specs.declared.session.Session.{Session}
use Rattle.ch_turn.specs.Holdings.{own_entries}
use Rattle.ch_turn.specs.declared.listed.Listed.{Ghosts}

abbrev pub Worked : Theme → Judge → ℕ → List Event → List Event → Outcome → Type 0
Worked th judge n seen own Done = BuilderConduct th judge n seen own
Worked th judge n seen own More = Builds th judge n seen own
Worked th judge n seen own Memory = BuildsSoFar th judge n seen own

-- the turns that a seat has left, and those that the events of n took
abbrev pub turns_of : {V : Type 0} {G : Ghosts (Session V) Event} → ℕ → Seat V G → ℕ
turns_of n s = left_of s + length (own_entries n (owns s))

module _ {V : Type 0} {G : Ghosts (Session V) Event} (m : Meaning) (n : ℕ) where
  -- a seat of the book of session i, which is in no turn, and what came of the work there
  abbrev pub WorkedAt : Outcome → ℕ → Book V → Seat V G → Type 0
  WorkedAt o i b s = IsBook m i b × Sits n b s × Worked (theme_in b) (judge_of m i) n (seen s) (own_entries n (owns s)) o

  abbrev pub Works : ℕ → Book V → Seat V G → Type 0
  Works i b s = WorkedAt More i b s

  -- before and between rounds of work: the grid has no more points than a grid may have, and the turns for two events at each of them, and as
  -- many again, are kept, but for one
  abbrev pub MayWork : ℕ → Book V → Seat V G → Type 0
  MayWork i b s = Works i b s × (count (sizes (theme_in b).grid) ≤ 65536) × (262144 ≤ left_of s + 1)

  -- the rows when the builder has ended, by whether it found no memory
  abbrev pub RowWorked : Bool → List (Book V) → List (Seat V G) → Type 0
  RowWorked true books seats = Row (WorkedAt Memory) books seats
  RowWorked false books seats = Row (WorkedAt Done) books seats
