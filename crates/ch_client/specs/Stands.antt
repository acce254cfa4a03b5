-- How a client stands on each of its sessions between two calls, and when it has ended.
use Rattle.std.specs.Prelude.{◌≡◌, ℕ, ◌+◌, ◌*◌, ◌<◌, ◌≤◌, List, [], length, map, slice_index_or, Option, Some, None, Bool}
use Rattle.ch_book.specs.Books.{seen, reads, owns, left_of, with_events}
use Rattle.ch_book.specs.declared.book.Book.{Book}
use Rattle.ch_book.specs.declared.seat.Seat.{Seat}
use Rattle.ch_client.specs.Lasts.{IsLast}
use Rattle.ch_client.specs.declared.last.Last.{Last}
use Rattle.ch_conduct.specs.Conduct.{Conducted, Conduct}
use Rattle.ch_conduct.specs.Lines.{last_line, lines_on}
use Rattle.ch_conduct.specs.Meaning.{Meaning, judge_of, program_of}
use Rattle.ch_conduct.specs.Turns.{TookTurn}
use Rattle.ch_conduct.specs.declared.report.CallLine.{CallLine}
use Rattle.ch_conduct.specs.declared.report.How.{How}
use Rattle.ch_nest.specs.CostModel.{CostModel}
use Rattle.ch_seats.specs.Seated.{theme_in, knows, IsBook, Sits}
use Rattle.ch_seats.specs.Walk.{Row}
use Rattle.ch_session.specs.Making.{Making}
use Rattle.ch_session.specs.Replies.{added_by_leave}
use Rattle.ch_session.specs.declared.event.Event.{Event}
use Rattle.ch_session.specs.declared.session.Session.{Session}
use Rattle.ch_turn.specs.Holdings.{own_entries}
use Rattle.ch_turn.specs.declared.listed.Listed.{Ghosts}

-- each of these sessions has a book and a program
abbrev pub AreThere : Meaning → ℕ → List ℕ → Type 0
AreThere m books sessions =
    (k : ℕ) → k < length sessions → (slice_index_or sessions k 0 < books) × (program_of m (slice_index_or sessions k 0) < m.programs)

module _ {V : Type 0} {G : Ghosts (Session V) Event} (m : Meaning) (n : ℕ) where
  -- a seat of the book of session i, which is in no turn and may still take so many
  abbrev pub Rests : ℕ → ℕ → Book V → Seat V G → Type 0
  Rests room i b s = IsBook m i b × Sits n b s × (room ≤ left_of s)

  abbrev pub RowRests : ℕ → List (Book V) → List (Seat V G) → Type 0
  RowRests room books seats = Row (Rests room) books seats

  -- before the first call: the seat has no event of its own and read no news
  abbrev pub Begins : ℕ → ℕ → Book V → Seat V G → Type 0
  Begins room i b s = Rests room i b s × (own_entries n (owns s) ≡ []) × (reads s ≡ [])

  abbrev pub RowBegins : ℕ → List (Book V) → List (Seat V G) → Type 0
  RowBegins room books seats = Row (Begins room) books seats

  module _ (patient : Bool) (machine : CostModel) where
    abbrev pub Conducts : List CallLine → ℕ → Book V → Seat V G → Type 0
    Conducts lines i b s = Conducted (theme_in b) (judge_of m i) n patient machine (seen s) (lines_on i lines) (own_entries n (owns s)) (reads s)

    -- between two calls, with so many calls to come
    abbrev pub Stands : (V → Making) → List CallLine → ℕ → ℕ → Book V → Seat V G → Last V → Type 0
    Stands made lines rest i b s l =
        Rests (5 * rest + 1) i b s × Conducts lines i b s × (l.how ≡ last_line (lines_on i lines)) × IsLast made i l

    abbrev pub RowStands : (V → Making) → List CallLine → ℕ → List (Book V) → List (Seat V G) → List (Last V) → Type 0
    RowStands made lines rest books seats lasts =
        (length seats ≡ length books) × (length lasts ≡ length books)
        × ((i : ℕ) (b : Book V) (s : Seat V G) (l : Last V) → i < length books
        → Stands made lines rest i (slice_index_or books i b) (slice_index_or seats i s) (slice_index_or lasts i l))

    -- when the client has ended
    abbrev pub Ended : List CallLine → ℕ → Book V → Seat V G → Type 0
    Ended lines i b s = IsBook m i b × Sits n b s
        × Conduct (theme_in b) (judge_of m i) n patient machine (seen s) (lines_on i lines) (own_entries n (owns s)) (reads s)

    abbrev pub RowEnded : List CallLine → List (Book V) → List (Seat V G) → Type 0
    RowEnded lines books seats = Row (Ended lines) books seats

    -- after the last call, by the last lines of the sessions
    abbrev pub Waits : (V → Making) → List CallLine → List (Last V) → ℕ → Book V → Seat V G → Type 0
    Waits made lines lasts i b s = (l : Last V) → Stands made lines 0 i b s (slice_index_or lasts i l)

module _ {V : Type 0} {G : Ghosts (Session V) Event} (n : ℕ) (b : Book V) where
  -- the seat left its session, where the client called it
  abbrev pub LeftOne : Option How → Seat V G → Seat V G → Type 0
  LeftOne None s z = z ≡ s
  LeftOne (Some how) s z = (h : List Event) × TookTurn (theme_in b) n (knows n s) (knows n z) h (added_by_leave (with_events b h) n)
