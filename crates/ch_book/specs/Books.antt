-- What a clause says of a book and its seats.
use Rattle.std.specs.Prelude.{◌≡◌, ℕ, ◌+◌, ◌<◌, ◌≤◌, true, List, [], ◌∷◌, ◌++◌, All}
use Rattle.ch_session.specs.declared.event.Event.{Event}
use Rattle.ch_session.specs.declared.session.Session.{Session}
use Rattle.ch_session.specs.History.{news, is_legal}
use Rattle.ch_session.specs.Growth.{by}
use Rattle.ch_session.specs.Replies.{Past, IsAlike}
use Rattle.ch_turn.specs.declared.listed.Listed.{Ghosts}
use Rattle.ch_turn.specs.Holdings.{entries_of, own_entries, with_entries}
use Rattle.ch_turn.specs.History.{IsPrefix}
use Rattle.ch_turn.specs.Seats.{own_number, turns_left, seen_by, reads_of, holdings, HasNumber, HasAllNumbers, IsSeatOf, IsIdle, first_value}
use Rattle.ch_book.specs.declared.seat.Seat.{Seat}
use Rattle.ch_book.specs.declared.book.Book.{Book}

-- the session that the book was started with
abbrev pub first_of : {V : Type 0} → Book V → Past
first_of b = let p : Past = first_value b.turn in p

-- the book's session with this history
abbrev pub with_events : {V : Type 0} → Book V → List Event → Past
with_events b h = let p : Past = first_of b in record p { events = h }

module _ {V : Type 0} {G : Ghosts (Session V) Event} where
  abbrev pub number_of : Seat V G → ℕ
  number_of s = own_number s.seat

  abbrev pub left_of : Seat V G → ℕ
  left_of s = turns_left s.seat

  abbrev pub seen : Seat V G → List Event
  seen s = seen_by s.seat

  abbrev pub reads : Seat V G → List ℕ
  reads s = reads_of s.seat

  abbrev pub owns : Seat V G → List (ℕ × List Event)
  owns s = holdings s.seat

  abbrev pub Holds : Seat V G → ℕ → Type 0
  Holds s n = HasNumber s.seat n

  abbrev pub HoldsAll : Seat V G → Type 0
  HoldsAll s = HasAllNumbers s.seat

  -- a seat of this book with this own number, which is not in a turn
  abbrev pub IsOf : Book V → ℕ → Seat V G → Type 0
  IsOf b n s = IsIdle b.turn n s.seat

  -- the seat's own events, those of its own number
  abbrev pub own : Seat V G → List Event
  own s = own_entries (number_of s) (owns s)

  -- this event is the last of the seat's own
  abbrev pub IsLastOwn : Event → Seat V G → Type 0
  IsLastOwn e s = (before : List Event) × (own s ≡ before ++ e ∷ [])

  -- one turn of the seat s, which is z afterwards: it found the history h and added these events
  pub record IsTurn (b : Book V) (s z : Seat V G) (h added : List Event) : Type 0 where
    pub later : IsPrefix (seen s) h
    pub read : All (λ r. r ≤ news h) (reads s)
    pub owned : (n : ℕ) → Holds s n → entries_of by n h ≡ own_entries n (owns s)
    pub legal : is_legal (first_of b).theme (h ++ added) ≡ true
    pub marked : All (λ e. by e < 65536) h
    pub seat : IsOf b (number_of s) z
    pub left : left_of z + 1 ≡ left_of s
    pub reads_are : reads z ≡ reads s
    pub seen_is : seen z ≡ h ++ added
    pub owns_are : owns z ≡ with_entries by added (owns s)
