-- The first seats of a row of books, the seats that are cut from them, and what is kept when these are taken in again.
use Rattle.std.specs.Prelude.{◌≡◌, ℕ, ◌≤◌, []}
use Rattle.ch_book.specs.Books.{seen, reads, owns, left_of, number_of, Holds, IsOf}
use Rattle.ch_book.specs.declared.book.Book.{Book}
use Rattle.ch_book.specs.declared.seat.Seat.{Seat}
use Rattle.ch_seats.specs.Seated.{Sits}
use Rattle.ch_session.specs.declared.event.Event.{Event}
use Rattle.ch_session.specs.declared.session.Session.{Session}
use Rattle.ch_turn.specs.History.{IsPrefix}
use Rattle.ch_turn.specs.Holdings.{own_entries}
use Rattle.ch_turn.specs.declared.listed.Listed.{Ghosts}

module _ {V : Type 0} {G : Ghosts (Session V) Event} where
  -- the first seat of a book has the number 65,535
  abbrev pub IsFirst : ℕ → Book V → Seat V G → Type 0
  IsFirst i b s = IsOf b 65535 s

  -- a first seat that has seen nothing and read no news, and has so many turns to give
  abbrev pub MayCut : ℕ → ℕ → Book V → Seat V G → Type 0
  MayCut turns i b s = IsOf b 65535 s × (seen s ≡ []) × (reads s ≡ []) × (turns ≤ left_of s)

  -- it holds the number x, under which there is no event
  abbrev pub Blank : ℕ → ℕ → Book V → Seat V G → Type 0
  Blank x i b s = Holds s x × (own_entries x (owns s) ≡ [])

  -- a new seat with the number n, which sits at the book, and has so many turns
  abbrev pub IsNew : ℕ → ℕ → ℕ → Book V → Seat V G → Type 0
  IsNew n turns i b s = Sits n b s × (left_of s ≡ turns) × (own_entries n (owns s) ≡ []) × (reads s ≡ [])

  -- a seat of the book, which is in no turn
  abbrev pub IsBack : ℕ → Book V → Seat V G → Type 0
  IsBack i b s = IsOf b (number_of s) s

  -- z holds the number x where s does, with the same events, and has seen what s has
  abbrev pub Keeps : ℕ → ℕ → Seat V G → Seat V G → Type 0
  Keeps x i s z = Holds s x → Holds z x × (own_entries x (owns z) ≡ own_entries x (owns s)) × IsPrefix (seen s) (seen z)
