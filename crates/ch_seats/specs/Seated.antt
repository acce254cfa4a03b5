-- A seat at the book of a session, and what it knows.
use Rattle.std.specs.Prelude.{◌≡◌, ◌⊎◌, ℕ, ◌+◌, ◌<◌, List, Some, Result, Ok, Err}
use Rattle.ch_book.specs.Books.{first_of, seen, reads, owns, Holds, IsLastOwn, IsOf}
use Rattle.ch_book.specs.declared.book.Book.{Book}
use Rattle.ch_book.specs.declared.seat.Seat.{Seat}
use Rattle.ch_conduct.specs.Meaning.{Meaning, theme_of}
use Rattle.ch_conduct.specs.Places.{point}
use Rattle.ch_conduct.specs.Turns.{Knowledge, IsKnown}
use Rattle.ch_session.specs.History.{Theme, trials}
use Rattle.ch_session.specs.declared.event.Event.{Event}
use Rattle.ch_session.specs.declared.event.Event.TheVariants.{Claim, Fetch}
use Rattle.ch_session.specs.declared.replies.Fetched.{Fetched}
use Rattle.ch_session.specs.declared.replies.Fetched.TheVariants.{Trial, Current}
use Rattle.ch_session.specs.declared.replies.Job.{Job}
use Rattle.ch_session.specs.declared.session.Session.{Session}
use Rattle.ch_turn.specs.Holdings.{own_entries}
use Rattle.ch_turn.specs.declared.listed.Listed.{Ghosts}

-- what the book's session tunes
abbrev pub theme_in : {V : Type 0} → Book V → Theme
theme_in b = (first_of b).theme

-- the book of session i
abbrev pub IsBook : {V : Type 0} → Meaning → ℕ → Book V → Type 0
IsBook m i b = ((first_of b).subject ≡ i) × (theme_in b ≡ theme_of m i)

-- the numbers under which a seat may claim: its own, and 200 and its own
abbrev pub IsBuilder : ℕ → ℕ → Type 0
IsBuilder n b = (b ≡ n) ⊎ (b ≡ 200 + n)

module _ {V : Type 0} {G : Ghosts (Session V) Event} where
  abbrev pub knows : ℕ → Seat V G → Knowledge
  knows n s = record { seen = seen s; own = own_entries n (owns s); reads = reads s }

  -- a seat of the book with the own number n, which is in no turn, and what it knows
  pub record Sits (n : ℕ) (b : Book V) (s : Seat V G) : Type 0 where
    pub is_of : IsOf b n s
    pub holds : Holds s n
    pub known : IsKnown (theme_in b) n (knows n s)

  -- the seat's last event fetched the trial that a fetch gave
  abbrev pub FetchedLast : {E : Type 0} → ℕ → Seat V G → Result (Fetched V) E → Type 0
  FetchedLast n s (Ok (Trial t v w)) = IsLastOwn (Fetch n (Some t) 0) s
  FetchedLast n s (Ok (Current k v w)) = Unit {0}
  FetchedLast n s (Err e) = Unit {0}

  -- the seat's last event claimed this job, with the trial's point
  abbrev pub HasJob : Theme → ℕ → Seat V G → Job → Type 0
  HasJob th b s j = IsLastOwn (Claim b j.trial) s × (j.trial < trials th (seen s)) × (j.point ≡ point th (seen s) j.trial)

  abbrev pub ClaimedLast : {E : Type 0} → Theme → ℕ → Seat V G → Result Job E → Type 0
  ClaimedLast th b s (Ok j) = HasJob th b s j
  ClaimedLast th b s (Err e) = Unit {0}
