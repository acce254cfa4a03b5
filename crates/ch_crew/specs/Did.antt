-- What clients and builders did, as the first seats tell it once all others are taken in again.
use Rattle.std.specs.Prelude.{◌≡◌, ℕ, ◌+◌, ◌*◌, ◌<◌, ◌≤◌, Bool, true, List, length, map, slice_index_or, Result, IfOk}
use Rattle.ch_book.specs.Books.{seen, owns, Holds}
use Rattle.ch_book.specs.declared.book.Book.{Book}
use Rattle.ch_book.specs.declared.seat.Seat.{Seat}
use Rattle.ch_client.specs.Arrays.{CellsAre}
use Rattle.ch_client.specs.Stands.{AreThere}
use Rattle.ch_client.specs.declared.client.Log.{Log}
use Rattle.ch_conduct.specs.Conduct.{Conduct, BuilderConduct}
use Rattle.ch_conduct.specs.Lines.{lines_on}
use Rattle.ch_conduct.specs.Meaning.{Meaning, judge_of}
use Rattle.ch_conduct.specs.Places.{events_by}
use Rattle.ch_conduct.specs.declared.report.CallLine.{CallLine}
use Rattle.ch_crew.specs.declared.crew.Caller.{Caller}
use Rattle.ch_grid.specs.Grid.{sizes}
use Rattle.ch_grid.specs.Points.{count}
use Rattle.ch_nest.specs.CostModel.{CostModel}
use Rattle.ch_seats.specs.Seated.{theme_in, IsBook}
use Rattle.ch_seats.specs.Walk.{Row}
use Rattle.ch_session.specs.History.{is_legal}
use Rattle.ch_session.specs.declared.event.Event.{Event}
use Rattle.ch_session.specs.declared.session.Session.{Session}
use Rattle.ch_turn.specs.History.{IsPrefix}
use Rattle.ch_turn.specs.Holdings.{own_entries}
use Rattle.ch_turn.specs.declared.listed.Listed.{Ghosts}

-- the books of the sessions, in order
abbrev pub AreBooks : {V : Type 0} → Meaning → List (Book V) → Type 0
AreBooks {V} m books = (i : ℕ) (b : Book V) → i < length books → IsBook m i (slice_index_or books i b)

-- what a client asks for before it begins: each session that it calls is there, and the turns are enough for its calls
abbrev pub MayPlay : Meaning → ℕ → ℕ → Caller → Type 0
MayPlay m books turns c = (length c.sessions < 65536) × AreThere m books c.sessions × (5 * length c.sessions + 1 ≤ turns)

-- what all clients and builders ask for: the books are those of the sessions, of grids with no more points than a grid may have, the turns are
-- enough for a builder, there are at most 100 clients, and each may play
pub record IsReady {V : Type 0} (m : Meaning) (turns : ℕ) (callers : List Caller) (books : List (Book V)) : Type 0 where
  pub few : length books < 65536
  pub books_are : AreBooks m books
  pub grids : (i : ℕ) (b : Book V) → i < length books → count (sizes (theme_in (slice_index_or books i b)).grid) ≤ 65536
  pub builders : 262144 ≤ turns
  pub clients : length callers ≤ 100
  pub may_play : (x : ℕ) (c : Caller) → x < length callers → MayPlay m (length books) turns (slice_index_or callers x c)

module _ {V : Type 0} {G : Ghosts (Session V) Event} (m : Meaning) where
  -- The seat has seen a beginning of the session's history that has all of x's events, which are a builder's conduct there.
  abbrev pub BuilderDid : ℕ → ℕ → Book V → Seat V G → Type 0
  BuilderDid x i b s = Holds s x × ((z : List Event) × IsPrefix z (seen s) × (is_legal (theme_in b) z ≡ true)
      × (events_by x z ≡ own_entries x (owns s)) × BuilderConduct (theme_in b) (judge_of m i) x z (own_entries x (owns s)))

  -- the same of client x with these lines, whose events and some reads of the news are a client's conduct
  abbrev pub ClientDid : ℕ → Bool → CostModel → List CallLine → ℕ → Book V → Seat V G → Type 0
  ClientDid x patient machine lines i b s = Holds s x × ((z : List Event) × (reads : List ℕ) × IsPrefix z (seen s) × (is_legal (theme_in b) z ≡ true)
      × (events_by x z ≡ own_entries x (owns s))
      × Conduct (theme_in b) (judge_of m i) x patient machine z (lines_on i lines) (own_entries x (owns s)) reads)

  -- client x made all calls of its script, on each session as a client does, and its cells are those after them
  abbrev pub ClientDone : ℕ → Caller → List (Book V) → List (Seat V G) → Log → Type 0
  ClientDone x c books seats log = (map (λ l. l.session) log.lines.items ≡ c.sessions) × Row (ClientDid x c.manner.patient c.manner.machine log.lines.items) books seats
      × CellsAre m x c.sessions log.arrays.items

  -- the same of client x of these, where it found memory
  abbrev pub PlayedBy : {E : Type 0} → ℕ → List Caller → List (Book V) → List (Seat V G) → Result Log E → Type 0
  PlayedBy x callers books seats log = IfOk log (λ l. (c : Caller) → ClientDone x (slice_index_or callers x c) books seats l)

  -- so did the clients 0 to n, with these logs in order
  abbrev pub ClientsDone : ℕ → List Caller → List (Book V) → List (Seat V G) → List Log → Type 0
  ClientsDone n callers books seats logs = (length logs ≡ n)
      × ((x : ℕ) (c : Caller) (l : Log) → x < n → ClientDone x (slice_index_or callers x c) books seats (slice_index_or logs x l))

  -- and the builders k to n
  abbrev pub BuildersDone : ℕ → ℕ → List (Book V) → List (Seat V G) → Type 0
  BuildersDone k n books seats = (x : ℕ) → k ≤ x → x < n → Row (BuilderDid x) books seats
