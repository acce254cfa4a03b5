-- Which seats of a book are out, and what each of them knows.
use Rattle.std.specs.Prelude.{◌≡◌, ℕ, ◌+◌, ◌<◌, ◌⊎◌, true, List, [], ◌∷◌, All}
use Rattle.ch_book.specs.declared.book.Book.{Book}
use Rattle.ch_book.specs.declared.seat.Seat.{Seat}
use Rattle.ch_book.specs.Books.{Holds, IsOf, first_of, left_of, number_of, seen, with_events}
use Rattle.ch_rank.specs.Search.{point_at}
use Rattle.ch_session.specs.History.{Theme, game, is_legal, trials}
use Rattle.ch_session.specs.Replies.{BuiltFits, Past}
use Rattle.ch_session.specs.declared.event.Event.{Event}
use Rattle.ch_session.specs.declared.replies.Built.{Built}
use Rattle.ch_session.specs.declared.replies.Job.{Job}
use Rattle.ch_session.specs.declared.session.Session.{Session}
use Rattle.ch_turn.specs.declared.listed.Listed.{Ghosts}
use Rattle.ch_sessions.specs.Plans.{IsAbout, made_from}
use Rattle.ch_sessions.specs.declared.desk.Desk.{Desk}
use Rattle.ch_sessions.specs.declared.on_book.Table.{Table}
use Rattle.ch_sessions.specs.declared.plan.Plan.{Plan}

-- the job's trial has a number after this history, and this point
abbrev pub IsJob : Theme → List Event → Job → Type 0
IsJob th h j = (j.trial < trials th h) × (j.point ≡ point_at (game th h) j.trial)

-- the seat with number n calls as this client or builder
abbrev pub IsCaller : ℕ → ℕ → Type 0
IsCaller n caller = (caller ≡ n) ⊎ (caller ≡ 200 + n)

-- what came of a build fits the trial after this history
abbrev pub IsBuild : Past → ℕ → Built Plan → Type 0
IsBuild p t o = (t < trials p.theme p.events) × BuiltFits made_from p t o

module _ {V : Type 0} {G : Ghosts (Session V) Event} where
  -- a seat of the book, out of its turn, that has seen a legal history
  pub record SeatFits (b : Book V) (s : Seat V G) : Type 0 where
    pub seat : IsOf b (number_of s) s
    pub legal : is_legal (first_of b).theme (seen s) ≡ true

  -- a client's or builder's seat, out of its turn
  abbrev pub IsClient : Book V → Seat V G → Type 0
  IsClient b s = IsOf b (number_of s) s × (number_of s < 200)

  -- a turn is left, for a client or builder
  abbrev pub MayCall : Seat V G → Type 0
  MayCall s = (0 < left_of s) × (number_of s < 200)

module _ {V : Type 0} {G : Ghosts (Session V) Event} where
  -- such a seat with this number
  abbrev pub IsSeat : Book V → ℕ → Seat V G → Type 0
  IsSeat b n s = SeatFits b s × (number_of s ≡ n)

  -- the seat that a book was started with
  abbrev pub IsFirst : Book V → Seat V G → Type 0
  IsFirst b s = SeatFits b s × (number_of s ≡ 65535)

  -- z is s after calls that leave its number
  abbrev pub IsStill : Book V → Seat V G → Seat V G → Type 0
  IsStill b s z = SeatFits b z × (number_of z ≡ number_of s)

module _ {G : Ghosts (Session Plan) Event} where
  -- a seat of the book, and jobs of what it has seen
  pub record DeskFits (b : Book Plan) (s : Seat Plan G) (list : List Job) : Type 0 where
    pub seat : SeatFits b s
    pub jobs : All (IsJob (first_of b).theme (seen s)) list

module _ {G : Ghosts (Session Plan) Event} where
  -- z is the desk's seat s after its calls, and these are its jobs
  abbrev pub Stays : Book Plan → Seat Plan G → Seat Plan G → List Job → Type 0
  Stays b s z list = DeskFits b z list × (number_of z ≡ number_of s)

  -- what came of a build fits the trial by what the seat has seen
  abbrev pub IsBuildBy : Book Plan → Seat Plan G → ℕ → Built Plan → Type 0
  IsBuildBy b s t o = IsBuild (with_events b (seen s)) t o

-- a desk has this number
abbrev pub IsOut : ℕ → List Desk → Type 0
IsOut n [] = ⊥
IsOut n (d ∷ ds) = (number_of d.seat ≡ n) ⊎ IsOut n ds

-- the first seat holds each number that no desk has
pub record SeatsAre {G : Ghosts (Session Plan) Event} (b : Book Plan) (s : Seat Plan G) (list : List Desk) : Type 0 where
  pub first : IsFirst b s
  pub held : (n : ℕ) → n < 65536 → (IsOut n list → ⊥) → Holds s n
  pub desks : All (λ (d : Desk). DeskFits b d.seat d.jobs.items) list

-- what a table always keeps
pub record TableFits (t : Table) : Type 0 where
  pub about : IsAbout t.shared.course (first_of t.shared.book)
  pub seats : SeatsAre t.shared.book t.rest t.desks.items
  pub known : All (IsJob (first_of t.shared.book).theme []) t.first.items
