-- What clauses say of a turn and of its seats.
use Rattle.std.specs.Prelude.{◌≡◌, ℕ, ◌<◌, true, List, [], ◌∷◌, None}
use Rattle.ch_turn.specs.Holdings.{has_number}
use Rattle.ch_turn.specs.Views.{list_taken}
use Rattle.ch_turn.specs.declared.listed.Listed.{Ghosts}
use Rattle.ch_turn.specs.declared.seat.TurnSeat.{TurnSeat}
use Rattle.ch_turn.specs.declared.turn.Turn.{Turn}
use Rattle.ch_turn.specs.declared.view.Stage.TheVariants.{Idle, Served}

-- the value that the turn was made with
abbrev pub first_value : {V E : Type 0} → Turn V E → V
first_value t = t.table.shared.key.first.value

module _ {V E : Type 0} {G : Ghosts V E} where
  abbrev pub own_number : TurnSeat V E G → ℕ
  own_number s = s.own

  -- how many turns it may still take
  abbrev pub turns_left : TurnSeat V E G → ℕ
  turns_left s = s.left

  -- the longest history that it has seen
  abbrev pub seen_by : TurnSeat V E G → List E
  seen_by s = s.seat.me.0.seen

  -- the news that it has read, in order
  abbrev pub reads_of : TurnSeat V E G → List ℕ
  reads_of s = s.seat.me.0.reads

  -- the seat numbers that it holds, each with its own entries
  abbrev pub holdings : TurnSeat V E G → List (ℕ × List E)
  holdings s = s.seat.me.0.holdings

  -- in its turn, the list of the value that it took
  abbrev pub taken_by : TurnSeat V E G → List E
  taken_by s = list_taken s.seat.me.0.stage

  abbrev pub HasNumber : TurnSeat V E G → ℕ → Type 0
  HasNumber s n = has_number n (holdings s) ≡ true

  abbrev pub HasAllNumbers : TurnSeat V E G → Type 0
  HasAllNumbers s = (n : ℕ) → n < 65536 → HasNumber s n

  abbrev pub IsSeatOf : Turn V E → TurnSeat V E G → Type 0
  IsSeatOf t s = s.seat.table_id ≡ t.table.shared.table_id

  -- a seat of t with the own number n, which has no ticket
  abbrev pub IsIdle : Turn V E → ℕ → TurnSeat V E G → Type 0
  IsIdle t n s = IsSeatOf t s × (own_number s ≡ n) × (s.seat.me.0.stage ≡ Idle) × (s.seat.me.1 ≡ [])

  -- a seat of t with the own number n, which is in its turn: its ticket is the one now served, and it took the value
  abbrev pub IsServed : Turn V E → ℕ → TurnSeat V E G → Type 0
  IsServed t n s = IsSeatOf t s × (own_number s ≡ n) × ((ticket : ℕ) × (s.seat.me.0.stage ≡ Served ticket (taken_by s))) × (s.seat.me.1 ≡ (0, None) ∷ [])

  -- z is s in what a seat is: of one turn, with one own number, and both idle or both in one turn
  abbrev pub SameSeat : TurnSeat V E G → TurnSeat V E G → Type 0
  SameSeat s z = (z.seat.table_id ≡ s.seat.table_id) × (own_number z ≡ own_number s) × (z.seat.me.0.stage ≡ s.seat.me.0.stage) × (z.seat.me.1 ≡ s.seat.me.1)

  -- z has seen, read and holds what s has
  abbrev pub KnowsSame : TurnSeat V E G → TurnSeat V E G → Type 0
  KnowsSame s z = (seen_by z ≡ seen_by s) × (reads_of z ≡ reads_of s) × (holdings z ≡ holdings s)
