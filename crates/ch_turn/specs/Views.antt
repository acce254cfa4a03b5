-- What seats know, and what a split, a join and a turn make of it.
use Rattle.std.specs.Prelude.{ℕ, ◌+◌, ◌-◌, ◌++◌, Bool, false, eqb, List, [], ◌∷◌, length, drop}
use Rattle.ch_turn.specs.Holdings.{has_number, own_entries, without_number, no_entries_below, with_entries}
use Rattle.ch_turn.specs.History.{longer, shorter}
use Rattle.ch_turn.specs.declared.view.View.{View}
use Rattle.ch_turn.specs.declared.view.Stage.{Stage}
use Rattle.ch_turn.specs.declared.view.Stage.TheVariants.{Idle, Waiting, Served, Leaving}

module _ {E : Type 0} where
  -- whether it drew the ticket n, and its turn is not over
  abbrev pub is_ticket : ℕ → Stage E → Bool
  is_ticket n Idle = false
  is_ticket n (Waiting t) = eqb n t
  is_ticket n (Served t l) = eqb n t
  is_ticket n (Leaving t l m) = eqb n t

  -- the list of the value that it took
  abbrev pub list_taken : Stage E → List E
  list_taken Idle = []
  list_taken (Waiting t) = []
  list_taken (Served t l) = l
  list_taken (Leaving t l m) = l

  abbrev pub holds_ticket : ℕ → View E → Bool
  holds_ticket n v = is_ticket n v.stage

  abbrev pub holds_number : ℕ → View E → Bool
  holds_number n v = has_number n v.holdings

  abbrev pub left_of : View E → ℕ
  left_of v = v.left

  abbrev pub idle_view : ℕ → List (ℕ × List E) → List E → List ℕ → View E
  idle_view left holdings seen reads = record { stage = Idle; left = left; holdings = holdings; seen = seen; reads = reads; merged = [] }

  -- of the first seat, which holds all numbers
  abbrev pub first_view : ℕ → View E
  first_view turns = idle_view turns (no_entries_below 65536) [] []

  -- of a seat that was joined to another
  abbrev pub spent_view : View E
  spent_view = idle_view 0 [] [] []

  -- of a seat that gave away the number n and k turns, and of the seat that has them now
  abbrev pub view_after_split : ℕ → ℕ → View E → View E
  view_after_split n k v = record v { left = v.left - k; holdings = without_number n v.holdings }

  abbrev pub view_split_off : ℕ → ℕ → View E → View E
  view_split_off n k v = idle_view k ((n, own_entries n v.holdings) ∷ []) v.seen []

  -- of a seat that took in another one
  abbrev pub joined_view : View E → View E → View E
  joined_view v w = record { stage = v.stage; left = v.left + w.left; holdings = v.holdings ++ w.holdings; seen = longer v.seen w.seen; reads = v.reads ++ w.reads; merged = shorter v.seen w.seen }

  abbrev pub at_stage : View E → Stage E → View E
  at_stage v stage = record v { stage = stage }

  -- of a seat that left its turn with the list next
  abbrev pub view_after_turn : (E → ℕ) → List E → View E → View E
  view_after_turn by next v = record v { stage = Idle; seen = next; holdings = with_entries by (drop (length (list_taken v.stage)) next) v.holdings; merged = [] }
