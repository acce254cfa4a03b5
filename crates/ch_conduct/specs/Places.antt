-- Places in a session's history, as a client or a builder knows them: by its own events.
use Rattle.std.specs.Prelude.{◌≡◌, ℕ, List, [], ◌∷◌, ◌++◌, None}
use Rattle.ch_rank.specs.Moves.{Point}
use Rattle.ch_rank.specs.Search.{point_at}
use Rattle.ch_session.specs.declared.event.Event.{Event}
use Rattle.ch_session.specs.Growth.{by}
use Rattle.ch_session.specs.History.{Theme, game, claim_gives}
use Rattle.ch_turn.specs.History.{IsPrefix}
use Rattle.ch_turn.specs.Holdings.{entries_of}

-- the events of the client or builder with this number
abbrev pub events_by : ℕ → List Event → List Event
events_by n h = entries_of by n h

-- the point of a trial
abbrev pub point : Theme → List Event → ℕ → Point
point th h t = point_at (game th h) t

-- The history h goes through g and then the event e, which is the first of n's own events after these.
abbrev pub IsNext : ℕ → List Event → Event → List Event → List Event → Type 0
IsNext n own e h g = IsPrefix (g ++ e ∷ []) h × (events_by n g ≡ own)

-- At some moment of the history at which n had made these events and no further one, no trial was open.
abbrev pub MetNoneOpen : Theme → ℕ → List Event → List Event → Type 0
MetNoneOpen th n own h = (g : List Event) × IsPrefix g h × (events_by n g ≡ own) × (claim_gives th g ≡ None)
