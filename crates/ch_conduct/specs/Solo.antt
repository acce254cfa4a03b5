-- A session that one client alone calls, with no builder. There nothing is open: the history, the client's lines and the session's part are
-- computed, call by call.
use Rattle.std.specs.Prelude.{ℕ, eqb, Bool, true, false, List, [], ◌∷◌, ◌++◌, ◌+◌, Option, Some, None, if◌then◌else◌}
use Rattle.ch_conduct.specs.Conduct.{build_event, refusal_at}
use Rattle.ch_conduct.specs.Lived.{lines_of}
use Rattle.ch_conduct.specs.Meaning.{Judge}
use Rattle.ch_conduct.specs.Places.{point}
use Rattle.ch_conduct.specs.declared.report.How.{How}
use Rattle.ch_conduct.specs.declared.report.How.TheVariants.{Trial, Fresh, Kept}
use Rattle.ch_nest.specs.CostModel.{CostModel}
use Rattle.ch_report.specs.Summary.{summary}
use Rattle.ch_report.specs.declared.part.SessionPart.{SessionPart}
use Rattle.ch_session.specs.declared.event.Event.{Event}
use Rattle.ch_session.specs.declared.event.Event.TheVariants.{Fetch, Report, Claim, Good, Refused, Leave}
use Rattle.ch_session.specs.History.{Theme, searched, news, version_now, left_after, fetch_gives, claim_gives}

-- the history with a call's events, and the call's line
pub record Played : Type 0 where
  pub history : List Event
  pub how : How

-- the history with the events of several calls, and their lines, each with its call's number
pub record AllPlayed : Type 0 where
  pub history : List Event
  pub lines : List (ℕ × How)

-- the client c
module _ (th : Theme) (judge : Judge) (c : ℕ) (patient : Bool) (machine : CostModel) where
  -- call j, by what the fetch that decides gives after the history h
  abbrev pub answered : List Event → ℕ → Option ℕ → Played
  answered h j (Some t) = record {
    history = h ++ Fetch c (Some t) 0 ∷ Report c t j (judge.cost machine (point th h t)) (left_after th h t) ∷ [];
    how = Trial t;
  }
  answered h j None = record { history = h ++ Fetch c None (version_now th h) ∷ []; how = Fresh (version_now th h) (news h) }

  abbrev pub fetched : List Event → ℕ → Played
  fetched h j = answered h j (fetch_gives th h c)

  -- A patient client whose fetch gave the current version claims, builds what it got and fetches again. h is the history with that fetch.
  abbrev pub claimed : List Event → List Event → ℕ → Option ℕ → Played
  claimed before h j None = fetched before j
  claimed before h j (Some u) = fetched (h ++ Claim (200 + c) u ∷ build_event (200 + c) u (refusal_at th judge h u) ∷ []) j

  abbrev pub asked : Bool → List Event → ℕ → Option ℕ → Played
  asked true h j None = let g : List Event = h ++ Fetch c None (version_now th h) ∷ [] in claimed h g j (claim_gives th g)
  asked true h j (Some t) = answered h j (Some t)
  asked false h j got = answered h j got

  abbrev pub kept_if : ℕ → ℕ → ℕ → Option How
  kept_if v w now = if eqb now w then Some (Kept v w) else None

  -- the line that an eager client keeps, where the news are still those of its line before
  abbrev pub kept_line : Bool → Option How → ℕ → Option How
  kept_line true before now = None
  kept_line false (Some (Fresh v w)) now = kept_if v w now
  kept_line false (Some (Kept v w)) now = kept_if v w now
  kept_line false (Some (Trial t)) now = None
  kept_line false None now = None

  abbrev pub called : List Event → ℕ → Option How → Played
  called h j (Some how) = record { history = h; how = how }
  called h j None = asked patient h j (fetch_gives th h c)

  -- one call, behind the line before
  abbrev pub call : List Event → Option How → ℕ → Played
  call h before j = called h j (kept_line patient before (news h))

  abbrev pub joined : ℕ → How → AllPlayed → AllPlayed
  joined j how rest = record { history = rest.history; lines = (j, how) ∷ rest.lines }

  -- the calls of these numbers, one after another
  abbrev pub solo_from : List Event → Option How → List ℕ → AllPlayed
  solo_from h before [] = record { history = h; lines = [] }
  solo_from h before (j ∷ js) =
      let p : Played = call h before j in
      joined j p.how (solo_from p.history (Some p.how) js)

  abbrev pub solo : List ℕ → AllPlayed
  solo js = solo_from [] None js

-- the part of a session with this history
abbrev pub part_of : Theme → List Event → SessionPart
part_of th h = summary (searched th h) (lines_of (point th h) h)
