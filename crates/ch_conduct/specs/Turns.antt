-- What the turns and reads of one seat say: the words in which the calls of a book are handed on to the conduct of a client or builder.
use Rattle.std.specs.Prelude.{◌≡◌, ◌≢◌, ℕ, ◌+◌, ◌≤◌, Bool, true, Option, Some, None, List, [], ◌∷◌, ◌++◌}
use Rattle.std.specs.List.{AllByRecursion}
use Rattle.ch_conduct.specs.Conduct.{Gained, CallDoes, build_event, news_compared}
use Rattle.ch_conduct.specs.Meaning.{Judge}
use Rattle.ch_conduct.specs.Places.{events_by, point}
use Rattle.ch_conduct.specs.declared.report.How.{How}
use Rattle.ch_conduct.specs.declared.report.How.TheVariants.{Trial, Fresh, Kept}
use Rattle.ch_nest.specs.CostModel.{CostModel}
use Rattle.ch_session.specs.declared.event.Event.{Event}
use Rattle.ch_session.specs.declared.event.Event.TheVariants.{Fetch, Report, Claim}
use Rattle.ch_session.specs.History.{Theme, news, fetch_gives, claim_gives, is_legal}
use Rattle.ch_turn.specs.History.{IsPrefix}

-- what a seat has seen of the history, its own events in it, and the news that it read
pub record Knowledge : Type 0 where
  pub seen : List Event
  pub own : List Event
  pub reads : List ℕ

-- What it has seen is legal, and its own events are those of its number there.
abbrev pub IsKnown : Theme → ℕ → Knowledge → Type 0
IsKnown th n z = (is_legal th z.seen ≡ true) × (events_by n z.seen ≡ z.own)

-- One turn of the seat n: it met the history h, which begins with what it had seen, and added these events of its own.
pub record TookTurn (th : Theme) (n : ℕ) (s z : Knowledge) (h added : List Event) : Type 0 where
  pub begins : IsPrefix s.seen h
  pub legal : is_legal th h ≡ true
  pub own : events_by n h ≡ s.own
  pub reads_met : AllByRecursion (λ r. r ≤ news h) s.reads
  pub seen_is : z.seen ≡ h ++ added
  pub own_is : z.own ≡ s.own ++ added
  pub reads_are : z.reads ≡ s.reads
  pub known : IsKnown th n z

-- one read of the news, without a turn
pub record ReadNews (s z : Knowledge) (r : ℕ) : Type 0 where
  pub seen_is : z.seen ≡ s.seen
  pub own_is : z.own ≡ s.own
  pub reads_are : z.reads ≡ s.reads ++ r ∷ []

-- the turns from the fetch that decides on: it gave the line's trial, which was then reported, or the current version
abbrev pub Settles : Theme → Judge → ℕ → CostModel → ℕ → How → Knowledge → Knowledge → Type 0
Settles th judge c machine j (Trial t) s z =
    (x : Knowledge) × (h k : List Event) × (l : ℕ) × TookTurn th c s x h (Fetch c (Some t) 0 ∷ []) × (fetch_gives th h c ≡ Some t)
    × (judge.refusal (point th h t) ≡ None) × TookTurn th c x z k (Report c t j (judge.cost machine (point th h t)) l ∷ [])
Settles th judge c machine j (Fresh v w) s z = (h : List Event) × TookTurn th c s z h (Fetch c None v ∷ []) × (news h ≡ w)
Settles th judge c machine j (Kept v w) s z = ⊥

-- a patient client's build: the current version, a claim that got the trial u at a point, and its build
pub record Building (th : Theme) (judge : Judge) (c : ℕ) (s z : Knowledge) (v u : ℕ) (at : List ℕ) : Type 0 where
  pub first : Knowledge
  pub second : Knowledge
  pub h : List Event
  pub k : List Event
  pub l : List Event
  pub fetches : TookTurn th c s first h (Fetch c None v ∷ [])
  pub gives : claim_gives th k ≡ Some u
  pub job : at ≡ point th k u
  pub claims : TookTurn th c first second k (Claim (200 + c) u ∷ [])
  pub builds : TookTurn th c second z l (build_event (200 + c) u (judge.refusal at) ∷ [])

-- what a call that isn't kept does before its fetch: nothing, or one read of other news than the line before shows
pub data Compared (patient : Bool) (before : Option How) (s z : Knowledge) (reads : List ℕ) : Type 0 where
  nothing : news_compared patient before ≡ None → z ≡ s → reads ≡ [] → Compared patient before s z reads
  differs : (r w : ℕ) → news_compared patient before ≡ Some w → r ≢ w → ReadNews s z r → reads ≡ r ∷ [] → Compared patient before s z reads

-- Between two moments of its seat the client made call j, with this line.
pub record Called (th : Theme) (judge : Judge) (c : ℕ) (patient : Bool) (machine : CostModel) (before : Option How) (j : ℕ) (how : How) (s z : Knowledge) : Type 0 where
  pub gained : Gained
  pub own_are : z.own ≡ s.own ++ gained.events
  pub reads_are : z.reads ≡ s.reads ++ gained.reads
  pub begins : IsPrefix s.seen z.seen
  pub known : IsKnown th c s → IsKnown th c z
  pub does : CallDoes th judge c patient machine before s.own z.seen j how gained
