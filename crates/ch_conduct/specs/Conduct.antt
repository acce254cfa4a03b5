-- The conduct of a client and of a builder in one session. It is a relation, since it is open what a thread meets when. It is said over the
-- session's history, or over as much of it as the client or builder has seen; what holds there holds of every longer history.
use Rattle.std.specs.Prelude.{◌≡◌, ◌≢◌, ◌⊎◌, ℕ, ◌+◌, ◌≤◌, Bool, true, false, List, [], ◌∷◌, ◌++◌, map, Option, Some, None}
use Rattle.std.specs.List.{AllByRecursion}
use Rattle.ch_conduct.specs.Meaning.{Judge}
use Rattle.ch_conduct.specs.Places.{events_by, point, IsNext, MetNoneOpen}
use Rattle.ch_conduct.specs.declared.report.How.{How}
use Rattle.ch_conduct.specs.declared.report.How.TheVariants.{Trial, Fresh, Kept}
use Rattle.ch_nest.specs.CostModel.{CostModel}
use Rattle.ch_script.specs.declared.refusal.Refusal.{Refusal}
use Rattle.ch_session.specs.declared.event.Event.{Event}
use Rattle.ch_session.specs.declared.event.Event.TheVariants.{Fetch, Report, Claim, Good, Refused, Leave}
use Rattle.ch_session.specs.History.{Theme, news}

-- the event that records a build: good, or refused where the recipe is
abbrev pub build_event : ℕ → ℕ → Option Refusal → Event
build_event b t None = Good b t
build_event b t (Some r) = Refused b t r

-- ---- a call

-- what a client gains by a call: events of its own, and numbers of news that it read
pub record Gained : Type 0 where
  pub events : List Event
  pub reads : List ℕ

-- a call of this session: its number in the client's script, its line, and what the client gained
pub record Step : Type 0 where
  pub call : ℕ
  pub how : How
  pub gained : Gained

abbrev pub events_of : List Step → List Event
events_of [] = []
events_of (s ∷ ss) = s.gained.events ++ events_of ss

abbrev pub reads_of : List Step → List ℕ
reads_of [] = []
reads_of (s ∷ ss) = s.gained.reads ++ reads_of ss

-- the news that the client's line before on this session shows, if it was fresh or kept
abbrev pub news_shown : Option How → Option ℕ
news_shown (Some (Fresh v w)) = Some w
news_shown (Some (Kept v w)) = Some w
news_shown (Some (Trial t)) = None
news_shown None = None

-- an eager client compares the news with those first
abbrev pub news_compared : Bool → Option How → Option ℕ
news_compared true before = None
news_compared false before = news_shown before

-- A call that isn't kept: where there were news to compare, the client read others, once.
abbrev pub ReadsOther : Option ℕ → List ℕ → Type 0
ReadsOther None reads = reads ≡ []
ReadsOther (Some w) reads = (r : ℕ) × (reads ≡ r ∷ []) × (r ≢ w)

module _ (th : Theme) (judge : Judge) where
  abbrev pub refusal_at : List Event → ℕ → Option Refusal
  refusal_at h t = judge.refusal (point th h t)

  -- ---- the client c, whose own events so far are `own`

  module _ (c : ℕ) (patient : Bool) (machine : CostModel) where
    -- The last fetch decides. It gave the line's trial, at whose point the recipe isn't refused, and the client then reported what it costs
    -- there. Or it gave the current version, with the line's number, in a history with the line's news.
    abbrev pub Answered : List Event → List Event → ℕ → How → List Event → Type 0
    Answered own h j (Trial t) es =
        (l : ℕ) × (es ≡ Fetch c (Some t) 0 ∷ Report c t j (judge.cost machine (point th h t)) l ∷ []) × (refusal_at h t ≡ None)
    Answered own h j (Fresh v w) es = (es ≡ Fetch c None v ∷ []) × ((g : List Event) × IsNext c own (Fetch c None v) h g × (news g ≡ w))
    Answered own h j (Kept v w) es = ⊥

    -- A patient client stays with the current version only where it met no open trial after its fetch.
    abbrev pub MayStay : Bool → How → List Event → List Event → Type 0
    MayStay true (Fresh v w) own h = MetNoneOpen th c own h
    MayStay true (Trial t) own h = Unit {0}
    MayStay true (Kept v w) own h = Unit {0}
    MayStay false how own h = Unit {0}

    -- a fetch of the current version v, a claim that got the trial u, and its build
    abbrev pub building : List Event → ℕ → ℕ → List Event
    building h v u = Fetch c None v ∷ Claim (200 + c) u ∷ build_event (200 + c) u (refusal_at h u) ∷ []

    -- The turns of a call that isn't kept: the fetch that decides, at once; or of a patient client after a build of its own.
    pub data Turns (own h : List Event) (j : ℕ) (how : How) (es : List Event) : Type 0 where
      at_once : Answered own h j how es → MayStay patient how (own ++ es) h → Turns own h j how es
      built : (v u : ℕ) (last : List Event) → patient ≡ true → es ≡ building h v u ++ last →
          Answered (own ++ building h v u) h j how last → Turns own h j how es

    -- What call j gained, by its line and the client's line before on this session. A kept call is an eager client's. It shows what that
    -- line shows, which is fresh or kept, and read the news once, which were still those.
    abbrev pub CallDoes : Option How → List Event → List Event → ℕ → How → Gained → Type 0
    CallDoes before own h j (Kept v w) g =
        (patient ≡ false) × ((before ≡ Some (Fresh v w)) ⊎ (before ≡ Some (Kept v w))) × (g.events ≡ []) × (g.reads ≡ w ∷ [])
    CallDoes before own h j (Trial t) g = ReadsOther (news_compared patient before) g.reads × Turns own h j (Trial t) g.events
    CallDoes before own h j (Fresh v w) g = ReadsOther (news_compared patient before) g.reads × Turns own h j (Fresh v w) g.events

    -- the calls of a script on this session, one after another
    abbrev pub Calls : Option How → List Event → List Event → List Step → Type 0
    Calls before own h [] = Unit {0}
    Calls before own h (s ∷ ss) = CallDoes before own h s.call s.how s.gained × Calls (Some s.how) (own ++ s.gained.events) h ss

    -- A client has conducted itself so far: its lines on the session, each with its call's number, its own events and its reads there are
    -- those of such calls.
    pub record Conducted (h : List Event) (lines : List (ℕ × How)) (own : List Event) (reads : List ℕ) : Type 0 where
      pub steps : List Step
      pub lines_are : map (λ s. (s.call, s.how)) steps ≡ lines
      pub own_are : events_of steps ≡ own
      pub reads_are : reads_of steps ≡ reads
      pub calls : Calls None [] h steps

    -- The conduct of a client that has ended: no news that it read are above those of what it has seen.
    pub record Conduct (h : List Event) (lines : List (ℕ × How)) (own : List Event) (reads : List ℕ) : Type 0 where
      pub so_far : Conducted h lines own reads
      pub reads_within : AllByRecursion (λ r. r ≤ news h) reads

  -- ---- the builder b

  -- claims, each followed by its build
  abbrev pub Builds : ℕ → List Event → List Event → Type 0
  Builds b h [] = Unit {0}
  Builds b h (Claim a t ∷ e ∷ es) = (a ≡ b) × (e ≡ build_event b t (refusal_at h t)) × Builds b h es
  Builds b h (Claim a t ∷ []) = ⊥
  Builds b h (Fetch c t v ∷ es) = ⊥
  Builds b h (Report c t j x l ∷ es) = ⊥
  Builds b h (Good a t ∷ es) = ⊥
  Builds b h (Refused a t r ∷ es) = ⊥
  Builds b h (Leave c t ∷ es) = ⊥

  -- Of a builder that found no memory the last claim may stand without its build.
  abbrev pub BuildsSoFar : ℕ → List Event → List Event → Type 0
  BuildsSoFar b h [] = Unit {0}
  BuildsSoFar b h (Claim a t ∷ []) = a ≡ b
  BuildsSoFar b h (Claim a t ∷ e ∷ es) = (a ≡ b) × (e ≡ build_event b t (refusal_at h t)) × BuildsSoFar b h es
  BuildsSoFar b h (Fetch c t v ∷ es) = ⊥
  BuildsSoFar b h (Report c t j x l ∷ es) = ⊥
  BuildsSoFar b h (Good a t ∷ es) = ⊥
  BuildsSoFar b h (Refused a t r ∷ es) = ⊥
  BuildsSoFar b h (Leave c t ∷ es) = ⊥

  -- A builder that found memory ends where it met no open trial after all of its own events.
  abbrev pub BuilderConduct : ℕ → List Event → List Event → Type 0
  BuilderConduct b h own = Builds b h own × MetNoneOpen th b own h
