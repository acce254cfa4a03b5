-- The rule of the ticket lock, which each atomic step keeps.
-- The words of the table are TICKET, the next ticket to be drawn, SERVING, the ticket now served, and NEWS. Its one slot has the value, or None while a turn has it.
use Rattle.std.specs.Prelude.{◌≡◌, ℕ, ◌+◌, ◌^◌, ◌<◌, ◌≤◌, Bool, true, List, [], ◌∷◌, length, sum_by, Option, Some, All}
use mathlib.Core.Option.{some}
use mathlib.Core.Option as maybe
use lib.ListN.{get_elem?}
use Rattle.atomic_table.specs.Table.{State}
use Rattle.ch_turn.specs.Holdings.{HasSomeNumber, IsOnceEach}
use Rattle.ch_turn.specs.History.{IsPrefix, AddsOwn, KnowsOwn}
use Rattle.ch_turn.specs.Views.{is_ticket, holds_ticket, holds_number, left_of}
use Rattle.ch_turn.specs.declared.view.View.{View}
use Rattle.ch_turn.specs.declared.view.Stage.{Stage}
use Rattle.ch_turn.specs.declared.view.Stage.TheVariants.{Idle, Waiting, Served, Leaving}

-- Who has the value: no seat, the seat j, or the seat j, which has stored the news of the list that it will leave
pub data Phase (E : Type 0) : Type 0 where
  home : Phase E
  served : ℕ → Phase E
  leaving : ℕ → List E → Phase E

-- What the stage of the seat j means. Its ticket is from SERVING to below TICKET, and only the seat whose ticket is SERVING has the value
module _ {E : Type 0} (by : E → ℕ) (now_serving next_ticket : ℕ) (published : List E) (phase : Phase E) (j : ℕ) (holdings : List (ℕ × List E)) where
  abbrev pub StageFits : Stage E → Type 0
  StageFits Idle = Unit {0}
  StageFits (Waiting t) = (now_serving ≤ t) × (t < next_ticket) × HasSomeNumber holdings
  StageFits (Served t l) = (t ≡ now_serving) × (t < next_ticket) × HasSomeNumber holdings × (l ≡ published) × (phase ≡ served j)
  StageFits (Leaving t l m) = (t ≡ now_serving) × (t < next_ticket) × HasSomeNumber holdings × (l ≡ published) × (phase ≡ leaving j m) × AddsOwn by holdings l m

-- What the seat j knows is true: what it has seen begins the published list, its own entries are exactly those there, and NEWS has passed what it read
pub record Knows {E : Type 0} (by : E → ℕ) (now_serving next_ticket news_word : ℕ) (published : List E) (phase : Phase E) (j : ℕ) (v : View E) : Type 0 where
  pub seen : IsPrefix v.seen published
  pub own : KnowsOwn by published v.holdings
  pub once : IsOnceEach v.holdings
  pub reads : All (λ r. r ≤ news_word) v.reads
  pub merged : IsPrefix v.merged v.seen
  pub stage : StageFits by now_serving next_ticket published phase j v.holdings v.stage

-- Where the value is, and what NEWS counts: the published list, or the list that the turn in progress will leave
module _ {E V : Type 0} (list : V → List E) (news : List E → ℕ) (kin : V → Type 0) (news_word : ℕ) (published : List E) (homes : List (maybe.Option (Option V))) (views : List (View E)) where
  abbrev pub ValueAt : Phase E → Type 0
  ValueAt home = (news_word ≡ news published) × ((x : V) × (get_elem? homes 0 ≡ some (some (Some x))) × (list x ≡ published) × kin x)
  ValueAt (served j) = (news_word ≡ news published) × ((v : View E) × (t : ℕ) × (get_elem? views j ≡ some v) × (v.stage ≡ Served t published))
  ValueAt (leaving j m) = (news_word ≡ news m) × ((v : View E) × (t : ℕ) × (get_elem? views j ≡ some v) × (v.stage ≡ Leaving t published m))

-- what one view has, no other view has
abbrev pub HeldOnce : {E : Type 0} → (ℕ → View E → Bool) → List (View E) → Type 0
HeldOnce {E} f views = (x j k : ℕ) (v w : View E) → get_elem? views j ≡ some v → get_elem? views k ≡ some w → f x v ≡ true → f x w ≡ true → j ≡ k

-- each ticket from the one now served to below the next one is some view's
abbrev pub AllDrawn : {E : Type 0} → ℕ → ℕ → List (View E) → Type 0
AllDrawn {E} now_serving next_ticket views = (n : ℕ) → now_serving ≤ n → n < next_ticket → (j : ℕ) × (v : View E) × (get_elem? views j ≡ some v) × (is_ticket n v.stage ≡ true)

-- `turns` is how many tickets may be drawn in all, and `kin` what no turn changes of the value
pub record TurnRule {E V : Type 0} (list : V → List E) (by : E → ℕ) (news : List E → ℕ) (kin : V → Type 0) (turns : ℕ) (s : State (Option V) (View E)) : Type 0 where
  pub published : List E
  pub phase : Phase E
  pub next_ticket : ℕ
  pub now_serving : ℕ
  pub news_word : ℕ
  pub words : s.words ≡ next_ticket ∷ now_serving ∷ news_word ∷ []
  pub deep : length s.homes ≡ 1
  pub behind : now_serving ≤ next_ticket
  pub room : next_ticket + sum_by left_of s.views ≤ turns
  pub small : turns < 2 ^ 63
  pub place : ValueAt list news kin news_word published s.homes s.views phase
  pub each_seat : (j : ℕ) (v : View E) → get_elem? s.views j ≡ some v → Knows by now_serving next_ticket news_word published phase j v
  pub tickets : HeldOnce holds_ticket s.views
  pub numbers : HeldOnce holds_number s.views
  pub drawn : AllDrawn now_serving next_ticket s.views
  pub marked : All (λ e. by e < 65536) published
