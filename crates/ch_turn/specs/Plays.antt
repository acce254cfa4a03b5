-- What each atomic step tells the seat that makes it: of the seat before, m, the number found (or stored), r, and the seat after, k.
use Rattle.std.specs.Prelude.{◌≡◌, ◌≢◌, ℕ, ◌-◌, ◌^◌, ◌<◌, ◌≤◌, List, [], ◌∷◌, ◌++◌, Option, Some, All}
use Rattle.atomic_table.specs.Table.{Me, Step, rest}
use Rattle.ch_turn.specs.Holdings.{IsOnceEach}
use Rattle.ch_turn.specs.History.{IsPrefix, KnowsOwn}
use Rattle.ch_turn.specs.Views.{at_stage, view_after_turn}
use Rattle.ch_turn.specs.declared.view.View.{View}
use Rattle.ch_turn.specs.declared.view.Stage.TheVariants.{Waiting, Served, Leaving}

-- a seat's view, and the slots that it carries
abbrev pub Seated : Type 0 → Type 0 → Type 0
Seated V E = Me (Option V) (View E)

module _ {E V : Type 0} where
  -- the ticket drawn is the number found
  abbrev pub Draws : Step (Option V) → Seated V E → ℕ → Seated V E → Type 0
  Draws st m r k = (k.1 ≡ m.1) × (k.0 ≡ record m.0 { stage = Waiting r; left = m.0.left - 1 }) × (r < 2 ^ 63)

  -- the ticket t is served, and the seat takes the value x
  abbrev pub TakesValue : (V → List E) → (E → ℕ) → (List E → ℕ) → (V → Type 0) → ℕ → Seated V E → Seated V E → Type 0
  TakesValue list by news kin t m k = (x : V) × (k.1 ≡ (0, Some x) ∷ m.1) × (k.0 ≡ at_stage m.0 (Served t (list x))) × IsPrefix m.0.seen (list x) × All (λ r. r ≤ news (list x)) m.0.reads × KnowsOwn by (list x) m.0.holdings × kin x × All (λ e. by e < 65536) (list x)

  -- a look at SERVING, which takes the value where it finds the seat's ticket
  abbrev pub Looks : (V → List E) → (E → ℕ) → (List E → ℕ) → (V → Type 0) → Step (Option V) → Seated V E → ℕ → Seated V E → Type 0
  Looks list by news kin st m r k = (t : ℕ) → m.0.stage ≡ Waiting t → (r ≡ t → TakesValue list by news kin t m k) × (r ≢ t → k ≡ m)

  -- NEWS counts the list that the seat will leave
  abbrev pub TellsNews : List E → Step (Option V) → Seated V E → ℕ → Seated V E → Type 0
  TellsNews next st m r k = (k.1 ≡ m.1) × ((t : ℕ) (l : List E) → m.0.stage ≡ Served t l → k.0 ≡ at_stage m.0 (Leaving t l next))

  -- the turn is over, and the list that the seat left is published
  abbrev pub Raises : (E → ℕ) → Step (Option V) → Seated V E → ℕ → Seated V E → Type 0
  Raises by st m r k = (k.1 ≡ rest m.1) × ((t : ℕ) (l next : List E) → m.0.stage ≡ Leaving t l next → k.0 ≡ view_after_turn by next m.0)

  -- the number read counts a history that begins with what the seat has seen, and is no less than each one read before
  abbrev pub ReadsNews : (List E → ℕ) → Step (Option V) → Seated V E → ℕ → Seated V E → Type 0
  ReadsNews news st m r k = (k.1 ≡ m.1) × (k.0 ≡ record m.0 { reads = m.0.reads ++ r ∷ [] }) × ((h : List E) × IsPrefix m.0.seen h × (r ≡ news h)) × All (λ x. x ≤ r) m.0.reads

  -- what a join alone can't tell: the shorter list begins the longer one, no number is held twice, and the turns add up to few
  abbrev pub Settles : Step (Option V) → Seated V E → ℕ → Seated V E → Type 0
  Settles st m r k = (k ≡ m) × IsPrefix m.0.merged m.0.seen × IsOnceEach m.0.holdings × (m.0.left < 2 ^ 63)
