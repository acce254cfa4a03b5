-- The walk that judges a nest: the refusal of the first instance below some items at a point, and what is left of the turns.
use Rattle.std.specs.Prelude.{◌≡◌, ◌<◌, ◌≤◌, ◌^◌, ℕ, ◌+◌, ℤ, if◌then◌else◌, Option, None, Result, Ok, Err, List, [], ◌∷◌, ◌++◌, length, map}
use Rattle.std.specs.List.{All}
use Rattle.ch_affine.specs.Affine.{IsAtMost}
use Rattle.ch_nest.specs.declared.nest.Body.{Body}
use Rattle.ch_nest.specs.declared.nest.Item.{Item}
use Rattle.ch_nest.specs.declared.nest.Item.TheOpen.{Item-F}
use Rattle.ch_nest.specs.declared.nest.Item.TheFolds.{fold-Item}
use Rattle.ch_nest.specs.Limits.{deepest}
use Rattle.ch_nest.specs.LoopNest.{LoopNest}
use Rattle.ch_nest.specs.Run.{is_met, values_at}
use Rattle.ch_space.specs.declared.error.SpaceError.{SpaceError}
use Rattle.ch_space.specs.declared.error.SpaceError.TheVariants.{TooMany, OutOfRange, Memory}
use Rattle.ch_space.specs.declared.judge.Walk.{Walk}
use Rattle.ch_space.specs.Judged.{leaving, or_else}
use Rattle.ch_timed.specs.declared.element.Element.{Element}
use Rattle.ch_timed.specs.declared.element.Label.TheVariants.{Stmt}

-- a point of the loops of a nest
pub record IsNear (point : List ℤ) : Type 0 where
  pub few : length point ≤ deepest
  pub small : All (IsAtMost (2 ^ 30)) point

-- the refusal that is found from a point on
abbrev pub Search : Type 0
Search = List ℤ → Option SpaceError

abbrev pub first_at : List Search → Search
first_at [] point = None
first_at (f ∷ fs) point = or_else (f point) (first_at fs point)

-- the refusal of the first of some values that has one
abbrev pub first_value : List ℤ → (ℤ → Option SpaceError) → Option SpaceError
first_value [] turn = None
first_value (x ∷ xs) turn = or_else (turn x) (first_value xs turn)

-- the instance of a statement at a point; its vector plays no part
abbrev pub instance : ℕ → List ℤ → Body → Element
instance label point body = record {
  identity = record { label = Stmt label; iters = point };
  vector = [];
  body = body;
}

abbrev pub refusal_step : LoopNest → Item-F Search → Search
refusal_step nest (Item-F.Loop lows highs step items) point =
    first_value (values_at lows highs step point) (λ i. first_at items (point ++ i ∷ []))
refusal_step nest (Item-F.If row items) point =
    if is_met row point then first_at items point else None
refusal_step nest (Item-F.Assign label body) point =
    leaving nest (instance label point body)

abbrev pub item_refusal : LoopNest → Item → Search
item_refusal nest = fold-Item Search (refusal_step nest)

abbrev pub items_refusal : LoopNest → List Item → Search
items_refusal nest items = first_at (map (item_refusal nest) items)

-- a walk that went on by so much work, in which this was the first refusal
pub record GoesOn (work : ℕ) (refusal : Option SpaceError) (old new : Walk) : Type 0 where
  pub left : new.left + work ≡ old.left
  pub found : new.found ≡ or_else old.found refusal

abbrev pub Ends : SpaceError → ℕ → ℕ → Type 0
Ends Memory left work = Unit {0}
Ends TooMany left work = left < work
Ends (OutOfRange first access cell) left work = ⊥

-- a walk goes on, unless what is left does not suffice or memory ran out
abbrev pub Walks : Result Walk SpaceError → ℕ → Option SpaceError → Walk → Type 0
Walks (Ok new) work refusal old = GoesOn work refusal old new
Walks (Err e) work refusal old = Ends e old.left work
