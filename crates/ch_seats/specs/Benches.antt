-- What is built of a session's recipe, and what a run of it costs, as the deck means it.
use Rattle.std.specs.Prelude.{◌≡◌, ℕ, List, Option, Some, None}
use Rattle.std.specs.Arc.{arc_value}
use Rattle.ch_conduct.specs.Meaning.{Meaning, theme_of, judge_of}
use Rattle.ch_nest.specs.CostModel.{CostModel}
use Rattle.ch_session.specs.Making.{Making, Origin}
use Rattle.ch_session.specs.History.{Theme}
use Rattle.ch_session.specs.declared.replies.Built.{Built}
use Rattle.ch_session.specs.declared.replies.Built.TheVariants as builds

-- what is made for session i at a point, where it is this theme's
abbrev pub made_at : Theme → ℕ → List ℕ → Making
made_at th i point = record { subject = i; nest = th.nest; origin = Some (record { recipe = th.recipe; grid = th.grid; point = point }) }

-- a variant made there, where the recipe isn't refused, and else the refusal
abbrev pub IsBuilt : {V : Type 0} → (V → Making) → Meaning → ℕ → List ℕ → Built V → Type 0
IsBuilt made m i point (builds.Good v) = (made (arc_value v) ≡ made_at (theme_of m i) i point) × ((judge_of m i).refusal point ≡ None)
IsBuilt made m i point (builds.Refused r) = (judge_of m i).refusal point ≡ Some r

-- The recipe isn't refused at the point that a variant was made at, and this is what the variant costs. The cost of the original isn't told.
abbrev pub CostAt : Meaning → CostModel → ℕ → Option Origin → ℕ → Type 0
CostAt m machine i None x = Unit {0}
CostAt m machine i (Some o) x = ((judge_of m i).refusal o.point ≡ None) × (x ≡ (judge_of m i).cost machine o.point)

abbrev pub CostIs : Meaning → CostModel → Making → ℕ → Type 0
CostIs m machine k x = CostAt m machine k.subject k.origin x
