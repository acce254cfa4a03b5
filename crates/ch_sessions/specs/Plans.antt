-- What the values of these trials are made from.
use Rattle.std.specs.Prelude.{◌≡◌, ℕ, List, Option, Some, None}
use Rattle.std.specs.Option.{option_map}
use Rattle.std.specs.Arc.{arc_value}
use Rattle.ch_rank.specs.Moves.{Point}
use Rattle.ch_session.specs.History.{Theme}
use Rattle.ch_session.specs.Making.{Making, Origin}
use Rattle.ch_session.specs.Replies.{Past}
use Rattle.ch_session.specs.declared.replies.Built.{Built}
use Rattle.ch_session.specs.declared.replies.Built.TheVariants as builds
use Rattle.ch_sessions.specs.declared.plan.At.{At}
use Rattle.ch_sessions.specs.declared.plan.Plan.{Plan}
use Rattle.ch_sessions.specs.declared.plan.Course.{Course}

abbrev pub origin_of : Option At → Option Origin
origin_of None = None
origin_of (Some a) = Some (record { recipe = a.recipe.value; grid = a.grid.value.params; point = a.point })

abbrev pub made_from : Plan → Making
made_from p = record { subject = p.subject; nest = p.nest.value; origin = origin_of p.at }

abbrev pub theme_of : Course → Theme
theme_of c = record { nest = c.nest; recipe = c.recipe; grid = c.grid.params; repeat = c.repeat }

-- a session about this course
abbrev pub IsAbout : Course → Past → Type 0
IsAbout c p = (p.subject ≡ 0) × (p.theme ≡ theme_of c)

-- at a point of the theme's grid
abbrev pub making_at : Theme → Point → Making
making_at th x = record { subject = 0; nest = th.nest; origin = Some (record { recipe = th.recipe; grid = th.grid; point = x }) }

-- a good build is one at this point
abbrev pub IsPlanFor : Theme → Point → Built Plan → Type 0
IsPlanFor th x (builds.Good v) = made_from (arc_value v) ≡ making_at th x
IsPlanFor th x (builds.Refused r) = Unit {0}
