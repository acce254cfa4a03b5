-- What contracts see of a variant, by its fields.
use Rattle.std.specs.Prelude.{ℕ, Option, Some, None}
use Rattle.ch_code.specs.UnitParts.{UnitParts}
use Rattle.ch_nest.specs.LoopNest.{LoopNest}
use Rattle.ch_session.specs.Making.{Origin}
use Rattle.ch_variant.specs.declared.variant.Source.{Source}
use Rattle.ch_variant.specs.Variants.{VariantParts}

abbrev pub origin_of : Option Source → Option Origin
origin_of None = None
origin_of (Some s) = Some (record { recipe = s.recipe.value; grid = s.grid.value.params; point = s.point })

abbrev pub parts_of : ℕ → LoopNest → Option Source → UnitParts → VariantParts
parts_of subject nest source unit = record {
  making = record { subject = subject; nest = nest; origin = origin_of source };
  unit = unit;
}
