-- Places in a text.
use Rattle.std.specs.Prelude.{ℕ, ◌≤◌}
use Rattle.ch_workload.specs.declared.error.SectionError.{SectionError}
use Rattle.ch_workload.specs.declared.error.SectionError.TheVariants.{Memory, Refused}

-- the place that a refusal names is one of a text of n bytes, or its end
abbrev pub IsWithin : ℕ → SectionError → Type 0
IsWithin n Memory = Unit {0}
IsWithin n (Refused code at value) = at ≤ n
