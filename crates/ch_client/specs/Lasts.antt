-- What a client keeps of its last line on a session.
use Rattle.std.specs.Prelude.{◌≡◌, ℕ, Option, Some, None}
use Rattle.std.specs.Arc.{arc_value}
use Rattle.std.specs.declared.alloc.Global.{Global}
use Rattle.std.specs.declared.sync.Arc.{Arc}
use Rattle.ch_client.specs.declared.last.Last.{Last}
use Rattle.ch_conduct.specs.declared.report.How.{How}
use Rattle.ch_conduct.specs.declared.report.How.TheVariants.{Trial, Fresh, Kept}
use Rattle.ch_session.specs.Making.{Making}

module _ {V : Type 0} (made : V → Making) (i : ℕ) where
  -- a variant is there, and of session i
  abbrev pub Has : Option (Arc V Global) → Type 0
  Has None = ⊥
  Has (Some a) = (made (arc_value a)).subject ≡ i

  -- and where the line is fresh or kept, it must be
  abbrev pub HasKept : Option How → Option (Arc V Global) → Type 0
  HasKept None o = Unit {0}
  HasKept (Some (Trial t)) o = Unit {0}
  HasKept (Some (Fresh v w)) o = Has o
  HasKept (Some (Kept v w)) o = Has o

  abbrev pub IsLast : Last V → Type 0
  IsLast l = HasKept l.how l.variant
