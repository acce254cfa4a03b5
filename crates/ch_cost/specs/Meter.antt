-- A meter that is read while the elements of a list are executed one after another.
use Rattle.std.specs.Prelude.{ℕ, ◌+◌, ◌*◌, ℤ, List, [], ◌∷◌, map}
use Rattle.ch_nest.specs.CostModel.{CostModel}
use Rattle.ch_timed.specs.Order.{do_all}
use Rattle.ch_timed.specs.declared.element.Element.{Element}
use Rattle.ch_cost.specs.Cost.{addresses, empty_slots, held, misses, turns_begun}

-- what the cost of an element depends on
pub record Visit : Type 0 where
  pub vector : List ℤ
  pub addresses : List ℕ

abbrev pub visit : List (List ℕ) → Element → Visit
visit extents e = record { vector = e.vector; addresses = addresses extents e }

-- the slots of the cache after accesses
abbrev pub all_held : CostModel → List ℕ → List ℕ → List ℕ
all_held m slots [] = slots
all_held m slots (address ∷ more) = all_held m (held m slots address) more

-- the slots, the vector of the element executed last, and the sum so far
pub record Meter : Type 0 where
  pub slots : List ℕ
  pub last : List ℤ
  pub sum : ℕ

-- what an element adds
abbrev pub metered : CostModel → Visit → Meter → Meter
metered m v meter = record {
  slots = all_held m meter.slots v.addresses;
  last = v.vector;
  sum = meter.sum + (1 + m.turn * turns_begun meter.last v.vector + m.miss * misses m meter.slots v.addresses);
}

abbrev pub at_start : CostModel → Meter
at_start m = record { slots = empty_slots m; last = []; sum = 0 }

-- the meter after a list
abbrev pub read_off : CostModel → List (List ℕ) → List Element → Meter
read_off m extents list = do_all (metered m) (map (visit extents) list) (at_start m)
