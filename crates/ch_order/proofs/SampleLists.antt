-- The lists of the tests are well formed.
use Rattle.std.proofs.Common.{◌≡◌, refl, ℤ, Bool, true, false}
use Rattle.ch_order.specs.Samples.{three}
use Rattle.ch_timed.specs.Timed.{is_well_formed}

pub three_fine : (reader_first between : Bool) (k : ℤ) → is_well_formed (three reader_first between k) ≡ true
three_fine true true k = refl
three_fine true false k = refl
three_fine false true k = refl
three_fine false false k = refl
