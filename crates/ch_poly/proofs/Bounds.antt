-- A row with a bound.
use Rattle.std.proofs.Common.{◌≡◌, ℕ, ℤ, pos, ◌+ℤ◌, ◌<ℤ◌, List, length, arith}
use Rattle.std.proofs.lemmas.Int.{ints}
use Rattle.ch_affine.specs.Form.{Form}
use Rattle.ch_poly.specs.Boxes.{greatest}
use Rattle.ch_poly.specs.Goals.{IsAtLeast, Keeps, IsEmpty}
use Rattle.ch_poly.specs.Cutting.{KeepsNear}
use Rattle.ch_poly.proofs.Peaks.{dot_le, dot_spare}
use Rattle.ch_poly.proofs.Ranges.{in_each}

pub to_keeps : (f : Form) (bound : ℤ) (lows highs lows' highs' : List ℤ) (slack : ℕ) → length f.coefs ≡ length lows → length highs ≡ length lows → bound +ℤ pos slack ≡ greatest f lows highs
    → KeepsNear f.coefs slack lows highs lows' highs' → Keeps (IsAtLeast bound f) lows highs lows' highs'
to_keeps f bound lows highs lows' highs' slack s s' m keeps = record {
  kept = λ p w v. keeps.kept p w (record {
    near = λ k lt. omega (arith, ints, v.reached, dot_spare f.coefs lows highs p k s (in_each lows highs p s' w) (omega arith));
  });
}

pub to_empty : (f : Form) (bound : ℤ) (lows highs : List ℤ) → length f.coefs ≡ length lows → length highs ≡ length lows → greatest f lows highs <ℤ bound → IsEmpty (IsAtLeast bound f) lows highs
to_empty f bound lows highs s s' m = record { none = λ p w v. omega (arith, ints, v.reached, dot_le f.coefs lows highs p s (in_each lows highs p s' w)) }
