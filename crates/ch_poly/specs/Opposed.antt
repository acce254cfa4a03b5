-- Two rows of which at most one is at least 0.
use Rattle.std.specs.Prelude.{ℕ, ℤ, pos, neg_ℤ, ◌≡◌, ◌<◌, ◌+ℤ◌, ◌<ℤ◌, List, length}
use Rattle.ch_affine.specs.Form.{Form}
use Rattle.ch_poly.specs.Boxes.{at}
use Rattle.ch_poly.specs.Goals.{Reaches}

-- the coefficients are each other's negatives, and the constants' sum is below 0
pub record IsOpposed (f g : Form) : Type 0 where
  pub same : length f.coefs ≡ length g.coefs
  pub sum : (f.constant +ℤ g.constant) <ℤ pos 0
  pub each : (k : ℕ) → k < length f.coefs → at f.coefs k ≡ neg_ℤ (at g.coefs k)

-- the rows hold nowhere
pub record IsNever (rows : List Form) : Type 0 where
  pub never : (p : List ℤ) → Reaches (pos 0) rows p → ⊥
