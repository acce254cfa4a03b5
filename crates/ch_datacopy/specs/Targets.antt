-- Where the accesses of an array go.
use Rattle.std.specs.Prelude.{◌≡◌, ℕ, List}
use Rattle.ch_copied.specs.Plans.{Plan}
use Rattle.ch_datacopy.specs.declared.redirect.Target.{Target}

-- the plan has this array, its buffer and the buffer's extents
pub record IsTarget (target : Target) (sizes : List ℕ) (p : Plan) : Type 0 where
  pub array : p.array ≡ target.array
  pub buffer : p.buffer ≡ target.buffer
  pub extents : p.extents ≡ sizes
