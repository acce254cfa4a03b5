-- What one command of a recipe does to a program: a line a command.
use Rattle.std.specs.Prelude.{◌≡◌, ◌≤◌, ℕ, ◌+◌, ◌*◌, Bool, true, false, Option, Some, None, Result, IfOk, List, [], ◌∷◌, ◌++◌, length}
use Rattle.ch_copied.specs.Copied.{buffer_extents, datacopied}
use Rattle.ch_cut.specs.Cut.{peel_cause, peeled, split, split_cause}
use Rattle.ch_datacopy.specs.Causes.{copy_cause}
use Rattle.ch_fuse.specs.Distributed.{distribute_cause, distributed}
use Rattle.ch_fuse.specs.Fused.{fuse_cause, fused}
use Rattle.ch_moved.specs.Arguments.{natural}
use Rattle.ch_moved.specs.Causes.{Answers}
use Rattle.ch_nest.specs.declared.cause.Shape.{Shape}
use Rattle.ch_order.specs.Legal.{AreAmong}
use Rattle.ch_permute.specs.Permuted.{permute_cause, permuted}
use Rattle.ch_permute.specs.Raised.{growth, shift_cause, shifted, skew_cause, skewed}
use Rattle.ch_script.specs.Values.{condition}
use Rattle.ch_script.specs.declared.recipe.Command.{Command}
use Rattle.ch_script.specs.declared.recipe.Command.TheVariants.{Permute, Skew, Shift, Tile, Unroll, Split, Peel, Fuse, Distribute, Datacopy, Accumulate}
use Rattle.ch_space.specs.Listed.{Listed}
use Rattle.ch_space.specs.declared.error.ShapeError.{ShapeError}
use Rattle.ch_tile.specs.Tiled.{tile_cause, tiled}
use Rattle.ch_timed.specs.declared.element.Element.{Element}
use Rattle.ch_unroll.specs.Unrolled.{unroll_cause, unrolled}
use Rattle.ch_variant.specs.Arguments.{Scope, array_of, number, numbers}
use Rattle.ch_variant.specs.Meaning.{Keeps}

-- whether a command moves cells of an array into a buffer and back
abbrev pub copies : Command → Bool
copies (Datacopy s level array) = true
copies other = false

-- whether it lets sums be made in any order from then on, and leaves the program as it is
abbrev pub frees_sums : Command → Bool
frees_sums Accumulate = true
frees_sums other = false

-- the first cause why the shape of the program forbids a command
abbrev pub cause : Scope → Command → Listed → Option Shape
cause here (Permute s order) p = permute_cause p.list (number here.values s) (numbers here.values order)
cause here (Skew ss level amounts) p =
    skew_cause p.list p.weight (numbers here.values ss) (number here.values level) (numbers here.values amounts)
cause here (Shift ss level amount) p =
    shift_cause p.list (numbers here.values ss) (number here.values level) (number here.values amount)
cause here (Tile s level size outer) p =
    tile_cause p.list (number here.values s) (number here.values level) (number here.values size) (number here.values outer)
cause here (Unroll s level amount) p =
    unroll_cause p.list p.weight (number here.values s) (number here.values level) (number here.values amount)
cause here (Split s level c) p =
    split_cause p.list (number here.values s) (number here.values level) (condition here.values c)
cause here (Peel s level count) p =
    peel_cause p.list (number here.values s) (number here.values level) (number here.values count)
cause here (Fuse ss level) p = fuse_cause p.list (numbers here.values ss) (number here.values level)
cause here (Distribute ss level) p = distribute_cause p.list (numbers here.values ss) (number here.values level)
cause here (Datacopy s level array) p =
    copy_cause p.list p.arrays (length p.temps) (number here.values s) (number here.values level) (array_of here.arrays array)
cause here Accumulate p = None

-- the number of the buffer that is made next
abbrev pub next_buffer : Listed → ℕ
next_buffer p = p.arrays + length p.temps

-- the list after a copy, and the buffers; an array that isn't declared has none
abbrev pub with_copy : Listed → ℕ → ℕ → Option ℕ → List Element
with_copy p s level None = p.list
with_copy p s level (Some array) = datacopied p.list s level array (next_buffer p)

abbrev pub with_buffer : Listed → ℕ → ℕ → Option ℕ → List (List ℕ)
with_buffer p s level None = p.temps
with_buffer p s level (Some array) = p.temps ++ buffer_extents p.list s level array (next_buffer p) ∷ []

-- the list after a command
abbrev pub changed : Scope → Command → Listed → List Element
changed here (Permute s order) p = permuted p.list (number here.values s) (numbers here.values order)
changed here (Skew ss level amounts) p =
    skewed p.list (numbers here.values ss) (number here.values level) (numbers here.values amounts)
changed here (Shift ss level amount) p =
    shifted p.list (numbers here.values ss) (number here.values level) (number here.values amount)
changed here (Tile s level size outer) p =
    tiled p.list (number here.values s) (number here.values level) (number here.values size) (number here.values outer)
changed here (Unroll s level amount) p =
    unrolled p.list (number here.values s) (number here.values level) (number here.values amount)
changed here (Split s level c) p =
    split p.list (number here.values s) (number here.values level) (condition here.values c)
changed here (Peel s level count) p =
    peeled p.list (number here.values s) (number here.values level) (number here.values count)
changed here (Fuse ss level) p = fused p.list (numbers here.values ss) (number here.values level)
changed here (Distribute ss level) p = distributed p.list (numbers here.values ss) (number here.values level)
changed here (Datacopy s level array) p =
    with_copy p (natural (number here.values s)) (natural (number here.values level)) (array_of here.arrays array)
changed here Accumulate p = p.list

-- the buffers after it
abbrev pub buffers : Scope → Command → Listed → List (List ℕ)
buffers here (Datacopy s level array) p =
    with_buffer p (natural (number here.values s)) (natural (number here.values level)) (array_of here.arrays array)
buffers here other p = p.temps

-- by how much it multiplies the weight
abbrev pub factor : Scope → Command → ℕ
factor here (Permute s order) = 1
factor here (Skew ss level amounts) = growth (numbers here.values amounts)
factor here (Shift ss level amount) = 1
factor here (Tile s level size outer) = 1
factor here (Unroll s level amount) = natural (number here.values amount)
factor here (Split s level c) = 1
factor here (Peel s level count) = 1
factor here (Fuse ss level) = 1
factor here (Distribute ss level) = 1
factor here (Datacopy s level array) = 1
factor here Accumulate = 1

-- the program after it
abbrev pub next : Scope → Command → Listed → Listed
next here c p = record {
  list = changed here c p;
  arrays = p.arrays;
  temps = buffers here c p;
  weight = p.weight * factor here c;
  commands = p.commands + 1;
}

-- A call of a command that gives another order answers the first cause or the program after it, which has the same steps.
pub record IsReordered (here : Scope) (c : Command) (p : Listed) (r : Result Listed ShapeError) : Type 0 where
  pub first : Answers r (cause here c p)
  pub follows : IfOk r (λ new. new ≡ next here c p)
  pub kept : IfOk r (λ new. AreAmong p.list new.list)
  pub no_others : IfOk r (λ new. AreAmong new.list p.list)

-- A call of a copy does too. That program has other steps, and keeps what is left in the arrays.
pub record IsCopied (here : Scope) (c : Command) (p : Listed) (r : Result Listed ShapeError) : Type 0 where
  pub first : Answers r (cause here c p)
  pub follows : IfOk r (λ new. new ≡ next here c p)
  pub keeps : IfOk r (λ new. Keeps p new)

-- what each command leaves as it is, and how it counts
pub record IsBehind (p new : Listed) : Type 0 where
  pub arrays : new.arrays ≡ p.arrays
  pub buffers : length new.temps ≤ length p.temps + 1
  pub commands : new.commands ≡ p.commands + 1
