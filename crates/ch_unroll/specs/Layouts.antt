-- Where the copies of a loop's body stand, from the places of all pieces.
use Rattle.std.specs.Prelude.{◌≡◌, ℕ, ◌-◌, ◌≤◌, ◌^◌, ℤ, pos, ◌+ℤ◌, List, length, map, slice_index_or}
use Rattle.std.specs.List.{filter}
use Rattle.ch_timed.specs.Vectors.{shares}
use Rattle.ch_unroll.specs.declared.layout.Layout.{Layout}
use Rattle.ch_unroll.specs.Unrolled.{deepest_shared, greatest}

-- those places that share the level with ours
abbrev pub sharing : ℕ → List ℤ → List (List ℤ) → List (List ℤ)
sharing level ours all = filter (shares level ours) all

-- how many places these take at that level
abbrev pub width_at : ℕ → List (List ℤ) → ℤ
width_at h all = pos 1 +ℤ greatest (map (λ ps. slice_index_or ps h (pos 0)) all)

-- So many copies stand behind the deepest level that all which share the level share, each as wide as they are there.
pub record IsLaidOut (all : List (List ℤ)) (ours : List ℤ) (l copies : ℕ) (u : Layout) : Type 0 where
  pub level : u.level ≡ l
  pub amount : u.amount ≡ copies
  pub behind : u.behind ≡ deepest_shared (length ours - 1 - l) l ours (sharing l ours all)
  pub width : pos u.width ≡ width_at u.behind (sharing u.behind ours all)
  pub near : u.width ≤ 2 ^ 32
