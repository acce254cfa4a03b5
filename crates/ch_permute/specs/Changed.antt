-- A piece whose loop values are other ones.
use Rattle.std.specs.Prelude.{◌≡◌, ℕ, ◌+◌, ◌*◌, ◌≤◌, ◌^◌, ℤ, Bool, true, false, Option, Some, None, List, [], ◌∷◌, length}
use Rattle.std.specs.List.{All}
use Rattle.ch_affine.specs.Affine.{IsAtMost, IsSmall}
use Rattle.ch_affine.specs.Form.{Form}
use Rattle.ch_affine.specs.Rows.{IsBox}
use Rattle.ch_affine.specs.declared.system.Range.{Range}
use Rattle.ch_moved.specs.Substituted.{substituted}
use Rattle.ch_space.specs.declared.piece.Piece.{Piece}
use Rattle.ch_space.specs.Keeps.{IsLimited, IsWhole, most_levels, places_of}
use Rattle.ch_space.specs.Pieces.{element_at, instances}
use Rattle.ch_timed.specs.Closed.{at_vector}
use Rattle.ch_timed.specs.Members.{In}
use Rattle.ch_timed.specs.Vectors.{shares, woven}

-- The piece q has the elements of p at new loop values, and its numbers are at most `by` times as large.
pub record IsChanged (new : List ℤ → List ℤ) (by : ℕ) (p q : Piece) : Type 0 where
  pub whole : IsWhole q
  pub places : q.places ≡ p.places
  pub label : q.label ≡ p.label
  pub body : q.body ≡ p.body
  pub iterators : length q.origin ≡ length p.origin
  pub forth : (xs : List ℤ) → In xs (instances p) → In (new xs) (instances q)
  pub back : (ys : List ℤ) → In ys (instances q) → (xs : List ℤ) × (In xs (instances p) × (new xs ≡ ys))
  pub element : (xs : List ℤ) → In xs (instances p)
      → at_vector (element_at p xs) (woven (places_of p) (new xs)) ≡ element_at q (new xs)
  pub limited : (weight commands : ℕ) → 1 ≤ weight → 1 ≤ by → IsLimited weight commands p
      → IsLimited (weight * by) (commands + 1) q

-- changed where the test holds of the places, and else the same
abbrev pub Becomes : Bool → (List ℤ → List ℤ) → ℕ → Piece → Piece → Type 0
Becomes true new by p q = IsChanged new by p q
Becomes false new by p q = q ≡ p

-- each of these pieces became the one of the same number
abbrev pub AllBecome : (List ℤ → Bool) → (List ℤ → List ℤ) → ℕ → List Piece → List Piece → Type 0
AllBecome inside new by [] [] = Unit {0}
AllBecome inside new by [] (q ∷ qs) = ⊥
AllBecome inside new by (p ∷ ps) [] = ⊥
AllBecome inside new by (p ∷ ps) (q ∷ qs) =
    Becomes (inside (places_of p)) new by p q × AllBecome inside new by ps qs

-- So many forms over as many new levels, of small numbers and within ranges, may be put into the piece.
pub record FitPiece (p : Piece) (gs : List Form) (boxes : List Range) : Type 0 where
  pub levels : p.levels ≤ most_levels
  pub many : length gs ≡ p.levels
  pub boxed : length boxes ≡ p.levels
  pub long : All (λ g. length g.coefs ≡ length boxes) gs
  pub near : All (λ g. IsAtMost (2 ^ 59) g.constant) gs
  pub ranges : All IsBox boxes
  pub few : length boxes + (p.levels + p.hidden) ≤ 4096
  pub origin : All (λ f. IsSmall (substituted (length boxes) gs f)) p.origin

-- whether the places share that level with ours, where there is one
abbrev pub in_first : Option ℕ → List ℤ → List ℤ → Bool
in_first None ours theirs = false
in_first (Some level) ours theirs = shares level ours theirs
