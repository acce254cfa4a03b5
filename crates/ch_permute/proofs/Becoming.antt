-- Pieces that became others, one after another, and which ones a command means.
use Rattle.std.proofs.Common.{◌≡◌, refl, sym, ap, ◌∙◌, subst, ℕ, ◌+◌, ◌<◌, ℤ, pos, Bool, true, Option, Some, None, List, [], ◌∷◌, ◌++◌, length, get_or, take, drop, MatchOption}
use Rattle.std.proofs.lemmas.Bool.{both_ways}
use Rattle.std.proofs.lemmas.List.{take_more}
use Rattle.ch_permute.specs.Changed.{AllBecome, Becomes, in_first}
use Rattle.ch_permute.specs.Permuted.{in_moving, is_permutation, last_from, moving, unshared_moving}
use Rattle.ch_permute.specs.Turned.{Turns, source, target}
use Rattle.ch_permute.proofs.Turns.{turns}
use Rattle.ch_space.specs.declared.piece.Piece.{Piece}
use Rattle.ch_space.specs.Keeps.{AreApart, places_of}
use Rattle.ch_space.specs.Pieces.{listed}
use Rattle.ch_space.proofs.PieceNumbers.{nth_places}
use Rattle.ch_timed.specs.Groups.{piece}
use Rattle.ch_timed.specs.Vectors.{shares}
use Rattle.ch_moved.proofs.Named.{deep_enough, item_whole, shares_last}

module _ (inside : List ℤ → Bool) (new : List ℤ → List ℤ) (by : ℕ) where
  more_become : (ps qs : List Piece) (p q : Piece) → AllBecome inside new by ps qs → Becomes (inside (places_of p)) new by p q → AllBecome inside new by (ps ++ p ∷ []) (qs ++ q ∷ [])
  more_become [] [] p q a b = (b, tt)
  more_become [] (s ∷ qs) p q a b = absurd a
  more_become (r ∷ ps) [] p q a b = absurd a
  more_become (r ∷ ps) (s ∷ qs) p q a b = (a.0, more_become ps qs p q a.1 b)

  pub next_become : (ps qs next : List Piece) (k : ℕ) (p q : Piece) (t : Bool) → k < length ps → p ≡ get_or ps k p → t ≡ inside (places_of p) → AllBecome inside new by (take k ps) qs → Becomes t new by p q
      → next ≡ qs ++ q ∷ [] → AllBecome inside new by (take (k + 1) ps) next
  next_become ps qs next k p q t l is e a b n =
      let f : take (k + 1) ps ≡ take k ps ++ p ∷ [] = take_more ps k p l ∙ ap (λ x. take k ps ++ x ∷ []) (sym is) in
      subst (λ z. AllBecome inside new by (take (k + 1) ps) z) (sym n)
      (subst (λ z. AllBecome inside new by z (qs ++ q ∷ [])) (sym f) (more_become (take k ps) qs p q a (subst (λ z. Becomes z new by p q) e b)))

-- the pieces that move with another one

pub moves_is : (first : Option ℕ) (ps : List Piece) (s : ℕ) (d : Piece) (order ours places : List ℤ) → AreApart ps → s < length ps → ours ≡ places_of (get_or ps s d)
    → MatchOption first (moving 1 order ≡ []) (λ f. moving 1 order ≡ f ∷ moving (f + 1) (drop f order)) → in_first first ours places ≡ in_moving (listed ps) (pos s) (moving 1 order) places
moves_is None ps s d order ours places a l o m = rw m refl
moves_is (Some f) ps s d order ours places a l o m = rw m (ap (λ z. shares f z places) (o ∙ sym (nth_places ps s d a l)))

turn_by : (ms : List ℕ) (ps : List Piece) (s k : ℕ) (p : Piece) (order : List ℤ) → AreApart ps → s < length ps → k < length ps → p ≡ get_or ps k p → is_permutation order ≡ true → moving 1 order ≡ ms
    → unshared_moving (listed ps) (pos s) ms ≡ None → in_moving (listed ps) (pos s) ms (places_of p) ≡ true → Turns p.levels (source order) (target order)
turn_by [] ps s k p order a h l e o m u i = absurd (both_ways _ refl i)
turn_by (first ∷ more) ps s k p order a h l e o m u i =
    let t = shares_last ps s k first (last_from first more) p a l e u i in
    turns order first more p.levels o m
    (deep_enough (last_from first more) (piece (listed ps) s) p (item_whole ps k p a l e) t)

pub turns_where : (ps : List Piece) (s k : ℕ) (p : Piece) (order : List ℤ) (b : Bool) → AreApart ps → s < length ps → k < length ps → p ≡ get_or ps k p → is_permutation order ≡ true
    → unshared_moving (listed ps) (pos s) (moving 1 order) ≡ None → b ≡ in_moving (listed ps) (pos s) (moving 1 order) (places_of p) → b ≡ true → Turns p.levels (source order) (target order)
turns_where ps s k p order b a h l e o u i t = turn_by (moving 1 order) ps s k p order a h l e o refl u (sym i ∙ t)
