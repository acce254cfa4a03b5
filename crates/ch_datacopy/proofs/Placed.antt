-- Places once moves stand around a loop.
use Rattle.std.proofs.Common.{◌≡◌, refl, sym, ap, ap₂, ◌∙◌, ℕ, zero, suc, ◌+◌, ◌*◌, ◌<◌, ◌≤◌, ℤ, pos, ◌+ℤ◌, ◌*ℤ◌, Bool, true, false, List, [], ◌∷◌, map, length, take, get_or, inl, inr, arith}
use Rattle.std.specs.Prelude.{slice_index_or, if◌then◌else◌}
use Rattle.std.specs.Ordering.{int_eq}
use Rattle.std.proofs.Math.IntN.{pos-*ℤ-pos}
use Rattle.std.proofs.Math.ListN.{set}
use Rattle.std.proofs.lemmas.Bool.{cases_Bool}
use Rattle.std.proofs.lemmas.Int.{ints}
use Rattle.ch_affine.specs.Lends.{rewritten}
use Rattle.ch_copied.specs.Copied.{loop_place, new_place, placed}
use Rattle.ch_copied.specs.Plans.{Plan}
use Rattle.ch_copied.proofs.Runs.{eq_is}
use Rattle.ch_datacopy.specs.Spreads.{spread_by}
use Rattle.ch_datacopy.specs.declared.places.Spread.{Spread}

eq_from : (m n : ℕ) → int_eq (pos m) (pos n) ≡ true → m ≡ n
eq_from m n h = let e = eq_is (pos m) (pos n) h in cc

eq_to : (m n : ℕ) → m ≡ n → int_eq (pos m) (pos n) ≡ true
eq_to m n h = grind (arith, ints)

heads : (x y : ℕ) (xs ys : List ℕ) → x ∷ xs ≡ y ∷ ys → x ≡ y
heads x y xs ys e = cc

tails : (x y : ℕ) (xs ys : List ℕ) → x ∷ xs ≡ y ∷ ys → xs ≡ ys
tails x y xs ys e = cc

pub placed_at : (f : ℤ → ℤ) (ours theirs : List ℕ) (a : ℕ) → a < length ours → a < length theirs → take a ours ≡ take a theirs
    → placed f (take a (map pos ours)) (map pos theirs) ≡ set (map pos theirs) a (f (pos (get_or theirs a 0)))
placed_at f ours [] zero l m e = absurd (omega (arith, m))
placed_at f ours (t ∷ theirs) zero l m e = refl
placed_at f [] theirs (suc a) l m e = absurd (omega (arith, l))
placed_at f (o ∷ ours) [] (suc a) l m e = absurd (omega (arith, m))
placed_at f (o ∷ ours) (t ∷ theirs) (suc a) l m e =
    let same = eq_to t o (sym (heads o t (take a ours) (take a theirs) e)) in
    ap (λ z. pos t ∷ z)
    (ap (λ b. if b then placed f (take a (map pos ours)) (map pos theirs) else map pos theirs) same
    ∙ placed_at f ours theirs a (omega (arith, l)) (omega (arith, m)) (tails o t (take a ours) (take a theirs) e))

pub placed_short : (f : ℤ → ℤ) (ours theirs : List ℕ) (a : ℕ) → a < length ours → length theirs ≤ a → placed f (take a (map pos ours)) (map pos theirs) ≡ map pos theirs
placed_short f ours [] a l m = refl
placed_short f ours (t ∷ theirs) zero l m = absurd (omega (arith, m))
placed_short f [] (t ∷ theirs) (suc a) l m = absurd (omega (arith, l))
placed_short f (o ∷ ours) (t ∷ theirs) (suc a) l m = ap (λ z. pos t ∷ z) (by (int_eq (pos t) (pos o)) (placed_short f ours theirs a (omega (arith, l)) (omega (arith, m))))
  where
    by : (b : Bool) → placed f (take a (map pos ours)) (map pos theirs) ≡ map pos theirs → (if b then placed f (take a (map pos ours)) (map pos theirs) else map pos theirs) ≡ map pos theirs
    by true e = e
    by false e = refl

pub placed_beside : (f : ℤ → ℤ) (ours theirs : List ℕ) (a : ℕ) → a < length ours → (take a ours ≡ take a theirs → ⊥) → placed f (take a (map pos ours)) (map pos theirs) ≡ map pos theirs
placed_beside f ours theirs zero l n = absurd (n refl)
placed_beside f [] theirs (suc a) l n = absurd (omega (arith, l))
placed_beside f (o ∷ ours) [] (suc a) l n = refl
placed_beside f (o ∷ ours) (t ∷ theirs) (suc a) l n = ap (λ z. pos t ∷ z) (elim (cases_Bool (int_eq (pos t) (pos o))) as (λ _. (if int_eq (pos t) (pos o) then placed f (take a (map pos ours)) (map pos theirs) else map pos theirs) ≡ map pos theirs) [
  | inl h ↦
      ap (λ b. if b then placed f (take a (map pos ours)) (map pos theirs) else map pos theirs) h
      ∙ placed_beside f ours theirs a (omega (arith, l)) (λ e. n (ap₂ (λ x xs. x ∷ xs) (sym (eq_from t o h)) e))
  | inr h ↦ ap (λ b. if b then placed f (take a (map pos ours)) (map pos theirs) else map pos theirs) h
])

placed_same : (f g : ℤ → ℤ) → ((z : ℤ) → f z ≡ g z) → (front ps : List ℤ) → placed f front ps ≡ placed g front ps
placed_same f g h front [] = refl
placed_same f g h [] (p ∷ ps) = ap (λ z. z ∷ ps) (h p)
placed_same f g h (q ∷ front) (p ∷ ps) = ap (λ z. p ∷ (if int_eq p q then z else ps)) (placed_same f g h front ps)

map_set : (ns : List ℕ) (a n : ℕ) → map pos (set ns a n) ≡ set (map pos ns) a (pos n)
map_set [] a n = refl
map_set (m ∷ ns) zero n = refl
map_set (m ∷ ns) (suc a) n = ap (λ z. pos m ∷ z) (map_set ns a n)

spread_number : (s : Spread) (loop t offset : ℕ) → ((t ≡ loop → offset ≡ s.offset) × ((t ≡ loop → ⊥) → offset ≡ 0)) → pos (t * s.width + offset) ≡ spread_by s loop (pos t)
spread_number s loop t offset h =
    sum (t * s.width) offset ∙ ap (λ z. z +ℤ pos offset) (sym (pos-*ℤ-pos t s.width)) ∙ ap (λ z. pos t *ℤ pos s.width +ℤ z)
    (elim (cases_Bool (int_eq (pos t) (pos loop))) as (λ _. pos offset ≡ (if int_eq (pos t) (pos loop) then pos s.offset else pos 0)) [
      | inl e ↦ ap pos (h.0 (eq_from t loop e)) ∙ sym (ap (λ b. if b then pos s.offset else pos 0) e)
      | inr e ↦ ap pos (h.1 (λ q. no (int_eq (pos t) (pos loop)) e (eq_to t loop q))) ∙ sym (ap (λ b. if b then pos s.offset else pos 0) e)
    ])
  where
    sum : (m n : ℕ) → pos (m + n) ≡ pos m +ℤ pos n
    sum m n = omega (arith, ints)

    no : (b : Bool) → b ≡ false → b ≡ true → ⊥
    no true f t = cc
    no false f t = cc

-- the places of a piece with the loop's place changed
pub spread_at : (s : Spread) (ours theirs old new : List ℕ) (a offset : ℕ) → a < length ours → a < length theirs → take a ours ≡ take a theirs → old ≡ theirs
    → ((get_or theirs a 0 ≡ get_or ours a 0 → offset ≡ s.offset) × ((get_or theirs a 0 ≡ get_or ours a 0 → ⊥) → offset ≡ 0)) → new ≡ set old a (get_or theirs a 0 * s.width + offset)
    → map pos new ≡ placed (spread_by s (slice_index_or ours a 0)) (take a (map pos ours)) (map pos theirs)
spread_at s ours theirs old new a offset l m e o h n =
    ap (map pos) (n ∙ ap (λ z. set z a (get_or theirs a 0 * s.width + offset)) o)
    ∙ map_set theirs a (get_or theirs a 0 * s.width + offset)
    ∙ ap (set (map pos theirs) a) (spread_number s (get_or ours a 0) (get_or theirs a 0) offset h)
    ∙ sym (placed_at (spread_by s (slice_index_or ours a 0)) ours theirs a l m e)

-- a slice keeps its length
pub rewritten_same : (old new : List ℕ) → length new ≡ length old → rewritten old new ≡ new
rewritten_same [] [] e = refl
rewritten_same [] (n ∷ new) e = absurd (omega (arith, e))
rewritten_same (o ∷ old) [] e = absurd (omega (arith, e))
rewritten_same (o ∷ old) (n ∷ new) e = ap (λ z. n ∷ z) (rewritten_same old new (omega (arith, e)))

get_natural : (ns : List ℕ) (k : ℕ) → get_or (map pos ns) k (pos 0) ≡ pos (get_or ns k 0)
get_natural [] k = refl
get_natural (n ∷ ns) zero = refl
get_natural (n ∷ ns) (suc k) = get_natural ns k

-- the plan's own word for it
pub spread_new : (p : Plan) (s : Spread) (ours : List ℕ) (around : ℕ) (theirs : List ℤ) → p.ours ≡ map pos ours → p.around ≡ around → s.width ≡ (length p.ins + length p.outs) + 1 → s.offset ≡ length p.ins
    → placed (spread_by s (slice_index_or ours around 0)) (take around (map pos ours)) theirs ≡ placed (new_place p) (take p.around p.ours) theirs
spread_new p s ours around theirs o a w i =
    placed_same (spread_by s (slice_index_or ours around 0)) (new_place p) each (take around (map pos ours)) theirs
    ∙ ap₂ (λ n z. placed (new_place p) (take n z) theirs) (sym a) (sym o)
  where
    loop : pos (slice_index_or ours around 0) ≡ loop_place p
    loop = sym (get_natural ours around) ∙ ap₂ (λ z n. get_or z n (pos 0)) (sym o) (sym a)

    each : (q : ℤ) → spread_by s (slice_index_or ours around 0) q ≡ new_place p q
    each q = λ t. q *ℤ pos (w t) +ℤ (if int_eq q (loop t) then pos (i t) else pos 0)
