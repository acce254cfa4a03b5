-- Where the copies stand, piece by piece.
use Rattle.std.proofs.Common.{◌≡◌, refl, sym, ap, ◌∙◌, ℕ, zero, suc, ◌+◌, ◌-◌, ◌<◌, ℤ, pos, ◌+ℤ◌, Bool, true, false, ◌&&◌, cond, max, List, [], ◌∷◌, ◌++◌, length, map, take, get_or, arith, append-nil}
use Rattle.std.specs.Int.{int_max}
use Rattle.std.specs.List.{filter, list_all}
use Rattle.std.proofs.lemmas.Int.{int_max_is, ints}
use Rattle.std.proofs.lemmas.List.{map-append, take_more}
use Rattle.std.proofs.lemmas.List.Elements.{filter-append}
use Rattle.ch_space.specs.Keeps.{places_of}
use Rattle.ch_space.specs.declared.piece.Piece.{Piece}
use Rattle.ch_timed.specs.Vectors.{shares}
use Rattle.ch_unroll.specs.Layouts.{sharing, width_at}
use Rattle.ch_unroll.specs.Unrolled.{deepest_shared, greatest}

-- one piece more

pub sharing_more : (level : ℕ) (ours : List ℤ) (ps : List Piece) (k : ℕ) (d : Piece) → k < length ps
    → sharing level ours (map places_of (take (k + 1) ps)) ≡ sharing level ours (map places_of (take k ps)) ++ cond (shares level ours (places_of (get_or ps k d))) (places_of (get_or ps k d) ∷ []) []
sharing_more level ours ps k d l =
    ap (λ z. filter (shares level ours) (map places_of z)) (take_more ps k d l) ∙ ap (filter (shares level ours)) (map-append places_of (take k ps) (get_or ps k d ∷ []))
    ∙ filter-append (shares level ours) (map places_of (take k ps)) (places_of (get_or ps k d) ∷ [])

-- one that doesn't share the deeper level
pub not_all : (level deeper : ℕ) (ours : List ℤ) (ps : List Piece) (k : ℕ) (d : Piece) → k < length ps → shares level ours (places_of (get_or ps k d)) ≡ true → shares deeper ours (places_of (get_or ps k d)) ≡ false
    → false ≡ list_all (shares deeper ours) (sharing level ours (map places_of ps))
not_all level deeper ours [] k d l s t = absurd (omega arith)
not_all level deeper ours (p ∷ ps) zero d l s t = rw (s, t) refl
not_all level deeper ours (p ∷ ps) (suc k) d l s t = by (shares level ours (places_of p)) (shares deeper ours (places_of p)) (not_all level deeper ours ps k d (omega arith) s t)
  where
    by : (b c : Bool) → false ≡ list_all (shares deeper ours) (sharing level ours (map places_of ps))
        → false ≡ list_all (shares deeper ours) (cond b (places_of p ∷ sharing level ours (map places_of ps)) (sharing level ours (map places_of ps)))
    by false c e = e
    by true c e = and_false (shares deeper ours (places_of p)) _ e
      where
        and_false : (a b : Bool) → false ≡ b → false ≡ (a && b)
        and_false true b e = e
        and_false false b e = refl

pub at_pos : (ns : List ℕ) (k : ℕ) → get_or (map pos ns) k (pos 0) ≡ pos (get_or ns k 0)
at_pos [] k = refl
at_pos (n ∷ ns) zero = refl
at_pos (n ∷ ns) (suc k) = at_pos ns k

-- how many places the pieces take

greatest_more : (xs : List ℤ) (y : ℤ) → greatest (xs ++ y ∷ []) ≡ int_max y (greatest xs)
greatest_more [] y = refl
greatest_more (x ∷ xs) y = ap (int_max x) (greatest_more xs y) ∙ turned x y (greatest xs)
  where
    turned : (x y z : ℤ) → int_max x (int_max y z) ≡ int_max y (int_max x z)
    turned x y z = omega (arith, ints, int_max_is)

pub next_width : (level : ℕ) (ours : List ℤ) (ps : List Piece) (k : ℕ) (d : Piece) (place before next : ℕ) → k < length ps → d ≡ get_or ps k d → shares level ours (places_of d) ≡ true
    → place ≡ get_or d.places level 0 → next ≡ max place before → pos (before + 1) ≡ width_at level (sharing level ours (map places_of (take k ps)))
    → pos (next + 1) ≡ width_at level (sharing level ours (map places_of (take (k + 1) ps)))
next_width level ours ps k d place before next l e s p n h =
    let f : List ℤ → ℤ = λ ps. get_or ps level (pos 0) in
    let old = sharing level ours (map places_of (take k ps)) in
    let at : f (places_of d) ≡ pos place = at_pos d.places level ∙ ap pos (sym p) in
    let more : sharing level ours (map places_of (take (k + 1) ps)) ≡ old ++ places_of d ∷ [] =
    sharing_more level ours ps k d l ∙ ap (λ z. old ++ cond (shares level ours (places_of z)) (places_of z ∷ []) []) (sym e) ∙ ap (λ b. old ++ cond b (places_of d ∷ []) []) s in
    let grown : greatest (map f (sharing level ours (map places_of (take (k + 1) ps)))) ≡ int_max (pos place) (greatest (map f old)) =
    ap (λ z. greatest (map f z)) more ∙ ap greatest (map-append f old (places_of d ∷ [])) ∙ greatest_more (map f old) (f (places_of d)) ∙ ap (λ z. int_max z (greatest (map f old))) at in
    by (greatest (map f old)) (greatest (map f (sharing level ours (map places_of (take (k + 1) ps))))) h grown
  where
    by : (old new : ℤ) → pos (before + 1) ≡ pos 1 +ℤ old → new ≡ int_max (pos place) old → pos (next + 1) ≡ pos 1 +ℤ new
    by old new a b = omega (arith, ints, int_max_is)

pub same_width : (level : ℕ) (ours : List ℤ) (ps : List Piece) (k : ℕ) (d : Piece) (before next : ℕ) → k < length ps → d ≡ get_or ps k d → shares level ours (places_of d) ≡ false
    → next ≡ before → pos (before + 1) ≡ width_at level (sharing level ours (map places_of (take k ps)))
    → pos (next + 1) ≡ width_at level (sharing level ours (map places_of (take (k + 1) ps)))
same_width level ours ps k d before next l e s n h =
    let old = sharing level ours (map places_of (take k ps)) in
    let more : sharing level ours (map places_of (take (k + 1) ps)) ≡ old =
    sharing_more level ours ps k d l ∙ ap (λ z. old ++ cond (shares level ours (places_of z)) (places_of z ∷ []) []) (sym e) ∙ ap (λ b. old ++ cond b (places_of d ∷ []) []) s ∙ append-nil old in
    ap (λ n. pos (n + 1)) n ∙ h ∙ ap (width_at level) (sym more)

-- the deepest level, one level up

pub none_deeper : (level deepest total : ℕ) (ours : List ℤ) (all : List (List ℤ)) → level < deepest → list_all (shares deepest ours) all ≡ false → deepest_shared (deepest - level) level ours all ≡ total
    → deepest_shared (deepest - 1 - level) level ours all ≡ total
none_deeper level deepest total ours all l none e =
    let m : deepest - level ≡ suc (deepest - 1 - level) = omega arith in
    let n : level + suc (deepest - 1 - level) ≡ deepest = omega arith in
    sym (ap (λ k. deepest_shared k level ours all) m
    ∙ ap (λ k. cond (list_all (shares k ours) all) k (deepest_shared (deepest - 1 - level) level ours all)) n
    ∙ ap (λ b. cond b deepest (deepest_shared (deepest - 1 - level) level ours all)) none) ∙ e

pub found_deepest : (level deepest total : ℕ) (ours : List ℤ) (all : List (List ℤ)) → level < deepest → list_all (shares deepest ours) all ≡ true → deepest_shared (deepest - level) level ours all ≡ total → deepest ≡ total
found_deepest level deepest total ours all l some e =
    let m : deepest - level ≡ suc (deepest - 1 - level) = omega arith in
    let n : level + suc (deepest - 1 - level) ≡ deepest = omega arith in
    sym (ap (λ k. deepest_shared k level ours all) m
    ∙ ap (λ k. cond (list_all (shares k ours) all) k (deepest_shared (deepest - 1 - level) level ours all)) n
    ∙ ap (λ b. cond b deepest (deepest_shared (deepest - 1 - level) level ours all)) some) ∙ e
