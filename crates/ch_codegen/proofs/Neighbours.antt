-- Neighbouring pieces by their place at a depth: runs, and what comes before what.
use Rattle.std.proofs.Common.{◌≡◌, ◌≢◌, refl, sym, ap, ◌∙◌, subst, ℕ, zero, suc, ◌≤◌, ◌<◌, ℤ, pos, ◌<ℤ◌, List, [], ◌∷◌, ◌++◌, map, length, take, get_or, ◌⊎◌, inl, inr, arith, add-one}
use Rattle.std.proofs.lemmas.Int.{ints}
use Rattle.std.proofs.lemmas.List.{take_more_same}
use Rattle.std.specs.Ordering.{int_cmp, ordering_then, MatchOrdering}
use Rattle.std.specs.declared.cmp.Ordering.{Ordering}
use Rattle.std.specs.declared.cmp.Ordering.TheVariants.{Less, Equal, Greater}
use Rattle.std.specs.Cmp.{int_ranked}
use Rattle.std.specs.Cmp.Lexicographic.{slice_cmp}
use Rattle.ch_affine.specs.Rows.{IsSystem}
use Rattle.ch_space.specs.declared.piece.Piece.{Piece}
use Rattle.ch_space.specs.Keeps.{IsWhole, places_of, AllLater, AreApart}
use Rattle.ch_timed.specs.Members.{In}
use Rattle.ch_timed.proofs.Orders.{at_each}
use Rattle.ch_codegen.specs.Parts.{Together, AreSystems, place, IsRun, AllPrecede, StopsAt}
use Rattle.ch_codegen.proofs.Inside.{append_left, append_right}
use Rattle.ch_codegen.proofs.Vectors.{IsLess, same_head, head_same, tail_same}
use Rattle.ch_codegen.proofs.Executed.{IsFit, AreFit}

pub whole_in : (ps : List Piece) (p : Piece) → AreApart ps → In p ps → IsWhole p
whole_in [] p a i = absurd i
whole_in (r ∷ rs) p a (inl k) = subst IsWhole k a.0
whole_in (r ∷ rs) p a (inr i) = whole_in rs p a.3 i

pub are_fit : (ps : List Piece) → AreApart ps → AreSystems ps → AreFit ps
are_fit ps a s p i =
    let w = whole_in ps p a i in
    let y = at_each (λ p. IsSystem p.system) ps s p i in
    record { places = w.places ∙ add-one p.levels; boxes = omega (arith, y.boxes, w.variables) }

later_in : (v : List ℤ) (qs : List Piece) (q : Piece) → AllLater v qs → In q qs → IsLess v (places_of q)
later_in v [] q d i = absurd i
later_in v (r ∷ rs) q d (inl k) = subst (λ z. IsLess v (places_of z)) k d.0
later_in v (r ∷ rs) q d (inr i) = later_in v rs q d.1 i

later_front : (v : List ℤ) (ps qs : List Piece) → AllLater v (ps ++ qs) → AllLater v ps
later_front v [] qs l = tt
later_front v (p ∷ ps) qs l = (l.0, later_front v ps qs l.1)

pub apart_front : (ps qs : List Piece) → AreApart (ps ++ qs) → AreApart ps
apart_front [] qs a = tt
apart_front (p ∷ ps) qs a = (a.0, a.1, later_front (places_of p) ps qs a.2, apart_front ps qs a.3)

pub apart_back : (ps qs : List Piece) → AreApart (ps ++ qs) → AreApart qs
apart_back [] qs a = a
apart_back (p ∷ ps) qs a = apart_back ps qs a.3

apart_before : (ps qs : List Piece) (p q : Piece) → AreApart (ps ++ qs) → In p ps → In q qs → IsLess (places_of p) (places_of q)
apart_before [] qs p q a i j = absurd i
apart_before (r ∷ ps) qs p q a (inl k) j = subst (λ z. IsLess (places_of z) (places_of q)) k (later_in (places_of r) (ps ++ qs) q a.2 (append_right ps qs q j))
apart_before (r ∷ ps) qs p q a (inr i) j = apart_before ps qs p q a.3 i j

pub systems_front : (ps qs : List Piece) → AreSystems (ps ++ qs) → AreSystems ps
systems_front [] qs s = tt
systems_front (p ∷ ps) qs s = (s.0, systems_front ps qs s.1)

pub systems_back : (ps qs : List Piece) → AreSystems (ps ++ qs) → AreSystems qs
systems_back [] qs s = s
systems_back (p ∷ ps) qs s = systems_back ps qs s.1

pub together_back : (d : ℕ) (ps qs : List Piece) → Together d (ps ++ qs) → Together d qs
together_back d ps qs t = record {
  deep = λ p i. t.deep p (append_right ps qs p i);
  same = λ p q i j. t.same p q (append_right ps qs p i) (append_right ps qs q j);
}

-- the places at a depth, where those before it are the same
abbrev Follows : List ℕ → List ℕ → ℕ → Type 0
Follows ps qs d = (get_or ps d 0 < get_or qs d 0) ⊎ ((get_or ps d 0 ≡ get_or qs d 0) × (suc d < length qs))

first_places : (a b : ℕ) (ps qs : List ℕ) (r : Ordering) → MatchOrdering r (pos a <ℤ pos b) (pos a ≡ pos b) (pos b <ℤ pos a)
    → ordering_then r (slice_cmp int_cmp (map pos ps) (map pos qs)) ≡ Less → (a < b) ⊎ ((a ≡ b) × (1 < length (b ∷ qs)))
first_places a b ps qs Less m h = inl (omega (arith, ints, m))
first_places a b [] [] Equal m h = cc
first_places a b (p ∷ ps) [] Equal m h = cc
first_places a b ps (q ∷ qs) Equal m h = inr (omega (arith, ints, m), omega arith)
first_places a b ps qs Greater m h = cc

follows : (ps qs : List ℕ) (d : ℕ) → take d ps ≡ take d qs → d < length ps → d < length qs → IsLess (map pos ps) (map pos qs) → Follows ps qs d
follows [] qs d e l m h = absurd (omega arith)
follows (a ∷ ps) [] d e l m h = absurd (omega arith)
follows (a ∷ ps) (b ∷ qs) zero e l m h = first_places a b ps qs (int_cmp (pos a) (pos b)) (int_ranked (pos a) (pos b) (int_cmp (pos a) (pos b)) refl) h
follows (a ∷ ps) (b ∷ qs) (suc d) e l m h =
    let s = head_same a b _ _ e in
    elim (follows ps qs d (tail_same a b _ _ e) (omega arith) (omega arith)
    (sym (same_head (pos a) (map pos ps) (map pos qs)) ∙ subst (λ c. IsLess (pos a ∷ map pos ps) (pos c ∷ map pos qs)) (sym s) h)) as (λ _. Follows (a ∷ ps) (b ∷ qs) (suc d)) [
      | inl k ↦ inl k
      | inr k ↦ inr (k.0, omega (arith, k.1))
    ]

-- where a piece comes before another, and they share the places down to the depth
pieces_follow : (d : ℕ) (p q : Piece) → IsFit p → IsFit q → d ≤ p.levels → d ≤ q.levels → take d p.places ≡ take d q.places → IsLess (places_of p) (places_of q)
    → (place d p < place d q) ⊎ ((place d p ≡ place d q) × (d < q.levels))
pieces_follow d p q f g l m same less =
    elim (follows p.places q.places d same (omega (arith, f.places, l)) (omega (arith, g.places, m)) less) as (λ _. (place d p < place d q) ⊎ ((place d p ≡ place d q) × (d < q.levels))) [
      | inl k ↦ inl k
      | inr k ↦ inr (k.0, omega (arith, k.1, g.places))
    ]

-- a piece that ends here is a run
pub run_of_one : (d : ℕ) (p : Piece) (qs : List Piece) → AreApart (p ∷ qs) → p.levels ≡ d → IsRun d (p ∷ []) × AllPrecede d (p ∷ []) qs
run_of_one d p qs a l = (inl (l, refl), before)
  where
    before : AllPrecede d (p ∷ []) qs
    before r q (inl k) j = inl (ap (λ z. z.levels) (sym k) ∙ l, subst (λ z. IsLess (places_of z) (places_of q)) k (later_in (places_of p) qs q a.2 j))
    before r q (inr i) j = absurd i

in_run : (d : ℕ) (first : Piece) (rest qs : List Piece) → AreApart (first ∷ rest ++ qs) → AreSystems (first ∷ rest ++ qs) → Together d (first ∷ rest ++ qs) → d < first.levels
    → (p : Piece) → In p (first ∷ rest) → place d p ≡ place d first → d < p.levels
in_run d first rest qs a s t l p (inl k) e = subst (λ z. d < z.levels) k l
in_run d first rest qs a s t l p (inr i) e =
    let fit = are_fit (first ∷ rest ++ qs) a s in
    let here : In first (first ∷ rest ++ qs) = inl refl in
    let there : In p (first ∷ rest ++ qs) = inr (append_left rest qs p i) in
    elim (pieces_follow d first p (fit first here) (fit p there) (t.deep first here) (t.deep p there) (t.same first p here there)
    (later_in (places_of first) (rest ++ qs) p a.2 (append_left rest qs p i))) as (λ _. d < p.levels) [
      | inl k ↦ absurd (omega (arith, k, e))
      | inr k ↦ k.1
    ]

same_more : (d : ℕ) (p q : Piece) → IsFit p → IsFit q → d ≤ p.levels → d ≤ q.levels → take d p.places ≡ take d q.places → place d p ≡ place d q → take (suc d) p.places ≡ take (suc d) q.places
same_more d p q f g l m e h =
    subst (λ n. take n p.places ≡ take n q.places) (add-one d) (take_more_same p.places q.places d 0 (omega (arith, f.places, l)) (omega (arith, g.places, m)) e h)

-- pieces with one place at the depth share the next loop, and come before what has another place there
pub run_of_many : (d : ℕ) (first : Piece) (rest qs : List Piece) → AreApart (first ∷ rest ++ qs) → AreSystems (first ∷ rest ++ qs) → Together d (first ∷ rest ++ qs)
    → d < first.levels → ((p : Piece) → In p (first ∷ rest) → place d p ≡ place d first) → StopsAt d (place d first) qs → IsRun d (first ∷ rest) × AllPrecede d (first ∷ rest) qs
run_of_many d first rest qs a s t l same stops = (inr (record { deep = deeper; same = alike }), before qs a s t stops)
  where
    fit : AreFit (first ∷ rest ++ qs)
    fit = are_fit (first ∷ rest ++ qs) a s

    deeper : (p : Piece) → In p (first ∷ rest) → suc d ≤ p.levels
    deeper p i = let k = in_run d first rest qs a s t l p i (same p i) in omega (arith, k)

    alike : (p q : Piece) → In p (first ∷ rest) → In q (first ∷ rest) → take (suc d) p.places ≡ take (suc d) q.places
    alike p q i j =
        let u = append_left (first ∷ rest) qs p i in
        let v = append_left (first ∷ rest) qs q j in
        same_more d p q (fit p u) (fit q v) (t.deep p u) (t.deep q v) (t.same p q u v) (same p i ∙ sym (same q j))

    above : (q : Piece) (rs : List Piece) → AreApart (first ∷ rest ++ q ∷ rs) → AreSystems (first ∷ rest ++ q ∷ rs) → Together d (first ∷ rest ++ q ∷ rs) → place d q ≢ place d first
        → (r : Piece) → In r (q ∷ rs) → place d first < place d r
    above q rs a s t other r i =
        let fit = are_fit (first ∷ rest ++ q ∷ rs) a s in
        let f : In first (first ∷ rest ++ q ∷ rs) = inl refl in
        let g : In q (first ∷ rest ++ q ∷ rs) = append_right (first ∷ rest) (q ∷ rs) q (inl refl) in
        let less : place d first < place d q =
        elim (pieces_follow d first q (fit first f) (fit q g) (t.deep first f) (t.deep q g) (t.same first q f g) (apart_before (first ∷ rest) (q ∷ rs) first q a (inl refl) (inl refl)))
        as (λ _. place d first < place d q) [
          | inl k ↦ k
          | inr k ↦ absurd (other (sym k.0))
        ] in
        elim i as (λ _. place d first < place d r) [
          | inl k ↦ subst (λ z. place d first < place d z) k less
          | inr j ↦ let h : In r (first ∷ rest ++ q ∷ rs) = append_right (first ∷ rest) (q ∷ rs) r (inr j) in
              elim (pieces_follow d q r (fit q g) (fit r h) (t.deep q g) (t.deep r h) (t.same q r g h) (later_in (places_of q) rs r (apart_back (first ∷ rest) (q ∷ rs) a).2 j))
              as (λ _. place d first < place d r) [
                | inl k ↦ omega (arith, k, less)
                | inr k ↦ omega (arith, k.0, less)
              ]
        ]

    before : (qs : List Piece) → AreApart (first ∷ rest ++ qs) → AreSystems (first ∷ rest ++ qs) → Together d (first ∷ rest ++ qs) → StopsAt d (place d first) qs → AllPrecede d (first ∷ rest) qs
    before [] a s t other p q i j = absurd j
    before (r ∷ rs) a s t other p q i j = inr (subst (λ n. n < place d q) (sym (same p i)) (above r rs a s t other q j))

pub run_ends : (d : ℕ) (p : Piece) (ps : List Piece) → IsRun d (p ∷ ps) → p.levels ≡ d → p ∷ ps ≡ p ∷ []
run_ends d p ps (inl k) l = ap (λ z. p ∷ z) k.1
run_ends d p ps (inr t) l = absurd (omega (arith, t.deep p (inl refl), l))

pub run_goes_on : (d : ℕ) (p : Piece) (ps : List Piece) → IsRun d (p ∷ ps) → p.levels ≢ d → Together (suc d) (p ∷ ps)
run_goes_on d p ps (inl k) l = absurd (l k.0)
run_goes_on d p ps (inr t) l = t
