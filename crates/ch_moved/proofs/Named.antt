-- Which pieces the arguments of a command mean.
use Rattle.std.proofs.Common.{◌≡◌, refl, sym, ap, ap₂, ◌∙◌, subst, ℕ, zero, suc, ◌+◌, ◌<◌, ◌≤◌, ℤ, pos, negsuc, ◌≤ℤ◌, int_le, Bool, true, false, ◌&&◌, ◌||◌, Option, Some, None, List, [], ◌∷◌, map, length, get_or, cond, ltb, inl, inr, arith}
use Rattle.std.specs.List.{list_any, range_with_len}
use Rattle.std.specs.Ordering.{int_cmp, int_eq}
use Rattle.std.specs.declared.cmp.Ordering.TheVariants.{Less}
use Rattle.std.specs.Cmp.Lexicographic.{slice_cmp}
use Rattle.std.proofs.lemmas.Bool.{and_parts, both_ways, cases_lt, or_cases}
use Rattle.std.proofs.lemmas.Int.{ints}
use Rattle.std.proofs.lemmas.List.{length-map}
use Rattle.ch_moved.specs.Arguments.{depth, has_level, is_named, is_piece, natural}
use Rattle.ch_moved.specs.Causes.{first_failing, no_level, unshared}
use Rattle.ch_nest.specs.declared.cause.Shape.{Shape}
use Rattle.ch_space.specs.declared.piece.Piece.{Piece}
use Rattle.ch_space.specs.Keeps.{AreApart, IsWhole, places_of}
use Rattle.ch_space.specs.Members.{group}
use Rattle.ch_space.specs.Pieces.{listed}
use Rattle.ch_space.proofs.Membership.{filter_in}
use Rattle.ch_space.proofs.PieceElements.{later_in, never, whole_in}
use Rattle.ch_space.proofs.PieceNumbers.{how_many, lists_same, nth_in, nth_places, same_lists}
use Rattle.ch_timed.specs.Groups.{in_group, piece}
use Rattle.ch_timed.specs.Members.{In}
use Rattle.ch_timed.specs.Timed.{pieces}
use Rattle.ch_timed.specs.Vectors.{same_numbers, shares}
use Rattle.ch_timed.specs.declared.element.Element.{Element}
use Rattle.ch_timed.proofs.Orders.{map_in}

-- which pieces

pub item_at : (ps : List Piece) (k : ℕ) (p : Piece) → k < length ps → p ≡ get_or ps k p → In p ps
item_at ps k p l e = subst (λ z. In z ps) (sym e) (nth_in ps k p l)

pub item_whole : (ps : List Piece) (k : ℕ) (p : Piece) → AreApart ps → k < length ps → p ≡ get_or ps k p → IsWhole p
item_whole ps k p a l e = whole_in ps p a (item_at ps k p l e)

apart_less : (ps : List Piece) (j k : ℕ) (d : Piece) → AreApart ps → j < k → k < length ps → slice_cmp int_cmp (places_of (get_or ps j d)) (places_of (get_or ps k d)) ≡ Less
apart_less [] j k d a l h = absurd (omega arith)
apart_less (p ∷ ps) j zero d a l h = absurd (omega arith)
apart_less (p ∷ ps) zero (suc k) d a l h = later_in (places_of p) ps (get_or ps k d) a.2 (nth_in ps k d (omega arith))
apart_less (p ∷ ps) (suc j) (suc k) d a l h = apart_less ps j k d a.3 (omega arith) (omega arith)

same_number : (ps : List Piece) (j k : ℕ) (d : Piece) → AreApart ps → j < length ps → k < length ps → places_of (get_or ps j d) ≡ places_of (get_or ps k d) → j ≡ k
same_number ps j k d a l h e = elim (cases_lt j k) [
  | inl m ↦ absurd (never _ _ (apart_less ps j k d a m h) e)
  | inr m ↦ elim (cases_lt k j) [
    | inl n ↦ absurd (never _ _ (apart_less ps k j d a n l) (sym e))
    | inr n ↦ omega arith
  ]
]

-- the pieces that numbers name

unequal : (k m : ℕ) → (m ≡ k → ⊥) → int_eq (pos k) (pos m) ≡ false
unequal k m h = elim (cases_lt k m) [
  | inl a ↦ grind (arith, ints)
  | inr a ↦ elim (cases_lt m k) [ inl b ↦ grind (arith, ints) | inr b ↦ absurd (h (omega arith)) ]
]

one_named : (ps : List Piece) (k : ℕ) (d : Piece) (s : ℤ) → AreApart ps → k < length ps
    → (is_piece (listed ps) s && same_numbers (piece (listed ps) (natural s)) (places_of (get_or ps k d))) ≡ int_eq (pos k) s
one_named ps k d (negsuc m) a l = grind (arith, ints)
one_named ps k d (pos m) a l = elim (cases_lt m (length ps)) as (λ _. (ltb m (length (pieces (listed ps))) && same_numbers (piece (listed ps) m) (places_of (get_or ps k d))) ≡ int_eq (pos k) (pos m)) [
  | inl h ↦
      let n = how_many ps a in
      let t : ltb m (length (pieces (listed ps))) ≡ true = grind arith in
      let at = nth_places ps m d a h in
      rw t (by (same_numbers (piece (listed ps) m) (places_of (get_or ps k d))) refl h at)
  | inr h ↦
      let n = how_many ps a in
      let t : ltb m (length (pieces (listed ps))) ≡ false = grind arith in
      rw t (apart_numbers (omega arith))
]
  where
    apart_numbers : k < m → false ≡ int_eq (pos k) (pos m)
    apart_numbers h = grind (arith, ints)

    by : (b : Bool) → same_numbers (piece (listed ps) m) (places_of (get_or ps k d)) ≡ b → m < length ps → piece (listed ps) m ≡ places_of (get_or ps m d)
        → same_numbers (piece (listed ps) m) (places_of (get_or ps k d)) ≡ int_eq (pos k) (pos m)
    by true e h at = let f : m ≡ k = same_number ps m k d a h l (sym at ∙ same_lists _ _ e) in e ∙ grind (arith, ints)
    by false e h at = e ∙ sym (unequal k m (λ f. both_ways _ e (lists_same _ _ (at ∙ ap (λ j. places_of (get_or ps j d)) f))))

pub named_is : (ps : List Piece) (k : ℕ) (d : Piece) (numbers : List ℤ) → AreApart ps → k < length ps → list_any (int_eq (pos k)) numbers ≡ is_named (listed ps) numbers (places_of (get_or ps k d))
named_is ps k d [] a l = refl
named_is ps k d (s ∷ ss) a l = ap₂ (λ x y. x || y) (sym (one_named ps k d s a l)) (named_is ps k d ss a l)

same_ints : (x y : ℤ) → int_eq x y ≡ true → x ≡ y
same_ints x y t = grind (arith, ints)

le_from : (x y : ℤ) → int_le x y ≡ true → x ≤ℤ y
le_from x y e = grind (arith, ints)

any_of : (k : ℕ) (numbers : List ℤ) → list_any (int_eq (pos k)) numbers ≡ true → In (pos k) numbers
any_of k [] e = absurd (both_ways _ refl e)
any_of k (s ∷ ss) e = elim (or_cases (int_eq (pos k) s) _ e) [ inl f ↦ inl (sym (same_ints (pos k) s f)) | inr f ↦ inr (any_of k ss f) ]

unfailing : (b : Bool) (c : Shape) (rest : Option Shape) → cond b rest (Some c) ≡ None → (b ≡ true) × (rest ≡ None)
unfailing true c rest e = (refl, e)
unfailing false c rest e = cc

level_of : (list : List Element) (numbers : List ℤ) (level s : ℤ) → no_level list numbers level ≡ None → In s numbers → has_level list level s ≡ true
level_of list [] level s e i = absurd i
level_of list (t ∷ ts) level s e i =
    let r = unfailing (has_level list level t) _ (no_level list ts level) e in
    elim i as (λ _. has_level list level s ≡ true) [
      | inl k ↦ subst (λ z. has_level list level z ≡ true) k r.0
      | inr j ↦ level_of list ts level s r.1 j
    ]

pub is_deep : (ps : List Piece) (k : ℕ) (p : Piece) (numbers : List ℤ) (level : ℤ) → AreApart ps → k < length ps → p ≡ get_or ps k p → no_level (listed ps) numbers level ≡ None
    → list_any (int_eq (pos k)) numbers ≡ true → (pos 1 ≤ℤ level) × (level ≤ℤ pos p.levels)
is_deep ps k p numbers level a l e n t =
    let h = level_of (listed ps) numbers level (pos k) n (any_of k numbers t) in
    let b = and_parts (int_le (pos 1) level) (int_le level (pos (depth (listed ps) (pos k)))) h in
    let at : piece (listed ps) k ≡ places_of p = nth_places ps k p a l ∙ ap places_of (sym e) in
    let m = ap length at ∙ length-map p.places pos ∙ (item_whole ps k p a l e).places in
    let d : depth (listed ps) (pos k) ≡ p.levels = omega arith in
    (le_from (pos 1) level b.0, subst (λ n. level ≤ℤ pos n) d (le_from level (pos (depth (listed ps) (pos k))) b.1))

pub passes : (code : ℕ) (holds : ℤ → Bool) (xs : List ℤ) (x : ℤ) → first_failing code holds xs ≡ None → In x xs → holds x ≡ true
passes code holds [] x e i = absurd i
passes code holds (y ∷ ys) x e i =
    let r = unfailing (holds y) _ (first_failing code holds ys) e in
    elim i as (λ _. holds x ≡ true) [
      | inl k ↦ subst (λ z. holds z ≡ true) k r.0
      | inr j ↦ passes code holds ys x r.1 j
    ]

pub range_has : (n a k : ℕ) → k < n → In (a + k) (range_with_len a n)
range_has zero a k l = absurd (omega arith)
range_has (suc n) a zero l = inl (omega arith)
range_has (suc n) a (suc k) l = inr (let e : a + suc k ≡ (a + 1) + k = omega arith in subst (λ m. In m (range_with_len (a + 1) n)) (sym e) (range_has n (a + 1) k (omega arith)))

pub deep_enough : (level : ℕ) (ours : List ℤ) (p : Piece) → IsWhole p → shares level ours (places_of p) ≡ true → level ≤ p.levels
deep_enough level ours p w e =
    let a = and_parts (ltb level (length ours) && ltb level (length (places_of p))) _ e in
    let b = (and_parts (ltb level (length ours)) (ltb level (length (places_of p))) a.0).1 in
    let c : level < length (places_of p) = grind arith in
    let n = length-map p.places pos ∙ w.places in
    omega arith

-- where none fails, the pieces of the group of level `first` share level `last` too
pub shares_last : (ps : List Piece) (s k first last : ℕ) (p : Piece) → AreApart ps → k < length ps → p ≡ get_or ps k p → unshared (listed ps) s first last ≡ None
    → in_group (listed ps) s first (places_of p) ≡ true → in_group (listed ps) s last (places_of p) ≡ true
shares_last ps s k first last p a l e u i =
    let at : piece (listed ps) k ≡ places_of p = nth_places ps k p a l ∙ ap places_of (sym e) in
    let n = how_many ps a in
    let r : In k (range_with_len 0 (length (pieces (listed ps)))) = subst (λ j. In j (range_with_len 0 (length (pieces (listed ps))))) (omega arith) (range_has (length (pieces (listed ps))) 0 k (omega arith)) in
    let g : In k (group (listed ps) s first) =
    filter_in (λ j. in_group (listed ps) s first (piece (listed ps) j)) (range_with_len 0 (length (pieces (listed ps)))) k r (ap (in_group (listed ps) s first) at ∙ i) in
    ap (in_group (listed ps) s last) (sym at)
    ∙ passes 5 (λ j. in_group (listed ps) s last (piece (listed ps) (natural j))) (map pos (group (listed ps) s first)) (pos k) u (map_in pos (group (listed ps) s first) k g)
