-- The first of a system's points is the least.
use Rattle.std.proofs.Common.{◌≡◌, ℕ, zero, suc, ◌^◌, ◌<◌, ◌⊎◌, inl, inr, ℤ, pos, negsuc, ◌+ℤ◌, ◌-ℤ◌, ◌≤ℤ◌, ◌<ℤ◌, Bool, true, false, cond, List, [], ◌∷◌, ◌++◌, length, map, Some, refl, sym, ap, ◌∙◌, subst, ⊎_elim, get_or, int_le, arith}
use Rattle.std.specs.List.{flat_map, filter, All}
use Rattle.std.proofs.lemmas.Int.{ints, by_lt_z}
use Rattle.std.proofs.lemmas.List.Elements.{filter-append, All-map}
use Rattle.std.proofs.lemmas.List.{length-map}
use Rattle.ch_affine.specs.declared.system.Range.{Range}
use Rattle.ch_affine.specs.Form.{Form}
use Rattle.ch_affine.specs.Affine.{value, IsAtMost}
use Rattle.ch_affine.specs.Rows.{Rows, IsSystem, IsBox, all_hold}
use Rattle.std.proofs.lemmas.List.Sums.{AllPass-from_list_all, list_all-from_AllPass}
use Rattle.ch_poly.specs.Points.{upwards, natural, box_points, first, points}
use Rattle.ch_poly.specs.Boxes.{at, Within, IsBoxed}
use Rattle.ch_poly.specs.Goals.{NotAfter, Reaches, IsLeast, IsEmpty}

abbrev pub InBox : List Range → List ℤ → Type 0
InBox [] [] = Unit {0}
InBox [] (x ∷ p) = ⊥
InBox (b ∷ bs) [] = ⊥
InBox (b ∷ bs) (x ∷ p) = (b.low ≤ℤ x) × (x ≤ℤ b.high) × InBox bs p

abbrev pub under : List Range → ℕ → ℤ → List (List ℤ)
under bs n low = flat_map (λ x. map (λ p. x ∷ p) (box_points bs)) (upwards n low)

pub cons_case : (b : Bool) (x : ℤ) (p : List ℤ) (qs rs : List (List ℤ)) → qs ≡ map (λ p. x ∷ p) rs → cond b ((x ∷ p) ∷ qs) qs ≡ map (λ p. x ∷ p) (cond b (p ∷ rs) rs)
cons_case true x p qs rs e = ap (λ q. (x ∷ p) ∷ q) e
cons_case false x p qs rs e = e

pub filter_cons : (test : List ℤ → Bool) (x : ℤ) (ps : List (List ℤ)) → filter test (map (λ p. x ∷ p) ps) ≡ map (λ p. x ∷ p) (filter (λ p. test (x ∷ p)) ps)
filter_cons test x [] = refl
filter_cons test x (p ∷ ps) = cons_case (test (x ∷ p)) x p _ _ (filter_cons test x ps)

pub none_from : (test : List ℤ → Bool) (bs : List Range) (n : ℕ) (low : ℤ) → ((x : ℤ) → low ≤ℤ x → x <ℤ (low +ℤ pos n) → filter (λ p. test (x ∷ p)) (box_points bs) ≡ [])
    → filter test (under bs n low) ≡ []
none_from test bs zero low none = refl
none_from test bs (suc n) low none =
    let here = none low (omega (arith, ints)) (omega (arith, ints)) in
    let more = none_from test bs n (low +ℤ pos 1) (λ x l h. none x (omega (arith, ints)) (omega (arith, ints))) in
    filter-append test (map (λ p. low ∷ p) (box_points bs)) (under bs n (low +ℤ pos 1))
    ∙ ap (λ q. q ++ filter test (under bs n (low +ℤ pos 1))) (filter_cons test low (box_points bs) ∙ ap (map (λ p. low ∷ p)) here) ∙ more

pub first_join : (x : ℤ) (p : List ℤ) (qs rs : List (List ℤ)) → first qs ≡ Some p → first (map (λ q. x ∷ q) qs ++ rs) ≡ Some (x ∷ p)
first_join x p [] rs e = cc
first_join x p (q ∷ qs) rs e = (let f : q ≡ p = cc in ap (λ r. Some (x ∷ r)) f)

pub first_from : (test : List ℤ → Bool) (bs : List Range) (n : ℕ) (low x : ℤ) (p : List ℤ) → low ≤ℤ x → x <ℤ (low +ℤ pos n)
    → ((y : ℤ) → low ≤ℤ y → y <ℤ x → filter (λ q. test (y ∷ q)) (box_points bs) ≡ []) → first (filter (λ q. test (x ∷ q)) (box_points bs)) ≡ Some p
    → first (filter test (under bs n low)) ≡ Some (x ∷ p)
first_from test bs zero low x p l h none e = absurd (omega (arith, ints))
first_from test bs (suc n) low x p l h none e =
    let cut = filter-append test (map (λ p. low ∷ p) (box_points bs)) (under bs n (low +ℤ pos 1))
    ∙ ap (λ q. q ++ filter test (under bs n (low +ℤ pos 1))) (filter_cons test low (box_points bs)) in
    by_lt_z low x
    (λ less. (let more = first_from test bs n (low +ℤ pos 1) x p (omega (arith, ints)) (omega (arith, ints)) (λ y a b. none y (omega (arith, ints)) b) e in
    ap first (cut ∙ ap (λ q. map (λ p. low ∷ p) q ++ filter test (under bs n (low +ℤ pos 1))) (none low (omega (arith, ints)) less)) ∙ more))
    (λ more. (let s : x ≡ low = omega (arith, ints) in
    let P : ℤ → Type 0 = λ z. first (filter (λ q. test (z ∷ q)) (box_points bs)) ≡ Some p in
    ap first cut ∙ first_join low p _ _ (subst P s e) ∙ ap (λ z. Some (z ∷ p)) (sym s)))

abbrev pub only_nil : List (List ℤ)
only_nil = [] ∷ []

pub none_nil : (b : Bool) → (b ≡ true → ⊥) → cond b only_nil [] ≡ []
none_nil true n = absurd (n refl)
none_nil false n = refl

pub natural_is : (z : ℤ) → (pos (natural z) ≡ z) ⊎ ((natural z ≡ 0) × (z ≤ℤ pos 0))
natural_is (pos n) = inl refl
natural_is (negsuc n) = inr (refl, omega (arith, ints))

pub count_within : (low high x : ℤ) → low ≤ℤ x → x <ℤ (low +ℤ pos (natural ((high +ℤ pos 1) -ℤ low))) → x ≤ℤ high
count_within low high x l h = elim (natural_is ((high +ℤ pos 1) -ℤ low)) [ inl e ↦ omega (arith, ints, e) | inr e ↦ omega (arith, ints, e.0, e.1) ]

pub count_reaches : (low high x : ℤ) → low ≤ℤ x → x ≤ℤ high → x <ℤ (low +ℤ pos (natural ((high +ℤ pos 1) -ℤ low)))
count_reaches low high x l h = elim (natural_is ((high +ℤ pos 1) -ℤ low)) [ inl e ↦ omega (arith, ints, e) | inr e ↦ omega (arith, ints, e.0, e.1) ]

pub none_all : (boxes : List Range) (test : List ℤ → Bool) → ((p : List ℤ) → InBox boxes p → test p ≡ true → ⊥) → filter test (box_points boxes) ≡ []
none_all [] test none = none_nil (test []) (none [] tt)
none_all (b ∷ bs) test none =
    none_from test bs (natural ((b.high +ℤ pos 1) -ℤ b.low)) b.low (λ x l h. none_all bs (λ p. test (x ∷ p)) (λ p i t. none (x ∷ p) (l, count_within b.low b.high x l h, i) t))

pub first_all : (boxes : List Range) (test : List ℤ → Bool) (p : List ℤ) → InBox boxes p → test p ≡ true → ((q : List ℤ) → InBox boxes q → test q ≡ true → NotAfter p q)
    → first (filter test (box_points boxes)) ≡ Some p
first_all [] test [] i t least = ap (λ b. first (cond b only_nil [])) t
first_all [] test (x ∷ p) i t least = absurd i
first_all (b ∷ bs) test [] i t least = absurd i
first_all (b ∷ bs) test (x ∷ p) i t least =
    first_from test bs (natural ((b.high +ℤ pos 1) -ℤ b.low)) b.low x p i.0 (count_reaches b.low b.high x i.0 i.1)
    (λ y l h. none_all bs (λ q. test (y ∷ q)) (λ q j u. ⊎_elim (λ less. omega (arith, ints, less)) (λ same. omega (arith, ints, same.0)) (least (y ∷ q) (l, omega (arith, ints, i.1), j) u)))
    (first_all bs (λ q. test (x ∷ q)) p i.2 t
    (λ q j u. ⊎_elim (λ less. absurd (omega (arith, ints, less))) (λ same. same.1) (least (x ∷ q) (i.0, i.1, j) u)))

pub low_cons : (b : Range) (bs : List Range) (x : ℤ) (p : List ℤ) → b.low ≤ℤ x → ((k : ℕ) → k < length (map (λ (c : Range). c.low) bs) → at (map (λ (c : Range). c.low) bs) k ≤ℤ at p k)
    → (k : ℕ) → k < suc (length (map (λ (c : Range). c.low) bs)) → at (b.low ∷ map (λ (c : Range). c.low) bs) k ≤ℤ at (x ∷ p) k
low_cons b bs x p h r zero lt = h
low_cons b bs x p h r (suc k) lt = r k (omega arith)

pub high_cons : (b : Range) (bs : List Range) (x : ℤ) (p : List ℤ) → x ≤ℤ b.high → ((k : ℕ) → k < length (map (λ (c : Range). c.low) bs) → at p k ≤ℤ at (map (λ (c : Range). c.high) bs) k)
    → (k : ℕ) → k < suc (length (map (λ (c : Range). c.low) bs)) → at (x ∷ p) k ≤ℤ at (b.high ∷ map (λ (c : Range). c.high) bs) k
high_cons b bs x p h r zero lt = h
high_cons b bs x p h r (suc k) lt = r k (omega arith)

pub le_true : (v : ℤ) → pos 0 ≤ℤ v → int_le (pos 0) v ≡ true
le_true v h = grind (arith, ints)

pub true_le : (v : ℤ) → int_le (pos 0) v ≡ true → pos 0 ≤ℤ v
true_le v h = grind (arith, ints)

abbrev pub lows_of : List Range → List ℤ
lows_of boxes = map (λ b. b.low) boxes

abbrev pub highs_of : List Range → List ℤ
highs_of boxes = map (λ b. b.high) boxes

pub to_within : (boxes : List Range) (p : List ℤ) → InBox boxes p → Within (lows_of boxes) (highs_of boxes) p
to_within [] [] i = record { same = refl; low = λ k lt. absurd (omega arith); high = λ k lt. absurd (omega arith) }
to_within [] (x ∷ p) i = absurd i
to_within (b ∷ bs) [] i = absurd i
to_within (b ∷ bs) (x ∷ p) i =
    let r = to_within bs p i.2 in
    record { same = ap suc r.same; low = low_cons b bs x p i.0 r.low; high = high_cons b bs x p i.1 r.high }

pub from_within : (boxes : List Range) (p : List ℤ) → Within (lows_of boxes) (highs_of boxes) p → InBox boxes p
from_within [] [] w = tt
from_within [] (x ∷ p) w = absurd (omega (arith, w.same))
from_within (b ∷ bs) [] w = absurd (omega (arith, w.same))
from_within (b ∷ bs) (x ∷ p) w = (
  w.low 0 (omega arith),
  w.high 0 (omega arith),
  from_within bs p (record { same = omega (arith, w.same); low = λ k lt. w.low (suc k) (omega arith); high = λ k lt. w.high (suc k) (omega arith) }),
)

pub holds_true : (rows : List Form) (p : List ℤ) → Reaches (pos 0) rows p → all_hold rows p ≡ true
holds_true rows p h = list_all-from_AllPass (λ f. int_le (pos 0) (value f p)) rows (λ k d lt. le_true (value (get_or rows k d) p) (h.each k d lt))

pub true_holds : (rows : List Form) (p : List ℤ) → all_hold rows p ≡ true → Reaches (pos 0) rows p
true_holds rows p t =
    let a = AllPass-from_list_all (λ f. int_le (pos 0) (value f p)) rows t in
    record { each = λ k d lt. true_le (value (get_or rows k d) p) (a k d lt) }

pub least_is_first : (s : Rows) (p : List ℤ) → IsLeast (Reaches (pos 0) s.rows) (lows_of s.boxes) (highs_of s.boxes) p → first (points s) ≡ Some p
least_is_first s p m =
    first_all s.boxes (all_hold s.rows) p (from_within s.boxes p m.within) (holds_true s.rows p m.holds)
    (λ q i t. m.least q (to_within s.boxes q i) (true_holds s.rows q t))

pub empty_is_none : (s : Rows) → IsEmpty (Reaches (pos 0) s.rows) (lows_of s.boxes) (highs_of s.boxes) → points s ≡ []
empty_is_none s e = none_all s.boxes (all_hold s.rows) (λ p i t. e.none p (to_within s.boxes p i) (true_holds s.rows p t))

pub some_at : (boxes : List Range) → All IsBox boxes → (k : ℕ) → k < length boxes → at (lows_of boxes) k ≤ℤ at (highs_of boxes) k
some_at [] a k lt = absurd (omega arith)
some_at (b ∷ bs) a zero lt = (a 0 b (omega arith)).some
some_at (b ∷ bs) a (suc k) lt = some_at bs (λ j d lj. a (suc j) d (omega arith)) k (omega arith)

pub boxes_boxed : (s : Rows) → IsSystem s → IsBoxed (lows_of s.boxes) (highs_of s.boxes)
boxes_boxed s i = record {
  few = rw length-map (omega (arith, i.few, i.boxes));
  same = simp length-map;
  low_small = All-map (IsAtMost (2 ^ 54)) (λ (b : Range). b.low) s.boxes (λ k d lt. (i.each k d lt).low);
  high_small = All-map (IsAtMost (2 ^ 54)) (λ (b : Range). b.high) s.boxes (λ k d lt. (i.each k d lt).high);
  some = λ k lt. some_at s.boxes i.each k (simp length-map at lt);
}

pub nil_left : {A : Type 0} (xs ys : List A) → xs ++ ys ≡ [] → xs ≡ []
nil_left [] ys e = refl
nil_left (x ∷ xs) ys e = cc

pub nil_right : {A : Type 0} (xs ys : List A) → xs ++ ys ≡ [] → ys ≡ []
nil_right [] ys e = e
nil_right (x ∷ xs) ys e = cc

pub map_nil : (x : ℤ) (ps : List (List ℤ)) → map (λ p. x ∷ p) ps ≡ [] → ps ≡ []
map_nil x [] e = refl
map_nil x (p ∷ ps) e = cc

pub some_from : (test : List ℤ → Bool) (bs : List Range) (n : ℕ) (low x : ℤ) → low ≤ℤ x → x <ℤ (low +ℤ pos n) → (filter (λ q. test (x ∷ q)) (box_points bs) ≡ [] → ⊥)
    → filter test (under bs n low) ≡ [] → ⊥
some_from test bs zero low x l h some e = omega (arith, ints)
some_from test bs (suc n) low x l h some e =
    let both = sym (filter-append test (map (λ p. low ∷ p) (box_points bs)) (under bs n (low +ℤ pos 1))) ∙ e in
    let here = sym (filter_cons test low (box_points bs)) ∙ nil_left _ _ both in
    by_lt_z low x
    (λ less. some_from test bs n (low +ℤ pos 1) x (omega (arith, ints)) (omega (arith, ints)) some (nil_right _ _ both))
    (λ more. (let s : x ≡ low = omega (arith, ints) in
    let P : ℤ → Type 0 = λ z. filter (λ q. test (z ∷ q)) (box_points bs) ≡ [] in
    some (subst P (sym s) (map_nil low _ here))))

pub some_nil : (b : Bool) → b ≡ true → cond b only_nil [] ≡ [] → ⊥
some_nil true t e = cc
some_nil false t e = cc

pub some_all : (boxes : List Range) (test : List ℤ → Bool) (p : List ℤ) → InBox boxes p → test p ≡ true → filter test (box_points boxes) ≡ [] → ⊥
some_all [] test [] i t e = some_nil (test []) t e
some_all [] test (x ∷ p) i t e = i
some_all (b ∷ bs) test [] i t e = i
some_all (b ∷ bs) test (x ∷ p) i t e =
    some_from test bs (natural ((b.high +ℤ pos 1) -ℤ b.low)) b.low x i.0 (count_reaches b.low b.high x i.0 i.1) (some_all bs (λ q. test (x ∷ q)) p i.2 t) e

pub none_is_empty : (s : Rows) → points s ≡ [] → IsEmpty (Reaches (pos 0) s.rows) (lows_of s.boxes) (highs_of s.boxes)
none_is_empty s e = record { none = λ p w h. some_all s.boxes (all_hold s.rows) p (from_within s.boxes p w) (holds_true s.rows p h) e }
