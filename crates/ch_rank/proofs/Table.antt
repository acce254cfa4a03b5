-- The table from a point's number to its mark, and what one more trial changes.
use Rattle.std.proofs.Common.{◌≡◌, ◌≢◌, ℕ, zero, suc, ◌+◌, ◌<◌, ◌≤◌, Bool, true, false, eqb, nat_lt, ◌||◌, List, [], ◌∷◌, ◌++◌, length, map, take, set, get_or, sym, refl, ap, ap₂, ◌∙◌, subst, arith, length-append, ◌⊎◌, inl, inr}
use Rattle.std.proofs.lemmas.Bool.Decides.{nat_tests}
use Rattle.std.proofs.lemmas.List.{get_or-set_same, get_or-set_other, get_or_default}
use Rattle.std.proofs.Math.ListN.{length-set}
use Rattle.std.proofs.lemmas.List.Elements.{All-head, All-tail, All-append, All-cons, All-nil}
use Rattle.std.proofs.lemmas.Map.Steps.{length-le_from_distinct_below}
use Rattle.std.specs.List.{list_any, All, IsDistinct, AllByRecursion}
use Rattle.ch_grid.specs.Points.{count, is_point, number}
use Rattle.ch_grid.proofs.PointNumbers.{one_to_one, number_below, same_length}
use Rattle.ch_rank.specs.Moves.{Point, same_point}
use Rattle.ch_rank.specs.Trials.{mark, with_point, AreTrials, Listed}
use Rattle.ch_rank.proofs.Marks.{same_self, same_is, same_sym, listed_mark, mark_new, mark_other, with_new, with_old}

abbrev pub InGrid : List ℕ → Point → Type 0
InGrid sizes p = is_point sizes p ≡ true

differ : (x y : ℕ) → (x ≡ y → ⊥) → eqb x y ≡ false
differ x y h = grind (arith, nat_tests)

not_both : (b : Bool) → b ≡ false → b ≡ true → ⊥
not_both b p q = cc

either : (b : Bool) → (b ≡ true → ⊥) → b ≡ false
either true f = absurd (f refl)
either false f = refl

numbers_apart : (sizes : List ℕ) (p : Point) (ps : List Point) → InGrid sizes p → All (InGrid sizes) ps → AllByRecursion (λ q. same_point p q ≡ false) ps → AllByRecursion (λ m. eqb (number sizes p) m ≡ false) (map (number sizes) ps)
numbers_apart sizes p [] g a h = tt
numbers_apart sizes p (q ∷ qs) g a h = (
  differ (number sizes p) (number sizes q) (λ e. not_both (same_point p q) h.0 (subst (λ (r : Point). same_point p r ≡ true) (one_to_one sizes p q g (All-head (InGrid sizes) q qs a) e) (same_self p))),
  numbers_apart sizes p qs g (All-tail (InGrid sizes) q qs a) h.1,
)

numbers_distinct : (sizes : List ℕ) (ps : List Point) → All (InGrid sizes) ps → IsDistinct same_point ps → IsDistinct eqb (map (number sizes) ps)
unfolding IsDistinct
numbers_distinct sizes [] a d = tt
numbers_distinct sizes (p ∷ ps) a d = (
  numbers_apart sizes p ps (All-head (InGrid sizes) p ps a) (All-tail (InGrid sizes) p ps a) d.0,
  numbers_distinct sizes ps (All-tail (InGrid sizes) p ps a) d.1,
)

found_case : (b l : Bool) (q m n : ℕ) → (b || l) ≡ true → (b ≡ true → q ≡ m) → m < n → (l ≡ true → q < n) → q < n
found_case true l q m n h f lt g = let e = f refl in omega arith
found_case false l q m n h f lt g = g h

equal_of : (x y : ℕ) → eqb x y ≡ true → x ≡ y
equal_of x y h = grind (arith, nat_tests)

numbers_below : (sizes : List ℕ) (ps : List Point) → All (InGrid sizes) ps → (q : ℕ) → list_any (eqb q) (map (number sizes) ps) ≡ true → q < count sizes
numbers_below sizes [] a q h = absurd (cc)
numbers_below sizes (p ∷ ps) a q h =
    found_case (eqb q (number sizes p)) (list_any (eqb q) (map (number sizes) ps)) q (number sizes p) (count sizes) h (equal_of q (number sizes p))
    (number_below sizes p (All-head (InGrid sizes) p ps a)) (numbers_below sizes ps (All-tail (InGrid sizes) p ps a) q)

length_map : (sizes : List ℕ) (ps : List Point) → length (map (number sizes) ps) ≡ length ps
length_map sizes [] = refl
length_map sizes (p ∷ ps) = ap (λ n. suc n) (length_map sizes ps)

-- there are at most as many trials as points
pub few_trials : (sizes : List ℕ) (ps : List Point) → All (InGrid sizes) ps → IsDistinct same_point ps → length ps ≤ count sizes
few_trials sizes ps a d =
    let l = length-le_from_distinct_below (map (number sizes) ps) (count sizes) (numbers_distinct sizes ps a d) (numbers_below sizes ps a) in
    omega (arith, l, length_map sizes ps)

-- a point that is in no trial can be added
pub apart_push : (ps : List Point) (p : Point) → IsDistinct same_point ps → list_any (same_point p) ps ≡ false → IsDistinct same_point (ps ++ p ∷ [])
unfolding IsDistinct
apart_push [] p d h = (tt, tt)
apart_push (q ∷ qs) p d h =
    let s : same_point q p ≡ false = same_sym q p ∙ left_false (same_point p q) (list_any (same_point p) qs) h in
    (all_push q p qs d.0 s, apart_push qs p d.1 (right_false (same_point p q) (list_any (same_point p) qs) h))
  where
    left_false : (a b : Bool) → (a || b) ≡ false → a ≡ false
    left_false true b h = absurd (cc)
    left_false false b h = refl

    right_false : (a b : Bool) → (a || b) ≡ false → b ≡ false
    right_false true b h = absurd (cc)
    right_false false b h = h

    all_push : (q p : Point) (qs : List Point) → AllByRecursion (λ r. same_point q r ≡ false) qs → same_point q p ≡ false → AllByRecursion (λ r. same_point q r ≡ false) (qs ++ p ∷ [])
    all_push q p [] a s = (s, tt)
    all_push q p (r ∷ rs) a s = (a.0, all_push q p rs a.1 s)

unlisted : (ps : List Point) (p : Point) → mark ps p ≡ 0 → list_any (same_point p) ps ≡ false
unlisted ps p e = listed_mark 0 ps p ∙ ap (λ m. nat_lt 0 m) e

module _ (sizes : List ℕ) (ps : List Point) (table : List ℕ) (cap : ℕ) (t : AreTrials sizes ps table cap) (p : Point) (g : is_point sizes p ≡ true) where
  new_in_grid : All (InGrid sizes) (ps ++ p ∷ [])
  new_in_grid = All-append (InGrid sizes) ps (p ∷ []) t.in_grid (All-cons (InGrid sizes) p [] g (All-nil (InGrid sizes)))

  pub room_left : mark ps p ≡ 0 → length ps + 1 ≤ count sizes
  room_left e = let l = few_trials sizes (ps ++ p ∷ []) new_in_grid (apart_push ps p t.apart (unlisted ps p e)) in omega (arith, l, length-append ps (p ∷ []))

  cell_case : (q : Point) → is_point sizes q ≡ true → mark ps p ≡ 0 → (number sizes q ≡ number sizes p) ⊎ (number sizes q ≢ number sizes p) → get_or (set table (number sizes p) (length ps + 1)) (number sizes q) 0 ≡ mark (ps ++ p ∷ []) q
  cell_case q h e (inl same) =
      let one : q ≡ p = one_to_one sizes q p h g same in
      let b = number_below sizes p g in
      let lt : number sizes p < length table = omega (arith, b, t.is_table.long) in
      let s : get_or (set table (number sizes p) (length ps + 1)) (number sizes p) 0 ≡ length ps + 1 = get_or-set_same table (number sizes p) (length ps + 1) 0 lt in
      let m : mark (ps ++ p ∷ []) p ≡ 0 + length ps + 1 = mark_new 0 ps p e in
      subst (λ (r : Point). get_or (set table (number sizes p) (length ps + 1)) (number sizes r) 0 ≡ mark (ps ++ p ∷ []) r) (sym one) (s ∙ sym (m ∙ (omega arith)))
  cell_case q h e (inr other) =
      let apart : same_point p q ≡ false = either (same_point p q) (λ s. other (ap (number sizes) (sym (same_is p q s)))) in
      get_or-set_other table (number sizes p) (number sizes q) (length ps + 1) 0 other ∙ (t.is_table.each q h ∙ sym (mark_other 0 ps q p apart))

  cases_equal : (x y : ℕ) → (x ≡ y) ⊎ (x ≢ y)
  cases_equal x y = grind (arith, nat_tests)

  pub with_trial : mark ps p ≡ 0 → AreTrials sizes (ps ++ p ∷ []) (set table (number sizes p) (length ps + 1)) cap
  with_trial e = record {
    dims = t.dims;
    few = t.few;
    some = t.some;
    in_grid = new_in_grid;
    apart = apart_push ps p t.apart (unlisted ps p e);
    room = t.room;
    is_table = record {
      long = length-set table (number sizes p) (length ps + 1) ∙ t.is_table.long;
      each = λ q h. cell_case q h e (cases_equal (number sizes q) (number sizes p));
    };
  }

module _ (k : ℕ) where
  -- the points as they are stored, with zeros after each
  abbrev pub shown : List (List ℕ) → List Point
  shown rows = map (take k) rows

  pub shown_push : (rows : List (List ℕ)) (row : List ℕ) → shown (rows ++ row ∷ []) ≡ shown rows ++ take k row ∷ []
  shown_push [] row = refl
  shown_push (r ∷ rows) row = ap (λ v. take k r ∷ v) (shown_push rows row)

pub old_point : (ps : List Point) (p : Point) (m : ℕ) → m ≡ mark ps p → 0 < m → ps ≡ with_point ps p
old_point ps p zero e h = absurd (omega arith)
old_point ps p (suc t) e h = sym (with_old ps p t (sym e))

pub new_point : (ps : List Point) (p : Point) (m : ℕ) → m ≡ mark ps p → m ≤ 0 → ps ++ p ∷ [] ≡ with_point ps p
new_point ps p m e h = sym (with_new ps p (sym e ∙ (omega arith)))

-- what a call of `enlist` knows
pub record Called (sizes : List ℕ) (ps : List Point) (p : Point) (place m : ℕ) : Type 0 where
  pub in_grid : is_point sizes p ≡ true
  pub place_is : place ≡ number sizes p
  pub mark_is : m ≡ mark ps p
  pub dims : length p ≤ 6
  pub same : length sizes ≡ length p

pub called : (sizes : List ℕ) (ps : List Point) (table : List ℕ) (cap : ℕ) (now : Listed) (p : Point) (slice : List ℕ) (place m : ℕ) →
    AreTrials sizes ps table cap → record { sizes = sizes; points = ps } ≡ now → is_point now.sizes p ≡ true → slice ≡ sizes → place ≡ number slice p → m ≡ get_or table place m → Called sizes ps p place m
called sizes ps table cap now p slice place m t v g d f i =
    let g' : is_point sizes p ≡ true = subst (λ (n : Listed). is_point n.sizes p ≡ true) (sym v) g in
    let f' : place ≡ number sizes p = f ∙ ap (λ (s : List ℕ). number s p) d in
    let b = number_below sizes p g' in
    let lt : place < length table = omega (arith, b, f', t.is_table.long) in
    let same = same_length sizes p g' in
    record {
      in_grid = g';
      place_is = f';
      mark_is = i ∙ (get_or_default table place m 0 lt ∙ (ap (λ n. get_or table n 0) f' ∙ t.is_table.each p g'));
      dims = omega (arith, same, t.dims);
      same = same;
    }

pub table_now : (sizes : List ℕ) (ps ps' : List Point) (table : List ℕ) (cap cap' : ℕ) (p : Point) (place n : ℕ) → (t : AreTrials sizes ps table cap) → is_point sizes p ≡ true → mark ps p ≡ 0 → place ≡ number sizes p → n ≡ length ps → ps' ≡ ps ++ p ∷ [] → cap' ≡ cap → AreTrials sizes ps' (set table place (n + 1)) cap'
table_now sizes ps ps' table cap cap' p place n t g z at len more same =
    rw (at, len, more, same) (with_trial sizes ps table cap t p g z)

-- a stored point is in the grid
pub row_in_grid : (sizes : List ℕ) (items : List (List ℕ)) (t len : ℕ) (row : List ℕ) → All (InGrid sizes) (map (take (length sizes)) items) → t < length items → row ≡ get_or items t row → len ≡ length sizes → is_point sizes (take len row) ≡ true
row_in_grid sizes [] t len row a h e l = absurd (omega arith)
row_in_grid sizes (x ∷ xs) zero len row a h e l =
    let p : is_point sizes (take (length sizes) x) ≡ true = All-head (InGrid sizes) (take (length sizes) x) (map (take (length sizes)) xs) a in
    let q : take (length sizes) x ≡ take len row = ap₂ (λ (n : ℕ) (r : List ℕ). take n r) (sym l) (sym e) in
    subst (λ (r : List ℕ). is_point sizes r ≡ true) q p
row_in_grid sizes (x ∷ xs) (suc t) len row a h e l = row_in_grid sizes xs t len row (All-tail (InGrid sizes) (take (length sizes) x) (map (take (length sizes)) xs) a) (omega arith) e l
