-- A vector comes before another exactly where their values are in one of the orders of their places.
use Rattle.std.proofs.Common.{◌≡◌, refl, sym, ap, ap₂, ◌∙◌, subst, ℕ, zero, suc, ◌+◌, ◌<◌, ◌≤◌, ℤ, pos, ◌<ℤ◌, ◌↔◌, Bool, true, false, nat_lt, if◌then◌else◌, List, [], ◌∷◌, ◌++◌, length, map, get_or, ◌⊎◌, inl, inr, arith, append_assoc}
use Rattle.std.specs.Bool.{IsTrue}
use Rattle.std.specs.List.{All}
use Rattle.std.specs.Ordering.{int_cmp, int_eq, is_lt, ordering_then, MatchOrdering}
use Rattle.std.specs.declared.cmp.Ordering.{Ordering}
use Rattle.std.specs.declared.cmp.Ordering.TheVariants.{Less, Equal, Greater}
use Rattle.std.specs.Cmp.{tied_itself, int_cmp_total, int_ranked}
use Rattle.std.specs.Cmp.Lexicographic.{slice_cmp}
use Rattle.std.proofs.lemmas.Bool.{cases_order, lt-ltb, le-ltb}
use Rattle.std.proofs.lemmas.Int.{ints}
use Rattle.std.proofs.lemmas.List.Elements.{All-nil, All-cons, All-map}
use Rattle.ch_poly.specs.Boxes.{at}
use Rattle.ch_timed.specs.Members.{In}
use Rattle.ch_timed.specs.Vectors.{comes_before, woven}
use Rattle.ch_timed.proofs.Orders.{map_in, in_map, not_both}
use Rattle.ch_meeting.specs.declared.orders.Order.{Order}
use Rattle.ch_meeting.specs.Asked.{level_by}
use Rattle.ch_meeting.specs.Meeting.{differing_level}
use Rattle.ch_meeting.specs.Cases.{InOrder, IsWithin, OneOf, always, at_once, behind, from_values, orders_of}
use Rattle.ch_space.proofs.Followings.{is_less}
use Rattle.ch_space.proofs.PieceElements.{less_comes}

abbrev itself : List ℤ → List ℤ
itself v = v

abbrev Before : List ℤ → List ℤ → Type 0
Before v w = IsTrue (comes_before v w)

-- heads of vectors

same_head : (p : ℤ) (v w : List ℤ) → comes_before (p ∷ v) (p ∷ w) ≡ comes_before v w
same_head p v w = ap (λ o. is_lt (ordering_then o (slice_cmp int_cmp v w))) (tied_itself int_cmp_total p)

less_head : (p q : ℤ) (v w : List ℤ) → p <ℤ q → Before (p ∷ v) (q ∷ w)
less_head p q v w h = ap is_lt (less_comes p q v w h)

more_head : (p q : ℤ) (v w : List ℤ) → q <ℤ p → Before (p ∷ v) (q ∷ w) → ⊥
more_head p q v w h t = not_both itself (p ∷ v) (q ∷ w) (is_less (slice_cmp int_cmp (p ∷ v) (q ∷ w)) t) (less_comes q p w v h)

split_by : (y x : ℤ) (o t : Ordering) → MatchOrdering o (y <ℤ x) (y ≡ x) (x <ℤ y) → is_lt (ordering_then o t) ≡ true → (y <ℤ x) ⊎ ((y ≡ x) × (is_lt t ≡ true))
split_by y x Less t m h = inl m
split_by y x Equal t m h = inr (m, h)
split_by y x Greater t m h = cc

value_split : (x y : ℤ) (v w : List ℤ) → Before (x ∷ v) (y ∷ w) → (x <ℤ y) ⊎ ((x ≡ y) × Before v w)
value_split x y v w h = split_by x y (int_cmp x y) (slice_cmp int_cmp v w) (int_ranked x y (int_cmp x y) refl) h

-- orders behind a value

later_in : (x y : ℤ) (xs ys : List ℤ) (o : Order) → x ≡ y → InOrder o xs ys → InOrder (behind 1 o) (x ∷ xs) (y ∷ ys)
later_in x y xs ys o e i = record {
  same = λ k l. same k (omega arith);
  less = λ t. subst (λ n. at (x ∷ xs) n <ℤ at (y ∷ ys) n) next (i.less t);
}
  where
    next : suc o.equal ≡ o.equal + 1
    next = omega arith

    same : (k : ℕ) → k < suc o.equal → at (x ∷ xs) k ≡ at (y ∷ ys) k
    same zero l = e
    same (suc k) l = i.same k (omega arith)

in_later : (x y : ℤ) (xs ys : List ℤ) (o : Order) → InOrder (behind 1 o) (x ∷ xs) (y ∷ ys) → (x ≡ y) × InOrder o xs ys
in_later x y xs ys o i = (
  i.same 0 (omega arith),
  record {
    same = λ k l. i.same (suc k) (omega arith);
    less = λ t. subst (λ n. at (x ∷ xs) n <ℤ at (y ∷ ys) n) next (i.less t);
  },
)
  where
    next : o.equal + 1 ≡ suc o.equal
    next = omega arith

always_in : (xs ys : List ℤ) → InOrder always xs ys
always_in xs ys = record { same = λ k l. absurd (omega arith); less = λ t. absurd cc }

-- The orders of what follows a place that both have.

abbrev pub Exact : List ℕ → List ℕ → List Order → Type 0
Exact ps qs orders = (xs ys : List ℤ) → length ps ≡ length xs + 1 → length qs ≡ length ys + 1
    → Before (woven (map pos ps) xs) (woven (map pos qs) ys) ↔ OneOf (λ o. InOrder o xs ys) orders

abbrev rest_of : List ℕ → List ℤ → List ℤ
rest_of ps [] = []
rest_of ps (x ∷ xs) = x ∷ woven (map pos ps) xs

woven_head : (p : ℕ) (ps : List ℕ) (xs : List ℤ) → woven (map pos (p ∷ ps)) xs ≡ pos p ∷ rest_of ps xs
woven_head p ps [] = refl
woven_head p ps (x ∷ xs) = refl

values_exact : (ps qs : List ℕ) → Exact ps qs (orders_of ps qs) → (xs ys : List ℤ) → length ps ≡ length xs → length qs ≡ length ys
    → Before (rest_of ps xs) (rest_of qs ys) ↔ OneOf (λ o. InOrder o xs ys) (from_values ps qs (orders_of ps qs))
values_exact [] [] e [] [] l m = (λ h. absurd cc, λ p. absurd p.1.0)
values_exact [] [] e [] (y ∷ ys) l m = absurd (omega arith)
values_exact [] [] e (x ∷ xs) ys l m = absurd (omega arith)
values_exact [] (q ∷ qs) e [] [] l m = absurd (omega arith)
values_exact [] (q ∷ qs) e [] (y ∷ ys) l m = (λ h. (always, (inl refl, always_in [] (y ∷ ys))), λ p. refl)
values_exact [] (q ∷ qs) e (x ∷ xs) ys l m = absurd (omega arith)
values_exact (p ∷ ps) [] e [] ys l m = absurd (omega arith)
values_exact (p ∷ ps) [] e (x ∷ xs) [] l m = (λ h. absurd cc, λ p. absurd p.1.0)
values_exact (p ∷ ps) [] e (x ∷ xs) (y ∷ ys) l m = absurd (omega arith)
values_exact (p ∷ ps) (q ∷ qs) e [] ys l m = absurd (omega arith)
values_exact (p ∷ ps) (q ∷ qs) e (x ∷ xs) [] l m = absurd (omega arith)
values_exact (p ∷ ps) (q ∷ qs) e (x ∷ xs) (y ∷ ys) l m = (λ h. to (value_split x y (woven (map pos (p ∷ ps)) xs) (woven (map pos (q ∷ qs)) ys) h), λ s. from s.0 s.1.0 s.1.1)
  where
    inner : Before (woven (map pos (p ∷ ps)) xs) (woven (map pos (q ∷ qs)) ys) ↔ OneOf (λ o. InOrder o xs ys) (orders_of (p ∷ ps) (q ∷ qs))
    inner = e xs ys (omega arith) (omega arith)

    first : x <ℤ y → InOrder at_once (x ∷ xs) (y ∷ ys)
    first h = record { same = λ k l. absurd (omega arith); less = λ t. h }

    to : (x <ℤ y) ⊎ ((x ≡ y) × Before (woven (map pos (p ∷ ps)) xs) (woven (map pos (q ∷ qs)) ys))
        → OneOf (λ o. InOrder o (x ∷ xs) (y ∷ ys)) (at_once ∷ map (behind 1) (orders_of (p ∷ ps) (q ∷ qs)))
    to (inl h) = (at_once, (inl refl, first h))
    to (inr h) = (let s = inner.0 h.1 in (behind 1 s.0, (inr (map_in (behind 1) (orders_of (p ∷ ps) (q ∷ qs)) s.0 s.1.0), later_in x y xs ys s.0 h.0 s.1.1)))

    from : (o : Order) → In o (at_once ∷ map (behind 1) (orders_of (p ∷ ps) (q ∷ qs))) → InOrder o (x ∷ xs) (y ∷ ys)
        → Before (x ∷ woven (map pos (p ∷ ps)) xs) (y ∷ woven (map pos (q ∷ qs)) ys)
    from o (inl k) i = less_head x y (woven (map pos (p ∷ ps)) xs) (woven (map pos (q ∷ qs)) ys) ((subst (λ t. InOrder t (x ∷ xs) (y ∷ ys)) (sym k) i).less refl)
    from o (inr k) i = (let r = in_map (behind 1) (orders_of (p ∷ ps) (q ∷ qs)) o k in
        let s = in_later x y xs ys r.0 (subst (λ t. InOrder t (x ∷ xs) (y ∷ ys)) (sym r.1.1) i) in
        subst (λ t. Before (x ∷ woven (map pos (p ∷ ps)) xs) (t ∷ woven (map pos (q ∷ qs)) ys)) s.0
        (same_head x (woven (map pos (p ∷ ps)) xs) (woven (map pos (q ∷ qs)) ys) ∙ inner.1 (r.0, (r.1.0, s.1))))

module _ (p q : ℕ) (ps qs : List ℕ) where
  if_less : p < q → orders_of (p ∷ ps) (q ∷ qs) ≡ always ∷ []
  if_less h = ap (λ b. if b then always ∷ [] else (if nat_lt q p then [] else from_values ps qs (orders_of ps qs))) (lt-ltb p q h)

  if_more : q < p → orders_of (p ∷ ps) (q ∷ qs) ≡ []
  if_more h =
      ap (λ b. if b then always ∷ [] else (if nat_lt q p then [] else from_values ps qs (orders_of ps qs))) (le-ltb p q (omega arith))
      ∙ ap (λ b. if b then [] else from_values ps qs (orders_of ps qs)) (lt-ltb q p h)

  if_same : p ≡ q → orders_of (p ∷ ps) (q ∷ qs) ≡ from_values ps qs (orders_of ps qs)
  if_same h =
      ap (λ b. if b then always ∷ [] else (if nat_lt q p then [] else from_values ps qs (orders_of ps qs))) (le-ltb p q (omega arith))
      ∙ ap (λ b. if b then [] else from_values ps qs (orders_of ps qs)) (le-ltb q p (omega arith))

module _ (p q : ℕ) (ps qs : List ℕ) (xs ys : List ℤ) where
  abbrev Heads : List Order → Type 0
  Heads os = Before (woven (map pos (p ∷ ps)) xs) (woven (map pos (q ∷ qs)) ys) ↔ OneOf (λ o. InOrder o xs ys) os

  abbrev Rests : List Order → Type 0
  Rests os = Before (pos p ∷ rest_of ps xs) (pos q ∷ rest_of qs ys) ↔ OneOf (λ o. InOrder o xs ys) os

  heads : (os : List Order) → Rests os → Heads os
  heads os h =
      subst (λ t. Before t (woven (map pos (q ∷ qs)) ys) ↔ OneOf (λ o. InOrder o xs ys) os) (sym (woven_head p ps xs))
      (subst (λ t. Before (pos p ∷ rest_of ps xs) t ↔ OneOf (λ o. InOrder o xs ys) os) (sym (woven_head q qs ys)) h)

  by_places : (Before (rest_of ps xs) (rest_of qs ys) ↔ OneOf (λ o. InOrder o xs ys) (from_values ps qs (orders_of ps qs)))
      → (p ≡ q) ⊎ ((p < q) ⊎ (q < p)) → Heads (orders_of (p ∷ ps) (q ∷ qs))
  by_places inner (inl e) =
      let head : comes_before (pos p ∷ rest_of ps xs) (pos q ∷ rest_of qs ys) ≡ comes_before (rest_of ps xs) (rest_of qs ys) =
      ap (λ t. comes_before (pos p ∷ rest_of ps xs) (pos t ∷ rest_of qs ys)) (sym e) ∙ same_head (pos p) (rest_of ps xs) (rest_of qs ys) in
      heads (orders_of (p ∷ ps) (q ∷ qs)) (subst Rests (sym (if_same p q ps qs e)) (λ h. inner.0 (sym head ∙ h), λ s. head ∙ inner.1 s))
  by_places inner (inr (inl h)) =
      heads (orders_of (p ∷ ps) (q ∷ qs)) (subst Rests (sym (if_less p q ps qs h))
      (λ t. (always, (inl refl, always_in xs ys)), λ s. less_head (pos p) (pos q) (rest_of ps xs) (rest_of qs ys) (omega (arith, ints))))
  by_places inner (inr (inr h)) =
      heads (orders_of (p ∷ ps) (q ∷ qs)) (subst Rests (sym (if_more p q ps qs h))
      (λ t. absurd (more_head (pos p) (pos q) (rest_of ps xs) (rest_of qs ys) (omega (arith, ints)) t), λ s. absurd s.1.0))

pub orders_exact : (ps qs : List ℕ) → Exact ps qs (orders_of ps qs)
orders_exact [] qs xs ys l m = absurd (omega arith)
orders_exact (p ∷ ps) [] xs ys l m = absurd (omega arith)
orders_exact (p ∷ ps) (q ∷ qs) xs ys l m =
    by_places p q ps qs xs ys (values_exact ps qs (orders_exact ps qs) xs ys (omega arith) (omega arith)) (cases_order p q)

-- the orders compare values that there are

always_within : (n m : ℕ) → IsWithin n m always
always_within n m = record { first = omega arith; second = omega arith; next_first = λ t. absurd cc; next_second = λ t. absurd cc }

values_within : (n m : ℕ) (ps qs : List ℕ) (later : List Order) → length ps ≡ n → length qs ≡ m → ((a b : ℕ) → length ps ≡ a + 1 → length qs ≡ b + 1 → All (IsWithin a b) later)
    → All (IsWithin n m) (from_values ps qs later)
values_within n m ps [] later l k h = All-nil (IsWithin n m)
values_within n m [] (q ∷ qs) later l k h = All-cons (IsWithin n m) always [] (always_within n m) (All-nil (IsWithin n m))
values_within n m (p ∷ ps) (q ∷ qs) later l k h =
    All-cons (IsWithin n m) at_once (map (behind 1) later)
    (record { first = omega arith; second = omega arith; next_first = λ t. omega arith; next_second = λ t. omega arith })
    (All-map (IsWithin n m) (behind 1) later (λ i d j. more (get_or later i d) (h (length ps) (length qs) (omega arith) (omega arith) i d j)))
  where
    more : (o : Order) → IsWithin (length ps) (length qs) o → IsWithin n m (behind 1 o)
    more o w = record {
      first = omega (arith, w.first);
      second = omega (arith, w.second);
      next_first = λ t. omega (arith, w.next_first t);
      next_second = λ t. omega (arith, w.next_second t);
    }

within_by : (n m p q : ℕ) (ps qs : List ℕ) → All (IsWithin n m) (from_values ps qs (orders_of ps qs)) → (p ≡ q) ⊎ ((p < q) ⊎ (q < p)) → All (IsWithin n m) (orders_of (p ∷ ps) (q ∷ qs))
within_by n m p q ps qs inner (inl e) = subst (All (IsWithin n m)) (sym (if_same p q ps qs e)) inner
within_by n m p q ps qs inner (inr (inl h)) = subst (All (IsWithin n m)) (sym (if_less p q ps qs h)) (All-cons (IsWithin n m) always [] (always_within n m) (All-nil (IsWithin n m)))
within_by n m p q ps qs inner (inr (inr h)) = subst (All (IsWithin n m)) (sym (if_more p q ps qs h)) (All-nil (IsWithin n m))

pub orders_within : (n m : ℕ) (ps qs : List ℕ) → length ps ≡ n + 1 → length qs ≡ m + 1 → All (IsWithin n m) (orders_of ps qs)
orders_within n m [] qs l k = absurd (omega arith)
orders_within n m (p ∷ ps) [] l k = absurd (omega arith)
orders_within n m (p ∷ ps) (q ∷ qs) l k =
    within_by n m p q ps qs (values_within n m ps qs (orders_of ps qs) (omega arith) (omega arith) (λ a b i j. orders_within a b ps qs i j)) (cases_order p q)

-- what a step of the code adds

pub behind_none : (os : List Order) → map (behind 0) os ≡ os
behind_none [] = refl
behind_none (o ∷ os) = ap₂ (λ x xs. x ∷ xs) same (behind_none os)
  where
    same : behind 0 o ≡ o
    same = ap (λ n. record { equal = n; less = o.less }) (omega arith)

behind_more : (n : ℕ) (os : List Order) → map (behind n) (map (behind 1) os) ≡ map (behind (n + 1)) os
behind_more n [] = refl
behind_more n (o ∷ os) = ap₂ (λ x xs. x ∷ xs) same (behind_more n os)
  where
    same : behind n (behind 1 o) ≡ behind (n + 1) o
    same = ap (λ n. record { equal = n; less = o.less }) (omega arith)

pub step_more : (first second : List ℕ) (p q n : ℕ) (ps qs : List ℕ) (old mid new : List Order) → first ≡ p ∷ ps → second ≡ q ∷ qs → q ≤ p → p ≤ q → 1 ≤ length ps → 1 ≤ length qs
    → mid ≡ old ++ record { equal = n; less = true } ∷ [] → new ≡ mid ++ map (behind (n + 1)) (orders_of ps qs) → new ≡ old ++ map (behind n) (orders_of first second)
step_more first second p q n [] qs old mid new e f g h i j k l = absurd (omega arith)
step_more first second p q n (x ∷ ps) [] old mid new e f g h i j k l = absurd (omega arith)
step_more first second p q n (x ∷ ps) (y ∷ qs) old mid new e f g h i j k l =
    let later : List Order = orders_of (x ∷ ps) (y ∷ qs) in
    let now : behind n at_once ≡ record { equal = n; less = true } = ap (λ m. record { equal = m; less = true }) (omega arith) in
    let those : map (behind n) (orders_of first second) ≡ record { equal = n; less = true } ∷ map (behind (n + 1)) later =
    ap₂ (λ a b. map (behind n) (orders_of a b)) e f ∙ ap (map (behind n)) (if_same p q (x ∷ ps) (y ∷ qs) (omega arith)) ∙ ap₂ (λ a b. a ∷ b) now (behind_more n later) in
    l ∙ ap (λ t. t ++ map (behind (n + 1)) later) k ∙ append_assoc old (record { equal = n; less = true } ∷ []) (map (behind (n + 1)) later) ∙ ap (λ t. old ++ t) (sym those)

-- the level by which vectors in an order differ

abbrev pub level_at : ℕ → Bool → ℕ → ℕ
level_at n true equal = n + equal
level_at n false equal = 0

level_behind : (n : ℕ) (less : Bool) (equal : ℕ) → level_at (suc n) less equal ≡ level_at n less (equal + 1)
level_behind n true equal = omega arith
level_behind n false equal = refl

pub level_is : (less : Bool) (equal : ℕ) → level_at 1 less equal ≡ level_by less equal
level_is true equal = omega arith
level_is false equal = refl

ints_differ : (x y : ℤ) → (x ≡ y → ⊥) → int_eq x y ≡ false
ints_differ x y h = grind (arith, ints)

ints_agree : (x y : ℤ) → x ≡ y → int_eq x y ≡ true
ints_agree x y h = grind (arith, ints)

place_differs : (n p q : ℕ) (ps qs : List ℕ) (xs ys : List ℤ) → (pos p ≡ pos q → ⊥) → differing_level n (woven (map pos (p ∷ ps)) xs) (woven (map pos (q ∷ qs)) ys) ≡ 0
place_differs n p q ps qs [] [] h = refl
place_differs n p q ps qs [] (y ∷ ys) h = refl
place_differs n p q ps qs (x ∷ xs) [] h = refl
place_differs n p q ps qs (x ∷ xs) (y ∷ ys) h =
    ap (λ c. if c then (if int_eq x y then differing_level (suc n) (woven (map pos ps) xs) (woven (map pos qs) ys) else n) else 0) (ints_differ (pos p) (pos q) h)

place_agrees : (n p q : ℕ) (ps qs : List ℕ) (x y : ℤ) (xs ys : List ℤ) → p ≡ q → differing_level n (woven (map pos (p ∷ ps)) (x ∷ xs)) (woven (map pos (q ∷ qs)) (y ∷ ys))
    ≡ (if int_eq x y then differing_level (suc n) (woven (map pos ps) xs) (woven (map pos qs) ys) else n)
place_agrees n p q ps qs x y xs ys h =
    ap (λ c. if c then (if int_eq x y then differing_level (suc n) (woven (map pos ps) xs) (woven (map pos qs) ys) else n) else 0) (ints_agree (pos p) (pos q) (ap pos h))

abbrev Differs : ℕ → List ℕ → List ℕ → List ℤ → List ℤ → Order → Type 0
Differs n ps qs xs ys o = differing_level n (woven (map pos ps) xs) (woven (map pos qs) ys) ≡ level_at n o.less o.equal

abbrev Levelled : List ℕ → List ℕ → Type 0
Levelled ps qs = (n : ℕ) (xs ys : List ℤ) → length ps ≡ length xs + 1 → length qs ≡ length ys + 1 → (o : Order) → In o (orders_of ps qs) → InOrder o xs ys → Differs n ps qs xs ys o

values_levelled : (n p q : ℕ) (ps qs : List ℕ) (xs ys : List ℤ) (o : Order) → Levelled ps qs → length ps ≡ length xs → length qs ≡ length ys → p ≡ q → In o (from_values ps qs (orders_of ps qs))
    → InOrder o xs ys → Differs n (p ∷ ps) (q ∷ qs) xs ys o
values_levelled n p q ps [] xs ys o later l m e i k = absurd i
values_levelled n p q [] (b ∷ qs) [] [] o later l m e i k = absurd (omega arith)
values_levelled n p q [] (b ∷ qs) [] (y ∷ ys) o later l m e (inl s) k = subst (λ t. 0 ≡ level_at n t.less t.equal) s refl
values_levelled n p q [] (b ∷ qs) [] (y ∷ ys) o later l m e (inr i) k = absurd i
values_levelled n p q [] (b ∷ qs) (x ∷ xs) ys o later l m e i k = absurd (omega arith)
values_levelled n p q (a ∷ ps) (b ∷ qs) [] ys o later l m e i k = absurd (omega arith)
values_levelled n p q (a ∷ ps) (b ∷ qs) (x ∷ xs) [] o later l m e i k = absurd (omega arith)
values_levelled n p q (a ∷ ps) (b ∷ qs) (x ∷ xs) (y ∷ ys) o later l m e (inl s) k =
    let less : x <ℤ y = (subst (λ t. InOrder t (x ∷ xs) (y ∷ ys)) (sym s) k).less refl in
    place_agrees n p q (a ∷ ps) (b ∷ qs) x y xs ys e
    ∙ ap (λ c. if c then differing_level (suc n) (woven (map pos (a ∷ ps)) xs) (woven (map pos (b ∷ qs)) ys) else n) (ints_differ x y (λ f. absurd (omega (arith, ints))))
    ∙ subst (λ t. n ≡ level_at n t.less t.equal) s (omega arith)
values_levelled n p q (a ∷ ps) (b ∷ qs) (x ∷ xs) (y ∷ ys) o later l m e (inr i) k =
    let r = in_map (behind 1) (orders_of (a ∷ ps) (b ∷ qs)) o i in
    let c = in_later x y xs ys r.0 (subst (λ t. InOrder t (x ∷ xs) (y ∷ ys)) (sym r.1.1) k) in
    place_agrees n p q (a ∷ ps) (b ∷ qs) x y xs ys e
    ∙ ap (λ c. if c then differing_level (suc n) (woven (map pos (a ∷ ps)) xs) (woven (map pos (b ∷ qs)) ys) else n) (ints_agree x y c.0)
    ∙ later (suc n) xs ys (omega arith) (omega arith) r.0 r.1.0 c.1 ∙ level_behind n r.0.less r.0.equal ∙ ap (λ t. level_at n t.less t.equal) r.1.1

levelled_by : (n p q : ℕ) (ps qs : List ℕ) (xs ys : List ℤ) (o : Order) → Levelled ps qs → length ps ≡ length xs → length qs ≡ length ys → (p ≡ q) ⊎ ((p < q) ⊎ (q < p))
    → In o (orders_of (p ∷ ps) (q ∷ qs)) → InOrder o xs ys → Differs n (p ∷ ps) (q ∷ qs) xs ys o
levelled_by n p q ps qs xs ys o later l m (inl e) i k = values_levelled n p q ps qs xs ys o later l m e (subst (In o) (if_same p q ps qs e) i) k
levelled_by n p q ps qs xs ys o later l m (inr (inl h)) i k = only_always n p q ps qs xs ys o h (subst (In o) (if_less p q ps qs h) i)
  where
    only_always : (n p q : ℕ) (ps qs : List ℕ) (xs ys : List ℤ) (o : Order) → p < q → In o (always ∷ []) → Differs n (p ∷ ps) (q ∷ qs) xs ys o
    only_always n p q ps qs xs ys o h (inl s) = place_differs n p q ps qs xs ys (λ f. absurd (omega (arith, ints))) ∙ subst (λ t. 0 ≡ level_at n t.less t.equal) s refl
    only_always n p q ps qs xs ys o h (inr i) = absurd i
levelled_by n p q ps qs xs ys o later l m (inr (inr h)) i k = absurd (subst (In o) (if_more p q ps qs h) i)

orders_levelled : (ps qs : List ℕ) → Levelled ps qs
orders_levelled [] qs n xs ys l m o i k = absurd i
orders_levelled (p ∷ ps) [] n xs ys l m o i k = absurd i
orders_levelled (p ∷ ps) (q ∷ qs) n xs ys l m o i k = levelled_by n p q ps qs xs ys o (orders_levelled ps qs) (omega arith) (omega arith) (cases_order p q) i k

abbrev pub AtLevels : List ℕ → List ℕ → List Order → Type 0
AtLevels ps qs orders = (xs ys : List ℤ) → length ps ≡ length xs + 1 → length qs ≡ length ys + 1 → (o : Order) → In o orders → InOrder o xs ys
    → differing_level 1 (woven (map pos ps) xs) (woven (map pos qs) ys) ≡ level_by o.less o.equal

pub orders_levels : (ps qs : List ℕ) → AtLevels ps qs (orders_of ps qs)
orders_levels ps qs xs ys l m o i k = orders_levelled ps qs 1 xs ys l m o i k ∙ level_is o.less o.equal
