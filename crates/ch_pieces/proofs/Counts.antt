-- Instances counted value by value.
use Rattle.std.proofs.Common.{◌≡◌, refl, sym, ap, ap₂, ◌∙◌, subst, ℕ, zero, suc, ◌+◌, ◌<◌, ◌^◌, ℤ, pos, negsuc, ◌+ℤ◌, ◌-ℤ◌, ◌≤ℤ◌, ◌<ℤ◌, Bool, true, false, cond, Option, Some, None, MatchOption, Result, Ok, Err, IfOk, List, [], ◌∷◌, ◌++◌, drop, take, length, map, slice_index_or, SFits, to_z, of_z, w64, arith, append_assoc, length-append}
use Rattle.std.specs.declared.alloc.AllocError.{AllocError}
use Rattle.std.specs.List.{All, filter, flat_map}
use Rattle.std.proofs.lemmas.Bool.{both_ways}
use Rattle.std.proofs.lemmas.Int.{ints, by_lt_z, to_z-of_z}
use Rattle.std.proofs.lemmas.List.Elements.{filter-append}
use Rattle.ch_affine.specs.Affine.{IsAtMost}
use Rattle.ch_affine.specs.Rows.{IsBox, Rows}
use Rattle.ch_affine.specs.declared.system.Range.{Range}
use Rattle.ch_pieces.specs.Counting.{IsLow, IsNextValue, count_from}
use Rattle.ch_pieces.proofs.Cuts.{going_inside, low_of, shorter_front}
use Rattle.ch_poly.specs.Points.{begins_some, box_points, natural, numbers, upwards}
use Rattle.ch_space.specs.declared.piece.Piece.{Piece}
use Rattle.ch_space.specs.Pieces.{instances}

-- the sum over some values
abbrev pub over : (ℤ → ℕ) → List ℤ → ℕ
over f [] = 0
over f (x ∷ xs) = f x + over f xs

over_same : (f g : ℤ → ℕ) → ((x : ℤ) → f x ≡ g x) → (xs : List ℤ) → over f xs ≡ over g xs
over_same f g h [] = refl
over_same f g h (x ∷ xs) = ap₂ (λ m n. m + n) (h x) (over_same f g h xs)

-- Vectors behind a front.

not_true : (b : Bool) → (b ≡ true → ⊥) → b ≡ false
not_true true h = absurd (h refl)
not_true false h = refl

none_kept : (s : Rows) (front : List ℤ) → (begins_some s front ≡ true → ⊥) → (vs : List (List ℤ)) → length (filter (begins_some s) (map (λ xs. front ++ xs) vs)) ≡ 0
none_kept s front h [] = refl
none_kept s front h (v ∷ vs) =
    ap (λ b. length (cond b ((front ++ v) ∷ filter (begins_some s) (map (λ xs. front ++ xs) vs)) (filter (begins_some s) (map (λ xs. front ++ xs) vs))))
    (not_true (begins_some s (front ++ v)) (λ b. h (shorter_front s front v b)))
    ∙ none_kept s front h vs

pub count_none : (s : Rows) (n : ℕ) (front : List ℤ) → (begins_some s front ≡ true → ⊥) → count_from s n front ≡ 0
count_none s n front h = none_kept s front h (box_points (drop (length front) (take n s.boxes)))

behind_one : (front : List ℤ) (x : ℤ) (vs : List (List ℤ)) → map (λ xs. front ++ xs) (map (λ p. x ∷ p) vs) ≡ map (λ xs. (front ++ x ∷ []) ++ xs) vs
behind_one front x [] = refl
behind_one front x (v ∷ vs) = ap₂ (λ h t. h ∷ t) (sym (append_assoc front (x ∷ []) v)) (behind_one front x vs)

map_both : (f : List ℤ → List ℤ) (us vs : List (List ℤ)) → map f (us ++ vs) ≡ map f us ++ map f vs
map_both f [] vs = refl
map_both f (u ∷ us) vs = ap (λ t. f u ∷ t) (map_both f us vs)

level_by : (t : List ℤ → Bool) (front : List ℤ) (vs : List (List ℤ)) (xs : List ℤ)
    → length (filter t (map (λ ys. front ++ ys) (flat_map (λ x. map (λ p. x ∷ p) vs) xs))) ≡ over (λ x. length (filter t (map (λ ys. (front ++ x ∷ []) ++ ys) vs))) xs
level_by t front vs [] = refl
level_by t front vs (x ∷ xs) =
    ap (λ z. length (filter t z)) (map_both (λ ys. front ++ ys) (map (λ p. x ∷ p) vs) (flat_map (λ x. map (λ p. x ∷ p) vs) xs))
    ∙ ap length (filter-append t (map (λ ys. front ++ ys) (map (λ p. x ∷ p) vs)) (map (λ ys. front ++ ys) (flat_map (λ x. map (λ p. x ∷ p) vs) xs)))
    ∙ length-append (filter t (map (λ ys. front ++ ys) (map (λ p. x ∷ p) vs))) (filter t (map (λ ys. front ++ ys) (flat_map (λ x. map (λ p. x ∷ p) vs) xs)))
    ∙ ap₂ (λ m n. m + n) (ap (λ z. length (filter t z)) (behind_one front x vs)) (level_by t front vs xs)

drop_take : (boxes : List Range) (k n : ℕ) (d : Range) → k < n → k < length boxes → drop k (take n boxes) ≡ slice_index_or boxes k d ∷ drop (suc k) (take n boxes)
drop_take [] k n d h l = absurd (omega arith)
drop_take (b ∷ boxes) k zero d h l = absurd (omega arith)
drop_take (b ∷ boxes) zero (suc n) d h l = refl
drop_take (b ∷ boxes) (suc k) (suc n) d h l = drop_take boxes k n d (omega arith) (omega arith)

one_longer : (front : List ℤ) (x : ℤ) → length (front ++ x ∷ []) ≡ suc (length front)
one_longer front x = let e = length-append front (x ∷ []) in omega arith

-- how many instances go on with a value
abbrev pub next_count : Rows → ℕ → List ℤ → ℤ → ℕ
next_count s n front x = count_from s n (front ++ x ∷ [])

count_level : (s : Rows) (n : ℕ) (front : List ℤ) (d : Range) → length front < n → length front < length s.boxes
    → count_from s n front ≡ over (next_count s n front) (numbers (slice_index_or s.boxes (length front) d))
count_level s n front d h l =
    let rest = drop (suc (length front)) (take n s.boxes) in
    let here = slice_index_or s.boxes (length front) d in
    ap (λ z. length (filter (begins_some s) (map (λ xs. front ++ xs) (box_points z)))) (drop_take s.boxes (length front) n d h l)
    ∙ level_by (begins_some s) front (box_points rest) (numbers here)
    ∙ over_same (λ x. length (filter (begins_some s) (map (λ ys. (front ++ x ∷ []) ++ ys) (box_points rest)))) (next_count s n front)
    (λ x. ap (λ k. length (filter (begins_some s) (map (λ ys. (front ++ x ∷ []) ++ ys) (box_points (drop k (take n s.boxes)))))) (sym (one_longer front x))) (numbers here)

-- Sums from a value on.

natural_pos : (z : ℤ) → pos 0 ≤ℤ z → z ≡ pos (natural z)
natural_pos (pos n) h = refl
natural_pos (negsuc n) h = absurd (omega (arith, ints))

natural_none : (z : ℤ) → z ≤ℤ pos 0 → natural z ≡ 0
natural_none (pos n) h = omega (arith, ints)
natural_none (negsuc n) h = refl

module _ (f : ℤ → ℕ) (high : ℤ) where
  abbrev pub rest : ℤ → ℕ
  rest v = over f (upwards (natural ((high +ℤ pos 1) -ℤ v)) v)

  abbrev pub remaining : Option ℤ → ℕ
  remaining None = 0
  remaining (Some v) = rest v

  pub rest_step : (v : ℤ) → v ≤ℤ high → rest v ≡ f v + rest (v +ℤ pos 1)
  rest_step v h =
      let a = natural_pos ((high +ℤ pos 1) -ℤ v) (omega (arith, ints)) in
      let b = natural_pos ((high +ℤ pos 1) -ℤ (v +ℤ pos 1)) (omega (arith, ints)) in
      let e : natural ((high +ℤ pos 1) -ℤ v) ≡ suc (natural ((high +ℤ pos 1) -ℤ (v +ℤ pos 1))) = omega (arith, ints) in
      ap (λ n. over f (upwards n v)) e

  rest_past : (v : ℤ) → high <ℤ v → rest v ≡ 0
  rest_past v h = ap (λ n. over f (upwards n v)) (natural_none ((high +ℤ pos 1) -ℤ v) (omega (arith, ints)))

  all_zero : (n : ℕ) (from : ℤ) → ((x : ℤ) → from ≤ℤ x → f x ≡ 0) → over f (upwards n from) ≡ 0
  all_zero zero from z = refl
  all_zero (suc n) from z = ap₂ (λ m k. m + k) (z from (omega (arith, ints))) (all_zero n (from +ℤ pos 1) (λ x l. z x (omega (arith, ints))))

  skipped : (k : ℕ) (from v : ℤ) → v ≡ from +ℤ pos k → ((x : ℤ) → from ≤ℤ x → x <ℤ v → f x ≡ 0) → rest from ≡ rest v
  skipped zero from v e z = ap rest (omega (arith, ints))
  skipped (suc k) from v e z =
      by_lt_z high from (λ b. rest_past from b ∙ sym (rest_past v (omega (arith, ints))))
      (λ b.
      rest_step from b ∙ ap (λ n. n + rest (from +ℤ pos 1)) (z from (omega (arith, ints)) (omega (arith, ints))) ∙ none_more (rest (from +ℤ pos 1))
      ∙ skipped k (from +ℤ pos 1) v (omega (arith, ints)) (λ x l h. z x (omega (arith, ints)) h))
    where
      none_more : (n : ℕ) → 0 + n ≡ n
      none_more n = omega arith

-- from a value on there is as much as from the least one with which some point goes on
pub rest_next : (s : Rows) (n : ℕ) (front : List ℤ) (high from : ℤ) (next : Option ℤ) → IsNextValue s front from next → rest (next_count s n front) high from ≡ remaining (next_count s n front) high next
rest_next s n front high from None h =
    all_zero (next_count s n front) high (natural ((high +ℤ pos 1) -ℤ from)) from (λ x l. count_none s n (front ++ x ∷ []) (λ b. h x l b))
rest_next s n front high from (Some v) h =
    let l = h.0 in
    let e = natural_pos (v -ℤ from) (omega (arith, ints)) in
    skipped (next_count s n front) high (natural (v -ℤ from)) from v (omega (arith, ints)) (λ x a b. count_none s n (front ++ x ∷ []) (λ t. h.2 x a b t))

abbrev pub zero_range : Range
zero_range = record { low = pos 0; high = pos 0 }

abbrev pub range_seen : List Range → ℕ → Range
range_seen boxes k = slice_index_or boxes k zero_range

-- the range of the values behind the front
abbrev pub range_at : Rows → List ℤ → Range
range_at s front = slice_index_or s.boxes (length front) zero_range

-- some point goes on with the value, which isn't below this one
abbrev pub GoesOn : Rows → List ℤ → ℤ → Option ℤ → Type 0
GoesOn s front low None = Unit {0}
GoesOn s front low (Some v) = (low ≤ℤ v) × (begins_some s (front ++ v ∷ []) ≡ true)

goes_next : (s : Rows) (front : List ℤ) (low from : ℤ) (next : Option ℤ) → low ≤ℤ from → IsNextValue s front from next → GoesOn s front low next
goes_next s front low from None l h = tt
goes_next s front low from (Some v) l h = (let k = h.0 in omega (arith, ints), h.1)

-- how far it is to beyond the range
abbrev pub distance : ℤ → Option ℤ → ℕ
distance high None = 0
distance high (Some v) = suc (natural ((high +ℤ pos 1) -ℤ v))

-- All instances.

map_nothing : (vs : List (List ℤ)) → map (λ xs. [] ++ xs) vs ≡ vs
map_nothing [] = refl
map_nothing (v ∷ vs) = ap (λ t. v ∷ t) (map_nothing vs)

pub all_counted : (p : Piece) (front : List ℤ) → front ≡ [] → length (instances p) ≡ count_from p.system p.levels front
all_counted p front e =
    ap (λ z. length (filter (begins_some p.system) z)) (sym (map_nothing (box_points (take p.levels p.system.boxes)))) ∙ ap (count_from p.system p.levels) (sym e)

pub none_counted : (p : Piece) → begins_some p.system [] ≡ false → 0 ≡ length (instances p)
none_counted p h = sym (all_counted p [] refl ∙ count_none p.system p.levels [] (λ t. both_ways _ h t))

pub counted_ok : (p : Piece) (front : List ℤ) (r : Result ℕ AllocError) → front ≡ [] → IfOk r (λ n. n ≡ count_from p.system p.levels front) → IfOk r (λ n. n ≡ length (instances p))
counted_ok p front (Ok n) e h = h ∙ sym (all_counted p front e)
counted_ok p front (Err x) e h = tt

-- The walk over the values of a level.

low_is : (s : Rows) (front : List ℤ) (lent : List Range) (k : ℕ) (from : ℤ) → lent ≡ s.boxes → k ≡ length front → from ≡ (slice_index_or lent k zero_range).low → from ≡ (range_at s front).low
low_is s front lent k from l e f = f ∙ ap₂ (λ xs j. (slice_index_or xs j zero_range).low) l e

pub low_first : (s : Rows) (front : List ℤ) (lent : List Range) (k : ℕ) (from : ℤ) → lent ≡ s.boxes → k ≡ length front → from ≡ (slice_index_or lent k zero_range).low → length front < length s.boxes
    → IsLow s.boxes (length front) from
low_first s front lent k from l e f h = let g = low_is s front lent k from l e f in low_of s.boxes (length front) zero_range from h (omega (arith, ints))

pub low_later : (s : Rows) (front again : List ℤ) (from v : ℤ) → again ≡ front → from ≡ v +ℤ pos 1 → (range_at s front).low ≤ℤ v → length front < length s.boxes → IsLow s.boxes (length again) from
low_later s front again from v a f l h =
    subst (λ z. IsLow s.boxes (length z) from) (sym a) (low_of s.boxes (length front) zero_range from h (omega (arith, ints)))

pub goes_first : (s : Rows) (front again : List ℤ) (lent : List Range) (k : ℕ) (from : ℤ) (next : Option ℤ) → again ≡ front → lent ≡ s.boxes → k ≡ length front
    → from ≡ (slice_index_or lent k zero_range).low → IsNextValue s front from next → GoesOn s again (range_at s again).low next
goes_first s front again lent k from next a l e f h =
    let g = low_is s front lent k from l e f in
    subst (λ z. GoesOn s z (range_at s z).low next) (sym a) (goes_next s front (range_at s front).low from next (omega (arith, ints)) h)

pub total_first : (s : Rows) (n : ℕ) (front again : List ℤ) (lent : List Range) (k : ℕ) (from : ℤ) (next : Option ℤ) → again ≡ front → lent ≡ s.boxes → k ≡ length front
    → from ≡ (slice_index_or lent k zero_range).low → IsNextValue s front from next → length front < n → length front < length s.boxes
    → 0 + remaining (next_count s n again) (range_at s again).high next ≡ count_from s n again
total_first s n front again lent k from next a l e f h m b =
    let g = low_is s front lent k from l e f in
    let same : rest (next_count s n front) (range_at s front).high (range_at s front).low ≡ remaining (next_count s n front) (range_at s front).high next =
    ap (rest (next_count s n front) (range_at s front).high) (sym g) ∙ rest_next s n front (range_at s front).high from next h in
    subst (λ z. 0 + remaining (next_count s n z) (range_at s z).high next ≡ count_from s n z) (sym a)
    (nothing_more (remaining (next_count s n front) (range_at s front).high next) ∙ sym same ∙ sym (count_level s n front zero_range m b))
  where
    nothing_more : (j : ℕ) → 0 + j ≡ j
    nothing_more j = omega arith

-- at a value with which some point goes on
pub record IsTurn (s : Rows) (n : ℕ) (front : List ℤ) (v : ℤ) (count : ℕ) : Type 0 where
  pub low : (range_at s front).low ≤ℤ v
  pub high : v ≤ℤ (range_at s front).high
  pub begins : begins_some s (front ++ v ∷ []) ≡ true
  pub total : count + (next_count s n front v + rest (next_count s n front) (range_at s front).high (v +ℤ pos 1)) ≡ count_from s n front

turn_at : (s : Rows) (n : ℕ) (front : List ℤ) (v : ℤ) (count : ℕ) → GoesOn s front (range_at s front).low (Some v) → count + rest (next_count s n front) (range_at s front).high v ≡ count_from s n front
    → IsTurn s n front v count
turn_at s n front v count g t =
    let high = (going_inside s front v zero_range g.1).1 in
    record { low = g.0; high = high; begins = g.1; total = ap (λ m. count + m) (sym (rest_step (next_count s n front) (range_at s front).high v high)) ∙ t }

pub turn_of : (s : Rows) (n : ℕ) (front : List ℤ) (v : ℤ) (count : ℕ) (next : Option ℤ) → next ≡ Some v → GoesOn s front (range_at s front).low next
    → count + remaining (next_count s n front) (range_at s front).high next ≡ count_from s n front → IsTurn s n front v count
turn_of s n front v count next e g t =
    turn_at s n front v count (subst (GoesOn s front (range_at s front).low) e g)
    (subst (λ z. count + remaining (next_count s n front) (range_at s front).high z ≡ count_from s n front) e t)

module _ (s : Rows) (n : ℕ) (front : List ℤ) (v : ℤ) (count : ℕ) (turn : IsTurn s n front v count) where
  pub begins_pushed : (pushed : List ℤ) → pushed ≡ front ++ v ∷ [] → begins_some s pushed ≡ true
  begins_pushed pushed e = subst (λ z. begins_some s z ≡ true) (sym e) turn.begins

  pub few_pushed : (pushed : List ℤ) (most : ℕ) → pushed ≡ front ++ v ∷ [] → count_from s n front < most → count_from s n pushed < most
  few_pushed pushed most e f = let t = turn.total in let m = ap (count_from s n) e in omega arith

  pub few_counted : (pushed : List ℤ) (more most : ℕ) → pushed ≡ front ++ v ∷ [] → more ≡ count_from s n pushed → count_from s n front < most → count + more < most
  few_counted pushed more most e c f = let t = turn.total in let m = ap (count_from s n) e in omega arith

  pub value_small : All IsBox s.boxes → length front < length s.boxes → IsAtMost (2 ^ 54) v
  value_small boxes h = small (range_at s front) (boxes (length front) zero_range h) turn.low turn.high
    where
      small : (b : Range) → IsBox b → b.low ≤ℤ v → v ≤ℤ b.high → IsAtMost (2 ^ 54) v
      small b k l t = let low = k.low in let high = k.high in omega (arith, ints)

  pub goes_later : (again : List ℤ) (from : ℤ) (next : Option ℤ) → again ≡ front → from ≡ v +ℤ pos 1 → IsNextValue s again from next → GoesOn s front (range_at s front).low next
  goes_later again from next a f h = let l = turn.low in goes_next s front (range_at s front).low from next (omega (arith, ints)) (subst (λ z. IsNextValue s z from next) a h)

  pub total_later : (again pushed : List ℤ) (from : ℤ) (next : Option ℤ) (more : ℕ) → again ≡ front → from ≡ v +ℤ pos 1 → IsNextValue s again from next → pushed ≡ front ++ v ∷ []
      → more ≡ count_from s n pushed → (count + more) + remaining (next_count s n front) (range_at s front).high next ≡ count_from s n front
  total_later again pushed from next more a f h e c =
      let r = rest_next s n front (range_at s front).high from next (subst (λ z. IsNextValue s z from next) a h) in
      let g = ap (rest (next_count s n front) (range_at s front).high) f in
      let t = turn.total in
      let m = ap (count_from s n) e in
      omega arith

  pub nearer : (again : List ℤ) (from : ℤ) (old next : Option ℤ) → old ≡ Some v → again ≡ front → from ≡ v +ℤ pos 1 → IsNextValue s again from next
      → distance (range_at s front).high next < distance (range_at s front).high old
  nearer again from old next o a f h =
      subst (λ z. distance (range_at s front).high next < distance (range_at s front).high z) (sym o)
      (by next (subst (λ z. IsNextValue s z from next) a h))
    where
      by : (next : Option ℤ) → IsNextValue s front from next → distance (range_at s front).high next < distance (range_at s front).high (Some v)
      by None k = omega arith
      by (Some w) k =
          let l = k.0 in
          let t = turn.high in
          let i = (going_inside s front w zero_range k.1).1 in
          let x = natural_pos (((range_at s front).high +ℤ pos 1) -ℤ w) (omega (arith, ints)) in
          let y = natural_pos (((range_at s front).high +ℤ pos 1) -ℤ v) (omega (arith, ints)) in
          omega (arith, ints)

-- small numbers as words

pub fits_small : (v : ℤ) → IsAtMost (2 ^ 54) v → SFits w64 v
fits_small v h = omega (arith, ints)

pub fits_next : (v : ℤ) → IsAtMost (2 ^ 54) v → SFits w64 (to_z w64 (of_z w64 v) +ℤ pos 1)
fits_next v h = let e = to_z-of_z w64 v (fits_small v h) in omega (arith, ints)

pub word_next : (v : ℤ) → IsAtMost (2 ^ 54) v → to_z w64 (of_z w64 (to_z w64 (of_z w64 v) +ℤ pos 1)) ≡ v +ℤ pos 1
word_next v h = to_z-of_z w64 (to_z w64 (of_z w64 v) +ℤ pos 1) (fits_next v h) ∙ ap (λ z. z +ℤ pos 1) (to_z-of_z w64 v (fits_small v h))

-- what a push and a pop leave

pub pushed_on : (old new front : List ℤ) (v w : ℤ) → new ≡ old ++ w ∷ [] → old ≡ front → w ≡ v → new ≡ front ++ v ∷ []
pushed_on old new front v w e f g = e ∙ ap₂ (λ xs x. xs ++ x ∷ []) f g

front_of : (xs ys : List ℤ) → take (length xs) (xs ++ ys) ≡ xs
front_of [] ys = refl
front_of (x ∷ xs) ys = ap (λ t. x ∷ t) (front_of xs ys)

fronts_same : (xs ys : List ℤ) (x y : ℤ) → xs ++ x ∷ [] ≡ ys ++ y ∷ [] → xs ≡ ys
fronts_same xs ys x y e =
    let l : length xs ≡ length ys = omega (arith, length-append xs (x ∷ []), length-append ys (y ∷ []), ap length e) in
    sym (front_of xs (x ∷ [])) ∙ ap₂ (λ k z. take k z) l e ∙ front_of ys (y ∷ [])

pub popped : (r : Option ℤ) (old new front : List ℤ) (v : ℤ) → old ≡ front ++ v ∷ [] → MatchOption r ((old ≡ []) × (new ≡ [])) (λ last. old ≡ new ++ last ∷ []) → new ≡ front
popped None old new front v e m = let n = length-append front (v ∷ []) in let l = ap length e in let z = ap length m.0 in absurd (omega arith)
popped (Some last) old new front v e m = fronts_same new front last v (sym m ∙ e)
