-- The forms that give old level values from quotients.
use Rattle.std.proofs.Common.{◌≡◌, ◌≢◌, refl, sym, ap, ap₂, ◌∙◌, subst, ℕ, zero, suc, ◌+◌, ◌-◌, ◌<◌, ◌^◌, ℤ, pos, ◌+ℤ◌, ◌-ℤ◌, ◌*ℤ◌, List, [], ◌∷◌, ◌++◌, length, get_or, set, inl, inr, ◌⊎◌, take, append_assoc, arith}
use Rattle.std.specs.List.{All}
use Rattle.std.proofs.lemmas.Int.{ints}
use Rattle.std.proofs.lemmas.List.Elements.{All-append, All-cons, All-nil}
use Rattle.std.proofs.lemmas.Bool.{cases_eq}
use Rattle.std.proofs.lemmas.List.{get_or-map, get_or-set_other, get_or-set_same, length-append, length-map, length-set, map-set, take_more}
use Rattle.ch_affine.specs.Affine.{IsAtMost, IsSmall, dot, form, value}
use Rattle.ch_affine.specs.Form.{Form}
use Rattle.ch_affine.proofs.Integers.{times_zero, times_plus}
use Rattle.ch_moved.specs.Changed.{AllLong}
use Rattle.ch_moved.specs.Spread.{column, constants}
use Rattle.ch_moved.specs.Substituted.{image}
use Rattle.ch_moved.proofs.UnitForms.{image_units}
use Rattle.ch_moved.proofs.Values.{dot_set, length_zeros, zero_at, unit_other, unit_same}
use Rattle.ch_space.specs.Built.{unit, units, zeros}
use Rattle.ch_space.proofs.Rowed.{dot_zeros}
use Rattle.ch_unroll.specs.Turns.{multiple, turn_forms}

pub length_units : (b n : ℕ) → length (units b n) ≡ n
length_units b zero = refl
length_units b (suc n) = ap suc (length_units (suc b) n)

pub units_at : (b n k : ℕ) (d : Form) → k < n → get_or (units b n) k d ≡ unit (b + k) (n - 1 - k)
units_at b zero k d l = absurd (omega arith)
units_at b (suc n) zero d l = let e : b ≡ b + 0 = omega arith in let f : n ≡ suc n - 1 - 0 = omega arith in ap₂ unit e f
units_at b (suc n) (suc k) d l =
    let e : suc b + k ≡ b + suc k = omega arith in
    let f : n - 1 - k ≡ suc n - 1 - suc k = omega arith in
    units_at (suc b) n k d (omega arith) ∙ ap₂ unit e f

pub length_multiple : (before after amount r : ℕ) → length (multiple before after amount r).coefs ≡ before + (after + 1)
length_multiple before after amount r =
    let a = length-append (zeros before) (pos amount ∷ zeros after) in
    let b = length_zeros before in
    let c = length_zeros after in
    omega arith

-- the values of the forms

zero_times : (x : ℤ) → pos 0 *ℤ x ≡ pos 0
zero_times x = omega (arith, ints)

dot_scaled : (before after : ℕ) (c : ℤ) (xs : List ℤ) → before < length xs → dot (zeros before ++ c ∷ zeros after) xs ≡ c *ℤ get_or xs before (pos 0)
dot_scaled zero after c [] l = absurd (omega arith)
dot_scaled zero after c (x ∷ xs) l = let z = dot_zeros after xs in omega (arith, ints)
dot_scaled (suc before) after c [] l = absurd (omega arith)
dot_scaled (suc before) after c (x ∷ xs) l = let z = zero_times x in omega (arith, ints, dot_scaled before after c xs (omega arith))

plus_comm : (a b : ℤ) → a +ℤ b ≡ b +ℤ a
plus_comm a b = omega (arith, ints)

-- all old values are the new ones, but for the one that is made of its quotient
pub image_turn : (n k amount r : ℕ) (ys : List ℤ) → length ys ≡ n → k < n → image (turn_forms n k amount r) ys ≡ set ys k (pos amount *ℤ get_or ys k (pos 0) +ℤ pos r)
image_turn n k amount r ys e l =
    map-set (λ g. value g ys) (units 0 n) k (multiple k (n - 1 - k) amount r)
    ∙ ap₂ (λ xs v. set xs k v) (image_units n ys e) (plus_comm (pos r) (dot (zeros k ++ pos amount ∷ zeros (n - 1 - k)) ys) ∙ ap (λ z. z +ℤ pos r) (dot_scaled k (n - 1 - k) (pos amount) ys (omega arith)))

pub count_turn : (n k amount r : ℕ) → length (turn_forms n k amount r) ≡ n
count_turn n k amount r = length-set (units 0 n) k (multiple k (n - 1 - k) amount r) ∙ length_units 0 n

same_or_not : (k l : ℕ) → (k ≡ l) ⊎ (k ≢ l)
same_or_not k l = cases_eq k l

-- what holds of one form and of units holds of all of them
pub each_turn : (P : Form → Type 0) (n k amount r : ℕ) → k < n → P (multiple k (n - 1 - k) amount r) → ((j : ℕ) → j < n → P (unit j (n - 1 - j))) → All P (turn_forms n k amount r)
each_turn P n k amount r l h units_do j d m =
    let c = count_turn n k amount r in
    let u = length_units 0 n in
    let one = multiple k (n - 1 - k) amount r in
    elim (same_or_not j k) as (λ _. P (get_or (set (units 0 n) k one) j d)) [
      | inl e ↦ subst P (sym (ap (λ i. get_or (set (units 0 n) k one) i d) e ∙ get_or-set_same (units 0 n) k one d (omega arith))) h
      | inr e ↦ subst P (sym (get_or-set_other (units 0 n) k j one d e ∙ units_at 0 n j d (omega arith) ∙ ap (λ i. unit i (n - 1 - j)) (zero_plus j))) (units_do j (omega arith))
    ]
  where
    zero_plus : (j : ℕ) → 0 + j ≡ j
    zero_plus j = omega arith

pub long_turn : (n k amount r : ℕ) → k < n → AllLong n (turn_forms n k amount r)
long_turn n k amount r l =
    each_turn (λ f. length f.coefs ≡ n) n k amount r l (let a = length_multiple k (n - 1 - k) amount r in omega arith)
    (λ j m. let a = length_multiple j (n - 1 - j) 1 0 in omega arith)

-- the coefficients of the new values

no_column : (cs : List ℤ) (b n j : ℕ) → j < b → dot cs (column j (units b n)) ≡ pos 0
no_column [] b n j l = refl
no_column (c ∷ cs) b zero j l = refl
no_column (c ∷ cs) b (suc n) j l =
    let u = unit_other b n j (λ e. absurd (omega arith)) in
    let z = ap (λ v. c *ℤ v) u ∙ times_zero c in
    let more = no_column cs (suc b) n j (omega arith) in
    omega (arith, ints)

one_column : (cs : List ℤ) (b n i j : ℕ) → j ≡ b + i → i < n → dot cs (column j (units b n)) ≡ get_or cs i (pos 0)
one_column [] b n i j e l = refl
one_column (c ∷ cs) b zero i j e l = absurd (omega arith)
one_column (c ∷ cs) b (suc n) zero j e l =
    let u = unit_same b n j (omega arith) in
    let o : c *ℤ pos 1 ≡ c = omega (arith, ints) in
    let z = ap (λ v. c *ℤ v) u ∙ o in
    let more = no_column cs (suc b) n j (omega arith) in
    omega (arith, ints)
one_column (c ∷ cs) b (suc n) (suc i) j e l =
    let u = unit_other b n j (λ f. absurd (omega arith)) in
    let z = ap (λ v. c *ℤ v) u ∙ times_zero c in
    let more = one_column cs (suc b) n i j (omega arith) (omega arith) in
    omega (arith, ints)

no_constants : (cs : List ℤ) (b n : ℕ) → dot cs (constants (units b n)) ≡ pos 0
no_constants [] b n = refl
no_constants (c ∷ cs) b zero = refl
no_constants (c ∷ cs) b (suc n) = let z = times_zero c in let more = no_constants cs (suc b) n in omega (arith, ints)

scaled_at : (before after j : ℕ) (c : ℤ) → j ≡ before → get_or (zeros before ++ c ∷ zeros after) j (pos 0) ≡ c
scaled_at zero after zero c e = refl
scaled_at zero after (suc j) c e = absurd (omega arith)
scaled_at (suc before) after zero c e = absurd (omega arith)
scaled_at (suc before) after (suc j) c e = scaled_at before after j c (omega arith)

scaled_past : (before after j : ℕ) (c : ℤ) → j ≢ before → get_or (zeros before ++ c ∷ zeros after) j (pos 0) ≡ pos 0
scaled_past zero after zero c e = absurd (e refl)
scaled_past zero after (suc j) c e = zero_at after j
scaled_past (suc before) after zero c e = refl
scaled_past (suc before) after (suc j) c e = scaled_past before after j c (λ f. e (ap suc f))

-- with one form in place of a unit
column_set : (cs : List ℤ) (n k j amount r : ℕ) → k < n → dot cs (column j (turn_forms n k amount r))
    ≡ dot cs (column j (units 0 n)) +ℤ get_or cs k (pos 0) *ℤ (get_or (multiple k (n - 1 - k) amount r).coefs j (pos 0) -ℤ get_or (unit k (n - 1 - k)).coefs j (pos 0))
column_set cs n k j amount r l =
    let one = multiple k (n - 1 - k) amount r in
    let u = length_units 0 n in
    let m = length-map (units 0 n) (λ (g : Form). get_or g.coefs j (pos 0)) in
    let at = get_or-map (λ (g : Form). get_or g.coefs j (pos 0)) (units 0 n) k (unit 0 0) (pos 0) (omega arith) ∙ ap (λ (g : Form). get_or g.coefs j (pos 0)) (units_at 0 n k (unit 0 0) l ∙ ap (λ i. unit i (n - 1 - k)) (zero_plus k)) in
    ap (dot cs) (map-set (λ (g : Form). get_or g.coefs j (pos 0)) (units 0 n) k one) ∙ dot_set cs (column j (units 0 n)) k (get_or one.coefs j (pos 0)) (omega arith)
    ∙ ap (λ z. dot cs (column j (units 0 n)) +ℤ get_or cs k (pos 0) *ℤ (get_or one.coefs j (pos 0) -ℤ z)) at
  where
    zero_plus : (j : ℕ) → 0 + j ≡ j
    zero_plus j = omega arith

pub column_there : (cs : List ℤ) (n k amount r : ℕ) → k < n → dot cs (column k (turn_forms n k amount r)) ≡ get_or cs k (pos 0) *ℤ pos amount
column_there cs n k amount r l =
    let c = get_or cs k (pos 0) in
    let a = one_column cs 0 n k k (omega arith) l in
    let p = scaled_at k (n - 1 - k) k (pos amount) refl in
    let q = scaled_at k (n - 1 - k) k (pos 1) refl in
    let d : pos 1 +ℤ (pos amount -ℤ pos 1) ≡ pos amount = omega (arith, ints) in
    let t = times_plus c (pos 1) (pos amount -ℤ pos 1) in
    let o : c *ℤ pos 1 ≡ c = omega (arith, ints) in
    column_set cs n k k amount r l ∙ ap₂ (λ x y. x +ℤ c *ℤ y) a (ap₂ (λ x y. x -ℤ y) p q) ∙ ap (λ x. x +ℤ c *ℤ (pos amount -ℤ pos 1)) (sym o) ∙ sym t ∙ ap (λ x. c *ℤ x) d

pub column_other : (cs : List ℤ) (n k j amount r : ℕ) → k < n → j < n → j ≢ k → dot cs (column j (turn_forms n k amount r)) ≡ get_or cs j (pos 0)
column_other cs n k j amount r l m e =
    let c = get_or cs k (pos 0) in
    let a = one_column cs 0 n j j (omega arith) m in
    let p = scaled_past k (n - 1 - k) j (pos amount) e in
    let q = scaled_past k (n - 1 - k) j (pos 1) e in
    let d : pos 0 -ℤ pos 0 ≡ pos 0 = omega (arith, ints) in
    let z = ap (λ x. c *ℤ x) d ∙ times_zero c in
    column_set cs n k j amount r l ∙ ap₂ (λ x y. x +ℤ c *ℤ y) a (ap₂ (λ x y. x -ℤ y) p q) ∙ omega (arith, ints)

pub constants_turn : (cs : List ℤ) (n k amount r : ℕ) → k < n → dot cs (constants (turn_forms n k amount r)) ≡ get_or cs k (pos 0) *ℤ pos r
constants_turn cs n k amount r l =
    let one = multiple k (n - 1 - k) amount r in
    let c = get_or cs k (pos 0) in
    let u = length_units 0 n in
    let m = length-map (units 0 n) (λ (g : Form). g.constant) in
    let at : get_or (constants (units 0 n)) k (pos 0) ≡ pos 0 = get_or-map (λ (g : Form). g.constant) (units 0 n) k (unit 0 0) (pos 0) (omega arith) ∙ ap (λ (g : Form). g.constant) (units_at 0 n k (unit 0 0) l) in
    let none = no_constants cs 0 n in
    let d : pos r -ℤ pos 0 ≡ pos r = omega (arith, ints) in
    let s : dot cs (constants (units 0 n)) +ℤ c *ℤ (pos r -ℤ get_or (constants (units 0 n)) k (pos 0)) ≡ pos 0 +ℤ c *ℤ pos r =
    ap₂ (λ x y. x +ℤ c *ℤ y) none (ap (λ z. pos r -ℤ z) at ∙ d) in
    ap (dot cs) (map-set (λ (g : Form). g.constant) (units 0 n) k one) ∙ dot_set cs (constants (units 0 n)) k (pos r) (omega arith) ∙ s ∙ omega (arith, ints)

-- the forms as the code makes them

small_zeros : (n : ℕ) → All (IsAtMost (2 ^ 60)) (zeros n)
small_zeros zero = All-nil (IsAtMost (2 ^ 60))
small_zeros (suc n) = All-cons (IsAtMost (2 ^ 60)) (pos 0) (zeros n) (omega arith) (small_zeros n)

pub multiple_is_small : (before after amount r : ℕ) (none first second made : List ℤ) (c k : ℤ) → before + after < 4096 → amount < 2 ^ 32 → r < 2 ^ 32 → none ≡ [] → first ≡ none ++ zeros before
    → c ≡ pos amount → second ≡ first ++ c ∷ [] → made ≡ second ++ zeros after → k ≡ pos r → IsSmall (form made k)
multiple_is_small before after amount r none first second made c k l a b e f g h i j =
    let same : made ≡ (multiple before after amount r).coefs =
    i ∙ ap (λ z. z ++ zeros after) (h ∙ ap₂ (λ z x. z ++ x ∷ []) (f ∙ ap (λ z. z ++ zeros before) e) g) ∙ append_assoc (zeros before) (pos amount ∷ []) (zeros after) in
    subst (λ z. IsSmall (form made z)) (sym j) (subst (λ z. IsSmall (form z (pos r))) (sym same) (record {
      few = let n = length_multiple before after amount r in omega arith;
      coefs =
          All-append (IsAtMost (2 ^ 60)) (zeros before) (pos amount ∷ zeros after) (small_zeros before)
          (All-cons (IsAtMost (2 ^ 60)) (pos amount) (zeros after) (omega arith) (small_zeros after));
      constant = omega arith;
    }))

pub turn_there : (n k amount r j : ℕ) → k < n → j ≡ k → get_or (turn_forms n k amount r) j (unit 0 0) ≡ multiple j (n - 1 - j) amount r
turn_there n k amount r j l e =
    let u = length_units 0 n in
    ap (λ i. get_or (turn_forms n k amount r) i (unit 0 0)) e ∙ get_or-set_same (units 0 n) k (multiple k (n - 1 - k) amount r) (unit 0 0) (omega arith) ∙ ap (λ i. multiple i (n - 1 - i) amount r) (sym e)

pub turn_elsewhere : (n k amount r j : ℕ) → j < n → j ≢ k → get_or (turn_forms n k amount r) j (unit 0 0) ≡ unit j (n - 1 - j)
turn_elsewhere n k amount r j l e = get_or-set_other (units 0 n) k j (multiple k (n - 1 - k) amount r) (unit 0 0) e ∙ units_at 0 n j (unit 0 0) l ∙ ap (λ i. unit i (n - 1 - j)) (zero_plus j)
  where
    zero_plus : (j : ℕ) → 0 + j ≡ j
    zero_plus j = omega arith

pub next_form : (forms now next : List Form) (k : ℕ) (one : Form) → k < length forms → one ≡ get_or forms k (unit 0 0) → now ≡ take k forms → next ≡ now ++ one ∷ [] → next ≡ take (k + 1) forms
next_form forms now next k one l o so_far p = p ∙ ap₂ (λ xs x. xs ++ x ∷ []) so_far o ∙ sym (take_more forms k (unit 0 0) l)
