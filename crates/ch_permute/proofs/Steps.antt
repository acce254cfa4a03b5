-- The steps of the code over orders and forms.
use Rattle.std.proofs.Common.{◌≡◌, ◌≢◌, refl, sym, ap, ap₂, ◌∙◌, subst, ℕ, zero, suc, ◌+◌, ◌-◌, ◌<◌, ◌≤◌, ◌^◌, ℤ, pos, ◌-ℤ◌, neg_ℤ, unsigned_abs, Bool, true, false, List, [], ◌∷◌, ◌++◌, map, length, get_or, set, take, drop, ◌+ℤ◌, arith}
use Rattle.ch_moved.specs.Room.{origin_range}
use Rattle.std.specs.List.{All, list_all, list_any, range_with_len}
use Rattle.std.specs.Ordering.{int_eq}
use Rattle.std.proofs.lemmas.Int.{ints}
use Rattle.std.proofs.lemmas.Bool.{and_from}
use Rattle.std.proofs.lemmas.List.{drop_all, get_or-set_other, get_or-set_same, length-append, length-map, length-set, drop_more, take_at, take_more}
use Rattle.std.proofs.lemmas.List.Elements.{All-append, All-cons, All-map, All-nil}
use Rattle.std.proofs.lemmas.List.Folds.{list_all-append, list_all_at}
use Rattle.std.proofs.lemmas.List.FromFn.{get_or-range_with_len, length-range_with_len, map-range_with_len_more}
use Rattle.ch_affine.specs.Affine.{IsAtMost, IsSmall, form}
use Rattle.ch_affine.specs.Form.{Form}
use Rattle.ch_affine.specs.declared.system.Range.{Range}
use Rattle.ch_nest.specs.Shape.{greatest_sum, greatest_term, least_sum, least_term}
use Rattle.ch_space.proofs.PieceNumbers.{range_more}
use Rattle.ch_space.specs.Built.{unit, zeros}
use Rattle.ch_permute.specs.Lowered.{greater, less, minus_forms}
use Rattle.ch_permute.specs.Permuted.{is_permutation}
use Rattle.ch_permute.specs.Turned.{source, turned_forms}
use Rattle.ch_permute.proofs.Columns.{form_at, forms_count, length_unit}
use Rattle.ch_permute.proofs.Turns.{level_at, order_of, source_in}

-- whether an order is one

pub not_permutation : (order : List ℤ) (k : ℕ) (z : ℤ) → k < length order → z ≡ pos (k + 1) → false ≡ list_any (int_eq z) order → false ≡ is_permutation order
not_permutation order k z l e h =
    let t : ℕ → Bool = λ level. list_any (int_eq (pos level)) order in
    let r = length-range_with_len 1 (length order) in
    let a : get_or (range_with_len 1 (length order)) k 0 ≡ k + 1 = get_or-range_with_len 1 (length order) k 0 l ∙ omega arith in
    sym (list_all_at t (range_with_len 1 (length order)) k 0 (omega arith) (ap t a ∙ ap (λ w. list_any (int_eq w) order) (sym e) ∙ sym h))

pub more_levels : (order : List ℤ) (k : ℕ) (z : ℤ) → z ≡ pos (k + 1) → true ≡ list_any (int_eq z) order → list_all (λ level. list_any (int_eq (pos level)) order) (range_with_len 1 k) ≡ true
    → list_all (λ level. list_any (int_eq (pos level)) order) (range_with_len 1 (k + 1)) ≡ true
more_levels order k z e h so_far =
    let t : ℕ → Bool = λ level. list_any (int_eq (pos level)) order in
    ap (list_all t) (range_more 1 k (k + 1) (omega arith)) ∙ list_all-append t (range_with_len 1 k) ((k + 1) ∷ [])
    ∙ and_from _ _ so_far (and_from _ _ (ap (λ w. list_any (int_eq w) order) (sym e) ∙ sym h) refl)

-- the number of a level is one
pub level_number : (order : List ℤ) (k : ℕ) → is_permutation order ≡ true → k < length order → (i : ℕ) × (i < length order) × (get_or order k (pos 0) ≡ pos (suc i))
level_number order k p l = level_at order (order_of order p) k l

pub source_value : (order : List ℤ) (k : ℕ) (z : ℤ) → is_permutation order ≡ true → k < length order → z ≡ get_or order k (pos 0) → unsigned_abs z - 1 ≡ source order k
source_value order k z p l e =
    let r = level_number order k p l in
    ap (λ w. unsigned_abs w - 1) (e ∙ r.2) ∙ sym (source_in order (order_of order p) k l ∙ ap (λ w. Rattle.ch_moved.specs.Arguments.natural w - 1) r.2)

-- forms are small

small_zeros : (n : ℕ) → All (IsAtMost (2 ^ 60)) (zeros n)
small_zeros zero = All-nil (IsAtMost (2 ^ 60))
small_zeros (suc n) = All-cons (IsAtMost (2 ^ 60)) (pos 0) (zeros n) (omega arith) (small_zeros n)

small_unit : (before after : ℕ) → All (IsAtMost (2 ^ 60)) (zeros before ++ pos 1 ∷ zeros after)
small_unit before after = All-append (IsAtMost (2 ^ 60)) (zeros before) (pos 1 ∷ zeros after) (small_zeros before) (All-cons (IsAtMost (2 ^ 60)) (pos 1) (zeros after) (omega arith) (small_zeros after))

pub unit_is_small : (before after : ℕ) (made : List ℤ) → before + after < 4096 → made ≡ (unit before after).coefs → IsSmall (record { coefs = made; constant = pos 0 })
unit_is_small before after made l e = subst (λ t. IsSmall (record { coefs = t; constant = pos 0 })) (sym e) (record {
  few = let n = length_unit before after in omega arith;
  coefs = small_unit before after;
  constant = omega arith;
})

small_neg : (z : ℤ) → IsAtMost (2 ^ 59) z → IsAtMost (2 ^ 60) (neg_ℤ z)
small_neg z s = grind (arith, ints)

pub less_is_small : (f : Form) (gap after : ℕ) (first made : List ℤ) (k : ℤ) → length f.coefs + gap + after < 4096 → All (IsAtMost (2 ^ 59)) f.coefs → IsAtMost (2 ^ 59) f.constant
    → first ≡ map neg_ℤ f.coefs → made ≡ first ++ (unit gap after).coefs → k ≡ neg_ℤ f.constant → IsSmall (record { coefs = made; constant = k })
less_is_small f gap after first made k l s c ef em ek =
    let n = length-map f.coefs neg_ℤ in
    let m = length_unit gap after in
    let o = length-append (map neg_ℤ f.coefs) (unit gap after).coefs in
    let e : made ≡ map neg_ℤ f.coefs ++ (unit gap after).coefs = em ∙ ap (λ t. t ++ (unit gap after).coefs) ef in
    subst (λ t. IsSmall (record { coefs = t; constant = k })) (sym e) (record {
      few = omega arith;
      coefs =
          All-append (IsAtMost (2 ^ 60)) (map neg_ℤ f.coefs) (unit gap after).coefs (All-map (IsAtMost (2 ^ 60)) neg_ℤ f.coefs (λ j d h. small_neg (get_or f.coefs j d) (s j d h)))
          (small_unit gap after);
      constant = subst (IsAtMost (2 ^ 60)) (sym ek) (small_neg f.constant c);
    })

pub negated_number : (z : ℤ) → pos 0 -ℤ z ≡ neg_ℤ z
negated_number z = omega (arith, ints)

-- lists of forms

pub next_turned : (t : ℕ → ℕ) (n k to : ℕ) (one : Form) (now next : List Form) → to ≡ t k → one ≡ unit to (n - 1 - to)
    → now ≡ map (λ j. unit (t j) (n - 1 - t j)) (range_with_len 0 k) → next ≡ now ++ one ∷ [] → next ≡ map (λ j. unit (t j) (n - 1 - t j)) (range_with_len 0 (k + 1))
next_turned t n k to one now next e o so_far p =
    p ∙ ap₂ (λ xs x. xs ++ x ∷ []) so_far (o ∙ ap (λ m. unit m (n - 1 - m)) e) ∙ sym (map-range_with_len_more (λ j. unit (t j) (n - 1 - t j)) 0 k k (omega arith))

pub minus_at : (f : Form) (level n : ℕ) → level < n → get_or (minus_forms f level n) level (unit 0 0) ≡ less f (level - length f.coefs) (n - 1 - level)
minus_at f level n l =
    let c = forms_count (λ j. j) n in
    get_or-set_same (turned_forms (λ j. j) n) level (less f (level - length f.coefs) (n - 1 - level)) (unit 0 0) (omega arith)

pub minus_other : (f : Form) (level n k : ℕ) → k < n → k ≢ level → get_or (minus_forms f level n) k (unit 0 0) ≡ unit k (n - 1 - k)
minus_other f level n k l h =
    get_or-set_other (turned_forms (λ j. j) n) level k (less f (level - length f.coefs) (n - 1 - level)) (unit 0 0) h ∙ form_at (λ j. j) n k l

pub minus_count : (f : Form) (level n : ℕ) → length (minus_forms f level n) ≡ n
minus_count f level n = length-set (turned_forms (λ j. j) n) level (less f (level - length f.coefs) (n - 1 - level)) ∙ forms_count (λ j. j) n

pub next_minus : (forms now next : List Form) (k : ℕ) (one : Form) → k < length forms → one ≡ get_or forms k (unit 0 0) → now ≡ take k forms → next ≡ now ++ one ∷ [] → next ≡ take (k + 1) forms
next_minus forms now next k one l o so_far p = p ∙ ap₂ (λ xs x. xs ++ x ∷ []) so_far o ∙ sym (take_more forms k (unit 0 0) l)

-- ranges

pub set_written : {X : Type 0} (r s boxes : List X) (k : ℕ) (b c : X) → r ≡ boxes → s ≡ r → b ≡ c → take (length r) (set s k b ++ drop (length (set s k b)) r) ≡ set boxes k c
set_written r s boxes k b c e f h =
    let n = length-set s k b in
    let m = ap length f in
    take_at (set s k b) (drop (length (set s k b)) r) (length r) (omega arith) ∙ ap₂ (λ xs x. set xs k x) (f ∙ e) h

pub next_box : (s : ℕ → ℕ) (boxes now next : List Range) (k to : ℕ) (one : Range) → to ≡ s k → one ≡ get_or boxes to origin_range → now ≡ map (λ j. get_or boxes (s j) origin_range) (range_with_len 0 k)
    → next ≡ now ++ one ∷ [] → next ≡ map (λ j. get_or boxes (s j) origin_range) (range_with_len 0 (k + 1))
next_box s boxes now next k to one e o so_far p =
    p ∙ ap₂ (λ xs x. xs ++ x ∷ []) so_far (o ∙ ap (λ j. get_or boxes j origin_range) e) ∙ sym (map-range_with_len_more (λ j. get_or boxes (s j) origin_range) 0 k k (omega arith))

least_first : (cs : List ℤ) (rs : List Range) (k : ℕ) → k < length cs → k < length rs
    → least_sum (drop k cs) (drop k rs) ≡ least_term (get_or cs k (pos 0)) (get_or rs k origin_range) +ℤ least_sum (drop (k + 1) cs) (drop (k + 1) rs)
least_first cs rs k l m = ap₂ (λ x y. least_sum x y) (drop_more cs k (pos 0) l) (drop_more rs k origin_range m)

greatest_first : (cs : List ℤ) (rs : List Range) (k : ℕ) → k < length cs → k < length rs
    → greatest_sum (drop k cs) (drop k rs) ≡ greatest_term (get_or cs k (pos 0)) (get_or rs k origin_range) +ℤ greatest_sum (drop (k + 1) cs) (drop (k + 1) rs)
greatest_first cs rs k l m = ap₂ (λ x y. greatest_sum x y) (drop_more cs k (pos 0) l) (drop_more rs k origin_range m)

pub next_least : (cs : List ℤ) (rs : List Range) (k : ℕ) (sum term next total : ℤ) → k < length cs → k < length rs → term ≡ least_term (get_or cs k (pos 0)) (get_or rs k origin_range) → next ≡ sum +ℤ term
    → sum +ℤ least_sum (drop k cs) (drop k rs) ≡ total → next +ℤ least_sum (drop (k + 1) cs) (drop (k + 1) rs) ≡ total
next_least cs rs k sum term next total l m e n t = let f = least_first cs rs k l m in omega (arith, ints)

pub next_greatest : (cs : List ℤ) (rs : List Range) (k : ℕ) (sum term next total : ℤ) → k < length cs → k < length rs → term ≡ greatest_term (get_or cs k (pos 0)) (get_or rs k origin_range) → next ≡ sum +ℤ term
    → sum +ℤ greatest_sum (drop k cs) (drop k rs) ≡ total → next +ℤ greatest_sum (drop (k + 1) cs) (drop (k + 1) rs) ≡ total
next_greatest cs rs k sum term next total l m e n t = let f = greatest_first cs rs k l m in omega (arith, ints)

pub greater_is : (cs : List ℤ) (a t : ℤ) (rs : List Range) (r sum : Range) (k : ℕ) → length cs ≤ k → t ≡ a
    → sum.low +ℤ least_sum (drop k cs) (drop k rs) ≡ (r.low +ℤ t) +ℤ least_sum cs rs → sum.high +ℤ greatest_sum (drop k cs) (drop k rs) ≡ (r.high +ℤ t) +ℤ greatest_sum cs rs
    → sum ≡ greater (form cs a) rs r
greater_is cs a t rs r sum k l e low high =
    let n : least_sum (drop k cs) (drop k rs) ≡ pos 0 = ap (λ xs. least_sum xs (drop k rs)) (drop_all k cs l) in
    let m : greatest_sum (drop k cs) (drop k rs) ≡ pos 0 = ap (λ xs. greatest_sum xs (drop k rs)) (drop_all k cs l) in
    let p : sum.low ≡ r.low +ℤ (a +ℤ least_sum cs rs) = omega (arith, ints) in
    let q : sum.high ≡ r.high +ℤ (a +ℤ greatest_sum cs rs) = omega (arith, ints) in
    λ i. record { low = p i; high = q i }
