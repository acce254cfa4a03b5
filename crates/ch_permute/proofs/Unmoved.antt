-- Commands that change no loop value leave a list as it is, but for closing up.
use Rattle.std.proofs.Common.{◌≡◌, refl, ap, ap₂, ◌∙◌, ℕ, zero, suc, ◌+◌, ◌-◌, ℤ, pos, ◌+ℤ◌, Bool, true, false, cond, List, [], ◌∷◌, map, set, int_eq, arith}
use Rattle.std.specs.List.{range_with_len}
use Rattle.std.proofs.lemmas.Bool.{and_parts, both_ways}
use Rattle.std.proofs.lemmas.Int.{ints}
use Rattle.std.proofs.lemmas.List.{set-get_or}
use Rattle.ch_affine.specs.Affine.{dot}
use Rattle.ch_moved.specs.Arguments.{at_level, is_named, natural}
use Rattle.ch_moved.specs.Moved.{moved, revalued}
use Rattle.ch_permute.specs.Permuted.{in_moving, moving, permuted, picked}
use Rattle.ch_permute.specs.Raised.{raised, shifted, skewed}
use Rattle.ch_space.specs.Built.{zeros}
use Rattle.ch_space.proofs.Rowed.{dot_zeros}
use Rattle.ch_timed.specs.Closed.{at_vector, closed_up}
use Rattle.ch_timed.specs.Timed.{have_vectors, identities_differ, in_order, is_vector, is_well_formed, pieces_apart, vectors_ascend}
use Rattle.ch_timed.specs.Vectors.{places, values, woven}
use Rattle.ch_timed.specs.declared.element.Element.{Element}
use Rattle.ch_timed.proofs.Sorted.{adjacent_ascends, ascends_ordered}

woven_back : (v : List ℤ) → is_vector v ≡ true → woven (places v) (values v) ≡ v
woven_back [] e = absurd (both_ways _ refl e)
woven_back (p ∷ []) e = refl
woven_back (p ∷ x ∷ more) e = ap (λ t. p ∷ x ∷ t) (woven_back more e)

chosen_same : (b : Bool) (e f : Element) → f ≡ e → cond b f e ≡ e
chosen_same true e f h = h
chosen_same false e f h = refl

module _ (inside : List ℤ → Bool) (f : List ℤ → List ℤ) (still : (xs : List ℤ) → f xs ≡ xs) where
  stays : (e : Element) → is_vector e.vector ≡ true → revalued inside f e ≡ e
  stays e v =
      chosen_same (inside (places e.vector)) e (at_vector e (woven (places e.vector) (f (values e.vector))))
      (ap (at_vector e) (ap (woven (places e.vector)) (still (values e.vector)) ∙ woven_back e.vector v))

  all_stay : (list : List Element) → have_vectors list ≡ true → map (revalued inside f) list ≡ list
  all_stay [] h = refl
  all_stay (e ∷ es) h = let r = and_parts (is_vector e.vector) (have_vectors es) h in ap₂ (λ x xs. x ∷ xs) (stays e r.0) (all_stay es r.1)

ordered_already : (list : List Element) → is_well_formed list ≡ true → (in_order list ≡ list) × (have_vectors list ≡ true)
ordered_already list h =
    let a = and_parts (identities_differ list) _ h in
    let b = and_parts (vectors_ascend list) _ a.1 in
    let c = and_parts (pieces_apart list) (have_vectors list) b.1 in
    (ascends_ordered list (adjacent_ascends list b.0), c.1)

unmoved : (inside : List ℤ → Bool) (f : List ℤ → List ℤ) (list : List Element) → ((xs : List ℤ) → f xs ≡ xs) → is_well_formed list ≡ true → moved (revalued inside f) list ≡ closed_up list
unmoved inside f list still h =
    let o = ordered_already list h in
    ap (λ z. closed_up (in_order z)) (all_stay inside f still list o.1) ∙ ap closed_up o.0

-- no level moves

itself_equal : (z : ℤ) → int_eq z z ≡ true
itself_equal z = grind (arith, ints)

none_moves : (n level : ℕ) → moving level (map (λ k. pos k) (range_with_len level n)) ≡ []
none_moves zero level = refl
none_moves (suc n) level =
    let e : level + 1 ≡ suc level = omega arith in
    let m : moving (suc level) (map (λ k. pos k) (range_with_len (level + 1) n)) ≡ [] = ap (λ k. moving (suc level) (map (λ k. pos k) (range_with_len k n))) e ∙ none_moves n (suc level) in
    rw (itself_equal (pos level)) m

none_inside : (list : List Element) (e : Element) (f : List ℤ → List ℤ) → revalued (λ ps. false) f e ≡ e
none_inside list e f = refl

all_outside : (f : List ℤ → List ℤ) (list : List Element) → map (revalued (λ ps. false) f) list ≡ list
all_outside f [] = refl
all_outside f (e ∷ es) = ap (λ xs. e ∷ xs) (all_outside f es)

pub same_order : (list : List Element) (s : ℤ) (m : ℕ) → is_well_formed list ≡ true → permuted list s (map (λ k. pos k) (range_with_len 1 m)) ≡ closed_up list
same_order list s m h =
    let order = map (λ (k : ℕ). pos k) (range_with_len 1 m) in
    let e : moving 1 order ≡ [] = none_moves m 1 in
    let o = ordered_already list h in
    ap (λ ms. moved (revalued (in_moving list s ms) (picked order)) list) e
    ∙ ap (λ z. closed_up (in_order z)) (all_outside (picked order) list) ∙ ap closed_up o.0

-- nothing is added

nothing_more : (level : ℤ) (by : List ℤ → ℤ) (xs : List ℤ) → by xs ≡ pos 0 → raised level by xs ≡ xs
nothing_more level by xs e =
    let x = at_level (natural level) xs in
    let z : x +ℤ by xs ≡ x = omega (arith, ints) in
    ap (set xs (natural level - 1)) z ∙ set-get_or xs (natural level - 1) (pos 0)

pub skewed_by_zeros : (list : List Element) (numbers : List ℤ) (level : ℤ) (n : ℕ) → is_well_formed list ≡ true → skewed list numbers level (zeros n) ≡ closed_up list
skewed_by_zeros list numbers level n h = unmoved (is_named list numbers) (raised level (dot (zeros n))) list (λ xs. nothing_more level (dot (zeros n)) xs (dot_zeros n xs)) h

pub shifted_by_zero : (list : List Element) (numbers : List ℤ) (level : ℤ) → is_well_formed list ≡ true → shifted list numbers level (pos 0) ≡ closed_up list
shifted_by_zero list numbers level h = unmoved (is_named list numbers) (raised level (λ xs. pos 0)) list (λ xs. nothing_more level (λ ys. pos 0) xs refl) h
