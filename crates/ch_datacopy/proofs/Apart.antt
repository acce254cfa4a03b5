-- How far the cells of uses stand apart, told use by use.
use Rattle.std.proofs.Common.{◌≡◌, refl, sym, ap, ◌∙◌, subst, ℕ, ◌+◌, ◌<◌, ◌≤◌, ◌^◌, ℤ, pos, ◌-ℤ◌, ◌≤ℤ◌, ◌<ℤ◌, unsigned_abs, true, false, Some, None, List, [], ◌∷◌, ◌++◌, length, take, get_or, slice_index_or, ◌⊎◌, inl, inr, arith}
use Rattle.std.specs.List.{All}
use Rattle.std.specs.Prelude.{int_lt, if◌then◌else◌}
use Rattle.std.proofs.lemmas.Bool.{cases_Bool}
use Rattle.std.proofs.lemmas.Int.{ints}
use Rattle.std.proofs.lemmas.List.{take_all, take_more}
use Rattle.ch_affine.specs.Affine.{IsAtMost}
use Rattle.ch_datacopy.specs.Pairs.{IsPairOf, IsWidest}
use Rattle.ch_datacopy.specs.Widths.{AreApart, IsRoomy, IsWidth, wider}
use Rattle.ch_datacopy.specs.declared.cells.Cells.{Cells}
use Rattle.ch_copied.proofs.Lists.{append_left, append_right, in_append}
use Rattle.ch_timed.specs.Members.{In}

less_of : (u v : ℤ) → int_lt u v ≡ true → u <ℤ v
less_of u v t = grind (arith, ints)

not_less_of : (u v : ℤ) → int_lt u v ≡ false → v ≤ℤ u
not_less_of u v t = grind (arith, ints)

module _ (around cells k : ℕ) where
  abbrev Differ : List ℤ → List ℤ → ℤ
  Differ first second = slice_index_or first k (pos 0) -ℤ slice_index_or second k (pos 0)

  -- lists of uses that have these members
  apart_in : (us us2 vs vs2 : List Cells) (w : ℕ) → ((u : Cells) → In u us → In u us2) → ((v : Cells) → In v vs → In v vs2) → (w ≡ 0) ⊎ AreApart around cells k us vs w
      → (w ≡ 0) ⊎ AreApart around cells k us2 vs2 w
  apart_in us us2 vs vs2 w f g (inl e) = inl e
  apart_in us us2 vs vs2 w f g (inr a) = inr (record {
    first = a.first;
    second = a.second;
    first_is = f a.first a.first_is;
    second_is = g a.second a.second_is;
    prefix = a.prefix;
    first_cell = a.first_cell;
    second_cell = a.second_cell;
    pair = a.pair;
    differ = a.differ;
  })

  -- no use yet
  pub width_none : (us : List Cells) → IsWidth around cells k us [] 0
  width_none us = record {
    enough = λ u v prefix first second i j p. absurd j;
    needed = inl refl;
  }

  pub none_width : (vs : List Cells) → IsWidth around cells k [] vs 0
  none_width vs = record {
    enough = λ u v prefix first second i j p. absurd i;
    needed = inl refl;
  }

  -- one use more, that has no pair with the first one
  second_none : (u v : Cells) (vs : List Cells) (w : ℕ) → IsWidth around cells k (u ∷ []) vs w → IsWidest around cells k u v None → IsWidth around cells k (u ∷ []) (vs ++ v ∷ []) w
  second_none u v vs w h none = record {
    enough = λ x y prefix first second i j p. elim (in_append vs (v ∷ []) y j) as (λ _. Differ first second ≤ℤ pos w) [
      | inl l ↦ h.enough x y prefix first second i l p
      | inr l ↦ absurd (none prefix first second (moved x y prefix first second i l p))
    ];
    needed = apart_in (u ∷ []) (u ∷ []) vs (vs ++ v ∷ []) w (λ x i. i) (λ x i. append_left vs (v ∷ []) x i) h.needed;
  }
    where
      moved : (x y : Cells) (prefix first second : List ℤ) → In x (u ∷ []) → In y (v ∷ []) → IsPairOf around cells x y prefix first second → IsPairOf around cells u v prefix first second
      moved x y prefix first second (inl e) (inl f) p = subst (λ z. IsPairOf around cells z v prefix first second) (sym e) (subst (λ z. IsPairOf around cells x z prefix first second) (sym f) p)
      moved x y prefix first second (inl e) (inr n) p = absurd n
      moved x y prefix first second (inr n) j p = absurd n

  second_some : (u v : Cells) (vs : List Cells) (w : ℕ) (g : ℤ) → IsWidth around cells k (u ∷ []) vs w → IsWidest around cells k u v (Some g) → IsWidth around cells k (u ∷ []) (vs ++ v ∷ []) (wider w g)
  second_some u v vs w g h top = elim (cases_Bool (int_lt (pos w) g)) as (λ _. IsWidth around cells k (u ∷ []) (vs ++ v ∷ []) (wider w g)) [
    | inl t ↦
        let l = less_of (pos w) g t in
        let e : wider w g ≡ unsigned_abs g = ap (λ b. if b then unsigned_abs g else w) t in
        let same : pos (unsigned_abs g) ≡ g = omega (arith, ints, l) in
        subst (IsWidth around cells k (u ∷ []) (vs ++ v ∷ [])) (sym e) (record {
          enough = λ x y prefix first second i j p. elim (in_append vs (v ∷ []) y j) as (λ _. Differ first second ≤ℤ pos (unsigned_abs g)) [
            | inl m ↦ let b = h.enough x y prefix first second i m p in omega (arith, ints, b, same, l)
            | inr m ↦ let b = top.0 prefix first second (moved x y prefix first second i m p) in omega (arith, ints, b, same)
          ];
          needed = inr (record {
            first = u;
            second = v;
            first_is = inl refl;
            second_is = append_right vs (v ∷ []) v (inl refl);
            prefix = top.1.0;
            first_cell = top.1.1;
            second_cell = top.1.2;
            pair = top.1.3;
            differ = top.1.4 ∙ sym same;
          });
        })
    | inr t ↦
        let l = not_less_of (pos w) g t in
        let e : wider w g ≡ w = ap (λ b. if b then unsigned_abs g else w) t in
        subst (IsWidth around cells k (u ∷ []) (vs ++ v ∷ [])) (sym e) (record {
          enough = λ x y prefix first second i j p. elim (in_append vs (v ∷ []) y j) as (λ _. Differ first second ≤ℤ pos w) [
            | inl m ↦ h.enough x y prefix first second i m p
            | inr m ↦ let b = top.0 prefix first second (moved x y prefix first second i m p) in omega (arith, ints, b, l)
          ];
          needed = apart_in (u ∷ []) (u ∷ []) vs (vs ++ v ∷ []) w (λ x i. i) (λ x i. append_left vs (v ∷ []) x i) h.needed;
        })
  ]
    where
      moved : (x y : Cells) (prefix first second : List ℤ) → In x (u ∷ []) → In y (v ∷ []) → IsPairOf around cells x y prefix first second → IsPairOf around cells u v prefix first second
      moved x y prefix first second (inl e) (inl f) p = subst (λ z. IsPairOf around cells z v prefix first second) (sym e) (subst (λ z. IsPairOf around cells x z prefix first second) (sym f) p)
      moved x y prefix first second (inl e) (inr n) p = absurd n
      moved x y prefix first second (inr n) j p = absurd n

  -- the next one of a list
  pub next_none : (u v : Cells) (vs : List Cells) (n w : ℕ) → n < length vs → v ≡ get_or vs n v → IsWidth around cells k (u ∷ []) (take n vs) w → IsWidest around cells k u v None
      → IsWidth around cells k (u ∷ []) (take (n + 1) vs) w
  next_none u v vs n w l e h none =
      subst (λ z. IsWidth around cells k (u ∷ []) z w) (sym (take_more vs n v l ∙ ap (λ z. take n vs ++ z ∷ []) (sym e))) (second_none u v (take n vs) w h none)

  pub next_some : (u v : Cells) (vs : List Cells) (n w next : ℕ) (g : ℤ) → n < length vs → v ≡ get_or vs n v → IsWidth around cells k (u ∷ []) (take n vs) w → IsWidest around cells k u v (Some g)
      → next ≡ wider w g → IsWidth around cells k (u ∷ []) (take (n + 1) vs) next
  next_some u v vs n w next g l e h top f =
      subst (λ z. IsWidth around cells k (u ∷ []) (take (n + 1) vs) z) (sym f)
      (subst (λ z. IsWidth around cells k (u ∷ []) z (wider w g)) (sym (take_more vs n v l ∙ ap (λ z. take n vs ++ z ∷ []) (sym e))) (second_some u v (take n vs) w g h top))

  pub all_width : (us vs : List Cells) (n w : ℕ) → length vs ≤ n → IsWidth around cells k us (take n vs) w → IsWidth around cells k us vs w
  all_width us vs n w l h = subst (λ z. IsWidth around cells k us z w) (take_all n vs l) h

  pub width_all : (us vs : List Cells) (n w : ℕ) → length us ≤ n → IsWidth around cells k (take n us) vs w → IsWidth around cells k us vs w
  width_all us vs n w l h = subst (λ z. IsWidth around cells k z vs w) (take_all n us l) h

  -- the greater one of two widths
  both : (us vs : List Cells) (u : Cells) (w x y : ℕ) → IsWidth around cells k us vs w → IsWidth around cells k (u ∷ []) vs x → w ≤ y → x ≤ y → (y ≡ w) ⊎ (y ≡ x) → IsWidth around cells k (us ++ u ∷ []) vs y
  both us vs u w x y h g l m c = record {
    enough = λ a b prefix first second i j p. elim (in_append us (u ∷ []) a i) as (λ _. Differ first second ≤ℤ pos y) [
      | inl n ↦ let d = h.enough a b prefix first second n j p in omega (arith, ints, d, l)
      | inr n ↦ let d = g.enough a b prefix first second n j p in omega (arith, ints, d, m)
    ];
    needed = elim c as (λ _. (y ≡ 0) ⊎ AreApart around cells k (us ++ u ∷ []) vs y) [
      | inl e ↦ apart_in us (us ++ u ∷ []) vs vs y (λ z i. append_left us (u ∷ []) z i) (λ z i. i) (subst (λ z. (z ≡ 0) ⊎ AreApart around cells k us vs z) (sym e) h.needed)
      | inr e ↦ apart_in (u ∷ []) (us ++ u ∷ []) vs vs y (λ z i. append_right us (u ∷ []) z i) (λ z i. i) (subst (λ z. (z ≡ 0) ⊎ AreApart around cells k (u ∷ []) vs z) (sym e) g.needed)
    ];
  }

  pub next_first : (us vs : List Cells) (n : ℕ) (u : Cells) (w x y : ℕ) → n < length us → u ≡ get_or us n u → IsWidth around cells k (take n us) vs w → IsWidth around cells k (u ∷ []) vs x
      → w ≤ y → x ≤ y → (y ≡ w) ⊎ (y ≡ x) → IsWidth around cells k (take (n + 1) us) vs y
  next_first us vs n u w x y l e h g a b c =
      subst (λ z. IsWidth around cells k z vs y) (sym (take_more us n u l ∙ ap (λ z. take n us ++ z ∷ []) (sym e))) (both (take n us) vs u w x y h g a b c)

-- cells of magnitude at most 2^18 differ by at most 2^19
at_small : (xs : List ℤ) (k : ℕ) → All (IsAtMost (2 ^ 18)) xs → k < length xs → IsAtMost (2 ^ 18) (get_or xs k (pos 0))
at_small xs k h l = h k (pos 0) l

pub widest_small : (around cells k : ℕ) (u v : Cells) (g : ℤ) → k < cells → IsRoomy around cells u → IsRoomy around cells v → IsWidest around cells k u v (Some g) → IsAtMost (2 ^ 19) g
widest_small around cells k u v g l ru rv top =
    let p = top.1.3 in
    let a = ru.near top.1.0 top.1.1 p.prefix_long p.in_first in
    let b = rv.near top.1.0 top.1.2 p.prefix_long p.in_second in
    let m = p.first_long in
    let n = p.second_long in
    let x = at_small top.1.1 k a (omega (arith, l, m)) in
    let y = at_small top.1.2 k b (omega (arith, l, n)) in
    let d = top.1.4 in
    omega (arith, ints, x, y, d)
