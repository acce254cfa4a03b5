-- A loop along two rows.
use Rattle.std.proofs.Common.{◌≡◌, ◌≢◌, ℕ, zero, suc, ◌+◌, ◌<◌, ◌≤◌, List, [], ◌∷◌, ◌++◌, length, get_or, set, refl, sym, ap, ◌∙◌, subst, get_or-set_same, get_or-set_other, length-set, arith, length-append}
use Rattle.std.proofs.lemmas.List.{get_or_default}
use Rattle.std.proofs.Math.ListN.{get_or-append}
use Rattle.std.proofs.Math.Seq.{get_or-append_seam}
use mathlib.Core.Logic.{dite}
use native.Mathlib.Decide.{ℕ_discrete}
use Rattle.std.proofs.lemmas.Bool.{cases_lt}
use Rattle.std.proofs.Common.{◌⊎◌, inl, inr}
use Rattle.ch_seats.specs.Walk.{Walks, Row}

module _ {A B : Type 0} (P Q : ℕ → A → B → Type 0) (xs : List A) where
  pub walk_init : (ys : List B) → Row P xs ys → Walks P Q 0 xs ys
  walk_init ys r = (r.0, λ j a b l u. absurd (omega arith), λ j a b l u. r.1 j a b u)

  pub walk_here : (ys : List B) (i : ℕ) (x : A) (y : B) → i < length xs → x ≡ get_or xs i x → Walks P Q i xs ys → P i x (get_or ys i y)
  walk_here ys i x y low is w = subst (λ z. P i z (get_or ys i y)) (sym is) (w.2 i x y (omega arith) low)

  pub walk_next : (ys : List B) (i : ℕ) (x : A) (z : B) → i < length xs → x ≡ get_or xs i x → Walks P Q i xs ys → Q i x z → Walks P Q (i + 1) xs (set ys i z)
  walk_next ys i x z low is w q =
      let long = w.0 in (
        length-set ys i z ∙ w.0,
        λ j a b l u. dite (ℕ_discrete j i)
            (λ same. subst (λ (k : ℕ). Q k (get_or xs k a) (get_or (set ys i z) k b)) (sym same) (subst (Q i (get_or xs i a)) (sym (get_or-set_same ys i z b (omega arith))) (subst (λ v. Q i v z) (is ∙ get_or_default xs i x a low) q)))
            (λ ne. subst (Q j (get_or xs j a)) (sym (get_or-set_other ys i j z b ne)) (w.1 j a b (omega (arith, ne)) u)),
        λ j a b l u. subst (P j (get_or xs j a)) (sym (get_or-set_other ys i j z b (λ e. omega (arith, e)))) (w.2 j a b (omega arith) u),
      )

  pub walk_end : (ys : List B) (i : ℕ) → length xs ≤ i → Walks P Q i xs ys → Row Q xs ys
  walk_end ys i l w = (w.0, λ j a b u. w.1 j a b (omega arith) u)

-- ---- a row that grows

module _ {A B : Type 0} (P : ℕ → A → B → Type 0) (xs : List A) where
  pub row_push : (ys : List B) (k : ℕ) (x : A) (y : B) → k < length xs → length ys ≡ k → x ≡ get_or xs k x → P k x y → ((j : ℕ) (a : A) (b : B) → j < k → P j (get_or xs j a) (get_or ys j b)) → (j : ℕ) (a : A) (b : B) → j < k + 1 → P j (get_or xs j a) (get_or (ys ++ y ∷ []) j b)
  row_push ys k x y here long is new old i d e low = dite (ℕ_discrete i k)
      (λ same. subst (λ (z : ℕ). P z (get_or xs z d) (get_or (ys ++ y ∷ []) z e)) (long ∙ sym same)
      (subst (P (length ys) (get_or xs (length ys) d)) (sym (get_or-append_seam ys y [] e)) (subst (λ (z : ℕ). P z (get_or xs z d) y) (sym long) (subst (λ z. P k z y) (is ∙ get_or_default xs k x d here) new))))
      (λ ne. subst (P i (get_or xs i d)) (sym (get_or-append ys (y ∷ []) e i (omega (arith, ne)))) (old i d e (omega (arith, ne))))

module _ {B : Type 0} (P : ℕ → B → Type 0) where
  pub all_push : (ys : List B) (k : ℕ) (y : B) → length ys ≡ k → P k y → ((j : ℕ) (b : B) → j < k → P j (get_or ys j b)) → (j : ℕ) (b : B) → j < k + 1 → P j (get_or (ys ++ y ∷ []) j b)
  all_push ys k y long new old i e low = dite (ℕ_discrete i k)
      (λ same. subst (λ (z : ℕ). P z (get_or (ys ++ y ∷ []) z e)) (long ∙ sym same) (subst (P (length ys)) (sym (get_or-append_seam ys y [] e)) (subst (λ (z : ℕ). P z y) (sym long) new)))
      (λ ne. subst (P i) (sym (get_or-append ys (y ∷ []) e i (omega (arith, ne)))) (old i e (omega (arith, ne))))

module _ {A B : Type 0} (P Q R : ℕ → A → B → Type 0) (xs : List A) where
  pub row_map : (ys : List B) → ((i : ℕ) (a : A) (b : B) → P i a b → R i a b) → Row P xs ys → Row R xs ys
  row_map ys f r = (r.0, λ j a b u. f j (get_or xs j a) (get_or ys j b) (r.1 j a b u))

  pub row_here : (ys : List B) (i : ℕ) (x : A) (y : B) → i < length xs → x ≡ get_or xs i x → Row P xs ys → P i x (get_or ys i y)
  row_here ys i x y low is r = subst (λ z. P i z (get_or ys i y)) (sym is) (r.1 i x y low)

  pub row_put : (ys : List B) (i : ℕ) (x : A) (z : B) → i < length xs → x ≡ get_or xs i x → P i x z → Row P xs ys → Row P xs (set ys i z)
  row_put ys i x z low is new r =
      let long = r.0 in (
        length-set ys i z ∙ r.0,
        λ j a b u. dite (ℕ_discrete j i)
            (λ same. subst (λ (k : ℕ). P k (get_or xs k a) (get_or (set ys i z) k b)) (sym same) (subst (P i (get_or xs i a)) (sym (get_or-set_same ys i z b (omega arith))) (subst (λ v. P i v z) (is ∙ get_or_default xs i x a low) new)))
            (λ ne. subst (P j (get_or xs j a)) (sym (get_or-set_other ys i j z b ne)) (r.1 j a b u)),
      )

  pub walk_row : (ys : List B) (i : ℕ) → ((j : ℕ) (a : A) (b : B) → P j a b → R j a b) → ((j : ℕ) (a : A) (b : B) → Q j a b → R j a b) → Walks P Q i xs ys → Row R xs ys
  walk_row ys i f g w = (w.0, λ j a b u. at j a b u (cases_lt j i))
    where
      at : (j : ℕ) (a : A) (b : B) → j < length xs → (j < i) ⊎ (i ≤ j) → R j (get_or xs j a) (get_or ys j b)
      at j a b u (inl l) = g j (get_or xs j a) (get_or ys j b) (w.1 j a b l u)
      at j a b u (inr l) = f j (get_or xs j a) (get_or ys j b) (w.2 j a b l u)
