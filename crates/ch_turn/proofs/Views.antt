-- The list of all views, after one of them changed or a new one came.
use Rattle.std.proofs.Common.{◌≡◌, ◌≢◌, ℕ, zero, suc, ◌+◌, ◌≤◌, ◌⊎◌, Bool, true, List, [], ◌∷◌, ◌++◌, length, set, sym, refl, ap, ◌∙◌, subst, inl, inr, ⊎_elim, arith}
use Rattle.std.proofs.lemmas.List.Sums.{sum_by-cons}
use Rattle.std.specs.List.{sum_by}
use mathlib.Core.Logic.{dite}
use mathlib.Core.Option.{some, some-injective, some-ne-none}
use native.Mathlib.Decide.{ℕ_discrete}
use lib.ListN.{get_elem?}
use Rattle.atomic_table.proofs.Lists.{at_set, at_longer, set_else}
use Rattle.ch_turn.specs.declared.view.View.{View}
use Rattle.ch_turn.specs.Views.{is_ticket}
use Rattle.ch_turn.specs.Rule.{HeldOnce, AllDrawn}

module _ {E : Type 0} where
  -- the sum after a change of one view
  pub sum_by-set : (f : View E → ℕ) (vs : List (View E)) (i : ℕ) (v w : View E) → get_elem? vs i ≡ some v → sum_by f (set vs i w) + f v ≡ sum_by f vs + f w
  sum_by-set f [] i v w e = absurd (some-ne-none v (sym e))
  sum_by-set f (x ∷ xs) zero v w e = let same : f x ≡ f v = ap f (some-injective x v e) in omega (arith, sum_by-cons f x xs, sum_by-cons f w xs)
  sum_by-set f (x ∷ xs) (suc i) v w e = let h = sum_by-set f xs i v w e in omega (arith, sum_by-cons f x xs, sum_by-cons f x (set xs i w))

  -- a view's number is in the sum
  pub sum_by-has : (f : View E → ℕ) (vs : List (View E)) (i : ℕ) (v : View E) → get_elem? vs i ≡ some v → f v ≤ sum_by f vs
  sum_by-has f [] i v e = absurd (some-ne-none v (sym e))
  sum_by-has f (x ∷ xs) zero v e = let same : f x ≡ f v = ap f (some-injective x v e) in omega (arith, sum_by-cons f x xs)
  sum_by-has f (x ∷ xs) (suc i) v e = let h = sum_by-has f xs i v e in omega (arith, sum_by-cons f x xs)

  pub set_at : (vs : List (View E)) (i : ℕ) (v w : View E) → get_elem? vs i ≡ some v → get_elem? (set vs i w) i ≡ some w
  set_at [] i v w e = absurd (some-ne-none v (sym e))
  set_at (x ∷ xs) zero v w e = refl
  set_at (x ∷ xs) (suc i) v w e = set_at xs i v w e

  pub each_view-set : (K : ℕ → View E → Type 0) (vs : List (View E)) (me : ℕ) (w : View E) → K me w → ((j : ℕ) (d : View E) → j ≢ me → get_elem? vs j ≡ some d → K j d)
      → (j : ℕ) (d : View E) → get_elem? (set vs me w) j ≡ some d → K j d
  each_view-set K vs me w mine others j d e = ⊎_elim (λ (t : (j ≡ me) × (w ≡ d)). subst (λ (x : ℕ × View E). K x.0 x.1) (λ i. (sym t.0 i, t.1 i)) mine)
      (λ (t : (j ≢ me) × (get_elem? vs j ≡ some d)). others j d t.0 t.1) (at_set vs me j w d e)

  pub snoc_at : (vs : List (View E)) (b : View E) (j : ℕ) (d : View E) → get_elem? (vs ++ b ∷ []) j ≡ some d → (get_elem? vs j ≡ some d) ⊎ ((j ≡ length vs) × (b ≡ d))
  snoc_at [] b zero d e = inr (refl, some-injective b d e)
  snoc_at [] b (suc j) d e = absurd (some-ne-none d (sym e))
  snoc_at (x ∷ xs) b zero d e = inl e
  snoc_at (x ∷ xs) b (suc j) d e = ⊎_elim (λ h. inl h) (λ h. inr (ap suc h.0, h.1)) (snoc_at xs b j d e)

  pub each_view-snoc : (K : ℕ → View E → Type 0) (vs : List (View E)) (b : View E) → ((j : ℕ) (d : View E) → get_elem? vs j ≡ some d → K j d) → ((j : ℕ) → K j b)
      → (j : ℕ) (d : View E) → get_elem? (vs ++ b ∷ []) j ≡ some d → K j d
  each_view-snoc K vs b old new j d e = ⊎_elim (λ (h : get_elem? vs j ≡ some d). old j d h) (λ (h : (j ≡ length vs) × (b ≡ d)). subst (K j) h.1 (new j)) (snoc_at vs b j d e)

  pub HeldOnce-snoc : (f : ℕ → View E → Bool) (vs : List (View E)) (b : View E) → HeldOnce f vs → ((x : ℕ) → f x b ≡ true → (j : ℕ) (d : View E) → get_elem? vs j ≡ some d → f x d ≡ true → ⊥) → HeldOnce f (vs ++ b ∷ [])
  HeldOnce-snoc f vs b lone own x j k d e at_j at_k has_j has_k = ⊎_elim
      (λ (t : get_elem? vs j ≡ some d). ⊎_elim (λ (u : get_elem? vs k ≡ some e). lone x j k d e t u has_j has_k)
      (λ (u : (k ≡ length vs) × (b ≡ e)). absurd (own x (subst (λ z. f x z ≡ true) (sym u.1) has_k) j d t has_j)) (snoc_at vs b k e at_k))
      (λ (t : (j ≡ length vs) × (b ≡ d)). ⊎_elim (λ (u : get_elem? vs k ≡ some e). absurd (own x (subst (λ z. f x z ≡ true) (sym t.1) has_j) k e u has_k))
      (λ (u : (k ≡ length vs) × (b ≡ e)). t.0 ∙ sym u.0) (snoc_at vs b k e at_k))
      (snoc_at vs b j d at_j)

  pub AllDrawn-set : (sv tk : ℕ) (vs : List (View E)) (me : ℕ) (v w : View E) → get_elem? vs me ≡ some v → ((n : ℕ) → is_ticket n v.stage ≡ true → is_ticket n w.stage ≡ true) → AllDrawn sv tk vs → AllDrawn sv tk (set vs me w)
  AllDrawn-set sv tk vs me v w at keep h n low high = let d = h n low high in dite (ℕ_discrete d.0 me)
      (λ e. let same : d.1 ≡ v = some-injective d.1 v (sym d.2 ∙ (ap (get_elem? vs) e ∙ at)) in (me, w, set_at vs me v w at, keep n (subst (λ (z : View E). is_ticket n z.stage ≡ true) same d.3)))
      (λ ne. (d.0, d.1, set_else vs me d.0 w ne ∙ d.2, d.3))

  pub AllDrawn-raise : (sv tk : ℕ) (vs : List (View E)) (me : ℕ) (v w : View E) → get_elem? vs me ≡ some v → ((n : ℕ) → is_ticket n v.stage ≡ true → n ≡ sv) → AllDrawn sv tk vs → AllDrawn (sv + 1) tk (set vs me w)
  AllDrawn-raise sv tk vs me v w at gone h n low high = let d = h n (omega arith) high in dite (ℕ_discrete d.0 me)
      (λ e. let same : d.1 ≡ v = some-injective d.1 v (sym d.2 ∙ (ap (get_elem? vs) e ∙ at)) in let bad : n ≡ sv = gone n (subst (λ (z : View E). is_ticket n z.stage ≡ true) same d.3) in absurd (omega arith))
      (λ ne. (d.0, d.1, set_else vs me d.0 w ne ∙ d.2, d.3))

  pub AllDrawn-snoc : (sv tk : ℕ) (vs : List (View E)) (b : View E) → AllDrawn sv tk vs → AllDrawn sv tk (vs ++ b ∷ [])
  AllDrawn-snoc sv tk vs b h n low high = let d = h n low high in (d.0, d.1, at_longer vs (b ∷ []) d.0 d.1 d.2, d.3)

  -- what the view w has, no view but the one at me has
  abbrev pub OnlyAt : (ℕ → View E → Bool) → List (View E) → ℕ → View E → Type 0
  OnlyAt f vs me w = (x : ℕ) → f x w ≡ true → (k : ℕ) (e : View E) → k ≢ me → get_elem? vs k ≡ some e → f x e ≡ true → ⊥

  pub HeldOnce-set : (f : ℕ → View E → Bool) (vs : List (View E)) (me : ℕ) (w : View E) → HeldOnce f vs → OnlyAt f vs me w → HeldOnce f (set vs me w)
  HeldOnce-set f vs me w lone own x j k d e at_j at_k has_j has_k = ⊎_elim
      (λ (t : (j ≡ me) × (w ≡ d)). ⊎_elim (λ (u : (k ≡ me) × (w ≡ e)). t.0 ∙ sym u.0)
      (λ (u : (k ≢ me) × (get_elem? vs k ≡ some e)). absurd (own x (subst (λ z. f x z ≡ true) (sym t.1) has_j) k e u.0 u.1 has_k)) (at_set vs me k w e at_k))
      (λ (t : (j ≢ me) × (get_elem? vs j ≡ some d)). ⊎_elim (λ (u : (k ≡ me) × (w ≡ e)). absurd (own x (subst (λ z. f x z ≡ true) (sym u.1) has_k) j d t.0 t.1 has_j))
      (λ (u : (k ≢ me) × (get_elem? vs k ≡ some e)). lone x j k d e t.1 u.1 has_j has_k) (at_set vs me k w e at_k))
      (at_set vs me j w d at_j)

  -- a view that has no more than it had
  pub OnlyAt-less : (f : ℕ → View E → Bool) (vs : List (View E)) (me : ℕ) (v w : View E) → get_elem? vs me ≡ some v → HeldOnce f vs → ((x : ℕ) → f x w ≡ true → f x v ≡ true) → OnlyAt f vs me w
  OnlyAt-less f vs me v w at lone less x h k e ne at_k has_k = ne (lone x k me e v at_k at has_k (less x h))
