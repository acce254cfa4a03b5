-- The sizes of arrays and their first cells, found one array after another.
use Rattle.std.proofs.Common.{◌≡◌, ap, ap₂, sym, ◌∙◌, refl, subst, ℕ, ◌+◌, ◌<◌, ◌≤◌, ◌^◌, ℤ, inl, inr, nat_le, ◌&&◌, List, [], ◌∷◌, ◌++◌, get_or, length, map, sum, take, arith}
use Rattle.std.specs.Bool.{IsTrue}
use Rattle.std.specs.List.{list_all}
use Rattle.std.proofs.lemmas.Bool.{and_parts, cases_lt}
use Rattle.std.proofs.lemmas.List.{get_or_append_left, get_or-map, get_or_push, length-map, take_all, take_more}
use Rattle.std.proofs.lemmas.List.Sums.{sum_by_more, sum_by_more_le}
use Rattle.ch_nest.specs.declared.nest.ArrayDecl.{ArrayDecl}
use Rattle.ch_nest.specs.Arrays.{cells_in, extents_of, total}
use Rattle.ch_nest.specs.LoopNest.{LoopNest}
use Rattle.ch_nest.specs.Limits.{most_conditions}
use Rattle.ch_nest.specs.Shape.{all_conditions_fit, all_numbered, arrays_fit, is_nest, items_fit}
use Rattle.ch_nest.proofs.StartCells.{cells_few, extents_at, total_few}
use Rattle.ch_eval.specs.Cells.{HasParts, sizes_of}
use Rattle.ch_eval.proofs.Cutting.{sum_first}

pub fitting_arrays : (n : LoopNest) (ds : List ArrayDecl) → IsTrue (is_nest n) → ds ≡ n.arrays → IsTrue (arrays_fit ds)
fitting_arrays n ds h is =
    let p = and_parts (arrays_fit n.arrays && all_conditions_fit n.items most_conditions) _ h in
    subst (λ (zs : List ArrayDecl). IsTrue (arrays_fit zs)) (sym is) (and_parts (arrays_fit n.arrays) (all_conditions_fit n.items most_conditions) p.0).0

pub sizes_total : (ds : List ArrayDecl) → sum (sizes_of ds) ≡ total (extents_of ds)
sizes_total [] = refl
sizes_total (d ∷ ds) = omega (arith, sum_first (cells_in d.extents) (sizes_of ds), sizes_total ds)

count_sizes : (ds : List ArrayDecl) → length (sizes_of ds) ≡ length ds
count_sizes ds = length-map ds (λ (d : ArrayDecl). cells_in d.extents)

-- one array
module _ (ds : List ArrayDecl) (k : ℕ) (a : ArrayDecl) (l : k < length ds) (is : a ≡ get_or ds k a) where
  pub few_cells : IsTrue (arrays_fit ds) → cells_in a.extents ≤ 2 ^ 40
  few_cells h = subst (λ (z : ArrayDecl). cells_in z.extents ≤ 2 ^ 40) (sym is) (omega (arith, cells_few ds k a l h))

  pub some_cells : IsTrue (arrays_fit ds) → IsTrue (list_all (nat_le 1) a.extents)
  some_cells h = subst (λ (z : ArrayDecl). IsTrue (list_all (nat_le 1) z.extents)) (sym is) (extents_at ds k a l h)

  size_at : get_or (sizes_of ds) k 0 ≡ cells_in a.extents
  size_at = get_or-map (λ (d : ArrayDecl). cells_in d.extents) ds k a 0 l ∙ ap (λ (d : ArrayDecl). cells_in d.extents) (sym is)

  known : k < length (sizes_of ds)
  known = omega (arith, l, count_sizes ds)

  pub sizes_next : (old new : List ℕ) (size : ℕ) → size ≡ cells_in a.extents → new ≡ old ++ size ∷ [] → old ≡ take k (sizes_of ds) → new ≡ take (k + 1) (sizes_of ds)
  sizes_next old new size s n h = n ∙ ap₂ (λ xs x. xs ++ x ∷ []) h (s ∙ sym size_at) ∙ sym (take_more (sizes_of ds) k 0 known)

  pub start_next : (start size : ℕ) → size ≡ cells_in a.extents → start ≡ sum (take k (sizes_of ds)) → start + size ≡ sum (take (k + 1) (sizes_of ds))
  start_next start size s h = omega (arith, s, h, size_at, sum_by_more (λ x. x) (sizes_of ds) k 0 known)

  pub start_fits : (start size : ℕ) → size ≡ cells_in a.extents → start ≡ sum (take k (sizes_of ds)) → IsTrue (arrays_fit ds) → start + size ≤ 262144
  start_fits start size s h fit = omega (arith, s, h, size_at, sum_by_more_le (λ x. x) (sizes_of ds) k 0 known, sizes_total ds, total_few ds fit)

pub starts_next : (ns starts new : List ℕ) (k start : ℕ) → length starts ≡ k → new ≡ starts ++ start ∷ [] → start ≡ sum (take k ns)
    → ((j : ℕ) → j < k → get_or starts j 0 ≡ sum (take j ns)) → (j : ℕ) → j < k + 1 → get_or new j 0 ≡ sum (take j ns)
starts_next ns starts new k start c n s h = λ j l.
    elim (cases_lt j k) as (λ _. get_or new j 0 ≡ sum (take j ns)) [
      | inl before ↦ ap (λ xs. get_or xs j 0) n ∙ get_or_append_left starts (start ∷ []) 0 j (omega (arith, before, c)) ∙ h j before
      | inr past ↦
          let e : length starts ≡ j = omega (arith, c, past, l) in
          ap (λ xs. get_or xs j 0) n ∙ get_or_push starts start 0 j e ∙ s ∙ ap (λ m. sum (take m ns)) (sym c ∙ e)
    ]

pub all_sizes : (ds : List ArrayDecl) (k : ℕ) (sizes : List ℕ) → length ds ≤ k → sizes ≡ take k (sizes_of ds) → sizes ≡ sizes_of ds
all_sizes ds k sizes l h = h ∙ take_all k (sizes_of ds) (omega (arith, l, count_sizes ds))

pub has_parts : (ds : List ArrayDecl) (k : ℕ) (sizes starts : List ℕ) (cells : List ℤ) → length ds ≤ k → k ≤ length ds → sizes ≡ take k (sizes_of ds) → length starts ≡ k
    → ((j : ℕ) → j < k → get_or starts j 0 ≡ sum (take j (sizes_of ds))) → length cells ≡ total (extents_of ds) → HasParts sizes starts cells
has_parts ds k sizes starts cells l few s c h size =
    let e : sizes ≡ sizes_of ds = all_sizes ds k sizes l s in
    let n : length sizes ≡ length ds = ap length e ∙ count_sizes ds in
    record {
      whole = ap sum e ∙ sizes_total ds ∙ sym size;
      count = omega (arith, n, c, few, l);
      starts = λ j b. h j (omega (arith, b, n, l)) ∙ ap (λ ns. sum (take j ns)) (sym e);
    }
