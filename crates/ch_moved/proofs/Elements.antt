-- The elements of a reindexed piece, and the limits that it keeps.
use Rattle.std.proofs.Common.{◌≡◌, refl, sym, ap, ap₂, ◌∙◌, subst, ℕ, ◌+◌, ◌≤◌, ℤ, List, [], ◌∷◌, length, map, arith, append-nil}
use Rattle.std.specs.List.{All}
use Rattle.std.proofs.lemmas.List.{length-map}
use Rattle.std.proofs.lemmas.List.Elements.{All-head, All-tail}
use Rattle.ch_affine.specs.Affine.{value}
use Rattle.ch_affine.specs.Form.{Form}
use Rattle.ch_affine.specs.declared.system.Range.{Range}
use Rattle.ch_moved.specs.Changed.{AllLong}
use Rattle.ch_moved.specs.Reindexed.{IsReindexed}
use Rattle.ch_moved.specs.Substituted.{image, substituted}
use Rattle.ch_moved.proofs.Substitutes.{value_spread}
use Rattle.ch_space.specs.declared.piece.Piece.{Piece}
use Rattle.ch_space.specs.Keeps.{IsBounded, IsLimited, IsNarrow, IsWhole, farthest, most_levels, places_of}
use Rattle.ch_space.specs.Pieces.{element_at}
use Rattle.ch_timed.specs.Closed.{at_vector}
use Rattle.ch_timed.specs.Vectors.{woven}

value_substituted : (n : ℕ) (gs : List Form) (f : Form) (ys : List ℤ) → length ys ≡ n → AllLong n gs → length f.coefs ≡ length gs → value (substituted n gs f) ys ≡ value f (image gs ys)
value_substituted n gs f ys e a l =
    ap (value (substituted n gs f)) (sym (append-nil ys)) ∙ value_spread n 0 gs f ys [] [] e refl a (omega arith) ∙ ap (value f) (append-nil (image gs ys))

iterators_same : (n : ℕ) (gs fs : List Form) (ys : List ℤ) → length ys ≡ n → AllLong n gs → AllLong (length gs) fs
    → map (λ f. value f ys) (map (substituted n gs) fs) ≡ map (λ f. value f (image gs ys)) fs
iterators_same n gs [] ys e a l = refl
iterators_same n gs (f ∷ fs) ys e a l =
    ap₂ (λ v t. v ∷ t) (value_substituted n gs f ys e a (All-head (λ f. length f.coefs ≡ length gs) f fs l))
    (iterators_same n gs fs ys e a (All-tail (λ f. length f.coefs ≡ length gs) f fs l))

module _ (p q : Piece) (gs : List Form) (boxes : List Range) (extra : List Form) (places : List ℕ) (w : IsWhole p) (many : length gs ≡ p.levels) (long : AllLong (length boxes) gs)
    (r : IsReindexed p gs boxes extra places q) where
  -- an element has the identity and the body of the one that the forms give
  pub reindexed_element : (ys : List ℤ) → length ys ≡ length boxes → element_at q ys ≡ at_vector (element_at p (image gs ys)) (woven (places_of q) ys)
  reindexed_element ys e =
      let origin : AllLong (length gs) p.origin = subst (λ n. AllLong n p.origin) (sym many) w.origin in
      let iters = ap (map (λ f. value f ys)) r.origin ∙ iterators_same (length boxes) gs p.origin ys e long origin in
      λ i. record { identity = record { label = r.label i; iters = iters i }; vector = woven (places_of q) ys; body = r.body i }

  pub same_iterators : length q.origin ≡ length p.origin
  same_iterators = ap length r.origin ∙ length-map p.origin (substituted (length boxes) gs)

  -- it keeps to the limits where its ranges and the forms of its iterators do
  pub reindexed_limits : (weight commands new_weight : ℕ) → IsLimited weight commands p → length boxes ≤ most_levels → All (IsBounded (farthest new_weight (commands + 1))) boxes
      → All (IsNarrow new_weight (commands + 1)) (map (substituted (length boxes) gs) p.origin) → IsLimited new_weight (commands + 1) q
  reindexed_limits weight commands new_weight limits few bounded narrow = record {
    levels = let e = r.levels in omega arith;
    iterators = let e = same_iterators in let i = limits.iterators in omega arith;
    variables = let e = r.levels in let h = r.few_hidden in let v = limits.variables in omega arith;
    boxes = subst (All (IsBounded (farthest new_weight (commands + 1)))) (sym r.ranges) bounded;
    origin = subst (All (IsNarrow new_weight (commands + 1))) (sym r.origin) narrow;
  }
