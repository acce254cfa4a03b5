-- The law on arrays, where the buffer stands behind the arrays and the buffers so far.
use Rattle.std.proofs.Common.{◌≡◌, refl, sym, ap, ◌∙◌, subst, ℕ, ◌-◌, ℤ, List, [], ◌∷◌, ◌++◌, length, take, inl, inr, length-append, append-nil, arith}
use Rattle.std.proofs.lemmas.List.{take_all}
use Rattle.ch_nest.specs.Arrays.{cells_in, total}
use Rattle.ch_order.specs.Agreement.{KeepsArrays}
use Rattle.ch_order.proofs.Agreements.{keeps_but, keeps_flat}
use Rattle.ch_timed.specs.declared.element.Element.{Element}
use Rattle.ch_timed.specs.Flat.{IsInside, StaysInside, done_flat}
use Rattle.ch_timed.specs.Members.{In}
use Rattle.ch_timed.specs.Timed.{step}
use Rattle.ch_timed.proofs.MoreArrays.{done_length}
use Rattle.ch_copied.specs.Plans.{plan}
use Rattle.ch_copied.specs.Copied.{buffer_extents, datacopied}
use Rattle.ch_copied.specs.Copyable.{HasLoop, IsCopyable}
use Rattle.ch_copied.proofs.Datacopied.{keeps_meaning, planned}
use Rattle.ch_copied.proofs.Inside.{stays_inside}

all_inside : (extents : List (List ℕ)) (list : List Element) → StaysInside extents list → (e : Element) → In e list → IsInside extents (step e)
all_inside extents [] h e i = absurd i
all_inside extents (x ∷ xs) h e (inl k) = subst (λ z. IsInside extents (step z)) k h.0
all_inside extents (x ∷ xs) h e (inr i) = all_inside extents xs h.1 e i

module _ (list : List Element) (s level array buffer dimensions : ℕ) (fine : IsCopyable list array buffer dimensions) (loop : HasLoop list s level) where
  abbrev new : List Element
  new = datacopied list s level array buffer

  abbrev theirs : List ℕ
  theirs = buffer_extents list s level array buffer

  pub copy_inside : (extents : List (List ℕ)) → buffer ≡ length extents → StaysInside extents list → StaysInside (extents ++ theirs ∷ []) new
  copy_inside extents number inside =
      stays_inside (plan list s (level - 1) array buffer) list dimensions (planned list s level array buffer loop) fine extents theirs number refl (all_inside extents list inside)

  pub copy_keeps : (arrays buffers : List (List ℕ)) → buffer ≡ length (arrays ++ buffers) → KeepsArrays arrays list buffers new (buffers ++ theirs ∷ [])
  copy_keeps arrays buffers number =
      keeps_but arrays buffers theirs list new buffer (omega (arith, number, length-append arrays buffers))
      (keeps_meaning list s level array buffer dimensions fine loop) (copy_inside (arrays ++ buffers) number)

  pub same_cells : (extents : List (List ℕ)) → buffer ≡ length extents → StaysInside extents list → (cells more : List ℤ) → length cells ≡ total extents → length more ≡ cells_in theirs
      → done_flat extents list cells ≡ take (length cells) (done_flat (extents ++ theirs ∷ []) new (cells ++ more))
  same_cells extents number inside cells more l m =
      let none : extents ++ [] ≡ extents = append-nil extents in
      let whole : take (total extents) (done_flat extents list cells) ≡ done_flat extents list cells =
      take_all (total extents) (done_flat extents list cells) (omega (arith, done_length extents list cells, l)) in
      let size : length more ≡ total (theirs ∷ []) = omega (arith, m) in
      sym whole ∙ ap (λ es. take (total extents) (done_flat es list cells)) (sym none)
      ∙ keeps_flat extents [] (theirs ∷ []) list new (copy_keeps extents [] (number ∙ ap length (sym none))) (subst (λ es. StaysInside es list) (sym none) inside)
      cells more (l ∙ ap total (sym none)) size
      ∙ ap (λ n. take n (done_flat (extents ++ theirs ∷ []) new (cells ++ more))) (sym l)
