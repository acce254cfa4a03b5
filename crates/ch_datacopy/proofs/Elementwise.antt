-- The elements of the candidates: those of the old pieces at their new places, and moves.
use Rattle.std.proofs.Common.{◌≡◌, refl, sym, ap, ap₂, ◌∙◌, subst, ℕ, suc, ◌+◌, ℤ, pos, ◌+ℤ◌, ◌*ℤ◌, Bool, true, false, if◌then◌else◌, List, [], ◌∷◌, ◌++◌, map, length, replicate, take, length-append, arith}
use Rattle.std.specs.List.{filter}
use Rattle.std.specs.Ordering.{int_eq}
use Rattle.ch_affine.specs.Affine.{value}
use Rattle.ch_affine.specs.Form.{Form}
use Rattle.ch_copied.specs.Bodies.{redirected}
use Rattle.ch_copied.specs.Copied.{alone, kept, loop_place, move, new_place, paired, placed, replaced, width}
use Rattle.ch_copied.specs.Plans.{Plan}
use Rattle.ch_copied.specs.Uses.{Use}
use Rattle.ch_datacopy.specs.declared.cells.Cells.{Cells}
use Rattle.ch_datacopy.specs.Pairs.{used}
use Rattle.ch_datacopy.specs.Works.{IsKept, IsMoved, move_body, move_offset}
use Rattle.ch_moved.proofs.UnitForms.{image_units}
use Rattle.ch_pieces.specs.Assembled.{wide}
use Rattle.ch_pieces.specs.declared.candidate.Candidate.{Candidate}
use Rattle.ch_poly.specs.Points.{begins_some, box_points}
use Rattle.ch_space.specs.declared.piece.Piece.{Piece}
use Rattle.ch_space.specs.Keeps.{IsWhole, places_of}
use Rattle.ch_space.specs.Pieces.{element_at, elements, instances}
use Rattle.ch_space.proofs.PieceElements.{element_places, long}
use Rattle.ch_timed.specs.declared.element.Element.{Element}
use Rattle.ch_timed.specs.Members.{In}
use Rattle.ch_timed.specs.Vectors.{shares, woven}
use Rattle.ch_timed.proofs.Orders.{in_map, map_in}

-- vectors

-- a change of places changes the vector
woven_placed : (f : ℤ → ℤ) (front ps xs : List ℤ) → length ps ≡ length xs + 1 → woven (placed f front ps) xs ≡ replaced front f (woven ps xs)
woven_placed f front [] xs h = absurd (omega arith)
woven_placed f [] (p ∷ ps) [] h = refl
woven_placed f [] (p ∷ ps) (x ∷ xs) h = refl
woven_placed f (g ∷ front) (p ∷ ps) [] h = refl
woven_placed f (g ∷ front) (p ∷ ps) (x ∷ xs) h = ap (λ z. p ∷ x ∷ z) (by (int_eq p g) (woven_placed f front ps xs (omega arith)))
  where
    by : (b : Bool) → woven (placed f front ps) xs ≡ replaced front f (woven ps xs) → woven (if b then placed f front ps else ps) xs ≡ (if b then replaced front f (woven ps xs) else woven ps xs)
    by true e = e
    by false e = refl

woven_alone : (q : ℤ) (cs : List ℤ) → woven (q ∷ replicate (length cs) (pos 0)) cs ≡ q ∷ alone cs
woven_alone q [] = refl
woven_alone q (c ∷ cs) = ap (λ z. q ∷ c ∷ z) (woven_alone (pos 0) cs)

woven_move : (front xs : List ℤ) (q : ℤ) (cs : List ℤ) → length front ≡ length xs → woven (front ++ q ∷ replicate (length cs) (pos 0)) (xs ++ cs) ≡ paired front xs ++ q ∷ alone cs
woven_move [] [] q cs h = woven_alone q cs
woven_move [] (x ∷ xs) q cs h = absurd (omega arith)
woven_move (f ∷ front) [] q cs h = absurd (omega arith)
woven_move (f ∷ front) (x ∷ xs) q cs h = ap (λ z. f ∷ x ∷ z) (woven_move front xs q cs (omega arith))

-- what becomes of a piece

module _ (p : Plan) (q : Piece) (c : Candidate) (is : IsKept p q c) where
  pub kept_instances : instances (wide c) ≡ instances q
  kept_instances = ap₂ (λ s n. filter (begins_some s) (box_points (take n s.boxes))) is.system is.levels

  pub kept_element : (xs : List ℤ) → IsWhole q → In xs (instances q) → element_at (wide c) xs ≡ kept p (element_at q xs)
  kept_element xs whole i =
      let at = element_places q xs whole i in
      let label = is.label in
      let iters = ap (λ (fs : List Form). map (λ f. value f xs) fs) is.origin in
      let vector = ap (λ ps. woven ps xs) is.places ∙ woven_placed (new_place p) (take p.around p.ours) (places_of q) xs (long q xs whole i) in
      let body = is.body ∙ ap (λ ps. if shares (suc p.around) p.ours ps then redirected p q.body else q.body) (sym at) in
      λ t. record { identity = record { label = label t; iters = iters t }; vector = vector t; body = body t }

  pub kept_from : (f : Element) → IsWhole q → In f (elements (wide c)) → (xs : List ℤ) × (In xs (instances q) × (f ≡ kept p (element_at q xs)))
  kept_from f whole i =
      let m = in_map (element_at (wide c)) (instances (wide c)) f i in
      let j = subst (In m.0) kept_instances m.1.0 in
      (m.0, (j, sym m.1.1 ∙ kept_element m.0 whole j))

  pub kept_to : (xs : List ℤ) → IsWhole q → In xs (instances q) → In (kept p (element_at q xs)) (elements (wide c))
  kept_to xs whole i =
      subst (λ z. In z (elements (wide c))) (kept_element xs whole i)
      (map_in (element_at (wide c)) (instances (wide c)) xs (subst (In xs) (sym kept_instances) i))

-- moves

module _ (p : Plan) (k : ℕ) (u : Cells) (c : Candidate) (is : IsMoved p k u c) where
  pub move_instances : instances (wide c) ≡ used u
  move_instances = ap₂ (λ s n. filter (begins_some s) (box_points (take n s.boxes))) is.system is.levels

  pub move_element : (w : Use) → length (take p.around p.ours) ≡ length w.prefix → length w.cell ≡ length p.extents → u.levels ≡ length w.prefix + length w.cell
      → element_at (wide c) (w.prefix ++ w.cell) ≡ move p (move_body p k) (p.label + k) (move_offset p k) w
  move_element w h g l =
      let label = is.label in
      let n : length (w.prefix ++ w.cell) ≡ u.levels = length-append w.prefix w.cell ∙ sym l in
      let iters = ap (λ (fs : List Form). map (λ f. value f (w.prefix ++ w.cell)) fs) is.origin ∙ image_units u.levels (w.prefix ++ w.cell) n in
      let vector = ap (λ ps. woven ps (w.prefix ++ w.cell)) (is.places ∙ ap (λ m. take p.around p.ours ++ (loop_place p *ℤ width p +ℤ pos (move_offset p k)) ∷ replicate m (pos 0)) (sym g))
      ∙ woven_move (take p.around p.ours) w.prefix (loop_place p *ℤ width p +ℤ pos (move_offset p k)) w.cell h in
      let body = is.body in
      λ t. record { identity = record { label = label t; iters = iters t }; vector = vector t; body = body t }
