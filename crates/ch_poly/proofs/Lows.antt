-- A row that is below 0 in the whole box.
use Rattle.std.proofs.Common.{◌≡◌, ℕ, ℤ, pos, ◌≤ℤ◌, true, List, [], ◌∷◌, length, refl, sym, ◌∙◌, arith}
use Rattle.std.proofs.lemmas.Int.{ints}
use Rattle.ch_affine.specs.Affine.{value}
use Rattle.ch_affine.specs.Rows.{Rows, IsSystem, lies_in}
use Rattle.ch_affine.specs.declared.system.Range.{Range}
use Rattle.ch_affine.proofs.Corners.{greatest_ge, lies_cons}
use Rattle.ch_poly.specs.Points.{points}
use Rattle.ch_poly.specs.Exclusions.{row_at, IsRangeRow}
use Rattle.ch_poly.proofs.Firsts.{InBox, none_all, true_holds}

lies : (boxes : List Range) (p : List ℤ) → InBox boxes p → lies_in boxes p ≡ true
lies [] [] i = refl
lies [] (x ∷ p) i = absurd i
lies (b ∷ bs) [] i = absurd i
lies (b ∷ bs) (x ∷ p) i = lies_cons b bs x p i.0 i.1 (lies bs p i.2)

pub range_row_empty : (s : Rows) (i : ℕ) → IsSystem s → IsRangeRow s i → points s ≡ []
range_row_empty s i y r =
    none_all s.boxes _ (λ p b t.
    let f = row_at s.rows i in
    let v : pos 0 ≤ℤ value f p = (true_holds s.rows p t).each i _ r.within in
    let e : length f.coefs ≡ s.vars = y.rows i _ r.within in
    omega (arith, ints, v, r.low, greatest_ge f.coefs s.boxes p (e ∙ sym y.boxes) (lies s.boxes p b)))
