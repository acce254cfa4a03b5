use Rattle.std.proofs.Common.{◌≡◌, length, ℤ, pos, [], List, Some, ap, sym, refl, ◌∙◌, arith}
use Rattle.std.proofs.lemmas.List.{take_at}
use Rattle.ch_affine.specs.Rows.{Rows, IsSystem}
use Rattle.ch_poly.specs.Points.{first}
use Rattle.ch_poly.specs.Goals.{Meets, IsLeast, IsEmpty}
use Rattle.ch_poly.specs.Opposed.{IsNever}
use Rattle.ch_poly.proofs.Meeting.{least_rows, empty_rows}
use Rattle.ch_poly.proofs.Firsts.{lows_of, highs_of, boxes_boxed, least_is_first, empty_is_none}
use Rattle.ch_poly.proofs.solve.least_point.Goals as goal

pub search-requires-clause-boxed : goal.search-requires-clause-boxed
search-requires-clause-boxed c =
    let boxes = c.as_slice-boxes.ensures ∙ ap (λ (r : Rows). r.boxes) c.s.view_is in
    let lows : c.as_mut_slice.result.now ≡ lows_of c.args.s.now.boxes = c.as_mut_slice.ensures.value ∙ c.in_ok-lows.ensures ∙ ap lows_of boxes in
    let highs : c.as_mut_slice-2.result.now ≡ highs_of c.args.s.now.boxes = c.as_mut_slice-2.ensures.value ∙ c.in_ok-highs.ensures ∙ ap highs_of boxes in
    let i : IsSystem c.args.s.now = rw c.s.view_is at c.s.invariant in
    rw (lows, highs) (boxes_boxed c.args.s.now i)

pub returns-then-search : goal.returns-then-search
returns-then-search c =
    let boxes = c.as_slice-boxes.ensures ∙ ap (λ (r : Rows). r.boxes) c.s.view_is in
    let lows : c.as_mut_slice.result.now ≡ lows_of c.args.s.now.boxes = c.as_mut_slice.ensures.value ∙ c.in_ok-lows.ensures ∙ ap lows_of boxes in
    let highs : c.as_mut_slice-2.result.now ≡ highs_of c.args.s.now.boxes = c.as_mut_slice-2.ensures.value ∙ c.in_ok-highs.ensures ∙ ap highs_of boxes in
    let rows : c.as_slice-rows.result.now ≡ c.args.s.now.rows = c.as_slice-rows.ensures ∙ ap (λ (r : Rows). r.rows) c.s.view_is in
    let m : IsLeast (Meets c.as_slice-rows.result.now [] (pos 0)) c.as_mut_slice.result.now c.as_mut_slice-2.result.now c.search.new.lows = c.if-search.ensures.yes refl in
    let m' : IsLeast (Meets c.args.s.now.rows [] (pos 0)) (lows_of c.args.s.now.boxes) (highs_of c.args.s.now.boxes) c.search.new.lows = rw (rows, lows, highs) at m in
    let f = least_is_first c.args.s.now c.search.new.lows (least_rows _ _ _ _ _ m') in
    let len : length c.search.new.lows ≡ c.in_ok-lows.lows.len = omega (arith, c.as_mut_slice.ensures.len) in
    ap (λ (x : List ℤ). Some x) (c.from_vec.ensures ∙ take_at _ _ _ len) ∙ sym f

pub returns-else-search : goal.returns-else-search
returns-else-search c =
    let boxes = c.as_slice-boxes.ensures ∙ ap (λ (r : Rows). r.boxes) c.s.view_is in
    let lows : c.as_mut_slice.result.now ≡ lows_of c.args.s.now.boxes = c.as_mut_slice.ensures.value ∙ c.in_ok-lows.ensures ∙ ap lows_of boxes in
    let highs : c.as_mut_slice-2.result.now ≡ highs_of c.args.s.now.boxes = c.as_mut_slice-2.ensures.value ∙ c.in_ok-highs.ensures ∙ ap highs_of boxes in
    let rows : c.as_slice-rows.result.now ≡ c.args.s.now.rows = c.as_slice-rows.ensures ∙ ap (λ (r : Rows). r.rows) c.s.view_is in
    let m : IsEmpty (Meets c.as_slice-rows.result.now [] (pos 0)) c.as_mut_slice.result.now c.as_mut_slice-2.result.now = c.if-search.ensures.no refl in
    let m' : IsEmpty (Meets c.args.s.now.rows [] (pos 0)) (lows_of c.args.s.now.boxes) (highs_of c.args.s.now.boxes) = rw (rows, lows, highs) at m in
    sym (ap first (empty_is_none c.args.s.now (empty_rows _ _ _ _ m')))

pub returns-then-any_opposed : goal.returns-then-any_opposed
returns-then-any_opposed c =
    let rows : c.as_slice-rows.result.now ≡ c.args.s.now.rows = c.as_slice-rows.ensures ∙ ap (λ (r : Rows). r.rows) c.s.view_is in
    let n : IsNever c.args.s.now.rows = rw rows at (c.if-any_opposed.ensures refl) in
    sym (ap first (empty_is_none c.args.s.now (record { none = λ p w h. n.never p h })))
