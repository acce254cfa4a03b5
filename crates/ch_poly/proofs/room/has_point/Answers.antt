use Rattle.std.proofs.Common.{◌≤◌, length, ap, ◌∙◌, arith}
use Rattle.std.proofs.lemmas.List.{length-map}
use Rattle.ch_affine.specs.Rows.{Rows, IsSystem}
use Rattle.ch_poly.proofs.Firsts.{lows_of, boxes_boxed}
use Rattle.ch_poly.proofs.Fixes.{has_point_is}
use Rattle.ch_poly.proofs.room.has_point.Goals as goal

pub solve_in-requires-clause-boxed : goal.solve_in-requires-clause-boxed
solve_in-requires-clause-boxed c =
    let boxes = c.as_slice-boxes.ensures ∙ ap (λ (r : Rows). r.boxes) c.s.view_is in
    let i : IsSystem c.args.s.now = rw c.s.view_is at c.s.invariant in
    rw boxes (boxes_boxed c.args.s.now i)

pub returns-clause-found : goal.returns-clause-found
returns-clause-found c =
    let boxes = c.as_slice-boxes.ensures ∙ ap (λ (r : Rows). r.boxes) c.s.view_is in
    let rows = c.as_slice-rows.ensures ∙ ap (λ (r : Rows). r.rows) c.s.view_is in
    let i : IsSystem c.args.s.now = rw c.s.view_is at c.s.invariant in
    let few : length c.args.fixed.now ≤ length (lows_of c.args.s.now.boxes) = rw length-map (omega (arith, c.requires.few, i.boxes)) in
    has_point_is c.args.s.now c.args.fixed.now c.solve_in.result few (rw (rows, boxes) at c.solve_in.ensures.yes) (rw (rows, boxes) at c.solve_in.ensures.no)
