use Rattle.std.proofs.Common.{ap, ◌∙◌}
use Rattle.ch_affine.specs.Rows.{Rows, IsSystem}
use Rattle.ch_poly.proofs.Divides.{gcd_row_never}
use Rattle.ch_poly.proofs.Firsts.{empty_is_none}
use Rattle.ch_poly.proofs.Lows.{range_row_empty}
use Rattle.ch_poly.specs.Opposed.{IsNever}
use Rattle.ch_poly.proofs.exclude.excluded.Goals as goal

pub returns-in-Some-clause-empty : goal.returns-in-Some-clause-empty
returns-in-Some-clause-empty c =
    let rows = c.as_slice.ensures ∙ ap (λ (r : Rows). r.rows) c.s.view_is in
    let n : IsNever c.args.s.now.rows = rw rows at (gcd_row_never _ _ c.in-Some.ensures.here) in
    empty_is_none c.args.s.now (record { none = λ p w h. n.never p h })

pub returns-in-Some-first_range_row-clause-empty : goal.returns-in-Some-first_range_row-clause-empty
returns-in-Some-first_range_row-clause-empty c =
    let i : IsSystem c.args.s.now = rw c.s.view_is at c.s.invariant in
    range_row_empty c.args.s.now _ i c.in-Some-first_range_row.ensures.here
