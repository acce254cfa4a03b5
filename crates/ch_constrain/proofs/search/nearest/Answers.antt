use Rattle.std.proofs.Common.{◌∙◌, ap, sym, subst, Some, None}
use Rattle.ch_constrain.proofs.Least.{nearest_is, own_nearest}
use Rattle.ch_constrain.proofs.Scanned.{found_below, none_found, one_found}
use Rattle.ch_constrain.specs.Nearest.{nearest}
use Rattle.ch_constrain.specs.Scanned.{Finds}
use Rattle.ch_constrain.proofs.search.nearest.Goals as goal

pub returns-then-branch-clause-value : goal.returns-then-branch-clause-value
returns-then-branch-clause-value c =
    ap Some c.in_ok-from_slice.ensures
    ∙ sym (own_nearest c.args.grid.now.params c.args.rows.now c.args.point.now c.requires.point (sym c.in_ok-is_admissible.ensures ∙ c.if-branch.true))

pub returns-then-branch-clause-least : goal.returns-then-branch-clause-least
returns-then-branch-clause-least c =
    nearest_is c.args.grid.now.params c.args.rows.now c.args.point.now (Some c.in_ok-from_slice.field-0) (ap Some c.in_ok-from_slice.ensures
    ∙ sym (own_nearest c.args.grid.now.params c.args.rows.now c.args.point.now c.requires.point (sym c.in_ok-is_admissible.ensures ∙ c.if-branch.true)))

pub returns-in-None-clause-value : goal.returns-in-None-clause-value
returns-in-None-clause-value c =
    none_found c.args.grid.now.params c.args.point.now _ (subst (λ o. Finds c.args.grid.now.params c.args.point.now o (nearest c.args.grid.now.params c.args.rows.now c.args.point.now)) c.in-None.is c.in_ok-nearest_found.ensures)

pub returns-in-None-clause-least : goal.returns-in-None-clause-least
returns-in-None-clause-least c =
    nearest_is c.args.grid.now.params c.args.rows.now c.args.point.now None
    (none_found c.args.grid.now.params c.args.point.now _ (subst (λ o. Finds c.args.grid.now.params c.args.point.now o (nearest c.args.grid.now.params c.args.rows.now c.args.point.now)) c.in-None.is c.in_ok-nearest_found.ensures))

pub point_at-requires : goal.point_at-requires
point_at-requires c =
    found_below c.args.grid.now.params c.args.point.now c.in-Some.found _ (subst (λ o. Finds c.args.grid.now.params c.args.point.now o (nearest c.args.grid.now.params c.args.rows.now c.args.point.now)) c.in-Some.is c.in_ok-nearest_found.ensures)

pub returns-in_ok-point_at-in-Some-clause-value : goal.returns-in_ok-point_at-in-Some-clause-value
returns-in_ok-point_at-in-Some-clause-value c =
    ap Some c.in_ok-point_at-in-Some.ensures ∙ one_found c.args.grid.now.params c.args.point.now c.in-Some.found _ (subst (λ o. Finds c.args.grid.now.params c.args.point.now o (nearest c.args.grid.now.params c.args.rows.now c.args.point.now)) c.in-Some.is c.in_ok-nearest_found.ensures)

pub returns-in_ok-point_at-in-Some-clause-least : goal.returns-in_ok-point_at-in-Some-clause-least
returns-in_ok-point_at-in-Some-clause-least c =
    nearest_is c.args.grid.now.params c.args.rows.now c.args.point.now (Some c.in_ok-point_at-in-Some.field-0)
    (ap Some c.in_ok-point_at-in-Some.ensures ∙ one_found c.args.grid.now.params c.args.point.now c.in-Some.found _ (subst (λ o. Finds c.args.grid.now.params c.args.point.now o (nearest c.args.grid.now.params c.args.rows.now c.args.point.now)) c.in-Some.is c.in_ok-nearest_found.ensures))
