use Rattle.std.proofs.Common.{◌≡◌, ap, ap₂, sym, ◌∙◌, subst, length, map, take, drop}
use Rattle.std.specs.List.{All}
use Rattle.ch_affine.specs.Affine.{IsSmall}
use Rattle.ch_affine.specs.Rows.{IsSystem}
use Rattle.ch_moved.specs.Changed.{AreConditions, StandOver}
use Rattle.ch_moved.specs.Spread.{ties}
use Rattle.ch_moved.specs.Substituted.{substituted}
use Rattle.ch_moved.proofs.Fitted.{none_value, some_value}
use Rattle.ch_moved.proofs.Joining.{plain_ok, tied_ok, substituted_long, tied_long}
use Rattle.ch_moved.proofs.reindex.changed.Goals as goal

pub joined-requires-clause-rows : goal.joined-requires-clause-rows
joined-requires-clause-rows c =
    let s : IsSystem c.args.old.now = subst IsSystem c.old.view_is c.old.invariant in
    let ranges = c.as_slice-ranges.ensures ∙ ap (λ t. t.boxes) c.old.view_is in
    let rows = c.as_slice-rows.ensures ∙ ap (λ t. t.rows) c.old.view_is in
    let new = some_value c.in_ok-new.field-0 (All (λ f. IsSmall (substituted c.len.result c.args.forms.now f)) c.as_slice-rows.result.now → ⊥)
    (λ fs. fs ≡ map (substituted c.len.result c.args.forms.now) c.as_slice-rows.result.now) c.in-Some.new c.in_ok-new.ensures c.in-Some.is in
    let all = c.split_at.ensures.back_len ∙ ap length ranges ∙ s.boxes in
    substituted_long (length c.args.boxes) c.args.old.now.vars (length c.split_at.result.1.now) c.args.forms.now c.args.old.now.rows c.in-Some.new c.requires.long c.requires.old all s.rows
    (new ∙ ap₂ (λ n fs. map (substituted n c.args.forms.now) fs) c.len.ensures rows)

pub returns-in-Some : goal.returns-in-Some
returns-in-Some c =
    let s : IsSystem c.args.old.now = subst IsSystem c.old.view_is c.old.invariant in
    let gs = c.args.forms.now in
    let ranges = c.as_slice-ranges.ensures ∙ ap (λ t. t.boxes) c.old.view_is in
    let rows = c.as_slice-rows.ensures ∙ ap (λ t. t.rows) c.old.view_is in
    let new = some_value c.in_ok-new.field-0 (All (λ f. IsSmall (substituted c.len.result gs f)) c.as_slice-rows.result.now → ⊥) (λ fs. fs ≡ map (substituted c.len.result gs) c.as_slice-rows.result.now) c.in-Some.new
    c.in_ok-new.ensures c.in-Some.is in
    let over = subst (λ bs. AreConditions bs gs c.split_at.result.0.now c.args.extra.now c.in_ok-conditions.conditions) c.as_slice.ensures c.in_ok-conditions.ensures in
    let conditions = subst (λ fs. AreConditions c.args.boxes gs c.split_at.result.0.now c.args.extra.now fs) (sym c.as_slice-in-Some.ensures) over in
    plain_ok c.args.old.now gs c.args.boxes c.split_at.result.0.now c.args.extra.now c.as_slice-in-Some.result.now s c.requires.long c.requires.old conditions
    (c.split_at.ensures.front ∙ ap (take (length gs)) ranges) c.joined.result c.split_at.result.1.now c.in-Some.new (c.split_at.ensures.back ∙ ap (drop (length gs)) ranges)
    (new ∙ ap₂ (λ n fs. map (substituted n gs) fs) c.len.ensures rows) c.joined.ensures

pub joined-requires-in-None-clause-rows : goal.joined-requires-in-None-clause-rows
joined-requires-in-None-clause-rows c =
    let s : IsSystem c.args.old.now = subst IsSystem c.old.view_is c.old.invariant in
    let gs = c.args.forms.now in
    let ranges = c.as_slice-ranges.ensures ∙ ap (λ t. t.boxes) c.old.view_is in
    let stand = subst (λ n. StandOver (ties 0 c.args.old.now.vars gs) n c.args.old.now.vars gs c.args.old.now.rows c.in_ok-new-in-None.new) c.len-in-None.ensures c.in_ok-new-in-None.ensures in
    tied_long (length c.args.boxes) c.args.old.now.vars (length c.as_slice-ranges.result.now) gs c.args.old.now.rows c.in_ok-new-in-None.new c.requires.long c.requires.old (ap length ranges ∙ s.boxes) stand

pub returns : goal.returns
returns c =
    let s : IsSystem c.args.old.now = subst IsSystem c.old.view_is c.old.invariant in
    let gs = c.args.forms.now in
    let ranges = c.as_slice-ranges.ensures ∙ ap (λ t. t.boxes) c.old.view_is in
    let rows = c.as_slice-rows.ensures ∙ ap (λ t. t.rows) c.old.view_is in
    let none = none_value c.in_ok-new.field-0 (All (λ f. IsSmall (substituted c.len.result gs f)) c.as_slice-rows.result.now → ⊥) (λ fs. fs ≡ map (substituted c.len.result gs) c.as_slice-rows.result.now)
    c.in_ok-new.ensures c.in-None.is in
    let large = subst (λ n. All (λ f. IsSmall (substituted n gs f)) c.args.old.now.rows → ⊥) c.len.ensures (subst (λ fs. All (λ f. IsSmall (substituted c.len.result gs f)) fs → ⊥) rows none) in
    let stand = subst (λ n. StandOver (ties 0 c.args.old.now.vars gs) n c.args.old.now.vars gs c.args.old.now.rows c.in_ok-new-in-None.new) c.len-in-None.ensures c.in_ok-new-in-None.ensures in
    let over = subst (λ bs. AreConditions bs gs c.split_at.result.0.now c.args.extra.now c.in_ok-conditions.conditions) c.as_slice.ensures c.in_ok-conditions.ensures in
    let conditions = subst (λ fs. AreConditions c.args.boxes gs c.split_at.result.0.now c.args.extra.now fs) (sym c.as_slice-in-None.ensures) over in
    tied_ok c.args.old.now gs c.args.boxes c.split_at.result.0.now c.args.extra.now c.as_slice-in-None.result.now s c.requires.long c.requires.old conditions
    (c.split_at.ensures.front ∙ ap (take (length gs)) ranges) c.joined-in-None.result c.as_slice-ranges.result.now c.in_ok-new-in-None.new ranges stand large c.joined-in-None.ensures
