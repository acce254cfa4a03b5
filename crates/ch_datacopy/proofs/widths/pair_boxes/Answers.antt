use Rattle.std.proofs.Common.{◌≡◌, sym, ap, ap₂, ◌∙◌, subst, length, take}
use Rattle.std.specs.List.{All}
use Rattle.std.proofs.lemmas.List.Elements.{All-same, All-take}
use Rattle.ch_affine.specs.Rows.{IsBox}
use Rattle.ch_datacopy.specs.Pairs.{all_shared}
use Rattle.ch_datacopy.specs.Widths.{HaveNone}
use Rattle.ch_datacopy.specs.declared.cells.Cells.{Cells}
use Rattle.ch_datacopy.proofs.Pairing.{fronts_same, pair_each, pair_made}
use Rattle.ch_moved.proofs.Fitted.{none_value, some_value}
use Rattle.ch_datacopy.proofs.widths.pair_boxes.Goals as goal

pub all_shared-requires-clause-same : goal.all_shared-requires-clause-same
all_shared-requires-clause-same c =
    let firsts = c.as_slice-firsts.ensures ∙ ap (λ (s : Cells). s.system.boxes) c.first.view_is in
    let seconds = c.as_slice-seconds.ensures ∙ ap (λ (s : Cells). s.system.boxes) c.second.view_is in
    ap (λ z. length (take c.args.around z)) firsts ∙ fronts_same c.args.around c.args.cells c.args.first.now c.args.second.now c.requires.first c.requires.second ∙ sym (ap (λ z. length (take c.args.around z)) seconds)

pub all_shared-requires-clause-firsts : goal.all_shared-requires-clause-firsts
all_shared-requires-clause-firsts c =
    let firsts = c.as_slice-firsts.ensures ∙ ap (λ (s : Cells). s.system.boxes) c.first.view_is in
    let xs = subst (λ (s : Cells). All IsBox s.system.boxes) c.first.view_is c.first.invariant.each in
    subst (λ z. All IsBox (take c.args.around z)) (sym firsts) (All-take IsBox c.args.around c.args.first.now.system.boxes xs)

pub all_shared-requires-clause-seconds : goal.all_shared-requires-clause-seconds
all_shared-requires-clause-seconds c =
    let seconds = c.as_slice-seconds.ensures ∙ ap (λ (s : Cells). s.system.boxes) c.second.view_is in
    let ys = subst (λ (s : Cells). All IsBox s.system.boxes) c.second.view_is c.second.invariant.each in
    subst (λ z. All IsBox (take c.args.around z)) (sym seconds) (All-take IsBox c.args.around c.args.second.now.system.boxes ys)

pub returns-in_default : goal.returns-in_default
returns-in_default c =
    let firsts = c.as_slice-firsts.ensures ∙ ap (λ (s : Cells). s.system.boxes) c.first.view_is in
    let seconds = c.as_slice-seconds.ensures ∙ ap (λ (s : Cells). s.system.boxes) c.second.view_is in
    subst HaveNone (ap₂ (λ x y. all_shared (take c.args.around x) (take c.args.around y)) firsts seconds)
    (none_value c.in_ok-boxes.field-0 (HaveNone (all_shared (take c.args.around c.as_slice-firsts.result.now) (take c.args.around c.as_slice-seconds.result.now))) (λ ranges. (ranges ≡ all_shared (take c.args.around c.as_slice-firsts.result.now) (take c.args.around c.as_slice-seconds.result.now)) × All IsBox ranges) c.in_ok-boxes.ensures c.in_default.is)

pub returns : goal.returns
returns c =
    let firsts = c.as_slice-firsts.ensures ∙ ap (λ (s : Cells). s.system.boxes) c.first.view_is in
    let seconds = c.as_slice-seconds.ensures ∙ ap (λ (s : Cells). s.system.boxes) c.second.view_is in
    let xs = subst (λ (s : Cells). All IsBox s.system.boxes) c.first.view_is c.first.invariant.each in
    let ys = subst (λ (s : Cells). All IsBox s.system.boxes) c.second.view_is c.second.invariant.each in
    let b = some_value c.in_ok-boxes.field-0 (HaveNone (all_shared (take c.args.around c.as_slice-firsts.result.now) (take c.args.around c.as_slice-seconds.result.now))) (λ ranges. (ranges ≡ all_shared (take c.args.around c.as_slice-firsts.result.now) (take c.args.around c.as_slice-seconds.result.now)) × All IsBox ranges) c.in-Some.boxes c.in_ok-boxes.ensures c.in-Some.is in
    let made = pair_made c.args.around c.args.cells c.args.first.now c.args.second.now c.as_slice-firsts.result.now c.as_slice-seconds.result.now c.in-Some.boxes c.push_ranges.new.ranges c.push_ranges-2.new.ranges c.push_ranges-3.new.ranges c.push_ranges-4.new.ranges firsts seconds b.0
    c.in_ok-push_ranges.ensures c.in_ok-push_ranges-2.ensures c.in_ok-push_ranges-3.ensures c.in_ok-push_ranges-4.ensures in
    let both = subst (All IsBox) (b.0 ∙ ap₂ (λ x y. all_shared (take c.args.around x) (take c.args.around y)) firsts seconds) b.1 in
    (made, All-same IsBox _ _ made (pair_each c.args.around c.args.cells c.args.first.now c.args.second.now both xs ys))
