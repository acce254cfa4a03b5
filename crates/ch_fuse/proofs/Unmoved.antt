-- Commands that name no piece leave a list as it is, but for closing up.
use Rattle.std.proofs.Common.{◌≡◌, refl, ap, ◌∙◌, ℤ, true, List, [], ◌∷◌, map}
use Rattle.std.proofs.lemmas.Bool.{and_parts}
use Rattle.ch_fuse.specs.Distributed.{distributed}
use Rattle.ch_fuse.specs.Fused.{fused}
use Rattle.ch_timed.specs.Closed.{closed_up}
use Rattle.ch_timed.specs.Timed.{identities_differ, in_order, is_well_formed, vectors_ascend}
use Rattle.ch_timed.specs.declared.element.Element.{Element}
use Rattle.ch_timed.proofs.Sorted.{adjacent_ascends, ascends_ordered}

ordered_already : (list : List Element) → is_well_formed list ≡ true → in_order list ≡ list
ordered_already list h =
    let a = and_parts (identities_differ list) _ h in
    let b = and_parts (vectors_ascend list) _ a.1 in
    ascends_ordered list (adjacent_ascends list b.0)

all_stay : (list : List Element) → map (λ e. e) list ≡ list
all_stay [] = refl
all_stay (e ∷ es) = ap (λ t. e ∷ t) (all_stay es)

pub fused_none : (list : List Element) (level : ℤ) → is_well_formed list ≡ true → fused list [] level ≡ closed_up list
fused_none list level h = ap (λ z. closed_up (in_order z)) (all_stay list) ∙ ap closed_up (ordered_already list h)

pub distributed_none : (list : List Element) (level : ℤ) → is_well_formed list ≡ true → distributed list [] level ≡ closed_up list
distributed_none list level h = ap (λ z. closed_up (in_order z)) (all_stay list) ∙ ap closed_up (ordered_already list h)
