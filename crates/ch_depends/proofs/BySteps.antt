-- The least reversed pair of elements, told by their steps.
use Rattle.std.proofs.Common.{◌≡◌, refl, ap, ◌∙◌, Option, Some, None, List, []}
use Rattle.ch_depends.specs.Depends.{pair_of}
use Rattle.ch_depends.specs.Free.{conflict_but, pair_of_elements, reversed_but}
use Rattle.ch_depends.specs.declared.answers.PiecePair.{PiecePair}
use Rattle.ch_order.specs.Legal.{Conflict, steps}
use Rattle.ch_order.proofs.LeastBy.{pair_of_steps, reversed_by_steps}
use Rattle.ch_timed.specs.Conflict.{conflict, reversed}
use Rattle.ch_timed.specs.declared.element.Cell.{Cell}
use Rattle.ch_timed.specs.declared.element.Element.{Element}
use Rattle.ch_timed.specs.Members.{In}
use Rattle.ch_timed.specs.Order as order
use Rattle.ch_timed.specs.Order.{Pair}
use Rattle.ch_timed.specs.Timed.{same_step, step}

same_identities : (o : Option (Pair Element Cell)) → pair_of_elements o ≡ pair_of (pair_of_steps o)
same_identities None = refl
same_identities (Some p) = refl

-- where the conflict of two members of the old list that are no listed pair is that of their steps by a rule, the pair is the least
-- one by that rule
pub by_steps : (old new : List Element) (free : List PiecePair) (conflicts : Conflict)
    → ((e f : Element) → In e old → In f old → conflict_but old free e f ≡ conflicts (step e) (step f))
    → pair_of_elements (reversed_but old new free) ≡ pair_of (order.reversed same_step conflicts (steps old) (steps new))
by_steps old new free conflicts same =
    same_identities (reversed_but old new free) ∙ ap pair_of (reversed_by_steps (conflict_but old free) conflicts new old same)

-- without listed pairs it is the least reversed pair
pub none_free : (old new : List Element) → pair_of_elements (reversed_but old new []) ≡ pair_of (reversed old new)
none_free old new = by_steps old new [] conflict (λ e f i j. refl)
