-- The reversed pair of lists whose bodies have known reads can be computed; of additions to one array none is in free conflict.
use Rattle.std.proofs.Common.{◌≡◌, refl, ap, ◌∙◌, arith, ℕ, nat_eq, Bool, true, false, ◌&&◌, if◌then◌else◌, Option, Some, None, List, [], ◌∷◌, ◌++◌, map}
use Rattle.std.specs.Bool.{IsTrue}
use Rattle.std.proofs.lemmas.Bool.Decides.{nat_tests}
use Rattle.ch_nest.specs.declared.nest.Access.{Access}
use Rattle.ch_reduce.specs.Accumulation.{accumulates}
use Rattle.ch_reduce.specs.Relaxed.{add_to_one, free_conflict, relaxed_reversed}
use Rattle.ch_timed.specs.Conflict.{cell_of, cells_of, clash, conflict, reads, reversed, written}
use Rattle.ch_timed.specs.Members.{Each}
use Rattle.ch_timed.specs.Order as order
use Rattle.ch_timed.specs.Order.{is_before, or_else, overtaken, overtakes}
use Rattle.ch_timed.specs.Timed.{Step, same_step, step}
use Rattle.ch_timed.specs.declared.element.Cell.{Cell}
use Rattle.ch_timed.specs.declared.element.Element.{Element}

-- the cells of a step that reads by these accesses
abbrev pub known_cells : List Access → Step → List Cell
known_cells rs s = map (cell_of s.identity.iters) rs ++ written s ∷ []

abbrev pub known_conflict : List Access → Step → Step → Option Cell
known_conflict rs a b = clash (known_cells rs a) (known_cells rs b) (known_cells rs a)

-- it does so
abbrev pub Reads : List Access → Step → Type 0
Reads rs s = reads s.body.right ≡ rs

known : (rs : List Access) (a b : Step) → Reads rs a → Reads rs b → conflict a b ≡ known_conflict rs a b
known rs a b f g =
    let ours : cells_of a ≡ known_cells rs a = ap (λ xs. map (cell_of a.identity.iters) xs ++ written a ∷ []) f in
    let theirs : cells_of b ≡ known_cells rs b = ap (λ xs. map (cell_of b.identity.iters) xs ++ written b ∷ []) g in
    ap (λ cs. clash cs (cells_of b) cs) ours ∙ ap (λ cs. clash (known_cells rs a) cs (known_cells rs a)) theirs

overtakes_known : (rs : List Access) (a : Step) (later new : List Step) → Reads rs a → Each (Reads rs) later
    → overtakes same_step conflict a later new ≡ overtakes same_step (known_conflict rs) a later new
overtakes_known rs a [] new f g = refl
overtakes_known rs a (b ∷ later) new f g =
    ap (λ c. or_else (overtaken (is_before same_step b a new) a b c) (overtakes same_step conflict a later new)) (known rs a b f g.0)
    ∙ ap (or_else (overtaken (is_before same_step b a new) a b (known_conflict rs a b))) (overtakes_known rs a later new f g.1)

steps_known : (rs : List Access) (old new : List Step) → Each (Reads rs) old
    → order.reversed same_step conflict old new ≡ order.reversed same_step (known_conflict rs) old new
steps_known rs [] new g = refl
steps_known rs (a ∷ later) new g =
    ap (λ o. or_else o (order.reversed same_step conflict later new)) (overtakes_known rs a later new g.0 g.1)
    ∙ ap (or_else (overtakes same_step (known_conflict rs) a later new)) (steps_known rs later new g.1)

pub reversed_known : (rs : List Access) (old new : List Element) → Each (Reads rs) (map step old)
    → reversed old new ≡ order.reversed same_step (known_conflict rs) (map step old) (map step new)
reversed_known rs old new g = steps_known rs (map step old) (map step new) g

-- ---- lists of additions to one array: no two of their steps are in free conflict

-- the step adds to a cell of this array
abbrev pub AddsTo : ℕ → Step → Type 0
AddsTo array s = IsTrue (accumulates s.body) × (s.body.write.array ≡ array)

same_number : (n : ℕ) → nat_eq n n ≡ true
same_number n = grind (arith, nat_tests)

both_add : (array : ℕ) (a b : Step) → AddsTo array a → AddsTo array b → add_to_one a b ≡ true
both_add array a b f g =
    ap (λ t. (t && accumulates b.body) && nat_eq a.body.write.array b.body.write.array) f.0
    ∙ ap (λ t. t && nat_eq a.body.write.array b.body.write.array) g.0
    ∙ ap (λ n. nat_eq n b.body.write.array) f.1 ∙ ap (nat_eq array) g.1 ∙ same_number array

free_of : (array : ℕ) (a b : Step) → AddsTo array a → AddsTo array b → free_conflict a b ≡ None
free_of array a b f g = ap (λ t. if t then None else conflict a b) (both_add array a b f g)

overtaken_none : (t : Bool) (a b : Step) (o : Option Cell) → o ≡ None → overtaken t a b o ≡ None
overtaken_none true a b None e = refl
overtaken_none true a b (Some c) e = cc
overtaken_none false a b o e = refl

overtakes_none : (array : ℕ) (a : Step) (later new : List Step) → AddsTo array a → Each (AddsTo array) later
    → overtakes same_step free_conflict a later new ≡ None
overtakes_none array a [] new f g = refl
overtakes_none array a (b ∷ later) new f g =
    ap (λ o. or_else o (overtakes same_step free_conflict a later new)) (overtaken_none (is_before same_step b a new) a b (free_conflict a b) (free_of array a b f g.0))
    ∙ overtakes_none array a later new f g.1

steps_free : (array : ℕ) (old new : List Step) → Each (AddsTo array) old → order.reversed same_step free_conflict old new ≡ None
steps_free array [] new g = refl
steps_free array (a ∷ later) new g =
    ap (λ o. or_else o (order.reversed same_step free_conflict later new)) (overtakes_none array a later new g.0 g.1)
    ∙ steps_free array later new g.1

pub sums_free : (array : ℕ) (old new : List Element) → Each (AddsTo array) (map step old) → relaxed_reversed old new ≡ None
sums_free array old new g = steps_free array (map step old) (map step new) g
