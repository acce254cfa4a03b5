-- The judgement of a nest: it can't be run where it takes too many turns, or a subscript leaves its array.
use Rattle.std.specs.Prelude.{◌≡◌, ℕ, suc, ℤ, Bool, true, false, nat_lt, Option, Some, None, Result, Ok, Err, List, [], ◌∷◌, ◌++◌, length, map, take, if◌then◌else◌}
use Rattle.std.specs.List.{sum}
use Rattle.ch_nest.specs.declared.nest.Access.{Access}
use Rattle.ch_nest.specs.declared.nest.Body.{Body}
use Rattle.ch_nest.specs.declared.nest.Item.{Item}
use Rattle.ch_nest.specs.declared.nest.Item.TheOpen.{Item-F}
use Rattle.ch_nest.specs.declared.nest.Item.TheFolds.{fold-Item}
use Rattle.ch_nest.specs.Arrays.{extents_of}
use Rattle.ch_nest.specs.Limits.{most_work}
use Rattle.ch_nest.specs.LoopNest.{LoopNest}
use Rattle.ch_nest.specs.Sound.{access_inside, items_work}
use Rattle.ch_space.specs.declared.accesses.Leaving.{Leaving}
use Rattle.ch_space.specs.declared.error.SpaceError.{SpaceError}
use Rattle.ch_space.specs.declared.error.SpaceError.TheVariants.{TooMany, OutOfRange, Memory}
use Rattle.ch_timed.specs.Conflict.{cell_of, reads}
use Rattle.ch_timed.specs.declared.element.Cell.{Cell}
use Rattle.ch_timed.specs.declared.element.Element.{Element}
use Rattle.ch_timed.specs.declared.element.Identity.{Identity}
use Rattle.ch_timed.specs.declared.element.Label.{Label}
use Rattle.ch_timed.specs.declared.element.Label.TheVariants.{Stmt, Move}
use Rattle.ch_timed.specs.Start.{start}

-- the accesses of a statement in the order of its text: the write, then the reads from left to right
abbrev pub text_accesses : Body → List Access
text_accesses b = b.write ∷ reads b.right

abbrev pub access_count : Body → ℕ
access_count b = length (text_accesses b)

abbrev pub joined : List (List Body) → List Body
joined [] = []
joined (bs ∷ more) = bs ++ joined more

abbrev pub bodies_step : Item-F (List Body) → List Body
bodies_step (Item-F.Loop lows highs step items) = joined items
bodies_step (Item-F.If row items) = joined items
bodies_step (Item-F.Assign label body) = body ∷ []

abbrev pub bodies_of : Item → List Body
bodies_of = fold-Item (List Body) bodies_step

-- what the statements of these items do, in the order of the text
abbrev pub bodies : List Item → List Body
bodies items = joined (map bodies_of items)

-- how many accesses the statements before one have
abbrev pub accesses_before : List Item → Label → ℕ
accesses_before items (Stmt label) = sum (take label (map access_count (bodies items)))
accesses_before items (Move label) = 0

abbrev pub leaving_if : Bool → ℕ → Cell → Option Leaving → Option Leaving
leaving_if true k cell more = more
leaving_if false k cell more = Some (record { access = k; cell = cell })

-- the first of these accesses that leaves its array, where the first has number k
abbrev pub first_leaving : List (List ℕ) → List ℤ → ℕ → List Access → Option Leaving
first_leaving extents iters k [] = None
first_leaving extents iters k (a ∷ more) =
    leaving_if (access_inside extents iters a) k (cell_of iters a)
    (first_leaving extents iters (suc k) more)

abbrev pub out_of_range : Identity → Option Leaving → Option SpaceError
out_of_range first None = None
out_of_range first (Some l) = Some (OutOfRange first l.access l.cell)

-- the refusal of one instance, where an access leaves its array
abbrev pub leaving : LoopNest → Element → Option SpaceError
leaving nest e =
    out_of_range e.identity
    (first_leaving (extents_of nest.arrays) e.identity.iters (accesses_before nest.items e.identity.label)
    (text_accesses e.body))

abbrev pub or_else : Option SpaceError → Option SpaceError → Option SpaceError
or_else (Some e) more = Some e
or_else None more = more

-- what the first of these elements that has one gives
abbrev pub first_of : (Element → Option SpaceError) → List Element → Option SpaceError
first_of f [] = None
first_of f (e ∷ es) = or_else (f e) (first_of f es)

-- The refusal of a nest: too many turns and instances; else the first instance in program order whose access leaves its array.
abbrev pub judgement : LoopNest → Option SpaceError
judgement nest =
    if nat_lt most_work (items_work nest.items []) then Some TooMany
    else first_of (leaving nest) (start nest)

-- what a function gives that judges: the refusal, unless memory ran out
abbrev pub IsRefusal : SpaceError → Option SpaceError → Type 0
IsRefusal Memory refusal = Unit {0}
IsRefusal TooMany refusal = refusal ≡ Some TooMany
IsRefusal (OutOfRange first access cell) refusal = refusal ≡ Some (OutOfRange first access cell)

abbrev pub Judges : {X : Type 0} → Result X SpaceError → Option SpaceError → Type 0
Judges (Ok x) refusal = refusal ≡ None
Judges (Err e) refusal = IsRefusal e refusal
