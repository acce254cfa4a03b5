-- The search by parallel rank ordering, played anew from the outcomes that are known.
use Rattle.std.specs.Prelude.{ℕ, zero, suc, ◌+◌, ◌-◌, ◌*◌, Bool, true, false, nat_lt, eqb, ◌&&◌, not, List, [], ◌∷◌, map, slice_index_or, Option, Some, None, if◌then◌else◌}
use Rattle.std.specs.List.{list_all, list_any}
use Rattle.ch_rank.specs.Moves.{Point, moved, reflection, expansion, halfway, first_simplex, near}
use Rattle.ch_rank.specs.Trials.{mark, with_point}
use Rattle.ch_rank.specs.Bound.{bound}
use Rattle.ch_rank.specs.declared.outcome.Outcome.{Outcome}
use Rattle.ch_rank.specs.declared.outcome.Outcome.TheVariants.{Cost, Refused}
use Rattle.ch_rank.specs.declared.outcome.Costed.{Costed}
use Rattle.ch_rank.specs.declared.phase.Phase.{Phase}
use Rattle.ch_rank.specs.declared.phase.Phase.TheVariants.{Start, Reflect, Try, Expand, Shrink, Probe, Converged}

-- strictly below; a refused point is above every cost
abbrev pub below : Outcome → Outcome → Bool
below (Cost a) (Cost b) = nat_lt a b
below (Cost a) Refused = true
below Refused _ = false

-- points: the point of each trial. asked: the trials of the round that is being costed, in the order of places.
-- simplex: the last one that was costed whole. kept: in Try and Expand, the reflections with their outcomes
pub record Game : Type 0 where
  pub sizes : List ℕ
  pub points : List Point
  pub phase : Phase
  pub asked : List ℕ
  pub simplex : List Costed
  pub kept : List Costed
  pub steps : ℕ

-- ---- outcomes

abbrev pub Known : Type 0
Known = ℕ → Option Outcome

abbrev pub and_also : ℕ → Option Outcome → Option (List Costed) → Option (List Costed)
and_also t (Some o) (Some row) = Some (record { trial = t; outcome = o } ∷ row)
and_also t _ _ = None

-- these trials with their outcomes, or none where one is not known
abbrev pub costed : Known → List ℕ → Option (List Costed)
costed known [] = Some []
costed known (t ∷ ts) = and_also t (known t) (costed known ts)

-- ---- trials: a point that has none gets the next number

abbrev pub enlisted : List Point → List Point → List Point
enlisted points [] = points
enlisted points (p ∷ ps) = enlisted (with_point points p) ps

abbrev pub numbers : List Point → List Point → List ℕ
numbers points [] = []
numbers points (p ∷ ps) = (mark (with_point points p) p - 1) ∷ numbers (with_point points p) ps

-- ---- the best of a list that is not empty, the first at a tie, and the others in order

abbrev pub best_of : Costed → List Costed → Costed
best_of b [] = b
best_of b (c ∷ cs) = best_of (if below c.outcome b.outcome then c else b) cs

-- how many stand before the best
abbrev pub best_at : Costed → ℕ → ℕ → List Costed → ℕ
best_at b at here [] = at
best_at b at here (c ∷ cs) = if below c.outcome b.outcome then best_at c here (suc here) cs else best_at b at (suc here) cs

-- those at other places than this one, from a place on
abbrev pub all_but : ℕ → ℕ → List Costed → List Costed
all_but place here [] = []
all_but place here (c ∷ cs) = if eqb here place then all_but place (suc here) cs else c ∷ all_but place (suc here) cs

abbrev pub place_of_best : List Costed → ℕ
place_of_best [] = 0
place_of_best (c ∷ cs) = best_at c 0 1 cs

abbrev pub others : List Costed → List Costed
others simplex = all_but (place_of_best simplex) 0 simplex

abbrev pub best : List Costed → Costed
best [] = record { trial = 0; outcome = Refused }
best (c ∷ cs) = best_of c cs

-- ---- rounds

abbrev pub is_over : Phase → Bool
is_over Converged = true
is_over _ = false

-- the rounds that a step may still have
abbrev pub rounds_left : Phase → ℕ
rounds_left Start = 3
rounds_left Reflect = 2
rounds_left Try = 1
rounds_left _ = 0

abbrev pub point_at : Game → ℕ → Point
point_at g t = slice_index_or g.points t []

-- a round that asks for these points
abbrev pub asks : Game → Phase → List Point → Game
asks g ph ps = record g { points = enlisted g.points ps; phase = ph; asked = numbers g.points ps }

abbrev pub move : (ℕ → ℕ → ℕ) → Game → ℕ → Costed → Point
move f g top c = moved f g.sizes (point_at g top) (point_at g c.trial)

abbrev pub moves : (ℕ → ℕ → ℕ) → Game → List Point
moves f g = map (move f g (best g.simplex).trial) (others g.simplex)

-- all places are the best point
abbrev pub is_flat : List Costed → Bool
is_flat simplex = list_all (λ c. eqb c.trial (best simplex).trial) simplex

abbrev pub begins_on : Bool → Game → Game
begins_on true g = asks g Probe (near g.sizes (point_at g (best g.simplex).trial))
begins_on false g = asks g Reflect (moves reflection g)

-- a step begins on a simplex that is costed whole
abbrev pub begins : Game → List Costed → Game
begins g simplex = begins_on (is_flat simplex) (record g { simplex = simplex; kept = [] })

abbrev pub stepped : Game → List Costed → Game
stepped g simplex = begins (record g { steps = g.steps + 1 }) simplex

abbrev pub lowers : Costed → List Costed → Bool
lowers b row = list_any (λ c. below c.outcome b.outcome) row

-- the expansion at this place alone
abbrev pub only : ℕ → List Point → List Point
only n [] = []
only zero (p ∷ ps) = p ∷ []
only (suc n) (p ∷ ps) = only n ps

-- the round is decided, with the outcomes of the trials that it asked for
abbrev pub decides : Phase → Game → List Costed → Game
decides Start g row = begins g row
decides Reflect g row = if lowers (best g.simplex) row
    then asks (record g { kept = row }) Try (only (place_of_best row) (moves expansion g))
    else asks g Shrink (moves halfway g)
decides Try g row = if lowers (best g.kept) row then asks g Expand (moves expansion g) else stepped g (best g.simplex ∷ g.kept)
decides Expand g row = stepped g (best g.simplex ∷ row)
decides Shrink g row = stepped g (best g.simplex ∷ row)
decides Probe g row = if lowers (best g.simplex) row then stepped g (best g.simplex ∷ row) else record g { phase = Converged; asked = []; steps = g.steps + 1 }
decides Converged g row = g

abbrev pub decided : Game → Option (List Costed) → Option Game
decided g None = None
decided g (Some row) = Some (decides g.phase g row)

-- one round, if each trial that it asks for has an outcome. The game is cut after `most` steps
abbrev pub advance : ℕ → Known → Game → Option Game
advance most known g = if nat_lt g.steps most && not (is_over g.phase) then decided g (costed known g.asked) else None

abbrev pub opening : List ℕ → Game
opening sizes = asks (record { sizes = sizes; points = []; phase = Start; asked = []; simplex = []; kept = []; steps = 0 }) Start (first_simplex sizes)

abbrev pub go : Game → Option Game → (Game → Game) → Game
go g None next = g
go g (Some h) next = next h

unfoldable pub play : ℕ → ℕ → Known → Game → Game
play most zero known g = g
play most (suc k) known g = go g (advance most known g) (play most k known)

-- the search on what is known. Each step has at most three rounds
unfoldable pub search_on : List ℕ → Known → Game
search_on sizes known = play (bound sizes) (3 * bound sizes + 4) known (opening sizes)
