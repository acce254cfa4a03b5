-- At the end of a search the first rank's trial has the least outcome, and no neighbour of its point beats it.
use Rattle.std.proofs.Common.{mul-le-mul_left, mul-le-mul_right, ◌^◌, ◌≡◌, ◌≢◌, ℕ, zero, suc, ◌+◌, ◌-◌, ◌*◌, ◌<◌, ◌≤◌, Bool, true, false, eqb, nat_lt, List, [], ◌∷◌, length, get_or, Option, Some, None, refl, sym, ap, ◌∙◌, subst, arith, ◌⊎◌, inl, inr}
use Rattle.std.specs.Prelude.{IsSomeAnd, IsSome, IfSome, slice_get, option_map}
use Rattle.std.specs.List.{All}
use Rattle.std.proofs.lemmas.Bool.Decides.{nat_tests}
use Rattle.std.proofs.lemmas.List.Elements.{All-head, All-tail}
use Rattle.ch_grid.specs.declared.param.Param.{Param}
use Rattle.ch_grid.specs.Grid.{sizes}
use Rattle.ch_rank.specs.declared.outcome.Outcome.{Outcome}
use Rattle.ch_rank.specs.declared.outcome.Outcome.TheVariants.{Cost, Refused}
use Rattle.ch_rank.specs.declared.outcome.Costed.{Costed}
use Rattle.ch_rank.specs.declared.ranks.Placed.{Placed}
use Rattle.ch_rank.specs.declared.phase.Phase.TheVariants.{Converged}
use Rattle.ch_rank.specs.Moves.{Point, near}
use Rattle.ch_rank.specs.Trials.{mark}
use Rattle.ch_rank.specs.Search.{Game, Known, below, best}
use Rattle.ch_rank.specs.Ranks.{ranks, rank_of, versions, last_of, least_of}
use Rattle.ch_rank.specs.Entries.{Searched, played, known, known_in, completed, completed_in, most_steps, AreKept, IsSearch}
use Rattle.ch_rank.specs.Course.{IsBeaten, IsLeast}
use Rattle.ch_rank.specs.Entries.{In}
use Rattle.ch_rank.proofs.Lists.{all_at, all_more, list_all_all}
use Rattle.ch_rank.proofs.Held.{mark_at, best_held}
use Rattle.ch_rank.proofs.Ranking.{all_ranked, length_order, versions_least, versions_few, last_all}
use Rattle.ch_grid.specs.Points.{count}
use Rattle.ch_rank.specs.declared.ranks.Rank.{Rank}
use Rattle.ch_rank.specs.declared.tally.Tally.{Tally}
use Rattle.ch_rank.proofs.Entering.{game_now}
use Rattle.ch_rank.proofs.Measuring.{few_entries, completed_few}
use Rattle.ch_rank.proofs.Ending.{ended, played_row, steps_within, steps_before}

eqb_is : (x y : ℕ) → eqb x y ≡ true → x ≡ y
eqb_is x y h = grind (arith, nat_tests)

number_same : (a b : ℕ) → nat_lt a b ≡ false → nat_lt b a ≡ false → a ≡ b
number_same a b p q = grind (arith, nat_tests)

-- neither is below the other
same_outcome : (a b : Outcome) → below a b ≡ false → below b a ≡ false → a ≡ b
same_outcome (Cost a) (Cost b) p q = ap (λ n. Cost n) (number_same a b p q)
same_outcome (Cost a) Refused p q = absurd (cc)
same_outcome Refused (Cost b) p q = absurd (cc)
same_outcome Refused Refused p q = refl

best_same : (es : List Costed) (t : ℕ) (o : Outcome) → In (record { trial = t; outcome = o }) es → All (λ e. below e.outcome o ≡ false) es → least_of (last_of (versions es)) ≡ o
best_same es t o i a =
    let v = versions_least es in
    same_outcome (least_of (last_of (versions es))) o (not_under v.from) (all_at (λ e. below e.outcome (least_of (last_of (versions es))) ≡ false) (record { trial = t; outcome = o }) es v.below_all i)
  where
    not_under : (least_of (last_of (versions es)) ≡ Refused) ⊎ ((e : Costed) × In e es × (e.outcome ≡ least_of (last_of (versions es)))) → below (least_of (last_of (versions es))) o ≡ false
    not_under (inl e) = subst (λ (x : Outcome). below x o ≡ false) (sym e) refl
    not_under (inr x) = subst (λ (y : Outcome). below y o ≡ false) x.2 (all_at (λ e. below e.outcome o ≡ false) x.0 es a x.1)

pub is_least : (s : Searched) (t : ℕ) → AreKept (length (played s).points) s.repeat s.entries → (played s).phase ≡ Converged → t ≡ (best (played s).simplex).trial → IsLeast s t
is_least s t legal e is =
    let g : Game = played s in
    let k : Known = known_in s in
    let d = ended s.grid k e in
    let o : Outcome = (best g.simplex).outcome in
    let held : k (best g.simplex).trial ≡ Some o = best_held k g.simplex d.some d.simplex_held in
    let entered : k t ≡ Some o = ap k is ∙ held in
    let all : All (λ x. below x.outcome o ≡ false) (completed_in s) = all_more (λ x. (x.trial < length g.points) × (k x.trial ≡ Some x.outcome)) (λ x. below x.outcome o ≡ false) (completed_in s)
    (λ x l. let y = d.above x.trial l.0 in subst (λ (v : Outcome). below v o ≡ false) (known_same k x.trial y.0 x.outcome y.1 l.1) y.2) legal.done in
    record {
      outcome = o;
      entered = entered;
      trials = λ u x q. all_at (λ (y : Costed). below y.outcome o ≡ false) (record { trial = u; outcome = x }) (completed_in s) all (legal.whole u x q);
      best = best_same (completed_in s) t o (legal.whole t o entered) all;
      neighbours = subst (λ (u : ℕ). All (IsBeaten s o) (near (sizes s.grid) (get_or g.points u []))) (sym is)
          (all_more (λ p. 0 < mark g.points p) (IsBeaten s o) (near (sizes s.grid) (get_or g.points (best g.simplex).trial [])) (λ p m. beaten p m) d.neighbours);
    }
  where
    known_same : (f : Known) (u : ℕ) (x y : Outcome) → f u ≡ Some x → f u ≡ Some y → x ≡ y
    known_same f u x y p q = cc

    beaten : (p : Point) → 0 < mark (played s).points p → IsBeaten s (best (played s).simplex).outcome p
    beaten p m =
        let d = ended s.grid (known_in s) e in
        let at = mark_at 0 (played s).points p m in
        let x = d.above (mark (played s).points p - 1) at.1 in
        record { trial = mark (played s).points p - 1; outcome = x.0; here = at.2; entered = x.1; not_below = x.2 }

first_of : (Q : ℕ → Type 0) (ps : List Placed) → 0 < length ps → All (λ p. Q p.trial) ps → IsSomeAnd (option_map rank_of (slice_get ps 0)) (λ r. Q r.trial)
first_of Q [] h a = absurd (omega arith)
first_of Q (p ∷ ps) h a = All-head (λ x. Q x.trial) p ps a

-- the first rank at the end
pub first_rank : (s : Searched) → AreKept (length (played s).points) s.repeat s.entries → (played s).phase ≡ Converged → IsSomeAnd (option_map rank_of (slice_get (ranks (played s).simplex) 0)) (λ r. IsLeast s r.trial)
first_rank s legal e =
    let g : Game = played s in
    let d = ended s.grid (known_in s) e in
    let flat = list_all_all (λ c. eqb c.trial (best g.simplex).trial) g.simplex d.flat in
    let same : All (λ c. IsLeast s c.trial) g.simplex = all_more (λ c. eqb c.trial (best g.simplex).trial ≡ true) (λ c. IsLeast s c.trial) g.simplex (λ c q. is_least s c.trial legal e (eqb_is c.trial (best g.simplex).trial q)) flat in
    first_of (IsLeast s) (ranks g.simplex) (omega (arith, length_order 0 g.simplex, d.some)) (all_ranked (IsLeast s) 0 g.simplex same)

-- ---- what the code's value tells

pub kept_now : (ps : List Param) (rep : ℕ) (g : Game) (os : List (Option Outcome)) (ts : List Tally) (es : List Costed) (b : Option Costed) (vs most spare : ℕ) (now : Searched) → IsSearch ps rep g os ts es b vs most → record { grid = ps; repeat = rep; entries = es; spare = spare } ≡ now → AreKept (length (played now).points) now.repeat now.entries
kept_now ps rep g os ts es b vs most spare now s v = subst (λ (x : Searched). AreKept (length (played x).points) x.repeat x.entries) v (subst (λ (x : Game). AreKept (length x.points) rep es) s.game s.kept)

pub few_now : (ps : List Param) (rep : ℕ) (g : Game) (os : List (Option Outcome)) (ts : List Tally) (es : List Costed) (b : Option Costed) (vs most : ℕ) → IsSearch ps rep g os ts es b vs most → length es ≤ rep * count (sizes ps)
few_now ps rep g os ts es b vs most s = let f = few_entries rep (length g.points) es s.kept in let m : rep * length g.points ≤ rep * count (sizes ps) = mul-le-mul_left rep (omega (arith, s.within, ap count s.sizes_are)) in omega (arith, f, m)

pub versions_small : (ps : List Param) (rep : ℕ) (g : Game) (os : List (Option Outcome)) (ts : List Tally) (es : List Costed) (b : Option Costed) (vs most : ℕ) → IsSearch ps rep g os ts es b vs most → vs < 2 ^ 31
versions_small ps rep g os ts es b vs most s =
    let f = few_now ps rep g os ts es b vs most s in
    let m : rep * count (sizes ps) ≤ 9 * count (sizes ps) = mul-le-mul_right (count (sizes ps)) s.repeat.1 in
    let v = versions_few (completed rep es) in
    let d = completed_few rep [] es in
    omega (arith, f, m, v, d, s.versions_are, s.points_few)

pub first_now : (ps : List Param) (rep : ℕ) (g : Game) (os : List (Option Outcome)) (ts : List Tally) (es : List Costed) (b : Option Costed) (vs most spare r : ℕ) (now : Searched) (row : List Costed) (result : Option Rank) → IsSearch ps rep g os ts es b vs most → record { grid = ps; repeat = rep; entries = es; spare = spare } ≡ now → row ≡ g.simplex → result ≡ option_map rank_of (slice_get (ranks row) r) →
    (played now).phase ≡ Converged → r ≡ 0 → IsSomeAnd result (λ rank. IsLeast now rank.trial)
first_now ps rep g os ts es b vs most spare r now row result s v w e end is_first =
    let simplex : row ≡ (played now).simplex = w ∙ ap (λ (x : Game). x.simplex) (game_now ps rep g os ts es b vs most spare now s v) in
    let is : result ≡ option_map rank_of (slice_get (ranks (played now).simplex) 0) = e ∙ (ap (λ (x : List Costed). option_map rank_of (slice_get (ranks x) r)) simplex ∙ ap (λ i. option_map rank_of (slice_get (ranks (played now).simplex) i)) is_first) in
    subst (λ (x : Option Rank). IsSomeAnd x (λ rank. IsLeast now rank.trial)) (sym is) (first_rank now (kept_now ps rep g os ts es b vs most spare now s v) end)

pub steps_now : (ps : List Param) (rep : ℕ) (g : Game) (os : List (Option Outcome)) (ts : List Tally) (es : List Costed) (b : Option Costed) (vs most spare : ℕ) (now : Searched) → IsSearch ps rep g os ts es b vs most → record { grid = ps; repeat = rep; entries = es; spare = spare } ≡ now → (g.steps ≤ most_steps now) × ((played now).phase ≢ Converged → g.steps < most_steps now)
steps_now ps rep g os ts es b vs most spare now s v =
    let p = ap (λ (x : Game). x.steps) (game_now ps rep g os ts es b vs most spare now s v) in
    let w = steps_within now.grid (known_in now) in
    (omega (arith, p, w), λ n. let l = steps_before now.grid (known_in now) n in omega (arith, p, l))

if_got : (Q : ℕ → Type 0) (ps : List Placed) (r : ℕ) → All (λ p. Q p.trial) ps → IfSome (option_map rank_of (slice_get ps r)) (λ rank. Q rank.trial)
if_got Q [] r a = tt
if_got Q (p ∷ ps) zero a = All-head (λ x. Q x.trial) p ps a
if_got Q (p ∷ ps) (suc r) a = if_got Q ps r (All-tail (λ x. Q x.trial) p ps a)

some_of : (x : Option Outcome) (o : Outcome) → x ≡ Some o → IsSome x
some_of x o e = subst (λ (y : Option Outcome). IsSome y) (sym e) refl

-- each rank's trial has an entry
pub rank_now : (ps : List Param) (rep : ℕ) (g : Game) (os : List (Option Outcome)) (ts : List Tally) (es : List Costed) (b : Option Costed) (vs most spare r : ℕ) (now : Searched) (row : List Costed) (result : Option Rank) → IsSearch ps rep g os ts es b vs most → record { grid = ps; repeat = rep; entries = es; spare = spare } ≡ now → row ≡ g.simplex → result ≡ option_map rank_of (slice_get (ranks row) r) →
    IfSome result (λ rank. rank.trial < length (played now).points) × IfSome result (λ rank. IsSome (known_in now rank.trial))
rank_now ps rep g os ts es b vs most spare r now row result s v w e =
    let simplex : row ≡ (played now).simplex = w ∙ ap (λ (x : Game). x.simplex) (game_now ps rep g os ts es b vs most spare now s v) in
    let is : result ≡ option_map rank_of (slice_get (ranks (played now).simplex) r) = e ∙ ap (λ (x : List Costed). option_map rank_of (slice_get (ranks x) r)) simplex in
    let all = played_row now in
    let here = all_ranked (λ t. t < length (played now).points) 0 (played now).simplex (all_more (λ d. (d.trial < length (played now).points) × (known_in now d.trial ≡ Some d.outcome)) (λ d. d.trial < length (played now).points) (played now).simplex (λ d x. x.0) all) in
    let entered = all_ranked (λ t. IsSome (known_in now t)) 0 (played now).simplex (all_more (λ d. (d.trial < length (played now).points) × (known_in now d.trial ≡ Some d.outcome)) (λ d. IsSome (known_in now d.trial)) (played now).simplex (λ d x. some_of (known_in now d.trial) d.outcome x.1) all) in (
      subst (λ (x : Option Rank). IfSome x (λ rank. rank.trial < length (played now).points)) (sym is) (if_got (λ t. t < length (played now).points) (ranks (played now).simplex) r here),
      subst (λ (x : Option Rank). IfSome x (λ rank. IsSome (known_in now rank.trial))) (sym is) (if_got (λ t. IsSome (known_in now t)) (ranks (played now).simplex) r entered),
    )

-- the best trial has a number, and the outcome of the last version
pub best_now : (ps : List Param) (rep : ℕ) (g : Game) (os : List (Option Outcome)) (ts : List Tally) (es : List Costed) (b : Option Costed) (vs most spare : ℕ) (now : Searched) (e : Costed) → IsSearch ps rep g os ts es b vs most → record { grid = ps; repeat = rep; entries = es; spare = spare } ≡ now → b ≡ Some e →
    (e.trial < length (played now).points) × (known_in now e.trial ≡ option_map (λ d. d.outcome) (last_of (versions (completed_in now))))
best_now ps rep g os ts es b vs most spare now e s v is =
    let l = kept_now ps rep g os ts es b vs most spare now s v in
    let a = last_all (λ x. (x.trial < length (played now).points) × (known_in now x.trial ≡ Some x.outcome)) (completed_in now) l.done in
    let q : last_of (versions (completed_in now)) ≡ Some e = ap (λ (x : Searched). last_of (versions (completed_in x))) (sym v) ∙ (sym s.best_is ∙ is) in
    let x : (e.trial < length (played now).points) × (known_in now e.trial ≡ Some e.outcome) = subst (λ (o : Option Costed). IfSome o (λ x. (x.trial < length (played now).points) × (known_in now x.trial ≡ Some x.outcome))) q a in
    (x.0, x.1 ∙ ap (λ (o : Option Costed). option_map (λ (d : Costed). d.outcome) o) (sym q))
