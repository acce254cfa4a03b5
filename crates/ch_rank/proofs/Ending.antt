-- What holds of a search wherever it has come to, and how it ends.
use Rattle.std.proofs.Common.{◌≡◌, ◌≢◌, ℕ, ◌+◌, ◌*◌, ◌^◌, ◌<◌, ◌≤◌, Bool, true, false, cond, nat_lt, ◌&&◌, not, List, [], length, get_or, Option, Some, None, refl, sym, ap, ◌∙◌, subst, arith, ◌⊎◌, inl, inr}
use Rattle.std.specs.List.{All, IsDistinct}
use Rattle.std.proofs.lemmas.Bool.Decides.{nat_tests}
use Rattle.std.proofs.Math.Nat.{mul-le-mul_right}
use Rattle.ch_grid.specs.declared.param.Param.{Param}
use Rattle.ch_grid.specs.Grid.{sizes}
use Rattle.ch_grid.specs.Points.{count, is_point}
use Rattle.ch_grid.proofs.Sizes.{count_all}
use Rattle.ch_rank.specs.declared.outcome.Outcome.{Outcome}
use Rattle.ch_rank.specs.declared.outcome.Costed.{Costed}
use Rattle.ch_rank.specs.declared.phase.Phase.{Phase}
use Rattle.ch_rank.specs.declared.phase.Phase.TheVariants.{Start, Reflect, Try, Expand, Shrink, Probe, Converged}
use Rattle.ch_rank.specs.Moves.{Point, first_simplex, same_point}
use Rattle.ch_rank.specs.Bound.{bound, greatest, halvings}
use Rattle.ch_rank.specs.Leads.{Leads}
use Rattle.ch_rank.specs.Leads.Leads.{stay, round}
use Rattle.ch_rank.specs.Search.{Game, Known, costed, below, is_over, decided, decides, advance, opening, search_on, enlisted, numbers}
use Rattle.ch_rank.specs.Entries.{Searched, played, known_in, most_steps}
use Rattle.ch_rank.specs.Course.{least, Falls}
use Rattle.ch_rank.specs.Entries.{In}
use Rattle.ch_rank.proofs.Lists.{all_at, all_of, all_more, all_both}
use Rattle.ch_rank.proofs.Table.{InGrid, few_trials}
use Rattle.ch_rank.proofs.Starting.{centre_point, sizes_some}
use Rattle.ch_rank.proofs.Halving.{halvings_enough}
use Rattle.ch_rank.proofs.Spread.{AreSizes, are_sizes}
use Rattle.ch_rank.proofs.Replay.{leads_to_play, settles}
use Rattle.ch_rank.proofs.Least.{below_trans, below_self}
use Rattle.ch_rank.proofs.Outcomes.{costed_some}
use Rattle.ch_rank.proofs.Apart.{AreApart, none_apart, enlisted_apart, asked_all, new_asked, enlisted_long, numbers_long}
use Rattle.ch_rank.proofs.Going.{first_in, Base, Opened, Ended, Reached}
use Rattle.ch_rank.proofs.Reaching.{Next}
use Rattle.ch_rank.proofs.Deciding.{decides_next, below_bound}

over_case : (a : Bool) (ph : Phase) → (a && not (is_over ph)) ≡ true → ph ≢ Converged
over_case true Start e = λ f. cc
over_case true Reflect e = λ f. cc
over_case true Try e = λ f. cc
over_case true Expand e = λ f. cc
over_case true Shrink e = λ f. cc
over_case true Probe e = λ f. cc
over_case true Converged e = absurd (cc)
over_case false ph e = absurd (cc)

module _ (k : Known) (ns : List ℕ) (c : ℕ) (large : AreSizes (2 ^ c) ns) where
  next_row : (j : ℕ) (g h : Game) (r : Option (List Costed)) → Reached k ns c j g.phase g → g.phase ≢ Converged → costed k g.asked ≡ r → decided g r ≡ Some h → Next k ns c j g.phase g h
  next_row j g h None o n e f = absurd (cc)
  next_row j g h (Some row) o n e f = let same : decides g.phase g row ≡ h = cc in subst (λ (x : Game). Next k ns c j g.phase g x) same (decides_next k ns c j large g.phase g row o n e)

  next_test : (j : ℕ) (g h : Game) (t : Bool) → Reached k ns c j g.phase g → (t ≡ true → g.phase ≢ Converged) → cond t (decided g (costed k g.asked)) None ≡ Some h → Next k ns c j g.phase g h
  next_test j g h true o n e = next_row j g h (costed k g.asked) o (n refl) refl e
  next_test j g h false o n e = absurd (cc)

  pub next_of : (most j : ℕ) (g h : Game) → Reached k ns c j g.phase g → advance most k g ≡ Some h → Next k ns c j g.phase g h
  next_of most j g h o e = next_test j g h (nat_lt g.steps most && not (is_over g.phase)) o (over_case (nat_lt g.steps most) g.phase) e

  -- along the rounds
  pub record Along (j : ℕ) (g h : Game) : Type 0 where
    pub halvings : ℕ
    pub reached : Reached k ns c halvings h.phase h
    pub either : (below (least h) (least g) ≡ true) ⊎ ((least h ≡ least g) × (halvings + g.steps ≡ j + h.steps))

  joined : (j i l : ℕ) (f g h : Game) → ((below (least g) (least f) ≡ true) ⊎ ((least g ≡ least f) × (i + f.steps ≡ j + g.steps))) → ((below (least h) (least g) ≡ true) ⊎ ((least h ≡ least g) × (l + g.steps ≡ i + h.steps))) → (below (least h) (least f) ≡ true) ⊎ ((least h ≡ least f) × (l + f.steps ≡ j + h.steps))
  joined j i l f g h (inl a) (inl b) = inl (below_trans (least h) (least g) (least f) b a)
  joined j i l f g h (inl a) (inr b) = inl (subst (λ (x : Outcome). below x (least f) ≡ true) (sym b.0) a)
  joined j i l f g h (inr a) (inl b) = inl (subst (λ (x : Outcome). below (least h) x ≡ true) a.0 b)
  joined j i l f g h (inr a) (inr b) = inr (b.0 ∙ a.0, omega (arith, a.1, b.1))

  pub along : (most j : ℕ) (g h : Game) → Reached k ns c j g.phase g → Leads most k g h → Along j g h
  along most j _ _ o (stay g) = record { halvings = j; reached = o; either = inr (refl, refl) }
  along most j _ _ o (round g h i e l) =
      let n = next_of most j g h o e in
      let r = along most n.halvings h i n.reached l in
      record { halvings = r.halvings; reached = r.reached; either = joined j n.halvings r.halvings g h i n.after.either r.either }

  opened : All (λ n. 1 ≤ n) ns → Opened k ns 0 (opening ns)
  opened some =
      let ps : List Point = first_simplex ns in
      let inside : All (InGrid ns) ps = first_in ns (centre_point ns some) in
      record {
        sizes = refl;
        trials = enlisted_apart ns [] ps (none_apart ns) inside;
        some = omega arith;
        empty = refl;
        asked_in = all_more (λ t. (t < length (enlisted [] ps)) × InGrid ns (get_or (enlisted [] ps) t [])) (λ t. t < length (enlisted [] ps)) (numbers [] ps) (λ t x. x.0) (asked_all (InGrid ns) [] ps inside);
        decided = λ t h. first t (new_asked [] ps t h);
        old = λ t h. absurd (omega (arith, h, enlisted_long [] ps, numbers_long [] ps));
        no_steps = refl;
        no_halvings = refl;
      }
    where
      first : (t : ℕ) → (t < 0) ⊎ In t (numbers [] (first_simplex ns)) → In t (numbers [] (first_simplex ns)) ⊎ ((o : Outcome) × (k t ≡ Some o) × (below o Rattle.ch_rank.specs.declared.outcome.Outcome.TheVariants.Refused ≡ false))
      first t (inl h) = absurd (omega arith)
      first t (inr i) = inl i

  pub passes : (most : ℕ) (h : Game) → All (λ n. 1 ≤ n) ns → Leads most k (opening ns) h → Along 0 (opening ns) h
  passes most h some l = along most 0 (opening ns) h (opened some) l

  -- ---- what is read off

  old_at : (j : ℕ) (ph : Phase) (g : Game) → Reached k ns c j ph g → (t : ℕ) → t + length g.asked < length g.points → (o : Outcome) × (k t ≡ Some o)
  old_at j Start g o t h = o.old t h
  old_at j Reflect g o t h = o.old t h
  old_at j Try g o t h = o.old t h
  old_at j Expand g o t h = o.old t h
  old_at j Shrink g o t h = o.old t h
  old_at j Probe g o t h = o.old t h
  old_at j Converged g o t h = let x = o.above t (omega arith) in (x.0, x.1)

  -- each place's trial has its outcome
  abbrev pub Row : Game → Type 0
  Row g = All (λ d. (d.trial < length g.points) × (k d.trial ≡ Some d.outcome)) g.simplex

  base_row : (j : ℕ) (g : Game) → Base k ns c j g → Row g
  base_row j g b = all_both (λ d. d.trial < length g.points) (λ d. k d.trial ≡ Some d.outcome) (λ d. (d.trial < length g.points) × (k d.trial ≡ Some d.outcome)) g.simplex (λ d x y. (x, y)) b.simplex_in b.simplex_held

  row_at : (j : ℕ) (ph : Phase) (g : Game) → Reached k ns c j ph g → Row g
  row_at j Start g o = subst (λ (row : List Costed). All (λ d. (d.trial < length g.points) × (k d.trial ≡ Some d.outcome)) row) (sym o.empty) (all_of (λ d. (d.trial < length g.points) × (k d.trial ≡ Some d.outcome)) [] (λ d i. absurd i))
  row_at j Reflect g o = base_row j g o.base
  row_at j Try g o = base_row j g o.base
  row_at j Expand g o = base_row j g o.base
  row_at j Shrink g o = base_row j g o.base
  row_at j Probe g o = base_row j g o.base
  row_at j Converged g o = all_both (λ d. d.trial < length g.points) (λ d. k d.trial ≡ Some d.outcome) (λ d. (d.trial < length g.points) × (k d.trial ≡ Some d.outcome)) g.simplex (λ d x y. (x, y)) o.simplex_in o.simplex_held

  trials_at : (j : ℕ) (ph : Phase) (g : Game) → Reached k ns c j ph g → AreApart ns g.points
  trials_at j Start g o = o.trials
  trials_at j Reflect g o = o.base.trials
  trials_at j Try g o = o.base.trials
  trials_at j Expand g o = o.base.trials
  trials_at j Shrink g o = o.base.trials
  trials_at j Probe g o = o.base.trials
  trials_at j Converged g o = o.trials

  asked_at : (j : ℕ) (ph : Phase) (g : Game) → Reached k ns c j ph g → (t : ℕ) → In t g.asked → t < length g.points
  asked_at j Start g o t i = all_at (λ u. u < length g.points) t g.asked o.asked_in i
  asked_at j Reflect g o t i = all_at (λ u. u < length g.points) t g.asked o.asked_in i
  asked_at j Try g o t i = all_at (λ u. u < length g.points) t g.asked o.asked_in i
  asked_at j Expand g o t i = all_at (λ u. u < length g.points) t g.asked o.asked_in i
  asked_at j Shrink g o t i = all_at (λ u. u < length g.points) t g.asked o.asked_in i
  asked_at j Probe g o t i = all_at (λ u. u < length g.points) t g.asked o.asked_in i
  asked_at j Converged g o t i = absurd (subst (λ (ts : List ℕ). In t ts) o.no_more i)

  -- the bound is not reached before the end
  steps_at : (j : ℕ) (ph : Phase) (g : Game) → 1 ≤ count ns → Reached k ns c j ph g → ph ≢ Converged → g.steps < count ns * (c + 1)
  steps_at j Start g some o n = let m : 1 * (c + 1) ≤ count ns * (c + 1) = mul-le-mul_right (c + 1) some in omega (arith, o.no_steps)
  steps_at j Reflect g some o n = below_bound k ns c j large g o.base
  steps_at j Try g some o n = below_bound k ns c j large g o.base
  steps_at j Expand g some o n = below_bound k ns c j large g o.base
  steps_at j Shrink g some o n = below_bound k ns c j large g o.base
  steps_at j Probe g some o n = below_bound k ns c j large g o.base
  steps_at j Converged g some o n = absurd (n refl)

  steps_most : (j : ℕ) (ph : Phase) (g : Game) → 1 ≤ count ns → Reached k ns c j ph g → g.steps ≤ count ns * (c + 1)
  steps_most j Start g some o = let s = steps_at j Start g some o (λ e. cc) in omega (arith, s)
  steps_most j Reflect g some o = let s = steps_at j Reflect g some o (λ e. cc) in omega (arith, s)
  steps_most j Try g some o = let s = steps_at j Try g some o (λ e. cc) in omega (arith, s)
  steps_most j Expand g some o = let s = steps_at j Expand g some o (λ e. cc) in omega (arith, s)
  steps_most j Shrink g some o = let s = steps_at j Shrink g some o (λ e. cc) in omega (arith, s)
  steps_most j Probe g some o = let s = steps_at j Probe g some o (λ e. cc) in omega (arith, s)
  steps_most j Converged g some o = o.steps_few

  few_halvings : (j : ℕ) (ph : Phase) (g : Game) → Reached k ns c j ph g → ph ≢ Converged → j ≤ c
  few_halvings j Start g o n = omega (arith, o.no_halvings)
  few_halvings j Reflect g o n = o.base.steps.few
  few_halvings j Try g o n = o.base.steps.few
  few_halvings j Expand g o n = o.base.steps.few
  few_halvings j Shrink g o n = o.base.steps.few
  few_halvings j Probe g o n = o.base.steps.few
  few_halvings j Converged g o n = absurd (n refl)

  -- where each trial has an outcome the search has converged
  all_known : (most j : ℕ) (g : Game) → Reached k ns c j g.phase g → g.steps < most → advance most k g ≡ None → ((t : ℕ) → t < length g.points → (o : Outcome) × (k t ≡ Some o)) → is_over g.phase ≡ true
  all_known most j g o lt none f =
      let r = costed_some k g.asked (λ t i. f t (asked_at j g.phase g o t i)) in
      at (is_over g.phase) (nat_lt g.steps most) (grind (arith, nat_tests)) r.0 (ap (λ (x : Option (List Costed)). cond (nat_lt g.steps most && not (is_over g.phase)) (decided g x) None) (sym r.1) ∙ none)
    where
      at : (b t : Bool) → t ≡ true → (row : List Costed) → cond (t && not b) (decided g (Some row)) None ≡ None → b ≡ true
      at true t e row h = refl
      at false true e row h = absurd (cc)
      at false false e row h = absurd (cc)

is_end : (ph : Phase) → is_over ph ≡ true → ph ≡ Converged
is_end Start e = absurd (cc)
is_end Reflect e = absurd (cc)
is_end Try e = absurd (cc)
is_end Expand e = absurd (cc)
is_end Shrink e = absurd (cc)
is_end Probe e = absurd (cc)
is_end Converged e = refl

-- ---- the search played anew

abbrev pub shrinks : List Param → ℕ
shrinks ps = halvings (greatest (sizes ps))

pub sizes_large : (ps : List Param) → AreSizes (2 ^ shrinks ps) (sizes ps)
sizes_large ps = are_sizes (2 ^ shrinks ps) (sizes ps) (halvings_enough (greatest (sizes ps)))

pub searched : (ps : List Param) (k : Known) → Along k (sizes ps) (shrinks ps) (sizes_large ps) 0 (opening (sizes ps)) (search_on (sizes ps) k)
unfolding search_on
searched ps k = passes k (sizes ps) (shrinks ps) (sizes_large ps) (bound (sizes ps)) (search_on (sizes ps) k) (sizes_some ps) (leads_to_play (bound (sizes ps)) k (3 * bound (sizes ps) + 4) (opening (sizes ps)))

pub settled : (ns : List ℕ) (k : Known) → advance (bound ns) k (search_on ns k) ≡ None
unfolding search_on
settled ns k = settles (bound ns) k (3 * bound ns + 4) (opening ns) (omega arith)

bound_is : (ps : List Param) → count (sizes ps) * (shrinks ps + 1) ≡ bound (sizes ps)
unfolding bound
bound_is ps = refl

pub steps_within : (ps : List Param) (k : Known) → (search_on (sizes ps) k).steps ≤ bound (sizes ps)
steps_within ps k =
    let r = searched ps k in
    let s = steps_most k (sizes ps) (shrinks ps) (sizes_large ps) r.halvings (search_on (sizes ps) k).phase (search_on (sizes ps) k) (count_all ps) r.reached in
    omega (arith, s, bound_is ps)

pub steps_before : (ps : List Param) (k : Known) → (search_on (sizes ps) k).phase ≢ Converged → (search_on (sizes ps) k).steps < bound (sizes ps)
steps_before ps k n =
    let r = searched ps k in
    let s = steps_at k (sizes ps) (shrinks ps) (sizes_large ps) r.halvings (search_on (sizes ps) k).phase (search_on (sizes ps) k) (count_all ps) r.reached n in
    omega (arith, s, bound_is ps)

pub old_known : (ps : List Param) (k : Known) (t : ℕ) → t + length (search_on (sizes ps) k).asked < length (search_on (sizes ps) k).points → (o : Outcome) × (k t ≡ Some o)
old_known ps k t h = let r = searched ps k in old_at k (sizes ps) (shrinks ps) (sizes_large ps) r.halvings (search_on (sizes ps) k).phase (search_on (sizes ps) k) r.reached t h

pub played_row : (s : Searched) → All (λ d. (d.trial < length (played s).points) × (known_in s d.trial ≡ Some d.outcome)) (played s).simplex
played_row s = let r = searched s.grid (known_in s) in row_at (known_in s) (sizes s.grid) (shrinks s.grid) (sizes_large s.grid) r.halvings (played s).phase (played s) r.reached

pub trials_in_grid : (ps : List Param) (k : Known) → All (λ p. is_point (sizes ps) p ≡ true) (search_on (sizes ps) k).points
trials_in_grid ps k = let r = searched ps k in let a = trials_at k (sizes ps) (shrinks ps) (sizes_large ps) r.halvings (search_on (sizes ps) k).phase (search_on (sizes ps) k) r.reached in a.in_grid

pub trials_apart : (ps : List Param) (k : Known) → IsDistinct same_point (search_on (sizes ps) k).points
trials_apart ps k = let r = searched ps k in let a = trials_at k (sizes ps) (shrinks ps) (sizes_large ps) r.halvings (search_on (sizes ps) k).phase (search_on (sizes ps) k) r.reached in a.apart

-- there are no more trials than points of the grid
pub trials_few : (ps : List Param) (k : Known) → length (search_on (sizes ps) k).points ≤ count (sizes ps)
trials_few ps k = let r = searched ps k in let a = trials_at k (sizes ps) (shrinks ps) (sizes_large ps) r.halvings (search_on (sizes ps) k).phase (search_on (sizes ps) k) r.reached in few_trials (sizes ps) (search_on (sizes ps) k).points a.in_grid a.apart

which_end : (b : Bool) → (b ≡ true) ⊎ (b ≡ false)
which_end true = inl refl
which_end false = inr refl

differ : (ph : Phase) → is_over ph ≡ false → ph ≢ Converged
differ Start e = λ f. cc
differ Reflect e = λ f. cc
differ Try e = λ f. cc
differ Expand e = λ f. cc
differ Shrink e = λ f. cc
differ Probe e = λ f. cc
differ Converged e = absurd (cc)

pub ends : (ps : List Param) (k : Known) → ((t : ℕ) → t < length (search_on (sizes ps) k).points → (o : Outcome) × (k t ≡ Some o)) → (search_on (sizes ps) k).phase ≡ Converged
ends ps k f = at (which_end (is_over (search_on (sizes ps) k).phase))
  where
    at : (is_over (search_on (sizes ps) k).phase ≡ true) ⊎ (is_over (search_on (sizes ps) k).phase ≡ false) → (search_on (sizes ps) k).phase ≡ Converged
    at (inl e) = is_end (search_on (sizes ps) k).phase e
    at (inr e) =
        let r = searched ps k in
        is_end (search_on (sizes ps) k).phase (all_known k (sizes ps) (shrinks ps) (sizes_large ps) (bound (sizes ps)) r.halvings (search_on (sizes ps) k) r.reached (steps_before ps k (differ (search_on (sizes ps) k).phase e)) (settled (sizes ps) k) f)

pub ended : (ps : List Param) (k : Known) → (search_on (sizes ps) k).phase ≡ Converged → Ended k (sizes ps) (shrinks ps) (search_on (sizes ps) k)
ended ps k e = let r = searched ps k in subst (λ (ph : Phase). Reached k (sizes ps) (shrinks ps) r.halvings ph (search_on (sizes ps) k)) e r.reached

pub falls : (s : Searched) → Falls s
falls s = record {
  step = λ g h p e l n m.
      let r = passes (known_in s) (sizes s.grid) (shrinks s.grid) (sizes_large s.grid) (most_steps s) g (sizes_some s.grid) p in
      let x = next_of (known_in s) (sizes s.grid) (shrinks s.grid) (sizes_large s.grid) (most_steps s) r.halvings g h r.reached e in
      x.after.lowers n m l;
  shrinks = λ g h p l n e.
      let r = passes (known_in s) (sizes s.grid) (shrinks s.grid) (sizes_large s.grid) (most_steps s) g (sizes_some s.grid) p in
      let x = along (known_in s) (sizes s.grid) (shrinks s.grid) (sizes_large s.grid) (most_steps s) r.halvings g h r.reached l in
      few g h r.halvings x.halvings e (few_halvings (known_in s) (sizes s.grid) (shrinks s.grid) (sizes_large s.grid) x.halvings h.phase h x.reached n) x.either;
}
  where
    apart : (b : Bool) → b ≡ true → b ≡ false → ⊥
    apart b p q = cc

    few : (g h : Game) (j i : ℕ) → least h ≡ least g → i ≤ shrinks s.grid → (below (least h) (least g) ≡ true) ⊎ ((least h ≡ least g) × (i + g.steps ≡ j + h.steps)) → h.steps ≤ g.steps + shrinks s.grid
    few g h j i e m (inl b) = absurd (apart (below (least g) (least g)) (subst (λ (x : Outcome). below x (least g) ≡ true) e b) (below_self (least g)))
    few g h j i e m (inr b) = omega (arith, b.1)
