-- What a session keeps, after one more event.
use Rattle.std.proofs.Common.{◌≡◌, ◌≢◌, ℕ, zero, suc, ◌+◌, ◌-◌, ◌<◌, ◌≤◌, Bool, true, false, cond, eqb, nat_lt, ◌&&◌, ◌||◌, not, List, [], ◌∷◌, ◌++◌, length, set, get_or, Option, Some, None, is_some, refl, sym, ap, ◌∙◌, subst, arith, ◌⊎◌, inl, inr, append_assoc, append-nil, length-append}
use Rattle.std.specs.Prelude.{filter, sum_by, nat_le, IsSome}
use Rattle.std.specs.List.{list_any}
use Rattle.std.specs.Arc.{arc_value}
use Rattle.std.specs.declared.sync.Arc.{Arc}
use Rattle.std.proofs.Common.{Global}
use Rattle.std.proofs.lemmas.Bool.Decides.{nat_tests}
use Rattle.std.proofs.lemmas.List.{get_or-set_same, get_or-set_other, get_or_default}
use Rattle.std.proofs.Math.ListN.{length-set}
use Rattle.std.proofs.lemmas.List.Sums.{sum_by-cons, sum_by-append, sum_by-set}
use Rattle.ch_rank.specs.declared.outcome.Outcome.{Outcome}
use Rattle.ch_rank.specs.declared.outcome.Outcome.TheVariants.{Cost}
use Rattle.ch_rank.specs.declared.outcome.Costed.{Costed}
use Rattle.ch_grid.specs.Grid.{sizes}
use Rattle.ch_rank.specs.Search.{Game, below, point_at, search_on}
use Rattle.ch_rank.specs.Ranks.{versions, last_of, least_of}
use Rattle.ch_rank.specs.Entries.{Searched, known_in, played, measured, outcome_from, known, completed}
use Rattle.ch_rank.specs.Entries.{may_enter, left_of, lesser, least_from, completed_in, completes, completed_now, outcome_with, tally_from}
use Rattle.ch_rank.specs.Growth.{Keeps}
use Rattle.ch_rank.proofs.Ranking.{version_more, versions_count}
use Rattle.ch_rank.proofs.Growing.{points_grow, entered_none}
use Rattle.ch_rank.proofs.Measuring.{nothing_known, known_new, known_more, none_yet, outcome_more, measured_new, least_more, completed_more, completes_none, versions_more}
use Rattle.ch_session.specs.declared.event.Event.{Event}
use Rattle.ch_session.specs.declared.event.Event.TheVariants.{Fetch, Report, Claim, Good, Refused, Leave}
use Rattle.ch_session.specs.declared.cell.Cell.{Cell}
use Rattle.ch_session.specs.declared.cell.Cell.TheVariants.{Claimed, Built, Done}
use Rattle.ch_nest.specs.LoopNest.{LoopNest}
use Rattle.ch_script.specs.Recipes.{RecipeParts}
use Rattle.ch_script.specs.declared.refusal.Refusal.{Refusal}
use Rattle.ch_session.specs.Making.{Making}
use Rattle.ch_session.specs.History.{top, news, searched, Theme, entry_of, entries, completing, completing_after, counts, fetch_gives, holds, or_else, version_now, left_after, names_claim, names_end, names_good, holder_after, holder_from, is_built, is_client, is_free, is_held_by, least, is_pending, is_claimed_by, is_open, trials, claim_gives, may_follow, same_option, is_legal, game}
use Rattle.ch_session.specs.Replies.{Past, after, trial_made, version_made, best_made, original_made}
use Rattle.ch_session.specs.Kept.{renewed, leased, cell_claimed, cell_held, cell_free, past_of, About, about, untouched, claimed_once, CellFits, CellMade, owes, IsSession}
use Rattle.ch_session.proofs.Events.{or_false, entries_more, completing_more, counts_more, after_event, about_more, names, other_event, same_true, differ, which, legal_quiet, legal_entry, least_found, least_none}

-- an event that makes no entry and completes nothing
pub record Quiet (e : Event) : Type 0 where
  pub entry : entry_of e ≡ []
  pub completing : (h : List Event) → completing h e ≡ []

pub quiet_entries : (h : List Event) (e : Event) → Quiet e → entries (h ++ e ∷ []) ≡ entries h
quiet_entries h e q = entries_more h e ∙ (ap (λ (v : List Costed). entries h ++ v) q.entry ∙ append-nil (entries h))

-- what a quiet event leaves of the session but for its cells
pub quiet_more : {V : Type 0} (made : V → Making) (p : Past) (e : Event) (search search' : Searched) (cells cells' : List (Cell V)) (owed owed' counted counted' : ℕ) (current : V) (cap cap' : ℕ) → IsSession made p search cells owed counted current cap → Quiet e → may_follow p.theme p.events e ≡ true →
    search'.grid ≡ search.grid → search'.repeat ≡ search.repeat → search'.entries ≡ search.entries →
    ((t : ℕ) (d : Cell V) → t < length cells' → CellFits p.theme.repeat (about t (p.events ++ e ∷ [])) (get_or cells' t d)) →
    ((t : ℕ) → length cells' ≤ t → about t (p.events ++ e ∷ []) ≡ untouched) →
    ((t : ℕ) (d : Cell V) → t < length cells' → CellMade made (trial_made p t) (get_or cells' t d)) →
    length cells ≤ length cells' → length cells' ≤ trials p.theme p.events → owed' ≡ sum_by owes cells' → owed' + length (p.events ++ e ∷ []) ≤ cap' → owed' ≤ search'.spare → counted' ≡ counted + cond (counts e) 1 0 →
    IsSession made (after p (e ∷ [])) search' cells' owed' counted' current cap'
quiet_more {V} made p e search search' cells cells' owed owed' counted counted' current cap cap' s q m same_grid same_repeat same fit rest made_of more_cells few owed_is room spare counted_is =
    let h : List Event = p.events in
    let th : Theme = p.theme in
    let en : entries (h ++ e ∷ []) ≡ entries h = quiet_entries h e q in
    record {
      grid_is = same_grid ∙ s.grid_is;
      repeat_is = same_repeat ∙ s.repeat_is;
      entries_are = same ∙ (s.entries_are ∙ sym en);
      repeat = s.repeat;
      fit = fit;
      rest = rest;
      made_of = λ t d lt. subst (λ (v : List Costed). CellMade made (record { subject = p.subject; nest = th.nest; origin = Some (record { recipe = th.recipe; grid = th.grid; point = point_at (Rattle.ch_rank.specs.Entries.played (record { grid = th.grid; repeat = th.repeat; entries = v; spare = 0 })) t }) }) (get_or cells' t d)) (sym en) (made_of t d lt);
      claimed = subst (λ (v : List Costed). length cells' ≤ length (Rattle.ch_rank.specs.Entries.played (record { grid = th.grid; repeat = th.repeat; entries = v; spare = 0 })).points) (sym en) few;
      owed_is = owed_is;
      room = room;
      spare = spare;
      counted_is = counted_is ∙ (ap (λ (n : ℕ). n + cond (counts e) 1 0) s.counted_is ∙ sym (counts_more h e));
      completed_are = ap (λ (v : List Costed). completed th.repeat v) en ∙ (s.completed_are ∙ sym (completing_more h e ∙ (ap (λ (v : List Costed). completing_after [] h ++ v) (q.completing h) ∙ append-nil (completing_after [] h))));
      best_here = λ x b. omega (arith, more_cells, s.best_here x (ap (λ (v : List Costed). last_of (versions (completed th.repeat v))) (sym en) ∙ b));
      current_made = s.current_made ∙ made_same en;
      legal = legal_quiet th h e s.legal m en;
    }
  where
    made_same : entries (p.events ++ e ∷ []) ≡ entries p.events → version_made p ≡ version_made (after p (e ∷ []))
    made_same en = λ i. at (sym en i)
      where
        at : List Costed → Making
        at v = best_of v (last_of (versions (completed p.theme.repeat v)))
          where
            best_of : List Costed → Option Costed → Making
            best_of v None = record { subject = p.subject; nest = p.theme.nest; origin = None }
            best_of v (Some x) = record { subject = p.subject; nest = p.theme.nest; origin = Some (record { recipe = p.theme.recipe; grid = p.theme.grid; point = point_at (Rattle.ch_rank.specs.Entries.played (record { grid = p.theme.grid; repeat = p.theme.repeat; entries = v; spare = 0 })) x.trial }) }

-- the search of the session is that of its history
pub game_is : {V : Type 0} (made : V → Making) (p : Past) (search : Searched) (cells : List (Cell V)) (owed counted : ℕ) (current : V) (cap : ℕ) → IsSession made p search cells owed counted current cap → played search ≡ game p.theme p.events
game_is made p search cells owed counted current cap s = λ i. search_on (sizes (s.grid_is i)) (known (s.repeat_is i) (s.entries_are i))

-- ---- a trial in a cell was claimed, and others weren't

pub claimed_of : {V : Type 0} (r : ℕ) (a : About) (c : Cell V) → CellFits r a c → a.claimed ≡ true
claimed_of r a (Claimed b) f = ap (λ (x : About). x.claimed) f
claimed_of r a (Built v o) f = f.0
claimed_of r a Done f = f.0

open_test : (a b c : Bool) → c ≡ true → (a && b && not c) ≡ false
open_test a b c e = ap (λ (x : Bool). a && b && not x) e ∙ end a b
  where
    end : (a b : Bool) → (a && b && false) ≡ false
    end true true = refl
    end true false = refl
    end false b = refl

pub less : (x y : ℕ) → x < y → nat_lt x y ≡ true
less x y h = grind (arith, nat_tests)

pub open_all : {V : Type 0} (made : V → Making) (p : Past) (search : Searched) (cells : List (Cell V)) (owed counted : ℕ) (current : V) (cap : ℕ) → IsSession made p search cells owed counted current cap → (t : ℕ) (d : Cell V) → t < length cells → is_open p.theme p.events t ≡ false
open_all made p search cells owed counted current cap s t d h = open_test (nat_lt t (trials p.theme p.events)) (not (is_some (known p.theme.repeat (entries p.events) t))) (list_any (names_claim t) p.events) (claimed_of p.theme.repeat (about t p.events) (get_or cells t d) (s.fit t d h))

pub open_next : {V : Type 0} (made : V → Making) (p : Past) (search : Searched) (cells : List (Cell V)) (owed counted : ℕ) (current : V) (cap : ℕ) → IsSession made p search cells owed counted current cap → length cells < trials p.theme p.events → is_open p.theme p.events (length cells) ≡ true
open_next made p search cells owed counted current cap s h =
    let u = s.rest (length cells) (omega arith) in
    let c : list_any (names_claim (length cells)) p.events ≡ false = ap (λ (a : About). a.claimed) u in
    let k : known p.theme.repeat (entries p.events) (length cells) ≡ None = ap (λ (a : About). outcome_from p.theme.repeat a.outcomes) u ∙ nothing_known p.theme.repeat (length cells) s.repeat in
    all (nat_lt (length cells) (trials p.theme p.events)) (known p.theme.repeat (entries p.events) (length cells)) (list_any (names_claim (length cells)) p.events) (less (length cells) (trials p.theme p.events) h) k c
  where
    all : (a : Bool) (o : Option Outcome) (b : Bool) → a ≡ true → o ≡ None → b ≡ false → (a && not (is_some o) && not b) ≡ true
    all true None false x y z = refl
    all true None true x y z = absurd (cc)
    all true (Some o) b x y z = absurd (cc)
    all false o b x y z = absurd (cc)

pub claims_next : {V : Type 0} (made : V → Making) (p : Past) (search : Searched) (cells : List (Cell V)) (owed counted : ℕ) (current : V) (cap : ℕ) → IsSession made p search cells owed counted current cap → length cells < trials p.theme p.events → claim_gives p.theme p.events ≡ Some (length cells)
claims_next made p search cells owed counted current cap s h =
    least_found (is_open p.theme p.events) (trials p.theme p.events) 0 (length cells) (omega arith) (omega arith) (λ j a b. open_all made p search cells owed counted current cap s j Done b) (open_next made p search cells owed counted current cap s h)

pub claims_none : {V : Type 0} (made : V → Making) (p : Past) (search : Searched) (cells : List (Cell V)) (owed counted : ℕ) (current : V) (cap : ℕ) → IsSession made p search cells owed counted current cap → trials p.theme p.events ≤ length cells → claim_gives p.theme p.events ≡ None
claims_none made p search cells owed counted current cap s h =
    least_none (is_open p.theme p.events) (trials p.theme p.events) 0 (λ j a b. open_all made p search cells owed counted current cap s j Done (omega arith))

-- ---- what is owed

pub owes_one : {V : Type 0} (c : Cell V) → owes c ≤ 1
owes_one (Claimed b) = omega arith
owes_one (Built v None) = omega arith
owes_one (Built v (Some c)) = omega arith
owes_one Done = omega arith

pub owed_few : {V : Type 0} (cells : List (Cell V)) → sum_by owes cells ≤ length cells
owed_few [] = omega arith
owed_few (c ∷ cs) = let i = owed_few cs in let o = owes_one c in omega (arith, i, o, sum_by-cons owes c cs)

pub owed_more : {V : Type 0} (cells : List (Cell V)) (c : Cell V) → sum_by owes (cells ++ c ∷ []) ≡ sum_by owes cells + owes c
owed_more {V} cs c = let i = sum_by-append (owes {V = V}) cs (c ∷ []) in let e = sum_by-cons (owes {V = V}) c [] in let z : sum_by (owes {V = V}) [] ≡ 0 = refl in omega (arith, i, e, z)

-- ---- a claim

fits_case : {V : Type 0} (r n : ℕ) (cells : List (Cell V)) (c : Cell V) (f : ℕ → About) (t : ℕ) (d : Cell V) → n ≡ length cells → ((u : ℕ) (x : Cell V) → u < length cells → CellFits r (f u) (get_or cells u x)) → CellFits r (f n) c → t < length (cells ++ c ∷ []) → CellFits r (f t) (get_or (cells ++ c ∷ []) t d)
fits_case r n [] c f zero d e g h l = subst (λ (u : ℕ). CellFits r (f u) c) e h
fits_case r n [] c f (suc t) d e g h l = absurd (omega arith)
fits_case r n (x ∷ cs) c f zero d e g h l = g 0 d (omega arith)
fits_case r n (x ∷ cs) c f (suc t) d e g h l = fits_case r (length cs) cs c (λ u. f (suc u)) t d refl (λ u y k. g (suc u) y (omega arith)) (subst (λ (u : ℕ). CellFits r (f u) c) e h) (omega (arith, l))

made_case : {V : Type 0} (made : V → Making) (cells : List (Cell V)) (c : Cell V) (f : ℕ → Making) (t : ℕ) (d : Cell V) → ((u : ℕ) (x : Cell V) → u < length cells → CellMade made (f u) (get_or cells u x)) → CellMade made (f (length cells)) c → t < length (cells ++ c ∷ []) → CellMade made (f t) (get_or (cells ++ c ∷ []) t d)
made_case made [] c f zero d g h l = h
made_case made [] c f (suc t) d g h l = absurd (omega arith)
made_case made (x ∷ cs) c f zero d g h l = g 0 d (omega arith)
made_case made (x ∷ cs) c f (suc t) d g h l = made_case made cs c (λ u. f (suc u)) t d (λ u y k. g (suc u) y (omega arith)) h (omega (arith, l))

claimed_now : (b t : ℕ) → after_event t untouched (Claim b t) ≡ claimed_once b
claimed_now b t = let e : eqb t t ≡ true = same_true t in λ i. record { claimed = e i; claimed_by = λ x. e i && eqb b x; ended = false; good = false; outcomes = []; holder = None }

pub claimed_more : {V : Type 0} (made : V → Making) (p : Past) (search search' : Searched) (cells cells' : List (Cell V)) (owed owed' counted : ℕ) (current : V) (cap cap' b t : ℕ) (h' : List Event) → IsSession made p search cells owed counted current cap → t ≡ length cells → t < trials p.theme p.events →
    search' ≡ record search { spare = search'.spare } → cells' ≡ cells ++ Claimed b ∷ [] → owed' ≡ owed + 1 → h' ≡ p.events ++ Claim b t ∷ [] → owed' + length h' ≤ cap' → owed' ≤ search'.spare →
    IsSession made (record p { events = h' }) search' cells' owed' counted current cap'
claimed_more {V} made p search search' cells cells' owed owed' counted current cap cap' b t h' s at here same cells_are owed_is events_are room spare =
    let e : Event = Claim b t in
    let r : ℕ = p.theme.repeat in
    let new : List (Cell V) = cells ++ Claimed b ∷ [] in
    let long : length new ≡ length cells + 1 = length-append cells (Claimed b ∷ []) in
    let other : (u : ℕ) → t ≢ u → about u (p.events ++ e ∷ []) ≡ about u p.events = λ u n. about_more u p.events e ∙ other_event u (about u p.events) e (differ t u n) in
    let now : about t (p.events ++ e ∷ []) ≡ claimed_once b = about_more t p.events e ∙ (ap (λ (a : About). after_event t a e) (s.rest t (omega (arith, at))) ∙ claimed_now b t) in
    let next : may_follow p.theme p.events e ≡ true = follows t (claims_next made p search cells owed counted current cap s (omega (arith, at))) at in
    let q : IsSession made (after p (e ∷ [])) search' new owed' counted current cap' = quiet_more made p e search search' cells new owed owed' counted counted current cap cap' s (record { entry = refl; completing = λ v. refl }) next
    (ap (λ (x : Searched). x.grid) same) (ap (λ (x : Searched). x.repeat) same) (ap (λ (x : Searched). x.entries) same)
    (λ u d l. fits_case r t cells (Claimed b) (λ v. about v (p.events ++ e ∷ [])) u d at (λ v x k. subst (λ (a : About). CellFits r a (get_or cells v x)) (sym (other v (λ z. not_here v z k))) (s.fit v x k)) now l)
    (λ u l. other u (λ z. after_here u z (omega (arith, long, l))) ∙ s.rest u (omega (arith, long, l)))
    (λ u d l. made_case made cells (Claimed b) (λ v. trial_made p v) u d s.made_of tt l)
    (omega (arith, long)) (omega (arith, long, at, here)) (owed_is ∙ (ap (λ (n : ℕ). n + 1) s.owed_is ∙ sym (owed_more cells (Claimed b))))
    (subst (λ (v : List Event). owed' + length v ≤ cap') events_are room) spare (plus_none counted) in
    subst (λ (v : List (Cell V)). IsSession made (record p { events = h' }) search' v owed' counted current cap') (sym cells_are)
    (subst (λ (v : List Event). IsSession made (record p { events = v }) search' new owed' counted current cap') (sym events_are) q)
  where
    plus_none : (n : ℕ) → n ≡ n + 0
    plus_none n = omega arith

    not_here : (v : ℕ) → t ≡ v → v < length cells → ⊥
    not_here v z k = omega (arith, z, k, at)

    after_here : (v : ℕ) → t ≡ v → length cells + 1 ≤ v → ⊥
    after_here v z k = omega (arith, z, k, at)

    follows : (u : ℕ) → claim_gives p.theme p.events ≡ Some (length cells) → u ≡ length cells → may_follow p.theme p.events (Claim b u) ≡ true
    follows u e a = ap (λ (o : Option ℕ). same_option (Some u) o) (e ∙ ap (λ (n : ℕ). Some n) (sym a)) ∙ same_true u

-- the facts that the code of a claim needs
pub trials_now : {V : Type 0} (made : V → Making) (p : Past) (search : Searched) (cells : List (Cell V)) (owed counted : ℕ) (current : V) (cap n : ℕ) → IsSession made p search cells owed counted current cap → n ≡ length (played search).points → n ≡ trials p.theme p.events
trials_now made p search cells owed counted current cap n s e = e ∙ ap (λ (g : Game). length g.points) (game_is made p search cells owed counted current cap s)

pub no_job : {V : Type 0} (made : V → Making) (p now : Past) (search : Searched) (cells : List (Cell V)) (owed counted : ℕ) (current : V) (cap n : ℕ) → IsSession made p search cells owed counted current cap → p ≡ now → n ≡ length (played search).points → n ≤ length cells → claim_gives now.theme now.events ≡ None
no_job made p now search cells owed counted current cap n s v e h = subst (λ (x : Past). claim_gives x.theme x.events ≡ None) v (claims_none made p search cells owed counted current cap s (omega (arith, trials_now made p search cells owed counted current cap n s e)))

pub job : {V : Type 0} (made : V → Making) (p now : Past) (search : Searched) (cells : List (Cell V)) (owed counted : ℕ) (current : V) (cap n t : ℕ) (point : List ℕ) → IsSession made p search cells owed counted current cap → p ≡ now → n ≡ length (played search).points → t ≡ length cells → t < n → point ≡ point_at (played search) t →
    (claim_gives now.theme now.events ≡ Some t) × (point ≡ point_at (game now.theme now.events) t)
job made p now search cells owed counted current cap n t point s v e at h q = subst (λ (x : Past). (claim_gives x.theme x.events ≡ Some t) × (point ≡ point_at (game x.theme x.events) t)) v (
  claims_next made p search cells owed counted current cap s (omega (arith, at, trials_now made p search cells owed counted current cap n s e)) ∙ ap (λ (k : ℕ). Some k) (sym at),
  q ∙ ap (λ (g : Game). point_at g t) (game_is made p search cells owed counted current cap s),
)

-- a search with more memory serves as well
pub spare_more : {V : Type 0} (made : V → Making) (p : Past) (search search' : Searched) (cells : List (Cell V)) (owed counted : ℕ) (current : V) (cap cap' : ℕ) → IsSession made p search cells owed counted current cap → search' ≡ record search { spare = search'.spare } → search.spare ≤ search'.spare → cap ≤ cap' → IsSession made p search' cells owed counted current cap'
spare_more made p search search' cells owed counted current cap cap' s same more cap_more = record {
  grid_is = ap (λ (x : Searched). x.grid) same ∙ s.grid_is;
  repeat_is = ap (λ (x : Searched). x.repeat) same ∙ s.repeat_is;
  entries_are = ap (λ (x : Searched). x.entries) same ∙ s.entries_are;
  repeat = s.repeat;
  fit = s.fit;
  rest = s.rest;
  made_of = s.made_of;
  claimed = s.claimed;
  owed_is = s.owed_is;
  room = omega (arith, s.room);
  spare = omega (arith, s.spare);
  counted_is = s.counted_is;
  completed_are = s.completed_are;
  best_here = s.best_here;
  current_made = s.current_made;
  legal = s.legal;
}

-- a refused reserve leaves the search as it was
pub refused : (search search' : Searched) → search' ≡ search → search' ≡ record search { spare = search'.spare }
refused search search' e = e ∙ ap (λ (n : ℕ). record search { spare = n }) (ap (λ (x : Searched). x.spare) (sym e))

pub same_past : (n : ℕ) (nest : LoopNest) (recipe : RecipeParts) (search search' : Searched) (h : List Event) → search' ≡ record search { spare = search'.spare } → past_of n nest recipe search h ≡ past_of n nest recipe search' h
same_past n nest recipe search search' h same = λ i. record { subject = n; theme = record { nest = nest; recipe = recipe; grid = ap (λ (x : Searched). x.grid) (sym same) i; repeat = ap (λ (x : Searched). x.repeat) (sym same) i }; events = h }

-- ---- a build

pub and_true_right : (a : Bool) → (a && true) ≡ a
and_true_right true = refl
and_true_right false = refl

no_claim : (a c : Bool) → c ≡ true → (a && not c) ≡ false
no_claim a c e = ap (λ (x : Bool). a && not x) e ∙ end a
  where
    end : (a : Bool) → (a && false) ≡ false
    end true = refl
    end false = refl

claimed_test : {V : Type 0} (r b : ℕ) (a : About) (c : Cell V) → CellFits r a c → (a.claimed_by b && not a.ended) ≡ cell_claimed b c
claimed_test r b a (Claimed x) f = ap (λ (y : About). y.claimed_by b && not y.ended) f ∙ and_true_right (eqb x b)
claimed_test r b a (Built v o) f = no_claim (a.claimed_by b) a.ended f.1
claimed_test r b a Done f = no_claim (a.claimed_by b) a.ended f.1

claimed_is : {V : Type 0} (b : ℕ) (c : Cell V) → cell_claimed b c ≡ true → c ≡ Claimed b
claimed_is b (Claimed x) e = ap (λ (n : ℕ). Claimed n) (equal_of x b e)
  where
    equal_of : (x y : ℕ) → eqb x y ≡ true → x ≡ y
    equal_of x y h = grind (arith, nat_tests)
claimed_is b (Built v o) e = absurd (cc)
claimed_is b Done e = absurd (cc)

pub claimed_in : {V : Type 0} (made : V → Making) (p : Past) (search : Searched) (cells : List (Cell V)) (owed counted : ℕ) (current : V) (cap b t : ℕ) (c : Cell V) → IsSession made p search cells owed counted current cap → t < length cells → c ≡ get_or cells t c → is_claimed_by p.theme p.events b t ≡ cell_claimed b c
claimed_in made p search cells owed counted current cap b t c s h e = claimed_test p.theme.repeat b (about t p.events) (get_or cells t c) (s.fit t c h) ∙ ap (cell_claimed b) (sym e)

pub claimed_out : {V : Type 0} (made : V → Making) (p : Past) (search : Searched) (cells : List (Cell V)) (owed counted : ℕ) (current : V) (cap b t : ℕ) → IsSession made p search cells owed counted current cap → length cells ≤ t → is_claimed_by p.theme p.events b t ≡ false
claimed_out made p search cells owed counted current cap b t s h = ap (λ (a : About). a.claimed_by b && not a.ended) (s.rest t h)

-- the cell of a trial that a builder claimed
pub record IsClaimed {V : Type 0} (p : Past) (cells : List (Cell V)) (b t : ℕ) : Type 0 where
  pub here : t < length cells
  pub cell : (d : Cell V) → get_or cells t d ≡ Claimed b
  pub about_is : about t p.events ≡ claimed_once b
  pub owed : 1 ≤ sum_by owes cells

pub at_least_one : {V : Type 0} (cells : List (Cell V)) (t n : ℕ) (d : Cell V) → t < length cells → owes (get_or cells t d) ≡ n → n ≤ sum_by owes cells
at_least_one {V} cells t n d h e = let s = sum_by-set (owes {V = V}) cells t Done d h in let z : owes {V = V} Done ≡ 0 = refl in omega (arith, s, e, z)

pub claim_of : {V : Type 0} (made : V → Making) (p : Past) (search : Searched) (cells : List (Cell V)) (owed counted : ℕ) (current : V) (cap b t : ℕ) → IsSession made p search cells owed counted current cap → is_claimed_by p.theme p.events b t ≡ true → IsClaimed p cells b t
claim_of {V} made p search cells owed counted current cap b t s e = at (which_side t (length cells))
  where
    which_side : (x y : ℕ) → (x < y) ⊎ (y ≤ x)
    which_side x y = grind (arith, nat_tests)

    at : (t < length cells) ⊎ (length cells ≤ t) → IsClaimed p cells b t
    at (inl h) =
        let cell : (d : Cell V) → get_or cells t d ≡ Claimed b = λ d. claimed_is b (get_or cells t d) (sym (claimed_test p.theme.repeat b (about t p.events) (get_or cells t d) (s.fit t d h)) ∙ e) in
        record {
          here = h;
          cell = cell;
          about_is = subst (λ (c : Cell V). CellFits p.theme.repeat (about t p.events) c) (cell Done) (s.fit t Done h);
          owed = at_least_one cells t 1 Done h (ap (λ (c : Cell V). owes c) (cell Done));
        }
    at (inr h) = let f = claimed_out made p search cells owed counted current cap b t s h in absurd (cc)

-- a quiet event of one trial
pub quiet_set : {V : Type 0} (made : V → Making) (p : Past) (e : Event) (search : Searched) (cells : List (Cell V)) (owed owed' counted counted' : ℕ) (current : V) (cap cap' t : ℕ) (new : Cell V) → IsSession made p search cells owed counted current cap → Quiet e → may_follow p.theme p.events e ≡ true → t < length cells →
    ((u : ℕ) → t ≢ u → names u e ≡ false) → CellFits p.theme.repeat (after_event t (about t p.events) e) new → CellMade made (trial_made p t) new →
    owed' ≡ sum_by owes (set cells t new) → owed' + length (p.events ++ e ∷ []) ≤ cap' → owed' ≤ search.spare → counted' ≡ counted + cond (counts e) 1 0 →
    IsSession made (after p (e ∷ [])) search (set cells t new) owed' counted' current cap'
quiet_set {V} made p e search cells owed owed' counted counted' current cap cap' t new s q m h alone fits made_new owed_is room spare counted_is =
    let long : length (set cells t new) ≡ length cells = length-set cells t new in
    quiet_more made p e search search cells (set cells t new) owed owed' counted counted' current cap cap' s q m refl refl refl
    (λ u d l. fit u d (omega (arith, long, l)) (which t u)) (λ u l. rest u (omega (arith, long, l)) (which t u)) (λ u d l. made_of u d (omega (arith, long, l)) (which t u))
    (omega (arith, long)) (omega (arith, long, s.claimed)) owed_is room spare counted_is
  where
    fit : (u : ℕ) (d : Cell V) → u < length cells → (t ≡ u) ⊎ (t ≢ u) → CellFits p.theme.repeat (about u (p.events ++ e ∷ [])) (get_or (set cells t new) u d)
    fit u d l (inl z) = subst (λ (v : ℕ). CellFits p.theme.repeat (about v (p.events ++ e ∷ [])) (get_or (set cells t new) v d)) z (subst (λ (c : Cell V). CellFits p.theme.repeat (about t (p.events ++ e ∷ [])) c) (sym (get_or-set_same cells t new d h)) (subst (λ (a : About). CellFits p.theme.repeat a new) (sym (about_more t p.events e)) fits))
    fit u d l (inr n) = subst (λ (c : Cell V). CellFits p.theme.repeat (about u (p.events ++ e ∷ [])) c) (sym (get_or-set_other cells t u new d (λ z. n (sym z)))) (subst (λ (a : About). CellFits p.theme.repeat a (get_or cells u d)) (sym (about_more u p.events e ∙ other_event u (about u p.events) e (alone u n))) (s.fit u d l))

    rest : (u : ℕ) → length cells ≤ u → (t ≡ u) ⊎ (t ≢ u) → about u (p.events ++ e ∷ []) ≡ untouched
    rest u l (inl z) = absurd (omega (arith, z, h, l))
    rest u l (inr n) = about_more u p.events e ∙ (other_event u (about u p.events) e (alone u n) ∙ s.rest u l)

    made_of : (u : ℕ) (d : Cell V) → u < length cells → (t ≡ u) ⊎ (t ≢ u) → CellMade made (trial_made p u) (get_or (set cells t new) u d)
    made_of u d l (inl z) = subst (λ (v : ℕ). CellMade made (trial_made p v) (get_or (set cells t new) v d)) z (subst (λ (c : Cell V). CellMade made (trial_made p t) c) (sym (get_or-set_same cells t new d h)) made_new)
    made_of u d l (inr n) = subst (λ (c : Cell V). CellMade made (trial_made p u) c) (sym (get_or-set_other cells t u new d (λ z. n (sym z)))) (s.made_of u d l)

filter_few : (h : List Event) → length (filter counts h) ≤ length h
filter_few [] = omega arith
filter_few (e ∷ h) = at (counts e) (filter_few h)
  where
    at : (b : Bool) → length (filter counts h) ≤ length h → length (cond b (e ∷ filter counts h) (filter counts h)) ≤ suc (length h)
    at true i = omega arith
    at false i = omega arith

pub counted_few : {V : Type 0} (made : V → Making) (p : Past) (search : Searched) (cells : List (Cell V)) (owed counted : ℕ) (current : V) (cap : ℕ) → IsSession made p search cells owed counted current cap → counted ≤ length p.events
counted_few made p search cells owed counted current cap s = let f = filter_few p.events in omega (arith, f, s.counted_is)

pub owed_less : {V : Type 0} (cells : List (Cell V)) (t owed : ℕ) (old new : Cell V) → t < length cells → ((d : Cell V) → get_or cells t d ≡ old) → owes old ≡ 1 → owes new ≡ 0 → owed ≡ sum_by owes cells → owed - 1 ≡ sum_by owes (set cells t new)
owed_less {V} cells t owed old new h is one none e =
    let s = sum_by-set (owes {V = V}) cells t new Done h in
    let o : owes {V = V} (get_or cells t Done) ≡ 1 = ap (λ (c : Cell V). owes {V = V} c) (is Done) ∙ one in
    omega (arith, s, o, none, e)

pub good_more : {V : Type 0} (made : V → Making) (p : Past) (search : Searched) (cells : List (Cell V)) (owed counted : ℕ) (current : V) (cap cap' b t : ℕ) (w : Arc V Global) (h' : List Event) → IsSession made p search cells owed counted current cap → IsClaimed p cells b t → is_claimed_by p.theme p.events b t ≡ true → made (arc_value w) ≡ trial_made p t → h' ≡ p.events ++ Good b t ∷ [] → cap' ≡ cap →
    IsSession made (record p { events = h' }) search (set cells t (Built w None)) (owed - 1) (counted + 1) current cap'
good_more {V} made p search cells owed counted current cap cap' b t w h' s k m mw events_are same_cap =
    let e : Event = Good b t in
    let r : ℕ = p.theme.repeat in
    let z : eqb t t ≡ true = same_true t in
    let fits : CellFits r (after_event t (claimed_once b) e) (Built w None) = (refl, z, z, nothing_known r t s.repeat, refl) in
    let less : owed - 1 ≡ sum_by owes (set cells t (Built w None)) = owed_less cells t owed (Claimed b) (Built w None) k.here k.cell refl refl s.owed_is in
    let q : IsSession made (after p (e ∷ [])) search (set cells t (Built w None)) (owed - 1) (counted + 1) current cap' = quiet_set made p e search cells owed (owed - 1) counted (counted + 1) current cap cap' t (Built w None) s (record { entry = refl; completing = λ v. refl }) m k.here
    (λ u n. differ t u n) (subst (λ (a : About). CellFits r (after_event t a e) (Built w None)) (sym k.about_is) fits) mw less
    (omega (arith, length-append p.events (e ∷ []), s.room, k.owed, s.owed_is, same_cap)) (omega (arith, s.spare)) refl in
    subst (λ (v : List Event). IsSession made (record p { events = v }) search (set cells t (Built w None)) (owed - 1) (counted + 1) current cap') (sym events_are) q

-- ---- an event with an entry

-- what the search of one more entry keeps of the points
pub points_stay : (th : Theme) (es : List Costed) (c : Costed) → known th.repeat es c.trial ≡ None → Keeps (search_on (sizes th.grid) (known th.repeat es)).points (search_on (sizes th.grid) (known th.repeat (es ++ c ∷ []))).points
points_stay th es c n = points_grow (sizes th.grid) (known th.repeat es) (known th.repeat (es ++ c ∷ [])) (λ t o e. known_more th.repeat es c t o n e)

pub entry_set : {V : Type 0} (made : V → Making) (p : Past) (e : Event) (c : Costed) (search search' : Searched) (cells : List (Cell V)) (owed owed' counted counted' : ℕ) (current current' : V) (cap cap' t : ℕ) (new : Cell V) → IsSession made p search cells owed counted current cap → entry_of e ≡ c ∷ [] → may_follow p.theme p.events e ≡ true →
    may_enter (searched p.theme p.events) c.trial c.outcome ≡ true → completing p.events e ≡ completes p.theme.repeat (entries p.events) c → c.trial ≡ t → t < length cells →
    search'.grid ≡ search.grid → search'.repeat ≡ search.repeat → search'.entries ≡ search.entries ++ c ∷ [] →
    ((u : ℕ) → t ≢ u → names u e ≡ false) → CellFits p.theme.repeat (after_event t (about t p.events) e) new → CellMade made (trial_made p t) new →
    ((o : Option Costed) → last_of (versions (completed p.theme.repeat (entries p.events ++ c ∷ []))) ≡ o → made current' ≡ best_made p o) → ((x : Costed) → last_of (versions (completed p.theme.repeat (entries p.events ++ c ∷ []))) ≡ Some x → x.trial < length cells) →
    owed' ≡ sum_by owes (set cells t new) → owed' + length (p.events ++ e ∷ []) ≤ cap' → owed' ≤ search'.spare → counted' ≡ counted + cond (counts e) 1 0 →
    IsSession made (after p (e ∷ [])) search' (set cells t new) owed' counted' current' cap'
entry_set {V} made p e c search search' cells owed owed' counted counted' current current' cap cap' t new s en m may done ct h same_grid same_repeat same alone fits made_new cur best owed_is room spare counted_is =
    let hs : List Event = p.events in
    let th : Theme = p.theme in
    let r : ℕ = th.repeat in
    let long : length (set cells t new) ≡ length cells = length-set cells t new in
    let more : entries (hs ++ e ∷ []) ≡ entries hs ++ c ∷ [] = entries_more hs e ∙ ap (λ (v : List Costed). entries hs ++ v) en in
    let none : known r (entries hs) c.trial ≡ None = entered_none (searched th hs) c.trial c.outcome may in
    let stay : Keeps (game th hs).points (game th (hs ++ e ∷ [])).points = subst (λ (v : List Costed). Keeps (game th hs).points (search_on (sizes th.grid) (known r v)).points) (sym more) (points_stay th (entries hs) c none) in
    let made_same : (u : ℕ) → u < length cells → trial_made p u ≡ trial_made (after p (e ∷ [])) u = λ u l. ap (λ (x : List ℕ). record { subject = p.subject; nest = th.nest; origin = Some (record { recipe = th.recipe; grid = th.grid; point = x }) }) (sym (stay.same u (omega (arith, l, s.claimed)))) in
    record {
      grid_is = same_grid ∙ s.grid_is;
      repeat_is = same_repeat ∙ s.repeat_is;
      entries_are = same ∙ (ap (λ (v : List Costed). v ++ c ∷ []) s.entries_are ∙ sym more);
      repeat = s.repeat;
      fit = λ u d l. fit u d (omega (arith, long, l)) (which t u);
      rest = λ u l. rest u (omega (arith, long, l)) (which t u);
      made_of = λ u d l. subst (λ (x : Making). CellMade made x (get_or (set cells t new) u d)) (made_same u (omega (arith, long, l))) (made_of u d (omega (arith, long, l)) (which t u));
      claimed = omega (arith, long, s.claimed, stay.long);
      owed_is = owed_is;
      room = room;
      spare = spare;
      counted_is = counted_is ∙ (ap (λ (n : ℕ). n + cond (counts e) 1 0) s.counted_is ∙ sym (counts_more hs e));
      completed_are = ap (λ (v : List Costed). completed r v) more ∙ (completed_more r (entries hs) c ∙ (ap (λ (v : List Costed). completed r (entries hs) ++ v) (sym done) ∙ (ap (λ (v : List Costed). v ++ completing hs e) s.completed_are ∙ sym (completing_more hs e))));
      best_here = λ x b. omega (arith, long, best x (ap (λ (v : List Costed). last_of (versions (completed r v))) (sym more) ∙ b));
      current_made = cur (last_of (versions (completed r (entries hs ++ c ∷ [])))) refl
          ∙ (best_same (last_of (versions (completed r (entries hs ++ c ∷ [])))) (λ x b. made_same x.trial (best x b))
          ∙ ap (λ (v : List Costed). best_made (after p (e ∷ [])) (last_of (versions (completed r v)))) (sym more));
      legal = legal_entry th hs e c s.legal m en may;
    }
  where
    best_same : (o : Option Costed) → ((x : Costed) → o ≡ Some x → trial_made p x.trial ≡ trial_made (after p (e ∷ [])) x.trial) → best_made p o ≡ best_made (after p (e ∷ [])) o
    best_same None f = refl
    best_same (Some x) f = f x refl

    fit : (u : ℕ) (d : Cell V) → u < length cells → (t ≡ u) ⊎ (t ≢ u) → CellFits p.theme.repeat (about u (p.events ++ e ∷ [])) (get_or (set cells t new) u d)
    fit u d l (inl z) = subst (λ (v : ℕ). CellFits p.theme.repeat (about v (p.events ++ e ∷ [])) (get_or (set cells t new) v d)) z (subst (λ (x : Cell V). CellFits p.theme.repeat (about t (p.events ++ e ∷ [])) x) (sym (get_or-set_same cells t new d h)) (subst (λ (a : About). CellFits p.theme.repeat a new) (sym (about_more t p.events e)) fits))
    fit u d l (inr n) = subst (λ (x : Cell V). CellFits p.theme.repeat (about u (p.events ++ e ∷ [])) x) (sym (get_or-set_other cells t u new d (λ z. n (sym z)))) (subst (λ (a : About). CellFits p.theme.repeat a (get_or cells u d)) (sym (about_more u p.events e ∙ other_event u (about u p.events) e (alone u n))) (s.fit u d l))

    rest : (u : ℕ) → length cells ≤ u → (t ≡ u) ⊎ (t ≢ u) → about u (p.events ++ e ∷ []) ≡ untouched
    rest u l (inl z) = absurd (omega (arith, z, h, l))
    rest u l (inr n) = about_more u p.events e ∙ (other_event u (about u p.events) e (alone u n) ∙ s.rest u l)

    made_of : (u : ℕ) (d : Cell V) → u < length cells → (t ≡ u) ⊎ (t ≢ u) → CellMade made (trial_made p u) (get_or (set cells t new) u d)
    made_of u d l (inl z) = subst (λ (v : ℕ). CellMade made (trial_made p v) (get_or (set cells t new) v d)) z (subst (λ (x : Cell V). CellMade made (trial_made p t) x) (sym (get_or-set_same cells t new d h)) made_new)
    made_of u d l (inr n) = subst (λ (x : Cell V). CellMade made (trial_made p u) x) (sym (get_or-set_other cells t u new d (λ z. n (sym z)))) (s.made_of u d l)

-- ---- a refused build

-- a trial that is claimed may be refused
pub refusable : {V : Type 0} (made : V → Making) (p : Past) (search : Searched) (cells : List (Cell V)) (owed counted : ℕ) (current : V) (cap b t : ℕ) → IsSession made p search cells owed counted current cap → IsClaimed p cells b t → may_enter (searched p.theme p.events) t top ≡ true
refusable made p search cells owed counted current cap b t s k =
    let n : known p.theme.repeat (entries p.events) t ≡ None = ap (λ (a : About). outcome_from p.theme.repeat a.outcomes) k.about_is ∙ nothing_known p.theme.repeat t s.repeat in
    let m : measured (entries p.events) t ≡ [] = ap (λ (a : About). a.outcomes) k.about_is in
    all (nat_lt t (trials p.theme p.events)) (known p.theme.repeat (entries p.events) t) (measured (entries p.events) t) (less t (trials p.theme p.events) (omega (arith, k.here, s.claimed))) n m
  where
    all : (a : Bool) (o : Option Outcome) (os : List Outcome) → a ≡ true → o ≡ None → os ≡ [] → ((a && not (is_some o)) && not (true && nat_lt 0 (length os))) ≡ true
    all true None [] x y z = refl
    all true None (v ∷ vs) x y z = absurd (cc)
    all true (Some o) os x y z = absurd (cc)
    all false o os x y z = absurd (cc)

pub refusable_in : {V : Type 0} (made : V → Making) (p : Past) (search : Searched) (cells : List (Cell V)) (owed counted : ℕ) (current : V) (cap t : ℕ) (o : Outcome) → IsSession made p search cells owed counted current cap → may_enter (searched p.theme p.events) t o ≡ true → may_enter search t o ≡ true
refusable_in made p search cells owed counted current cap t o s h = ap (λ (x : Searched). may_enter (record x { spare = 0 }) t o) (λ i. record { grid = s.grid_is i; repeat = s.repeat_is i; entries = s.entries_are i; spare = 0 }) ∙ h

-- the trial is refused with it
refused_now : (r : ℕ) (es : List Costed) (c : Costed) → known r es c.trial ≡ None → c.outcome ≡ top → known r (es ++ c ∷ []) c.trial ≡ Some top
refused_now r es c n e = known_new r es c n ∙ ap (λ (o : Outcome). outcome_with (tally_from r (measured es c.trial)) o) e

pub refused_more : {V : Type 0} (made : V → Making) (p : Past) (search search' : Searched) (cells : List (Cell V)) (owed counted : ℕ) (current : V) (cap cap' b t : ℕ) (cause : Refusal) (h' : List Event) → IsSession made p search cells owed counted current cap → IsClaimed p cells b t → is_claimed_by p.theme p.events b t ≡ true →
    search' ≡ record search { entries = search.entries ++ record { trial = t; outcome = top } ∷ []; spare = search.spare - 1 } → h' ≡ p.events ++ Refused b t cause ∷ [] → cap' ≡ cap →
    IsSession made (record p { events = h' }) search' (set cells t Done) (owed - 1) counted current cap'
refused_more {V} made p search search' cells owed counted current cap cap' b t cause h' s k m same events_are same_cap =
    let e : Event = Refused b t cause in
    let r : ℕ = p.theme.repeat in
    let es : List Costed = entries p.events in
    let c : Costed = record { trial = t; outcome = top } in
    let may = refusable made p search cells owed counted current cap b t s k in
    let none : known r es t ≡ None = entered_none (searched p.theme p.events) t top may in
    let z : eqb t t ≡ true = same_true t in
    let known_now : known r (es ++ c ∷ []) t ≡ Some top = refused_now r es c none refl in
    let one : completes r es c ≡ c ∷ [] = completes_none r es c none ∙ ap (λ (o : Option Outcome). completed_now t None o) known_now in
    let best_is : last_of (versions (completed r (es ++ c ∷ []))) ≡ last_of (versions (completed r es)) = ap (λ (v : List Costed). last_of (versions v)) (completed_more r es c ∙ ap (λ (v : List Costed). completed r es ++ v) one) ∙ sym (versions_more (completed r es) (c ∷ [])) in
    let outcomes : outcome_from r (about t p.events).outcomes ≡ None = none in
    let fits : CellFits {V = V} r (after_event t (claimed_once b) e) Done = (refl, z, (top, ap (λ (x : Bool). outcome_from r (cond x (top ∷ []) [])) z)) in
    let less : owed - 1 ≡ sum_by owes (set cells t Done) = owed_less cells t owed (Claimed b) Done k.here k.cell refl refl s.owed_is in
    let q : IsSession made (after p (e ∷ [])) search' (set cells t Done) (owed - 1) counted current cap' = entry_set made p e c search search' cells owed (owed - 1) counted counted current current cap cap' t Done s refl m may (sym one) refl k.here
    (ap (λ (x : Searched). x.grid) same) (ap (λ (x : Searched). x.repeat) same) (ap (λ (x : Searched). x.entries) same)
    (λ u n. differ t u n) (subst (λ (a : About). CellFits {V = V} r (after_event t a e) Done) (sym k.about_is) fits) tt
    (λ o b. s.current_made ∙ ap (λ (y : Option Costed). best_made p y) (sym best_is ∙ b)) (λ x b. s.best_here x (sym best_is ∙ b)) less
    (omega (arith, length-append p.events (e ∷ []), s.room, k.owed, s.owed_is, same_cap)) (omega (arith, s.spare, ap (λ (x : Searched). x.spare) same, k.owed, s.owed_is)) (plus_none counted) in
    subst (λ (v : List Event). IsSession made (record p { events = v }) search' (set cells t Done) (owed - 1) counted current cap') (sym events_are) q
  where
    plus_none : (n : ℕ) → n ≡ n + 0
    plus_none n = omega arith

pub past_same : (n : ℕ) (nest : LoopNest) (recipe : RecipeParts) (search search' : Searched) (h : List Event) → search'.grid ≡ search.grid → search'.repeat ≡ search.repeat → past_of n nest recipe search h ≡ past_of n nest recipe search' h
past_same n nest recipe search search' h g r = λ i. record { subject = n; theme = record { nest = nest; recipe = recipe; grid = sym g i; repeat = sym r i }; events = h }
