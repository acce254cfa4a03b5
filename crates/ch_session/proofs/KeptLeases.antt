-- What a session keeps after a lease begins or ends.
use Rattle.std.proofs.Common.{◌≡◌, ◌≢◌, ℕ, zero, suc, ◌+◌, ◌-◌, ◌<◌, ◌≤◌, Bool, true, false, cond, eqb, nat_lt, ◌&&◌, ◌||◌, not, List, [], ◌∷◌, ◌++◌, length, set, get_or, Option, Some, None, is_some, refl, sym, ap, ◌∙◌, subst, arith, ◌⊎◌, inl, inr, append_assoc, append-nil, length-append}
use Rattle.std.specs.Prelude.{filter, sum_by, nat_le, IsSome}
use Rattle.std.specs.List.{list_any}
use Rattle.std.specs.Arc.{arc_value}
use Rattle.std.specs.declared.sync.Arc.{Arc}
use Rattle.std.proofs.Common.{Global}
use Rattle.std.proofs.lemmas.Bool.Decides.{nat_tests}
use Rattle.std.proofs.lemmas.List.{get_or-set_same, get_or-set_other, get_or_default}
use Rattle.std.proofs.Math.ListN.{length-set}
use Rattle.std.proofs.lemmas.List.Sums.{sum_by-cons, sum_by-append, sum_by-set}
use Rattle.ch_rank.specs.declared.outcome.Outcome.{Outcome}
use Rattle.ch_rank.specs.declared.outcome.Outcome.TheVariants.{Cost}
use Rattle.ch_rank.specs.declared.outcome.Costed.{Costed}
use Rattle.ch_grid.specs.Grid.{sizes}
use Rattle.ch_rank.specs.Search.{Game, below, point_at, search_on}
use Rattle.ch_rank.specs.Ranks.{versions, last_of, least_of}
use Rattle.ch_rank.specs.Entries.{Searched, known_in, played, measured, outcome_from, known, completed}
use Rattle.ch_rank.specs.Entries.{may_enter, left_of, lesser, least_from, completed_in, completes, completed_now, outcome_with, tally_from}
use Rattle.ch_rank.specs.Growth.{Keeps}
use Rattle.ch_rank.proofs.Ranking.{version_more, versions_count}
use Rattle.ch_rank.proofs.Growing.{points_grow, entered_none}
use Rattle.ch_rank.proofs.Measuring.{nothing_known, known_new, known_more, none_yet, outcome_more, measured_new, least_more, completed_more, completes_none, versions_more}
use Rattle.ch_session.specs.declared.event.Event.{Event}
use Rattle.ch_session.specs.declared.event.Event.TheVariants.{Fetch, Report, Claim, Good, Refused, Leave}
use Rattle.ch_session.specs.declared.cell.Cell.{Cell}
use Rattle.ch_session.specs.declared.cell.Cell.TheVariants.{Claimed, Built, Done}
use Rattle.ch_nest.specs.LoopNest.{LoopNest}
use Rattle.ch_script.specs.Recipes.{RecipeParts}
use Rattle.ch_script.specs.declared.refusal.Refusal.{Refusal}
use Rattle.ch_session.specs.Making.{Making}
use Rattle.ch_session.specs.History.{top, news, searched, Theme, entry_of, entries, completing, completing_after, counts, fetch_gives, holds, or_else, version_now, left_after, names_claim, names_end, names_good, holder_after, holder_from, is_built, is_client, is_free, is_held_by, least, is_pending, is_claimed_by, is_open, trials, claim_gives, may_follow, same_option, is_legal, game}
use Rattle.ch_session.specs.Replies.{Past, after, trial_made, version_made, best_made, original_made}
use Rattle.ch_session.specs.Kept.{renewed, leased, cell_claimed, cell_held, cell_free, past_of, About, about, untouched, claimed_once, CellFits, CellMade, owes, IsSession}
use Rattle.ch_session.proofs.Events.{or_false, entries_more, completing_more, counts_more, after_event, about_more, names, other_event, same_true, differ, which, legal_quiet, legal_entry, least_found, least_none}
use Rattle.ch_session.proofs.Keeping.{Quiet, and_true_right, at_least_one, entry_set, job, less, owed_less, owes_one, quiet_entries, quiet_more, quiet_set, refusable_in, spare_more}

-- ---- leases

held_all : (c : ℕ) (th : Theme) (h : List Event) (t : ℕ) (o : Option ℕ) → list_any (names_good t) h ≡ true → nat_lt t (trials th h) ≡ true → known th.repeat (entries h) t ≡ None → holder_from t None h ≡ o → (is_held_by th h c t ≡ is_client c o) × (is_free th h t ≡ not (is_some o))
held_all c th h t o g l k e = at (list_any (names_good t) h) (nat_lt t (trials th h)) (known th.repeat (entries h) t) (holder_from t None h) g l k e
  where
    at : (a b : Bool) (k : Option Outcome) (q : Option ℕ) → a ≡ true → b ≡ true → k ≡ None → q ≡ o → ((a && (b && not (is_some k))) && is_client c q ≡ is_client c o) × ((a && (b && not (is_some k))) && not (is_some q) ≡ not (is_some o))
    at true true None q x y z w = (ap (is_client c) w, ap (λ (v : Option ℕ). not (is_some v)) w)
    at true true (Some v) q x y z w = absurd (cc)
    at true false k q x y z w = absurd (cc)
    at false b k q x y z w = absurd (cc)

held_none : (c : ℕ) (th : Theme) (h : List Event) (t : ℕ) → is_built th h t ≡ false → (is_held_by th h c t ≡ false) × (is_free th h t ≡ false)
held_none c th h t e = (ap (λ (b : Bool). b && is_client c (holder_from t None h)) e, ap (λ (b : Bool). b && not (is_some (holder_from t None h))) e)

not_built : (th : Theme) (h : List Event) (t : ℕ) → list_any (names_good t) h ≡ false → is_built th h t ≡ false
not_built th h t e = ap (λ (b : Bool). b && is_pending th h t) e

done_built : (th : Theme) (h : List Event) (t : ℕ) (o : Outcome) → known th.repeat (entries h) t ≡ Some o → is_built th h t ≡ false
done_built th h t o e = ap (λ (k : Option Outcome). list_any (names_good t) h && (nat_lt t (trials th h) && not (is_some k))) e ∙ end (list_any (names_good t) h) (nat_lt t (trials th h))
  where
    end : (a b : Bool) → (a && (b && false)) ≡ false
    end true true = refl
    end true false = refl
    end false b = refl

pub lease_test : {V : Type 0} (th : Theme) (h : List Event) (c t : ℕ) (x : Cell V) → CellFits th.repeat (about t h) x → t < trials th h → (is_held_by th h c t ≡ cell_held c x) × (is_free th h t ≡ cell_free x)
lease_test th h c t (Claimed b) f l = held_none c th h t (not_built th h t (ap (λ (a : About). a.good) f))
lease_test th h c t (Built v None) f l = held_all c th h t None f.2 (less t (trials th h) l) f.3 f.4
lease_test th h c t (Built v (Some d)) f l = held_all c th h t (Some d) f.2 (less t (trials th h) l) f.3 f.4
lease_test th h c t Done f l = held_none c th h t (done_built th h t f.2.0 f.2.1)

pub lease_in : {V : Type 0} (made : V → Making) (p : Past) (search : Searched) (cells : List (Cell V)) (owed counted : ℕ) (current : V) (cap c t : ℕ) (x : Cell V) → IsSession made p search cells owed counted current cap → t < length cells → x ≡ get_or cells t x → (is_held_by p.theme p.events c t ≡ cell_held c x) × (is_free p.theme p.events t ≡ cell_free x)
lease_in made p search cells owed counted current cap c t x s h e =
    let r = lease_test p.theme p.events c t (get_or cells t x) (s.fit t x h) (omega (arith, h, s.claimed)) in
    (r.0 ∙ ap (cell_held c) (sym e), r.1 ∙ ap cell_free (sym e))

pub lease_out : {V : Type 0} (made : V → Making) (p : Past) (search : Searched) (cells : List (Cell V)) (owed counted : ℕ) (current : V) (cap c t : ℕ) → IsSession made p search cells owed counted current cap → length cells ≤ t → (is_held_by p.theme p.events c t ≡ false) × (is_free p.theme p.events t ≡ false)
lease_out made p search cells owed counted current cap c t s h = held_none c p.theme p.events t (not_built p.theme p.events t (ap (λ (a : About). a.good) (s.rest t h)))

-- what a loop over the cells has found out
abbrev pub AllBefore : (ℕ → Bool) → ℕ → Type 0
AllBefore q n = (j : ℕ) → j < n → q j ≡ false

pub before_more : (q : ℕ → Bool) (n : ℕ) → AllBefore q n → q n ≡ false → AllBefore q (n + 1)
before_more q n f e j h = at (which j n)
  where
    at : (j ≡ n) ⊎ (j ≢ n) → q j ≡ false
    at (inl z) = ap q z ∙ e
    at (inr z) = f j (omega (arith, z, h))

-- a trial that has its outcome is neither held nor free
done_trial : (a b x : Bool) (o : Option Outcome) → IsSome o → ((a && (b && not (is_some o))) && x) ≡ false
done_trial a b x None h = absurd (none_empty h)
  where
    none_empty : IsSome {T = Outcome} None → ⊥
    none_empty h = absurd (cc)
done_trial true true x (Some o) h = refl
done_trial true false x (Some o) h = refl
done_trial false b x (Some o) h = refl

pub before_waiting : {V : Type 0} (made : V → Making) (p : Past) (search : Searched) (cells : List (Cell V)) (owed counted : ℕ) (current : V) (cap first : ℕ) → IsSession made p search cells owed counted current cap → ((t : ℕ) → t < first → IsSome (known_in search t)) → (c j : ℕ) → j < first → (is_held_by p.theme p.events c j ≡ false) × (is_free p.theme p.events j ≡ false)
before_waiting made p search cells owed counted current cap first s f c j h =
    let k : IsSome (known p.theme.repeat (entries p.events) j) = subst (λ (o : Option Outcome). IsSome o) (λ i. known (s.repeat_is i) (s.entries_are i) j) (f j h) in (
      done_trial (list_any (names_good j) p.events) (nat_lt j (trials p.theme p.events)) (is_client c (holder_from j None p.events)) (known p.theme.repeat (entries p.events) j) k,
      done_trial (list_any (names_good j) p.events) (nat_lt j (trials p.theme p.events)) (not (is_some (holder_from j None p.events))) (known p.theme.repeat (entries p.events) j) k,
    )

pub found_at : (q : ℕ → Bool) (n t : ℕ) → AllBefore q t → q t ≡ true → t < n → least q n 0 ≡ Some t
found_at q n t f e h = least_found q n 0 t (omega arith) (omega arith) (λ j a b. f j b) e

pub found_none : (q : ℕ → Bool) (n m : ℕ) → AllBefore q m → ((j : ℕ) → m ≤ j → q j ≡ false) → least q n 0 ≡ None
found_none q n m f g = least_none q n 0 (λ j a b. at j (which_side j m))
  where
    which_side : (x y : ℕ) → (x < y) ⊎ (y ≤ x)
    which_side x y = grind (arith, nat_tests)

    at : (j : ℕ) → (j < m) ⊎ (m ≤ j) → q j ≡ false
    at j (inl h) = f j h
    at j (inr h) = g j h

-- the news, by what the session counts
pub news_now : {V : Type 0} (made : V → Making) (p now : Past) (search : Searched) (cells : List (Cell V)) (owed counted : ℕ) (current : V) (cap vs : ℕ) → IsSession made p search cells owed counted current cap → p ≡ now → vs ≡ length (versions (completed_in search)) → counted + vs ≡ news now.events
news_now made p now search cells owed counted current cap vs s v e =
    let c : completed_in search ≡ completing_after [] p.events = (λ i. completed (s.repeat_is i) (s.entries_are i)) ∙ s.completed_are in
    let w : vs ≡ length (versions (completing_after [] p.events)) = e ∙ ap (λ (x : List Costed). length (versions x)) c in
    ap (λ (n : ℕ). n + vs) s.counted_is ∙ (ap (λ (n : ℕ). length (filter counts p.events) + n) w ∙ ap (λ (x : Past). news x.events) v)

-- ---- a lease

least_true : (q : ℕ → Bool) (n t i : ℕ) → least q n t ≡ Some i → (q i ≡ true) × (i < t + n)
least_true q zero t i e = absurd (cc)
least_true q (suc n) t i e = at (q t) refl e (least_true q n (suc t) i)
  where
    at : (b : Bool) → q t ≡ b → cond b (Some t) (least q n (suc t)) ≡ Some i → (least q n (suc t) ≡ Some i → (q i ≡ true) × (i < suc t + n)) → (q i ≡ true) × (i < t + suc n)
    at true k e f = let z : t ≡ i = cc in (subst (λ (u : ℕ). q u ≡ true) z k, omega (arith, z))
    at false k e f = let r = f e in (r.0, omega (arith, r.1))

pub holds_true : (th : Theme) (h : List Event) (c t : ℕ) → holds th h c ≡ Some t → (is_held_by th h c t ≡ true) × (t < trials th h)
holds_true th h c t e = let r = least_true (is_held_by th h c) (trials th h) 0 t e in (r.0, omega (arith, r.1))

left_and : (a b : Bool) → (a && b) ≡ true → a ≡ true
left_and true b h = refl
left_and false b h = absurd (cc)

pub held_built : (th : Theme) (h : List Event) (c t : ℕ) → is_held_by th h c t ≡ true → is_built th h t ≡ true
held_built th h c t e = left_and (is_built th h t) (is_client c (holder_from t None h)) e

-- what a fetch gives is built
pub gives_built : (th : Theme) (h : List Event) (c t : ℕ) → fetch_gives th h c ≡ Some t → is_built th h t ≡ true
gives_built th h c t e = at (holds th h c) refl e
  where
    at : (o : Option ℕ) → holds th h c ≡ o → or_else o (least (is_free th h) (trials th h) 0) ≡ Some t → is_built th h t ≡ true
    at (Some u) k e = let z : u ≡ t = cc in let r = holds_true th h c u k in subst (λ (v : ℕ). is_built th h v ≡ true) z (held_built th h c u r.0)
    at None k e = let r = least_true (is_free th h) (trials th h) 0 t e in left_and (is_built th h t) (not (is_some (holder_from t None h))) r.0

-- the cell of a trial that is built and pending
pub record IsBuilt {V : Type 0} (p : Past) (cells : List (Cell V)) (t : ℕ) : Type 0 where
  pub here : t < length cells
  pub variant : Arc V Global
  pub holder : Option ℕ
  pub cell : (d : Cell V) → get_or cells t d ≡ Built variant holder

built_cell : {V : Type 0} (th : Theme) (h : List Event) (t : ℕ) (x : Cell V) → CellFits th.repeat (about t h) x → is_built th h t ≡ true → (v : Arc V Global) × (o : Option ℕ) × (x ≡ Built v o)
built_cell th h t (Claimed b) f e = let n = not_built th h t (ap (λ (a : About). a.good) f) in absurd (cc)
built_cell th h t (Built v o) f e = (v, o, refl)
built_cell th h t Done f e = let n = done_built th h t f.2.0 f.2.1 in absurd (cc)

pub build_of : {V : Type 0} (made : V → Making) (p : Past) (search : Searched) (cells : List (Cell V)) (owed counted : ℕ) (current : V) (cap t : ℕ) → IsSession made p search cells owed counted current cap → is_built p.theme p.events t ≡ true → IsBuilt p cells t
build_of {V} made p search cells owed counted current cap t s e = at (which_side t (length cells))
  where
    which_side : (x y : ℕ) → (x < y) ⊎ (y ≤ x)
    which_side x y = grind (arith, nat_tests)

    at : (t < length cells) ⊎ (length cells ≤ t) → IsBuilt p cells t
    at (inl h) =
        let b = built_cell p.theme p.events t (get_or cells t Done) (s.fit t Done h) e in
        record { here = h; variant = b.0; holder = b.1; cell = λ d. get_or_default cells t d Done h ∙ b.2 }
    at (inr h) = let n = not_built p.theme p.events t (ap (λ (a : About). a.good) (s.rest t h)) in absurd (cc)

-- the holder in the cell is the one in the history
pub holder_of : {V : Type 0} (made : V → Making) (p : Past) (search : Searched) (cells : List (Cell V)) (owed counted : ℕ) (current : V) (cap c t : ℕ) → IsSession made p search cells owed counted current cap → (k : IsBuilt p cells t) → is_held_by p.theme p.events c t ≡ true → k.holder ≡ Some c
holder_of {V} made p search cells owed counted current cap c t s k e =
    let l = lease_test p.theme p.events c t (get_or cells t Done) (s.fit t Done k.here) (omega (arith, k.here, s.claimed)) in
    client_is k.holder (sym (ap (cell_held c) (k.cell Done)) ∙ (sym l.0 ∙ e))
  where
    equal_of : (x y : ℕ) → eqb x y ≡ true → x ≡ y
    equal_of x y h = grind (arith, nat_tests)

    client_is : (o : Option ℕ) → is_client c o ≡ true → o ≡ Some c
    client_is None h = absurd (cc)
    client_is (Some d) h = ap (λ (n : ℕ). Some n) (equal_of d c h)

-- an event that changes the holder alone
lease_fits : {V : Type 0} (r t : ℕ) (a : About) (e : Event) (v : Arc V Global) (o q : Option ℕ) → CellFits r a (Built v o) → Quiet e → names_claim t e ≡ false → names_end t e ≡ false → names_good t e ≡ false → holder_after t a.holder e ≡ q → CellFits r (after_event t a e) (Built v q)
lease_fits r t a e v o q f quiet nc ne ng hq = (
  ap (λ (b : Bool). a.claimed || b) nc ∙ (or_false a.claimed ∙ f.0),
  ap (λ (b : Bool). a.ended || b) ne ∙ (or_false a.ended ∙ f.1),
  ap (λ (b : Bool). a.good || b) ng ∙ (or_false a.good ∙ f.2),
  ap (λ (es : List Costed). outcome_from r (a.outcomes ++ measured es t)) quiet.entry ∙ (ap (λ (os : List Outcome). outcome_from r os) (append-nil a.outcomes) ∙ f.3),
  hq,
)

pub leased_more : {V : Type 0} (made : V → Making) (p : Past) (e : Event) (search : Searched) (cells : List (Cell V)) (owed owed' counted counted' : ℕ) (current : V) (cap cap' t : ℕ) (old new : Cell V) (q : Option ℕ) (h' : List Event) → IsSession made p search cells owed counted current cap → IsBuilt p cells t → Quiet e → may_follow p.theme p.events e ≡ true →
    ((u : ℕ) → t ≢ u → names u e ≡ false) → names_claim t e ≡ false → names_end t e ≡ false → names_good t e ≡ false → holder_after t (about t p.events).holder e ≡ q → old ≡ get_or cells t old → new ≡ leased old q → h' ≡ p.events ++ e ∷ [] →
    owed' + owes old ≡ owed + owes new → owed' + length h' ≤ cap' → owed' ≤ search.spare → counted' ≡ counted + cond (counts e) 1 0 →
    IsSession made (record p { events = h' }) search (set cells t new) owed' counted' current cap'
leased_more {V} made p e search cells owed owed' counted counted' current cap cap' t old new q h' s k quiet m alone nc ne ng hq old_is new_is events_are owes_are room spare counted_is =
    let r : ℕ = p.theme.repeat in
    let was : old ≡ Built k.variant k.holder = old_is ∙ k.cell old in
    let is : new ≡ Built k.variant q = new_is ∙ ap (λ (c : Cell V). leased c q) was in
    let f : CellFits r (about t p.events) (Built k.variant k.holder) = subst (λ (c : Cell V). CellFits r (about t p.events) c) (k.cell Done) (s.fit t Done k.here) in
    let fits : CellFits r (after_event t (about t p.events) e) new = subst (λ (c : Cell V). CellFits r (after_event t (about t p.events) e) c) (sym is) (lease_fits r t (about t p.events) e k.variant k.holder q f quiet nc ne ng hq) in
    let mo : CellMade made (trial_made p t) (Built k.variant k.holder) = subst (λ (c : Cell V). CellMade made (trial_made p t) c) (k.cell Done) (s.made_of t Done k.here) in
    let mn : CellMade made (trial_made p t) new = subst (λ (c : Cell V). CellMade made (trial_made p t) c) (sym is) mo in
    let sums = sum_by-set (owes {V = V}) cells t new old k.here in
    let o : owes {V = V} (get_or cells t old) ≡ owes old = ap (λ (c : Cell V). owes {V = V} c) (sym old_is) in
    let owed_is : owed' ≡ sum_by owes (set cells t new) = omega (arith, sums, o, owes_are, s.owed_is) in
    subst (λ (v : List Event). IsSession made (record p { events = v }) search (set cells t new) owed' counted' current cap') (sym events_are)
    (quiet_set made p e search cells owed owed' counted counted' current cap cap' t new s quiet m k.here alone fits mn owed_is (subst (λ (v : List Event). owed' + length v ≤ cap') events_are room) spare counted_is)

pub owes_built : {V : Type 0} (p : Past) (cells : List (Cell V)) (t : ℕ) (k : IsBuilt p cells t) (old new : Cell V) (q : Option ℕ) → old ≡ get_or cells t old → new ≡ leased old q → (old ≡ Built k.variant k.holder) × (new ≡ Built k.variant q)
owes_built {V} p cells t k old new q old_is new_is = let was : old ≡ Built k.variant k.holder = old_is ∙ k.cell old in (was, new_is ∙ ap (λ (c : Cell V). leased c q) was)

pub release_more : {V : Type 0} (made : V → Making) (p : Past) (search : Searched) (cells : List (Cell V)) (owed counted : ℕ) (current : V) (cap cap' c t : ℕ) (old new : Cell V) (h' : List Event) → IsSession made p search cells owed counted current cap → IsBuilt p cells t → is_held_by p.theme p.events c t ≡ true → 1 ≤ owed → old ≡ get_or cells t old → new ≡ leased old None → h' ≡ p.events ++ Leave c t ∷ [] → cap' ≡ cap →
    IsSession made (record p { events = h' }) search (set cells t new) (owed - 1) (counted + 1) current cap'
release_more {V} made p search cells owed counted current cap cap' c t old new h' s k held some old_is new_is events_are same_cap =
    let z : eqb t t ≡ true = same_true t in
    let ho = holder_of made p search cells owed counted current cap c t s k held in
    let w = owes_built p cells t k old new None old_is new_is in
    let one : owes old ≡ 1 = ap (λ (x : Cell V). owes {V = V} x) (w.0 ∙ ap (λ (o : Option ℕ). Built k.variant o) ho) in
    let none : owes new ≡ 0 = ap (λ (x : Cell V). owes {V = V} x) w.1 in
    leased_more made p (Leave c t) search cells owed (owed - 1) counted (counted + 1) current cap cap' t old new None h' s k (record { entry = refl; completing = λ v. refl }) held (λ u n. differ t u n) refl refl refl (ap (λ (b : Bool). cond b None (about t p.events).holder) z) old_is new_is events_are
    (omega (arith, one, none, some)) (omega (arith, ap (λ (v : List Event). length v) events_are, length-append p.events (Leave c t ∷ []), s.room, some, same_cap)) (omega (arith, s.spare)) refl

pub lease_owed : {V : Type 0} (made : V → Making) (p : Past) (search : Searched) (cells : List (Cell V)) (owed counted : ℕ) (current : V) (cap c t : ℕ) → IsSession made p search cells owed counted current cap → IsBuilt p cells t → is_held_by p.theme p.events c t ≡ true → 1 ≤ owed
lease_owed {V} made p search cells owed counted current cap c t s k held =
    let ho = holder_of made p search cells owed counted current cap c t s k held in
    let a = at_least_one cells t 1 Done k.here (ap (λ (x : Cell V). owes {V = V} x) (k.cell Done ∙ ap (λ (o : Option ℕ). Built k.variant o) ho)) in
    omega (arith, a, s.owed_is)

-- ---- a fetch

pub fetch_more : {V : Type 0} (made : V → Making) (p : Past) (search search' : Searched) (cells : List (Cell V)) (owed owed' counted : ℕ) (current : V) (cap cap' c t : ℕ) (old new : Cell V) (h' : List Event) → IsSession made p search cells owed counted current cap → fetch_gives p.theme p.events c ≡ Some t → search' ≡ record search { spare = search'.spare } → search.spare ≤ search'.spare → old ≡ get_or cells t old → new ≡ leased old (Some c) → h' ≡ p.events ++ Fetch c (Some t) 0 ∷ [] →
    owed' ≡ owed + 1 - owes old → cap ≤ cap' → owed + 1 + length h' ≤ cap' → owed + 1 ≤ search'.spare →
    IsSession made (record p { events = h' }) search' (set cells t new) owed' counted current cap'
fetch_more {V} made p search search' cells owed owed' counted current cap cap' c t old new h' s gives same grows old_is new_is events_are owed_is caps room spare =
    let z : eqb t t ≡ true = same_true t in
    let s' : IsSession made p search' cells owed counted current cap' = spare_more made p search search' cells owed counted current cap cap' s same grows caps in
    let k : IsBuilt p cells t = build_of made p search cells owed counted current cap t s (gives_built p.theme p.events c t gives) in
    let w = owes_built p cells t k old new (Some c) old_is new_is in
    let one : owes new ≡ 1 = ap (λ (x : Cell V). owes {V = V} x) w.1 in
    let few : owes old ≤ 1 = owes_one old in
    leased_more made p (Fetch c (Some t) 0) search' cells owed owed' counted counted current cap' cap' t old new (Some c) h' s' k (record { entry = refl; completing = λ v. refl })
    (follows gives) (λ u n. differ t u n) refl refl refl (ap (λ (b : Bool). cond b (Some c) (about t p.events).holder) z) old_is new_is events_are
    (omega (arith, one, few, owed_is)) (omega (arith, room, owed_is)) (omega (arith, spare, owed_is)) (plus_none counted)
  where
    plus_none : (n : ℕ) → n ≡ n + 0
    plus_none n = omega arith

    follows : fetch_gives p.theme p.events c ≡ Some t → (same_option (Some t) (fetch_gives p.theme p.events c) && eqb 0 0) ≡ true
    follows e = ap (λ (o : Option ℕ). same_option (Some t) o && true) e ∙ (and_true_right (eqb t t) ∙ same_true t)

-- the version that the search counts is the history's
pub version_is : {V : Type 0} (made : V → Making) (p : Past) (search : Searched) (cells : List (Cell V)) (owed counted : ℕ) (current : V) (cap vs : ℕ) → IsSession made p search cells owed counted current cap → vs ≡ length (versions (completed_in search)) → vs ≡ version_now p.theme p.events
version_is made p search cells owed counted current cap vs s e = e ∙ (λ i. length (versions (completed (s.repeat_is i) (s.entries_are i))))

pub current_more : {V : Type 0} (made : V → Making) (p : Past) (search : Searched) (cells : List (Cell V)) (owed counted : ℕ) (current : V) (cap cap' c vs : ℕ) (h' : List Event) → IsSession made p search cells owed counted current cap → fetch_gives p.theme p.events c ≡ None → vs ≡ version_now p.theme p.events → h' ≡ p.events ++ Fetch c None vs ∷ [] → owed + length h' ≤ cap' →
    IsSession made (record p { events = h' }) search cells owed counted current cap'
current_more {V} made p search cells owed counted current cap cap' c vs h' s gives vs_is events_are room =
    let e : Event = Fetch c None vs in
    let other : (u : ℕ) → about u (p.events ++ e ∷ []) ≡ about u p.events = λ u. about_more u p.events e ∙ other_event u (about u p.events) e refl in
    let q : IsSession made (after p (e ∷ [])) search cells owed counted current cap' = quiet_more made p e search search cells cells owed owed counted counted current cap cap' s (record { entry = refl; completing = λ v. refl }) (follows gives vs_is) refl refl refl
    (λ u d l. subst (λ (a : About). CellFits p.theme.repeat a (get_or cells u d)) (sym (other u)) (s.fit u d l)) (λ u l. other u ∙ s.rest u l) s.made_of (omega arith) s.claimed s.owed_is
    (subst (λ (v : List Event). owed + length v ≤ cap') events_are room) s.spare (plus_none counted) in
    subst (λ (v : List Event). IsSession made (record p { events = v }) search cells owed counted current cap') (sym events_are) q
  where
    plus_none : (n : ℕ) → n ≡ n + 0
    plus_none n = omega arith

    follows : fetch_gives p.theme p.events c ≡ None → vs ≡ version_now p.theme p.events → (same_option None (fetch_gives p.theme p.events c) && eqb vs (version_now p.theme p.events)) ≡ true
    follows e f = ap (λ (o : Option ℕ). same_option None o && eqb vs (version_now p.theme p.events)) e ∙ (ap (λ (n : ℕ). eqb vs n) (sym f) ∙ same_true vs)

-- ---- a report

-- what is known of a trial that is held
pub record IsHeld {V : Type 0} (made : V → Making) (p : Past) (search : Searched) (cells : List (Cell V)) (c t : ℕ) : Type 0 where
  pub built : IsBuilt p cells t
  pub holder : built.holder ≡ Some c
  pub none : known p.theme.repeat (entries p.events) t ≡ None
  pub few : length (measured (entries p.events) t) < p.theme.repeat
  pub facts : CellFits {V = V} p.theme.repeat (about t p.events) (Built built.variant (Some c))
  pub made_is : made (arc_value built.variant) ≡ trial_made p t
  pub owed : 1 ≤ sum_by owes cells
  pub may : (x : ℕ) → may_enter (searched p.theme p.events) t (Cost x) ≡ true

pub held_of : {V : Type 0} (made : V → Making) (p : Past) (search : Searched) (cells : List (Cell V)) (owed counted : ℕ) (current : V) (cap c t : ℕ) → IsSession made p search cells owed counted current cap → is_held_by p.theme p.events c t ≡ true → IsHeld made p search cells c t
held_of {V} made p search cells owed counted current cap c t s e =
    let k : IsBuilt p cells t = build_of made p search cells owed counted current cap t s (held_built p.theme p.events c t e) in
    let ho : k.holder ≡ Some c = holder_of made p search cells owed counted current cap c t s k e in
    let is : get_or cells t Done ≡ Built k.variant (Some c) = k.cell Done ∙ ap (λ (o : Option ℕ). Built k.variant o) ho in
    let f : CellFits {V = V} p.theme.repeat (about t p.events) (Built k.variant (Some c)) = subst (λ (x : Cell V). CellFits p.theme.repeat (about t p.events) x) is (s.fit t Done k.here) in
    record {
      built = k;
      holder = ho;
      none = f.3;
      few = (none_yet p.theme.repeat (measured (entries p.events) t) f.3).1;
      facts = f;
      made_is = subst (λ (x : Cell V). CellMade made (trial_made p t) x) (k.cell Done) (s.made_of t Done k.here);
      owed = at_least_one cells t 1 Done k.here (ap (λ (x : Cell V). owes {V = V} x) is);
      may = λ x. all (nat_lt t (trials p.theme p.events)) (known p.theme.repeat (entries p.events) t) (less t (trials p.theme p.events) (omega (arith, k.here, s.claimed))) f.3;
    }
  where
    all : (a : Bool) (o : Option Outcome) → a ≡ true → o ≡ None → ((a && not (is_some o)) && true) ≡ true
    all true None x y = refl
    all true (Some o) x y = absurd (cc)
    all false o x y = absurd (cc)

pub held_out : {V : Type 0} (made : V → Making) (p now : Past) (search : Searched) (cells : List (Cell V)) (owed counted : ℕ) (current : V) (cap c t : ℕ) (x : Cell V) (b : Bool) → IsSession made p search cells owed counted current cap → p ≡ now → t < length cells → x ≡ get_or cells t x → b ≡ cell_held c x → b ≡ is_held_by now.theme now.events c t
held_out made p now search cells owed counted current cap c t x b s v h e f = let l = lease_in made p search cells owed counted current cap c t x s h e in f ∙ (sym l.0 ∙ ap (λ (y : Past). is_held_by y.theme y.events c t) v)

pub may_in : {V : Type 0} (made : V → Making) (p : Past) (search : Searched) (cells : List (Cell V)) (owed counted : ℕ) (current : V) (cap t : ℕ) (o : Outcome) → IsSession made p search cells owed counted current cap → may_enter (searched p.theme p.events) t o ≡ true → may_enter search t o ≡ true
may_in made p search cells owed counted current cap t o s h = refusable_in made p search cells owed counted current cap t o s h

pub left_now : {V : Type 0} (made : V → Making) (p : Past) (search : Searched) (cells : List (Cell V)) (owed counted : ℕ) (current : V) (cap c t n : ℕ) → IsSession made p search cells owed counted current cap → IsHeld made p search cells c t → n ≡ left_of search t → (1 ≤ n) × (n - 1 ≡ left_after p.theme p.events t)
left_now made p search cells owed counted current cap c t n s k e =
    let m : n ≡ p.theme.repeat - length (measured (entries p.events) t) = e ∙ ((λ i. left_of (record { grid = s.grid_is i; repeat = s.repeat_is i; entries = s.entries_are i; spare = 0 }) t) ∙ ap (λ (o : Option Outcome). cond (is_some o) 0 (p.theme.repeat - length (measured (entries p.events) t))) k.none) in
    (omega (arith, m, k.few), minus n p.theme.repeat (length (measured (entries p.events) t)) m)
  where
    minus : (a b d : ℕ) → a ≡ b - d → a - 1 ≡ b - (d + 1)
    minus a b d h = omega arith

report_fits : {V : Type 0} (r t c j x l : ℕ) (a : About) (v : Arc V Global) (o : Option ℕ) (k : Option Outcome) → CellFits {V = V} r a (Built v o) → outcome_from r (a.outcomes ++ Cost x ∷ []) ≡ k → ((a.claimed || false) ≡ true) × ((a.ended || false) ≡ true) × ((a.good || false) ≡ true) × (outcome_from r (a.outcomes ++ cond (eqb t t) (Cost x ∷ []) []) ≡ k) × (cond (eqb t t) None a.holder ≡ None)
report_fits r t c j x l a v o k f e =
    let z : eqb t t ≡ true = same_true t in
    (or_false a.claimed ∙ f.0, or_false a.ended ∙ f.1, or_false a.good ∙ f.2, ap (λ (b : Bool). outcome_from r (a.outcomes ++ cond b (Cost x ∷ []) [])) z ∙ e, ap (λ (b : Bool). cond b None a.holder) z)

report_follows : (th : Theme) (h : List Event) (c t j x l : ℕ) → is_held_by th h c t ≡ true → l ≡ left_after th h t → may_follow th h (Report c t j x l) ≡ true
report_follows th h c t j x l e f = ap (λ (b : Bool). b && eqb l (left_after th h t)) e ∙ (ap (λ (n : ℕ). eqb l n) (sym f) ∙ same_true l)

plus_zero : (n : ℕ) → n ≡ n + 0
plus_zero n = omega arith

pub measured_more : {V : Type 0} (made : V → Making) (p : Past) (search search' : Searched) (cells : List (Cell V)) (owed counted : ℕ) (current : V) (cap cap' c t j x l : ℕ) (old new : Cell V) (h' : List Event) → IsSession made p search cells owed counted current cap → IsHeld made p search cells c t → is_held_by p.theme p.events c t ≡ true → l ≡ left_after p.theme p.events t → 0 < l →
    search' ≡ record search { entries = search.entries ++ record { trial = t; outcome = Cost x } ∷ []; spare = search.spare - 1 } → old ≡ get_or cells t old → new ≡ leased old None → h' ≡ p.events ++ Report c t j x l ∷ [] → cap' ≡ cap →
    IsSession made (record p { events = h' }) search' (set cells t new) (owed - 1) (counted + 1) current cap'
measured_more {V} made p search search' cells owed counted current cap cap' c t j x l old new h' s k held left_is some same old_is new_is events_are same_cap =
    let e : Event = Report c t j x l in
    let r : ℕ = p.theme.repeat in
    let es : List Costed = entries p.events in
    let d : Costed = record { trial = t; outcome = Cost x } in
    let w = owes_built p cells t k.built old new None old_is new_is in
    let is : new ≡ Built k.built.variant None = w.1 in
    let still : nat_le (r - length (measured es t)) 1 ≡ false = more_left r (length (measured es t)) l left_is some in
    let out : outcome_with (tally_from r (measured es t)) (Cost x) ≡ None = ap (λ (b : Bool). cond b (Some (lesser (least_from top (measured es t)) (Cost x))) None) still in
    let known_now : known r (es ++ d ∷ []) t ≡ None = known_new r es d k.none ∙ out in
    let none : completes r es d ≡ [] = completes_none r es d k.none ∙ ap (λ (o : Option Outcome). completed_now t None o) known_now in
    let nz : eqb l 0 ≡ false = not_zero l some in
    let quiet : completing p.events e ≡ [] = ap (λ (b : Bool). cond b (record { trial = t; outcome = least_from top (measured (es ++ d ∷ []) t) } ∷ []) []) nz in
    let same_done : completed r (es ++ d ∷ []) ≡ completed r es = completed_more r es d ∙ (ap (λ (v : List Costed). completed r es ++ v) none ∙ append-nil (completed r es)) in
    let best_is : last_of (versions (completed r (es ++ d ∷ []))) ≡ last_of (versions (completed r es)) = ap (λ (v : List Costed). last_of (versions v)) same_done in
    let fits : CellFits {V = V} r (after_event t (about t p.events) e) (Built k.built.variant None) = report_fits r t c j x l (about t p.events) k.built.variant (Some c) None k.facts (outcome_more r (measured es t) (Cost x) k.none ∙ out) in
    let counts_one : cond (counts e) 1 0 ≡ 1 = ap (λ (b : Bool). cond (not b) 1 0) nz in
    let sums = sum_by-set (owes {V = V}) cells t new Done k.built.here in
    let o : owes {V = V} (get_or cells t Done) ≡ 1 = ap (λ (y : Cell V). owes {V = V} y) (k.built.cell Done ∙ ap (λ (q : Option ℕ). Built k.built.variant q) k.holder) in
    let n : owes {V = V} new ≡ 0 = ap (λ (y : Cell V). owes {V = V} y) is in
    subst (λ (v : List Event). IsSession made (record p { events = v }) search' (set cells t new) (owed - 1) (counted + 1) current cap') (sym events_are)
    (entry_set made p e d search search' cells owed (owed - 1) counted (counted + 1) current current cap cap' t new s refl (report_follows p.theme p.events c t j x l held left_is) (k.may x) (quiet ∙ sym none) refl k.built.here
    (ap (λ (y : Searched). y.grid) same) (ap (λ (y : Searched). y.repeat) same) (ap (λ (y : Searched). y.entries) same) (λ u m. differ t u m)
    (subst (λ (y : Cell V). CellFits r (after_event t (about t p.events) e) y) (sym is) fits) (subst (λ (y : Cell V). CellMade made (trial_made p t) y) (sym is) k.made_is)
    (λ y b. s.current_made ∙ ap (λ (z : Option Costed). best_made p z) (sym best_is ∙ b)) (λ y b. s.best_here y (sym best_is ∙ b))
    (omega (arith, sums, o, n, s.owed_is)) (omega (arith, length-append p.events (e ∷ []), s.room, k.owed, s.owed_is, same_cap)) (omega (arith, s.spare, ap (λ (y : Searched). y.spare) same, k.owed, s.owed_is)) (ap (λ (q : ℕ). counted + q) (sym counts_one)))
  where
    more_left : (a b n : ℕ) → n ≡ a - (b + 1) → 0 < n → nat_le (a - b) 1 ≡ false
    more_left a b n h q = grind (arith, nat_tests)

    not_zero : (n : ℕ) → 0 < n → eqb n 0 ≡ false
    not_zero n h = grind (arith, nat_tests)

pub completed_last : {V : Type 0} (made : V → Making) (p : Past) (search search' : Searched) (cells : List (Cell V)) (owed counted : ℕ) (current current' : Arc V Global) (cap cap' c t j x vs vs' : ℕ) (old : Cell V) (h' : List Event) → IsSession made p search cells owed counted (arc_value current) cap → IsHeld made p search cells c t → is_held_by p.theme p.events c t ≡ true → left_after p.theme p.events t ≡ 0 →
    search' ≡ record search { entries = search.entries ++ record { trial = t; outcome = Cost x } ∷ []; spare = search.spare - 1 } → old ≡ get_or cells t old → vs ≡ length (versions (completed_in search)) → vs' ≡ length (versions (completed_in search')) → current' ≡ renewed current old (nat_lt vs vs') → h' ≡ p.events ++ Report c t j x 0 ∷ [] → cap' ≡ cap →
    IsSession made (record p { events = h' }) search' (set cells t Done) (owed - 1) counted (arc_value current') cap'
completed_last {V} made p search search' cells owed counted current current' cap cap' c t j x vs vs' old h' s k held left_is same old_is vs_is vs_now current_is events_are same_cap =
    let e : Event = Report c t j x 0 in
    let r : ℕ = p.theme.repeat in
    let es : List Costed = entries p.events in
    let d : Costed = record { trial = t; outcome = Cost x } in
    let o : Outcome = lesser (least_from top (measured es t)) (Cost x) in
    let last : nat_le (r - length (measured es t)) 1 ≡ true = no_left r (length (measured es t)) left_is in
    let out : outcome_with (tally_from r (measured es t)) (Cost x) ≡ Some o = ap (λ (b : Bool). cond b (Some o) None) last in
    let known_now : known r (es ++ d ∷ []) t ≡ Some o = known_new r es d k.none ∙ out in
    let done : Costed = record { trial = t; outcome = o } in
    let one : completes r es d ≡ done ∷ [] = completes_none r es d k.none ∙ ap (λ (q : Option Outcome). completed_now t None q) known_now in
    let least_is : least_from top (measured (es ++ d ∷ []) t) ≡ o = ap (λ (os : List Outcome). least_from top os) (measured_new es d) ∙ least_more top (measured es t) (Cost x) in
    let completing_is : completing p.events e ≡ done ∷ [] = ap (λ (q : Outcome). record { trial = t; outcome = q } ∷ []) least_is in
    let now : completed r (es ++ d ∷ []) ≡ completed r es ++ done ∷ [] = completed_more r es d ∙ ap (λ (v : List Costed). completed r es ++ v) one in
    let before : Option Costed = last_of (versions (completed r es)) in
    let test : Bool = below o (least_of before) in
    let best_is : last_of (versions (completed r (es ++ d ∷ []))) ≡ cond test (Some done) before = ap (λ (v : List Costed). last_of (versions v)) now ∙ sym (version_more (completed r es) done) in
    let search_is : completed_in search ≡ completed r es = λ i. completed (s.repeat_is i) (s.entries_are i) in
    let search_now : completed_in search' ≡ completed r (es ++ d ∷ []) = λ i. completed ((ap (λ (y : Searched). y.repeat) same ∙ s.repeat_is) i) ((ap (λ (y : Searched). y.entries) same ∙ ap (λ (v : List Costed). v ++ d ∷ []) s.entries_are) i) in
    let count : vs' ≡ vs + cond test 1 0 = vs_now ∙ (ap (λ (v : List Costed). length (versions v)) (search_now ∙ now) ∙ (versions_count (completed r es) done ∙ ap (λ (n : ℕ). n + cond test 1 0) (sym (vs_is ∙ ap (λ (v : List Costed). length (versions v)) search_is)))) in
    let more : nat_lt vs vs' ≡ test = counted_test vs vs' test count in
    let old_built : old ≡ Built k.built.variant k.built.holder = old_is ∙ k.built.cell old in
    let cur : current' ≡ cond test k.built.variant current = current_is ∙ ((λ i. renewed current (old_built i) (more i))) in
    let rf = report_fits r t c j x 0 (about t p.events) k.built.variant (Some c) (Some o) k.facts (outcome_more r (measured es t) (Cost x) k.none ∙ out) in
    let fits : CellFits {V = V} r (after_event t (about t p.events) e) Done = (rf.0, rf.1, (o, rf.3)) in
    let less_owed : owed - 1 ≡ sum_by owes (set cells t Done) = owed_less cells t owed (Built k.built.variant (Some c)) Done k.built.here (λ y. k.built.cell y ∙ ap (λ (q : Option ℕ). Built k.built.variant q) k.holder) refl refl s.owed_is in
    subst (λ (v : List Event). IsSession made (record p { events = v }) search' (set cells t Done) (owed - 1) counted (arc_value current') cap') (sym events_are)
    (entry_set made p e d search search' cells owed (owed - 1) counted counted (arc_value current) (arc_value current') cap cap' t Done s refl (report_follows p.theme p.events c t j x 0 held (sym left_is)) (k.may x) (completing_is ∙ sym one) refl k.built.here
    (ap (λ (y : Searched). y.grid) same) (ap (λ (y : Searched). y.repeat) same) (ap (λ (y : Searched). y.entries) same) (λ u m. differ t u m)
    fits tt
    (λ y b. ap (λ (z : Arc V Global). made (arc_value z)) cur ∙ (made_at test before (last_of (versions (completed r (es ++ d ∷ [])))) k s.current_made best_is ∙ ap (λ (z : Option Costed). best_made p z) b))
    (λ y b. here_at test before y s.best_here (sym best_is ∙ b))
    less_owed (omega (arith, length-append p.events (e ∷ []), s.room, k.owed, s.owed_is, same_cap)) (omega (arith, s.spare, ap (λ (y : Searched). y.spare) same, k.owed, s.owed_is)) (plus_zero counted))
  where
    no_left : (a b : ℕ) → a - (b + 1) ≡ 0 → nat_le (a - b) 1 ≡ true
    no_left a b h = grind (arith, nat_tests)

    counted_test : (a b : ℕ) (q : Bool) → b ≡ a + cond q 1 0 → nat_lt a b ≡ q
    counted_test a b true h = grind (arith, nat_tests)
    counted_test a b false h = grind (arith, nat_tests)

    made_at : (q : Bool) (b z : Option Costed) → IsHeld made p search cells c t → made (arc_value current) ≡ best_made p b → z ≡ cond q (Some (record { trial = t; outcome = lesser (least_from top (measured (entries p.events) t)) (Cost x) })) b → made (arc_value (cond q k.built.variant current)) ≡ best_made p z
    made_at true b z h m e = k.made_is ∙ ap (λ (y : Option Costed). best_made p y) (sym e)
    made_at false b z h m e = m ∙ ap (λ (y : Option Costed). best_made p y) (sym e)

    here_at : (q : Bool) (b : Option Costed) (y : Costed) → ((z : Costed) → b ≡ Some z → z.trial < length cells) → cond q (Some (record { trial = t; outcome = lesser (least_from top (measured (entries p.events) t)) (Cost x) })) b ≡ Some y → y.trial < length cells
    here_at true b y f e = let z : t ≡ y.trial = some_trial (record { trial = t; outcome = lesser (least_from top (measured (entries p.events) t)) (Cost x) }) y e in omega (arith, z, k.built.here)
      where
        some_trial : (a b : Costed) → Some a ≡ Some b → a.trial ≡ b.trial
        some_trial a b q = ap (λ (w : Costed). w.trial) (some_same a b q)
          where
            some_same : (a b : Costed) → Some a ≡ Some b → a ≡ b
            some_same a b q = cc
    here_at false b y f e = f y e

-- a job's number and point hold after the claim too
pub job_after : (th : Theme) (h h' : List Event) (b t : ℕ) (point : List ℕ) → (t < trials th h) × (point ≡ point_at (game th h) t) → h' ≡ h ++ Claim b t ∷ [] → (t < trials th h') × (point ≡ point_at (game th h') t)
job_after th h h' b t point f e =
    let en : entries h' ≡ entries h = ap entries e ∙ quiet_entries h (Claim b t) (record { entry = refl; completing = λ v. refl }) in
    subst (λ (v : List Costed). (t < length (search_on (sizes th.grid) (known th.repeat v)).points) × (point ≡ point_at (search_on (sizes th.grid) (known th.repeat v)) t)) (sym en) f
