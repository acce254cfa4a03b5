-- Where one client alone acts in a session, its conduct is what the function for a lone client gives.
use Rattle.std.proofs.Common.{◌≡◌, ◌≢◌, ℕ, zero, suc, ◌+◌, ◌-◌, ◌*◌, ◌<◌, ◌≤◌, Bool, true, false, cond, eqb, ◌&&◌, List, [], ◌∷◌, ◌++◌, map, length, Option, Some, None, refl, sym, ap, ◌∙◌, subst, arith, append_assoc, append-nil, ◌⊎◌, inl, inr}
use Rattle.std.specs.Prelude.{filter}
use Rattle.std.specs.List.{AllByRecursion, list_any}
use Rattle.std.proofs.lemmas.Bool.Decides.{nat_tests}
use Rattle.ch_conduct.specs.Conduct.{Gained, Step, events_of, reads_of, news_shown, news_compared, ReadsOther, build_event, refusal_at, building, Answered, MayStay, Turns, CallDoes, Calls, Conducted, Conduct}
use Rattle.ch_conduct.specs.Conduct.Turns.{at_once, built}
use Rattle.ch_conduct.specs.Meaning.{Judge}
use Rattle.ch_conduct.specs.Places.{events_by, point, IsNext, MetNoneOpen}
use Rattle.ch_conduct.specs.Solo.{Played, AllPlayed, answered, fetched, claimed, asked, kept_line, called, call, joined, solo_from, solo}
use Rattle.ch_conduct.specs.declared.report.How.{How}
use Rattle.ch_conduct.specs.declared.report.How.TheVariants.{Trial, Fresh, Kept}
use Rattle.ch_conduct.proofs.Among.{first_below, fetched_below}
use Rattle.ch_conduct.proofs.Growing.{news_grows}
use Rattle.ch_conduct.proofs.Prefixes.{prefix_trans, prefix_front, follows, point_stays}
use Rattle.ch_conduct.proofs.Versions.{Shows, BeforeShown, shows_of, kept_shows}
use Rattle.ch_nest.specs.CostModel.{CostModel}
use Rattle.ch_rank.specs.declared.outcome.Costed.{Costed}
use Rattle.ch_rank.specs.Entries.{measured}
use Rattle.ch_rank.specs.Ranks.{versions}
use Rattle.ch_session.specs.declared.event.Event.{Event}
use Rattle.ch_session.specs.declared.event.Event.TheVariants.{Fetch, Report, Claim, Good, Refused, Leave}
use Rattle.ch_session.specs.Growth.{by}
use Rattle.ch_session.specs.History.{Theme, entries, counts, completing_after, is_open, is_held_by, names_good, same_option, fetch_gives, claim_gives, left_after, version_now, news, may_follow, is_legal}
use Rattle.ch_session.proofs.Events.{both, completing_more, counts_more, entries_more}
use Rattle.ch_session.proofs.Legal.{same_some, held_parts}
use Rattle.ch_session.proofs.Versions.{agrees, news_twice}
use Rattle.ch_turn.specs.History.{IsPrefix}

same_none : (o : Option ℕ) → same_option None o ≡ true → o ≡ None
same_none None e = refl
same_none (Some x) e = absurd (cc)

eqb_is : (a b : ℕ) → eqb a b ≡ true → a ≡ b
eqb_is a b e = grind (arith, nat_tests)

all_front : {A : Type 0} (P : A → Type 0) (xs ys : List A) → AllByRecursion P (xs ++ ys) → AllByRecursion P xs
all_front P [] ys a = tt
all_front P (x ∷ xs) ys a = (a.0, all_front P xs ys a.1)

-- all events are the client's
pub sole_events : (c : ℕ) (h : List Event) → AllByRecursion (λ e. by e ≡ c) h → events_by c h ≡ h
sole_events c [] a = refl
sole_events c (e ∷ h) a = rw (same (by e) c a.0) (ap (λ z. e ∷ z) (sole_events c h a.1))
  where
    same : (x y : ℕ) → x ≡ y → eqb x y ≡ true
    same x y q = grind (arith, nat_tests)

-- a fetch changes no news
news_fetch : (g : List Event) (c : ℕ) (t : Option ℕ) (v : ℕ) → news (g ++ Fetch c t v ∷ []) ≡ news g
news_fetch g c t v =
    let z : length (filter counts g) + 0 ≡ length (filter counts g) = omega arith in
    λ i. (counts_more g (Fetch c t v) ∙ z) i + length (versions ((completing_more g (Fetch c t v) ∙ append-nil (completing_after [] g)) i))

-- ---- where nothing is built there are no news

abbrev is_good : Event → Bool
is_good (Good b t) = true
is_good (Fetch c t v) = false
is_good (Report c t j x l) = false
is_good (Claim b t) = false
is_good (Refused b t r) = false
is_good (Leave c t) = false

abbrev IsQuiet : Event → Type 0
IsQuiet e = is_good e ≡ false

quiet-append : (xs ys : List Event) → AllByRecursion IsQuiet xs → AllByRecursion IsQuiet ys → AllByRecursion IsQuiet (xs ++ ys)
quiet-append [] ys a b = b
quiet-append (x ∷ xs) ys a b = (a.0, quiet-append xs ys a.1 b)

none_good : (t : ℕ) (h : List Event) → AllByRecursion IsQuiet h → list_any (names_good t) h ≡ true → ⊥
none_good t [] a e = absurd (cc)
none_good t (Fetch c u v ∷ h) a e = none_good t h a.1 e
none_good t (Report c u j x l ∷ h) a e = none_good t h a.1 e
none_good t (Claim b u ∷ h) a e = none_good t h a.1 e
none_good t (Good b u ∷ h) a e = let n = a.0 in absurd (cc)
none_good t (Refused b u r ∷ h) a e = none_good t h a.1 e
none_good t (Leave c u ∷ h) a e = none_good t h a.1 e

none_held : (th : Theme) (g h : List Event) (c t : ℕ) → IsPrefix g h → AllByRecursion IsQuiet h → is_held_by th g c t ≡ true → ⊥
none_held th g h c t p a e = none_good t g (all_front IsQuiet g p.0 (subst (AllByRecursion IsQuiet) p.1 a)) (held_parts th g c t e).good

none_counts : (th : Theme) (h before more : List Event) → is_legal th h ≡ true → AllByRecursion IsQuiet h → AllByRecursion IsQuiet more → h ≡ before ++ more → filter counts more ≡ []
none_counts th h before [] l a q w = refl
none_counts th h before (e ∷ more) l a q w = at e q.0 (follows th h before e l (more, next)) (none_counts th h (before ++ e ∷ []) more l a q.1 next)
  where
    next : h ≡ (before ++ e ∷ []) ++ more
    next = w ∙ sym (append_assoc before (e ∷ []) more)

    at : (e : Event) → IsQuiet e → may_follow th before e ≡ true → filter counts more ≡ [] → cond (counts e) (e ∷ filter counts more) (filter counts more) ≡ []
    at (Fetch c t v) q m r = r
    at (Report c t j x k) q m r = absurd (none_held th before h c t (e ∷ more, w) a (both (is_held_by th before c t) (eqb k (left_after th before t)) m).0)
    at (Claim b t) q m r = r
    at (Good b t) q m r = absurd (cc)
    at (Refused b t c) q m r = r
    at (Leave c t) q m r = absurd (none_held th before h c t (e ∷ more, w) a m)

no_news : (th : Theme) (h : List Event) → is_legal th h ≡ true → AllByRecursion IsQuiet h → news h ≡ 0
no_news th h l a =
    let none : length (filter counts h) ≡ 0 = ap length (none_counts th h [] h l a a refl) in
    let same : version_now th h ≡ length (versions (completing_after [] h)) = ap (λ (es : List Costed). length (versions es)) (agrees th h l) in
    let twice = news_twice th h l in
    omega (arith, none, same, twice)

module _ (th : Theme) (judge : Judge) (c : ℕ) (patient : Bool) (machine : CostModel) (h : List Event) (legal : is_legal th h ≡ true) (sole : AllByRecursion (λ e. by e ≡ c) h) where
  -- a history with given own events is these events
  place_is : (g own : List Event) → IsPrefix g h → events_by c g ≡ own → g ≡ own
  place_is g own p e = sym (sole_events c g (all_front (λ x. by x ≡ c) g p.0 (subst (AllByRecursion (λ x. by x ≡ c)) p.1 sole))) ∙ e

  next_place : (own g : List Event) (e : Event) → IsNext c own e h g → g ≡ own
  next_place own g e n = place_is g own (prefix_trans g (g ++ e ∷ []) h (prefix_front g (e ∷ [])) n.0) n.1

  allowed : (own later : List Event) (e : Event) → h ≡ own ++ e ∷ later → may_follow th own e ≡ true
  allowed own later e w = follows th h own e legal (later, w ∙ sym (append_assoc own (e ∷ []) later))

  front_of : (own later : List Event) → h ≡ own ++ later → IsPrefix own h
  front_of own later w = (later, w)

  -- ---- the fetch that decides

  -- a fetch makes no entry
  same_left : (own : List Event) (t : ℕ) → left_after th (own ++ Fetch c (Some t) 0 ∷ []) t ≡ left_after th own t
  same_left own t = ap (λ (es : List Costed). th.repeat - (length (measured es t) + 1)) (entries_more own (Fetch c (Some t) 0) ∙ append-nil (entries own))

  trial_gives : (own later : List Event) (t : ℕ) → h ≡ own ++ Fetch c (Some t) 0 ∷ later → fetch_gives th own c ≡ Some t
  trial_gives own later t w = same_some t (fetch_gives th own c) (both (same_option (Some t) (fetch_gives th own c)) (eqb 0 0) (allowed own later (Fetch c (Some t) 0) w)).0

  current_at : (own later : List Event) (v : ℕ) → h ≡ own ++ Fetch c None v ∷ later → (fetch_gives th own c ≡ None) × (version_now th own ≡ v)
  current_at own later v w =
      let m = both (same_option None (fetch_gives th own c)) (eqb v (version_now th own)) (allowed own later (Fetch c None v) w) in
      (same_none (fetch_gives th own c) m.0, sym (eqb_is v (version_now th own) m.1))

  answered_is : (own later : List Event) (j : ℕ) (how : How) (es : List Event) → h ≡ own ++ (es ++ later) → Answered th judge c patient machine own h j how es → fetched th judge c patient machine own j ≡ record { history = own ++ es; how = how }
  answered_is own later j (Trial t) es w a =
      let rep : Event = Report c t j (judge.cost machine (point th h t)) a.0 in
      let whole : h ≡ own ++ Fetch c (Some t) 0 ∷ rep ∷ later = w ∙ ap (λ z. own ++ (z ++ later)) a.1 in
      let gives = trial_gives own (rep ∷ later) t whole in
      let m = allowed (own ++ Fetch c (Some t) 0 ∷ []) later rep (whole ∙ sym (append_assoc own (Fetch c (Some t) 0 ∷ []) (rep ∷ later))) in
      let left : a.0 ≡ left_after th own t = eqb_is a.0 (left_after th (own ++ Fetch c (Some t) 0 ∷ []) t) (both (is_held_by th (own ++ Fetch c (Some t) 0 ∷ []) c t) (eqb a.0 (left_after th (own ++ Fetch c (Some t) 0 ∷ []) t)) m).1 ∙ same_left own t in
      let same : point th h t ≡ point th own t = point_stays th own h t (front_of own _ w) legal (fetched_below th own c t gives) in
      ap (answered th judge c patient machine own j) gives ∙ (λ i. record { history = own ++ ((λ k. Fetch c (Some t) 0 ∷ Report c t j (judge.cost machine (sym same k)) (sym left k) ∷ []) ∙ sym a.1) i; how = Trial t })
  answered_is own later j (Fresh v w') es w a =
      let at = current_at own later v (w ∙ ap (λ z. own ++ (z ++ later)) a.0) in
      let place : a.1.0 ≡ own = next_place own a.1.0 (Fetch c None v) a.1.1 in
      let shown : news own ≡ w' = ap news (sym place) ∙ a.1.2 in
      ap (answered th judge c patient machine own j) at.0 ∙ (λ i. record { history = own ++ (ap (λ x. Fetch c None x ∷ []) at.1 ∙ sym a.0) i; how = Fresh (at.1 i) (shown i) })
  answered_is own later j (Kept v w') es w a = absurd a

  -- ---- the turns of a call that isn't kept

  -- a patient client's turns, by the line
  stayed : (own later : List Event) (j : ℕ) (how : How) (es : List Event) → h ≡ own ++ (es ++ later) → Answered th judge c patient machine own h j how es → MayStay th judge c patient machine true how (own ++ es) h → asked th judge c patient machine true own j (fetch_gives th own c) ≡ fetched th judge c patient machine own j
  stayed own later j (Trial t) es w a m =
      let gives = trial_gives own _ t (w ∙ ap (λ z. own ++ (z ++ later)) a.1) in
      ap (asked th judge c patient machine true own j) gives ∙ sym (ap (answered th judge c patient machine own j) gives)
  stayed own later j (Fresh v w') es w a m =
      let at = current_at own later v (w ∙ ap (λ z. own ++ (z ++ later)) a.0) in
      let place : m.0 ≡ own ++ Fetch c None (version_now th own) ∷ [] = place_is m.0 (own ++ es) m.1 m.2 ∙ ap (λ z. own ++ z) (a.0 ∙ ap (λ x. Fetch c None x ∷ []) (sym at.1)) in
      let none : claim_gives th (own ++ Fetch c None (version_now th own) ∷ []) ≡ None = subst (λ (x : List Event). claim_gives th x ≡ None) place m.3 in
      ap (asked th judge c patient machine true own j) at.0 ∙ ap (claimed th judge c patient machine own (own ++ Fetch c None (version_now th own) ∷ []) j) none
  stayed own later j (Kept v w') es w a m = absurd a

  built_is : (own later : List Event) (j v u : ℕ) (last : List Event) → h ≡ own ++ ((building th judge c patient machine h v u ++ last) ++ later) → asked th judge c patient machine true own j (fetch_gives th own c) ≡ fetched th judge c patient machine (own ++ building th judge c patient machine h v u) j
  built_is own later j v u last w =
      let build = build_event (200 + c) u (refusal_at th judge h u) in
      let at = current_at own _ v w in
      let g : List Event = own ++ Fetch c None v ∷ [] in
      let whole : h ≡ g ++ Claim (200 + c) u ∷ build ∷ (last ++ later) = w ∙ sym (append_assoc own (Fetch c None v ∷ []) _) in
      let gives : claim_gives th g ≡ Some u = same_some u (claim_gives th g) (allowed g _ (Claim (200 + c) u) whole) in
      let same : point th h u ≡ point th g u = point_stays th g h u (front_of g _ whole) legal (first_below th g (is_open th g) u gives) in
      let version : own ++ Fetch c None (version_now th own) ∷ [] ≡ g = ap (λ x. own ++ Fetch c None x ∷ []) at.1 in
      ap (asked th judge c patient machine true own j) at.0
      ∙ (ap (λ x. claimed th judge c patient machine own x j (claim_gives th x)) version
      ∙ (ap (claimed th judge c patient machine own g j) gives
      ∙ ap (λ x. fetched th judge c patient machine x j) (ap (λ x. g ++ Claim (200 + c) u ∷ build_event (200 + c) u (judge.refusal x) ∷ []) (sym same) ∙ append_assoc own (Fetch c None v ∷ []) (Claim (200 + c) u ∷ build ∷ []))))

  by_patience : (b : Bool) (own : List Event) (j : ℕ) → patient ≡ b → (b ≡ true → asked th judge c patient machine true own j (fetch_gives th own c) ≡ fetched th judge c patient machine own j) → asked th judge c patient machine patient own j (fetch_gives th own c) ≡ fetched th judge c patient machine own j
  by_patience true own j e f = rw e (f refl)
  by_patience false own j e f = rw e refl

  turns_are : (own later : List Event) (j : ℕ) (how : How) (es : List Event) → h ≡ own ++ (es ++ later) → Turns th judge c patient machine own h j how es → asked th judge c patient machine patient own j (fetch_gives th own c) ≡ record { history = own ++ es; how = how }
  turns_are own later j how es w (at_once a m) = by_patience patient own j refl (λ e. stayed own later j how es w a (subst (λ (b : Bool). MayStay th judge c patient machine b how (own ++ es) h) e m)) ∙ answered_is own later j how es w a
  turns_are own later j how es w (built v u last p e a) =
      let first : List Event = building th judge c patient machine h v u in
      let whole : h ≡ own ++ ((first ++ last) ++ later) = w ∙ ap (λ z. own ++ (z ++ later)) e in
      let whole' : h ≡ (own ++ first) ++ (last ++ later) = whole ∙ (ap (λ z. own ++ z) (append_assoc first last later) ∙ sym (append_assoc own first (last ++ later))) in
      ap (λ b. asked th judge c patient machine b own j (fetch_gives th own c)) p ∙ (built_is own later j v u last whole ∙ (answered_is (own ++ first) later j how last whole' a ∙ (λ i. record { history = (append_assoc own first last ∙ ap (λ z. own ++ z) (sym e)) i; how = how })))

  -- ---- calls that are kept, and that aren't

  shown_news : (own : List Event) (v w : ℕ) → Shows th c h own v w → news own ≡ w
  shown_news own v w s = ap news (s.now ∙ ap (λ z. z ++ Fetch c None v ∷ []) (sym (next_place s.before s.g (Fetch c None v) s.next))) ∙ (news_fetch s.g c None v ∙ s.news_are)

  same_eqb : (x y : ℕ) → x ≡ y → eqb x y ≡ true
  same_eqb x y e = grind (arith, nat_tests)

  keeps_line : (before : Option How) (v w now : ℕ) → ((before ≡ Some (Fresh v w)) ⊎ (before ≡ Some (Kept v w))) → now ≡ w → kept_line th judge c patient machine false before now ≡ Some (Kept v w)
  keeps_line before v w now (inl e) n = rw e (rw (same_eqb now w n) refl)
  keeps_line before v w now (inr e) n = rw e (rw (same_eqb now w n) refl)

  -- an eager client that is alone meets no news at all, so that it keeps what it has
  no_other : (b : Bool) (before : Option How) (own : List Event) (reads : List ℕ) → (b ≡ false → news h ≡ 0) → IsPrefix own h → BeforeShown th c h own before → ReadsOther (news_compared b before) reads → AllByRecursion (λ r. r ≤ news h) reads → kept_line th judge c patient machine b before (news own) ≡ None
  no_other true before own reads z p s o w = refl
  no_other false None own reads z p s o w = refl
  no_other false (Some (Trial t)) own reads z p s o w = refl
  no_other false (Some (Fresh v x)) own reads z p s o w =
      let n = shown_news own v x s in
      let g = news_grows own h p in
      let none = z refl in
      let low : o.0 ≤ news h = (subst (λ (l : List ℕ). AllByRecursion (λ r. r ≤ news h) l) o.1 w).0 in
      absurd (o.2 (omega arith))
  no_other false (Some (Kept v x)) own reads z p s o w =
      let n = shown_news own v x s in
      let g = news_grows own h p in
      let none = z refl in
      let low : o.0 ≤ news h = (subst (λ (l : List ℕ). AllByRecursion (λ r. r ≤ news h) l) o.1 w).0 in
      absurd (o.2 (omega arith))

  module _ (eager_quiet : patient ≡ false → news h ≡ 0) where
    call_is : (before : Option How) (own later : List Event) (j : ℕ) (how : How) (g : Gained) → h ≡ own ++ (g.events ++ later) → BeforeShown th c h own before → AllByRecursion (λ r. r ≤ news h) g.reads → CallDoes th judge c patient machine before own h j how g →
        call th judge c patient machine own before j ≡ record { history = own ++ g.events; how = how }
    call_is before own later j (Trial t) g w s r d = ap (called th judge c patient machine own j) (no_other patient before own g.reads eager_quiet (front_of own _ w) s d.0 r) ∙ turns_are own later j (Trial t) g.events w d.1
    call_is before own later j (Fresh v x) g w s r d = ap (called th judge c patient machine own j) (no_other patient before own g.reads eager_quiet (front_of own _ w) s d.0 r) ∙ turns_are own later j (Fresh v x) g.events w d.1
    call_is before own later j (Kept v x) g w s r d =
        let n = shown_news own v x (kept_shows th judge c patient machine h legal (point th h) before own v x d.1 s) in
        ap (λ b. called th judge c patient machine own j (kept_line th judge c patient machine b before (news own))) d.0
        ∙ (ap (called th judge c patient machine own j) (keeps_line before v x (news own) d.1 n)
        ∙ (λ i. record { history = (sym (append-nil own) ∙ ap (λ z. own ++ z) (sym d.2)) i; how = Kept v x }))

    -- what is shown after a call
    next_shown : (before : Option How) (own : List Event) (j : ℕ) (how : How) (g : Gained) → BeforeShown th c h own before → CallDoes th judge c patient machine before own h j how g → BeforeShown th c h (own ++ g.events) (Some how)
    next_shown before own j (Trial t) g s d = tt
    next_shown before own j (Fresh v x) g s d = shows_of th judge c patient machine h legal (point th h) own j v x g.events d.1
    next_shown before own j (Kept v x) g s d = subst (λ (z : List Event). Shows th c h z v x) (sym (append-nil own) ∙ ap (λ z. own ++ z) (sym d.2)) (kept_shows th judge c patient machine h legal (point th h) before own v x d.1 s)

    all_back : {A : Type 0} (P : A → Type 0) (xs ys : List A) → AllByRecursion P (xs ++ ys) → AllByRecursion P ys
    all_back P [] ys a = a
    all_back P (x ∷ xs) ys a = all_back P xs ys a.1

    abbrev play_on : List ℕ → ℕ → Played → AllPlayed
    play_on js j p = joined th judge c patient machine j p.how (solo_from th judge c patient machine p.history (Some p.how) js)

    abbrev calls_of : List Step → List ℕ
    calls_of ss = map (λ s. s.call) ss

    abbrev step_line : Step → ℕ × How
    step_line s = (s.call, s.how)

    solo_steps : (before : Option How) (own : List Event) (ss : List Step) → h ≡ own ++ events_of ss → BeforeShown th c h own before → AllByRecursion (λ r. r ≤ news h) (reads_of ss) → Calls th judge c patient machine before own h ss →
        solo_from th judge c patient machine own before (calls_of ss) ≡ record { history = own ++ events_of ss; lines = map step_line ss }
    solo_steps before own [] w s r d = λ i. record { history = sym (append-nil own) i; lines = [] }
    solo_steps before own (x ∷ ss) w s r d =
        let es : List Event = x.gained.events in
        let one = call_is before own (events_of ss) x.call x.how x.gained w s (all_front (λ r. r ≤ news h) x.gained.reads (reads_of ss) r) d.0 in
        let rest = solo_steps (Some x.how) (own ++ es) ss (w ∙ sym (append_assoc own es (events_of ss))) (next_shown before own x.call x.how x.gained s d.0) (all_back (λ r. r ≤ news h) x.gained.reads (reads_of ss) r) d.1 in
        ap (play_on (calls_of ss) x.call) one ∙ ((λ i. record { history = (rest i).history; lines = (x.call, x.how) ∷ (rest i).lines }) ∙ (λ i. record { history = append_assoc own es (events_of ss) i; lines = step_line x ∷ map step_line ss }))

  -- ---- an eager client's events count for nothing

  answered_quiet : (own : List Event) (j : ℕ) (how : How) (es : List Event) → Answered th judge c patient machine own h j how es → AllByRecursion IsQuiet es
  answered_quiet own j (Trial t) es a = subst (AllByRecursion IsQuiet) (sym a.1) (refl, (refl, tt))
  answered_quiet own j (Fresh v w) es a = subst (AllByRecursion IsQuiet) (sym a.0) (refl, tt)
  answered_quiet own j (Kept v w) es a = absurd a

  turns_quiet : (own : List Event) (j : ℕ) (how : How) (es : List Event) → patient ≡ false → Turns th judge c patient machine own h j how es → AllByRecursion IsQuiet es
  turns_quiet own j how es e (at_once a m) = answered_quiet own j how es a
  turns_quiet own j how es e (built v u last p q a) = absurd (clash patient p e)
    where
      clash : (b : Bool) → b ≡ true → b ≡ false → ⊥
      clash true p q = absurd (cc)
      clash false p q = absurd (cc)

  call_quiet : (before : Option How) (own : List Event) (j : ℕ) (how : How) (g : Gained) → patient ≡ false → CallDoes th judge c patient machine before own h j how g → AllByRecursion IsQuiet g.events
  call_quiet before own j (Trial t) g e d = turns_quiet own j (Trial t) g.events e d.1
  call_quiet before own j (Fresh v w) g e d = turns_quiet own j (Fresh v w) g.events e d.1
  call_quiet before own j (Kept v w) g e d = subst (AllByRecursion IsQuiet) (sym d.2) tt

  calls_quiet : (before : Option How) (own : List Event) (ss : List Step) → patient ≡ false → Calls th judge c patient machine before own h ss → AllByRecursion IsQuiet (events_of ss)
  calls_quiet before own [] e d = tt
  calls_quiet before own (s ∷ ss) e d = quiet-append s.gained.events (events_of ss) (call_quiet before own s.call s.how s.gained e d.0) (calls_quiet (Some s.how) (own ++ s.gained.events) ss e d.1)

  -- the conduct of a lone client is the function's: its history, and its lines for the calls of these numbers
  pub solo_is : (lines : List (ℕ × How)) (own : List Event) (reads : List ℕ) → own ≡ h → Conduct th judge c patient machine h lines own reads → solo th judge c patient machine (map (λ l. l.0) lines) ≡ record { history = h; lines = lines }
  solo_is lines own reads o d =
      let ss : List Step = d.so_far.steps in
      let all : events_of ss ≡ h = d.so_far.own_are ∙ o in
      let quiet : patient ≡ false → news h ≡ 0 = λ e. no_news th h legal (subst (AllByRecursion IsQuiet) all (calls_quiet None [] ss e d.so_far.calls)) in
      let r : AllByRecursion (λ r. r ≤ news h) (reads_of ss) = subst (λ (x : List ℕ). AllByRecursion (λ r. r ≤ news h) x) (sym d.so_far.reads_are) d.reads_within in
      ap (solo th judge c patient machine) (sym (ap (λ (x : List (ℕ × How)). map (λ (l : ℕ × How). l.0) x) d.so_far.lines_are) ∙ numbers ss)
      ∙ (solo_steps quiet None [] ss (sym all) tt r d.so_far.calls ∙ (λ i. record { history = all i; lines = d.so_far.lines_are i }))
    where
      numbers : (ss : List Step) → map (λ (l : ℕ × How). l.0) (map (λ (s : Step). (s.call, s.how)) ss) ≡ map (λ (s : Step). s.call) ss
      numbers [] = refl
      numbers (s ∷ ss) = ap (λ z. s.call ∷ z) (numbers ss)
