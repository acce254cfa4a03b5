-- The entries of a history name a client's trial calls, in order: so a trial call is named once, and each entry names a trial call.
use Rattle.std.proofs.Common.{◌≡◌, ℕ, zero, suc, ◌+◌, ◌<◌, ◌≤◌, Bool, true, false, cond, eqb, ◌||◌, List, [], ◌∷◌, ◌++◌, map, Option, Some, None, refl, sym, ap, ◌∙◌, subst, arith, append_assoc, append-nil}
use Rattle.std.specs.Prelude.{filter}
use Rattle.std.specs.List.{AllByRecursion, list_any}
use Rattle.std.proofs.lemmas.List.Elements.{filter-append}
use Rattle.std.proofs.lemmas.Bool.Decides.{nat_tests}
use Rattle.ch_script.specs.declared.refusal.Refusal.{Refusal}
use Rattle.ch_session.specs.declared.event.Event.{Event}
use Rattle.ch_session.specs.declared.event.Event.TheVariants.{Fetch, Report, Claim, Good, Refused, Leave}
use Rattle.ch_nest.specs.CostModel.{CostModel}
use Rattle.ch_conduct.specs.declared.report.How.{How}
use Rattle.ch_conduct.specs.declared.report.How.TheVariants.{Trial, Fresh, Kept}
use Rattle.ch_conduct.specs.declared.report.CallLine.{CallLine}
use Rattle.ch_report.specs.declared.part.Found.{Found}
use Rattle.ch_report.specs.declared.part.Found.TheVariants.{Cost as by_call, Refused as refused_point}
use Rattle.ch_report.specs.declared.part.EntryLine.{EntryLine}
use Rattle.ch_session.specs.History.{Theme}
use Rattle.ch_session.specs.Growth.{by, seat_of}
use Rattle.ch_conduct.specs.Places.{events_by}
use Rattle.ch_conduct.specs.Conduct.{Gained, Step, events_of, build_event, refusal_at, Answered, Turns, CallDoes, Calls, Conduct}
use Rattle.ch_conduct.specs.Meaning.{Judge}
use Rattle.ch_conduct.specs.Conduct.Turns.{at_once, built}
use Rattle.ch_conduct.specs.Lines.{call_named, calls_named, names_call, lines_from, lines_on}
use Rattle.ch_conduct.specs.Fits.{IsNamedOnce, Ascending}
use Rattle.ch_conduct.specs.Lived.{line_of, lines_of}

abbrev trials_of : List EntryLine → List ℕ
trials_of es = map (λ e. e.trial) es

-- ---- the pairs of call and trial that entries name, that events report, and that lines have

abbrev pub named_pair : ℕ → EntryLine → List (ℕ × ℕ)
named_pair c e = map (λ j. (j, e.trial)) (call_named c e.found)

abbrev pub named : ℕ → List EntryLine → List (ℕ × ℕ)
named c [] = []
named c (e ∷ es) = named_pair c e ++ named c es

abbrev pub reported : Event → List (ℕ × ℕ)
reported (Report c t j x l) = (j, t) ∷ []
reported _ = []

abbrev pub reports : List Event → List (ℕ × ℕ)
reports [] = []
reports (e ∷ es) = reported e ++ reports es

abbrev pub trial_call : ℕ → How → List (ℕ × ℕ)
trial_call j (Trial t) = (j, t) ∷ []
trial_call j _ = []

abbrev pub trial_calls : List (ℕ × How) → List (ℕ × ℕ)
trial_calls [] = []
trial_calls (l ∷ ls) = trial_call l.0 l.1 ++ trial_calls ls

-- ---- entries and reports

passes : (b : Bool) (e : Event) (es : List Event) → reported e ≡ [] → reports (cond b (e ∷ es) es) ≡ reports es
passes true e es s = ap (λ z. z ++ reports es) s
passes false e es s = refl

report_case : (b : Bool) (d t j x l : ℕ) (es : List Event) → map (λ i. (i, t)) (cond b (j ∷ []) []) ++ reports es ≡ reports (cond b (Report d t j x l ∷ es) es)
report_case true d t j x l es = refl
report_case false d t j x l es = refl

-- what the entries of a history name of a client is what the client's events report
pub named_are : (at : ℕ → List ℕ) (c : ℕ) (h : List Event) → named c (lines_of at h) ≡ reports (events_by c h)
named_are at c [] = refl
named_are at c (Fetch d t v ∷ h) = named_are at c h ∙ sym (passes (eqb d c) (Fetch d t v) (events_by c h) refl)
named_are at c (Report d t j x l ∷ h) = ap (λ z. map (λ (i : ℕ). (i, t)) (cond (eqb d c) (j ∷ []) []) ++ z) (named_are at c h) ∙ report_case (eqb d c) d t j x l (events_by c h)
named_are at c (Claim b t ∷ h) = named_are at c h ∙ sym (passes (eqb (seat_of b) c) (Claim b t) (events_by c h) refl)
named_are at c (Good b t ∷ h) = named_are at c h ∙ sym (passes (eqb (seat_of b) c) (Good b t) (events_by c h) refl)
named_are at c (Refused b t r ∷ h) = named_are at c h ∙ sym (passes (eqb (seat_of b) c) (Refused b t r) (events_by c h) refl)
named_are at c (Leave d t ∷ h) = named_are at c h ∙ sym (passes (eqb d c) (Leave d t) (events_by c h) refl)

-- ---- reports and lines

pub reports-append : (xs ys : List Event) → reports (xs ++ ys) ≡ reports xs ++ reports ys
reports-append [] ys = refl
reports-append (x ∷ xs) ys = ap (λ z. reported x ++ z) (reports-append xs ys) ∙ sym (append_assoc (reported x) (reports xs) (reports ys))

build_silent : (b u : ℕ) (r : Option Refusal) → reported (build_event b u r) ≡ []
build_silent b u None = refl
build_silent b u (Some r) = refl

module _ (th : Theme) (judge : Judge) (c : ℕ) (patient : Bool) (machine : CostModel) where
  answered_reports : (own h : List Event) (j : ℕ) (how : How) (es : List Event) → Answered th judge c patient machine own h j how es → reports es ≡ trial_call j how
  answered_reports own h j (Trial t) es a = ap reports a.1
  answered_reports own h j (Fresh v w) es a = ap reports a.0
  answered_reports own h j (Kept v w) es a = absurd a

  pub turns_report : (own h : List Event) (j : ℕ) (how : How) (es : List Event) → Turns th judge c patient machine own h j how es → reports es ≡ trial_call j how
  turns_report own h j how es (at_once a m) = answered_reports own h j how es a
  turns_report own h j how es (built v u last p q a) =
      ap reports q ∙ (ap (λ z. z ++ reports last) (build_silent (200 + c) u (refusal_at th judge h u)) ∙ answered_reports _ h j how last a)

  pub call_reports : (before : Option How) (own h : List Event) (j : ℕ) (how : How) (g : Gained) → CallDoes th judge c patient machine before own h j how g → reports g.events ≡ trial_call j how
  call_reports before own h j (Trial t) g d = turns_report own h j (Trial t) g.events d.1
  call_reports before own h j (Fresh v w) g d = turns_report own h j (Fresh v w) g.events d.1
  call_reports before own h j (Kept v w) g d = ap reports d.2

  pub calls_report : (before : Option How) (own h : List Event) (ss : List Step) → Calls th judge c patient machine before own h ss → reports (events_of ss) ≡ trial_calls (map (λ s. (s.call, s.how)) ss)
  calls_report before own h [] d = refl
  calls_report before own h (s ∷ ss) d = reports-append s.gained.events (events_of ss) ∙ (ap (λ z. z ++ reports (events_of ss)) (call_reports before own h s.call s.how s.gained d.0) ∙ ap (λ z. trial_call s.call s.how ++ z) (calls_report (Some s.how) _ h ss d.1))

  -- the entries of a history name a client's trial calls, in order
  pub named_lines : (at : ℕ → List ℕ) (h : List Event) (lines : List (ℕ × How)) (reads : List ℕ) → Conduct th judge c patient machine h lines (events_by c h) reads → named c (lines_of at h) ≡ trial_calls lines
  named_lines at h lines reads d = named_are at c h ∙ (ap reports (sym d.so_far.own_are) ∙ (calls_report None [] h d.so_far.steps d.so_far.calls ∙ ap trial_calls d.so_far.lines_are))

-- ---- the numbers of a client's calls on a session rise

abbrev pub Rising : ℕ → List (ℕ × How) → Type 0
Rising k [] = Unit {0}
Rising k (l ∷ ls) = (k ≤ l.0) × Rising (l.0 + 1) ls

pub rising_down : (k m : ℕ) (ls : List (ℕ × How)) → k ≤ m → Rising m ls → Rising k ls
rising_down k m [] l r = tt
rising_down k m (x ∷ ls) l r = let a = r.0 in (omega arith, r.1)

rising_case : (b : Bool) (j : ℕ) (how : How) (ls : List (ℕ × How)) → Rising (j + 1) ls → Rising j (cond b ((j, how) ∷ ls) ls)
rising_case true j how ls r = (omega arith, r)
rising_case false j how ls r = rising_down j (j + 1) ls (omega arith) r

pub lines_rise : (n j : ℕ) (ls : List CallLine) → Rising j (lines_from n j ls)
lines_rise n j [] = tt
lines_rise n j (l ∷ ls) = rising_case (eqb l.session n) j l.how (lines_from n (j + 1) ls) (lines_rise n (j + 1) ls)

-- ---- a trial call is named once

-- the trials that pairs give for a call
abbrev pub pick : ℕ → List (ℕ × ℕ) → List ℕ
pick j [] = []
pick j (p ∷ ps) = cond (eqb j p.0) (p.1 ∷ pick j ps) (pick j ps)

pub pick-append : (j : ℕ) (ps qs : List (ℕ × ℕ)) → pick j (ps ++ qs) ≡ pick j ps ++ pick j qs
pick-append j [] qs = refl
pick-append j (p ∷ ps) qs = at (eqb j p.0) (pick-append j ps qs)
  where
    at : (b : Bool) → pick j (ps ++ qs) ≡ pick j ps ++ pick j qs → cond b (p.1 ∷ pick j (ps ++ qs)) (pick j (ps ++ qs)) ≡ cond b (p.1 ∷ pick j ps) (pick j ps) ++ pick j qs
    at true e = ap (λ z. p.1 ∷ z) e
    at false e = e

named_case : (j i : ℕ) (b d : Bool) (e : EntryLine) (es : List EntryLine) (ps : List (ℕ × ℕ)) → eqb j i ≡ d → trials_of es ≡ pick j ps →
    trials_of (cond (list_any (eqb j) (cond b (i ∷ []) [])) (e ∷ es) es) ≡ pick j (map (λ k. (k, e.trial)) (cond b (i ∷ []) []) ++ ps)
named_case j i true true e es ps q h = rw q (ap (λ z. e.trial ∷ z) h)
named_case j i true false e es ps q h = rw q h
named_case j i false d e es ps q h = h

-- the trials of the entries that name a call
pub picked : (c j : ℕ) (es : List EntryLine) → trials_of (filter (names_call c j) es) ≡ pick j (named c es)
picked c j [] = refl
picked c j (e ∷ es) = at e.found (picked c j es)
  where
    at : (f : Found) → trials_of (filter (names_call c j) es) ≡ pick j (named c es) → trials_of (cond (list_any (eqb j) (call_named c f)) (e ∷ filter (names_call c j) es) (filter (names_call c j) es)) ≡ pick j (map (λ k. (k, e.trial)) (call_named c f) ++ named c es)
    at (by_call d i x) h = named_case j i (eqb d c) (eqb j i) e (filter (names_call c j) es) (named c es) refl h
    at (refused_point r) h = h

self_eqb : (j : ℕ) → eqb j j ≡ true
self_eqb j = grind (arith, nat_tests)

other_eqb : (j k : ℕ) → j < k → eqb j k ≡ false
other_eqb j k l = grind (arith, nat_tests)

-- calls before k aren't among lines that rise from k on
pick_none : (j k : ℕ) (ls : List (ℕ × How)) → j < k → Rising k ls → pick j (trial_calls ls) ≡ []
pick_none j k [] l r = refl
pick_none j k ((i, Trial t) ∷ ls) l r = let a = r.0 in rw (other_eqb j i (omega arith)) (pick_none j (i + 1) ls (omega arith) r.1)
pick_none j k ((i, Fresh v w) ∷ ls) l r = let a = r.0 in pick_none j (i + 1) ls (omega arith) r.1
pick_none j k ((i, Kept v w) ∷ ls) l r = let a = r.0 in pick_none j (i + 1) ls (omega arith) r.1

-- pairs of calls below k
abbrev Below : ℕ → List (ℕ × ℕ) → Type 0
Below k ps = AllByRecursion (λ p. p.0 < k) ps

below_none : (j k : ℕ) (ps : List (ℕ × ℕ)) → k ≤ j → Below k ps → pick j ps ≡ []
below_none j k [] l b = refl
below_none j k (p ∷ ps) l b = let a = b.0 in let q : eqb j p.0 ≡ false = grind (arith, nat_tests) in rw q (below_none j k ps l b.1)

below_more : (k m : ℕ) (ps qs : List (ℕ × ℕ)) → k ≤ m → Below k ps → Below m qs → Below m (ps ++ qs)
below_more k m [] qs l b d = d
below_more k m (p ∷ ps) qs l b d = let a = b.0 in (omega arith, below_more k m ps qs l b.1 d)

one_call : (j k : ℕ) (how : How) → j < k → Below k (trial_call j how)
one_call j k (Trial t) l = (l, tt)
one_call j k (Fresh v w) l = tt
one_call j k (Kept v w) l = tt

-- each trial line's call gives its trial alone
abbrev Gives : List (ℕ × ℕ) → ℕ → How → Type 0
Gives ps j (Trial t) = pick j ps ≡ t ∷ []
Gives ps j _ = Unit {0}

gives_at : (k j : ℕ) (how : How) (pre : List (ℕ × ℕ)) (ls : List (ℕ × How)) → k ≤ j → Below k pre → Rising (j + 1) ls → Gives (pre ++ (trial_call j how ++ trial_calls ls)) j how
gives_at k j (Trial t) pre ls l b r = pick-append j pre ((j, t) ∷ trial_calls ls) ∙ rw (below_none j k pre l b, self_eqb j) (ap (λ z. t ∷ z) (pick_none j (j + 1) ls (omega arith) r))
gives_at k j (Fresh v w) pre ls l b r = tt
gives_at k j (Kept v w) pre ls l b r = tt

each_gives : (k : ℕ) (pre : List (ℕ × ℕ)) (ls : List (ℕ × How)) → Below k pre → Rising k ls → AllByRecursion (λ l. Gives (pre ++ trial_calls ls) l.0 l.1) ls
each_gives k pre [] b r = tt
each_gives k pre (l ∷ ls) b r =
    let a = r.0 in
    let s = append_assoc pre (trial_call l.0 l.1) (trial_calls ls) in
    let rest = each_gives (l.0 + 1) (pre ++ trial_call l.0 l.1) ls (below_more k (l.0 + 1) pre (trial_call l.0 l.1) (omega arith) b (one_call l.0 (l.0 + 1) l.1 (omega arith))) r.1 in
    (gives_at k l.0 l.1 pre ls r.0 b r.1, subst (λ (z : List (ℕ × ℕ)). AllByRecursion (λ (x : ℕ × How). Gives z x.0 x.1) ls) s rest)

named_once : (c : ℕ) (es : List EntryLine) (j : ℕ) (how : How) → Gives (named c es) j how → IsNamedOnce c j how es
named_once c es j (Trial t) g = picked c j es ∙ g
named_once c es j (Fresh v w) g = tt
named_once c es j (Kept v w) g = tt

each_named : (c : ℕ) (es : List EntryLine) (ls : List (ℕ × How)) → AllByRecursion (λ l. Gives (named c es) l.0 l.1) ls → AllByRecursion (λ l. IsNamedOnce c l.0 l.1 es) ls
each_named c es [] a = tt
each_named c es (l ∷ ls) a = (named_once c es l.0 l.1 a.0, each_named c es ls a.1)

pub all_named : (c n : ℕ) (es : List EntryLine) (ls : List CallLine) → named c es ≡ trial_calls (lines_on n ls) → AllByRecursion (λ l. IsNamedOnce c l.0 l.1 es) (lines_on n ls)
all_named c n es ls e = each_named c es (lines_on n ls) (rw e (each_gives 1 [] (lines_on n ls) tt (lines_rise n 1 ls)))

-- ---- the order of a client's entries is that of its calls

calls_first : (c : ℕ) (es : List EntryLine) → calls_named c es ≡ map (λ p. p.0) (named c es)
calls_first c [] = refl
calls_first c (e ∷ es) = at e.found (calls_first c es)
  where
    with_pair : (b : Bool) (i : ℕ) → calls_named c es ≡ map (λ (p : ℕ × ℕ). p.0) (named c es) → cond b (i ∷ []) [] ++ calls_named c es ≡ map (λ (p : ℕ × ℕ). p.0) (map (λ (j : ℕ). (j, e.trial)) (cond b (i ∷ []) []) ++ named c es)
    with_pair true i h = ap (λ z. i ∷ z) h
    with_pair false i h = h

    at : (f : Found) → calls_named c es ≡ map (λ (p : ℕ × ℕ). p.0) (named c es) → call_named c f ++ calls_named c es ≡ map (λ (p : ℕ × ℕ). p.0) (map (λ (j : ℕ). (j, e.trial)) (call_named c f) ++ named c es)
    at (by_call d i x) h = with_pair (eqb d c) i h
    at (refused_point r) h = h

above : (k : ℕ) (ls : List (ℕ × How)) → Rising k ls → AllByRecursion (λ y. k ≤ y) (map (λ p. p.0) (trial_calls ls))
above k [] r = tt
above k ((i, Trial t) ∷ ls) r = (r.0, above k ls (let a = r.0 in rising_down k (i + 1) ls (omega arith) r.1))
above k ((i, Fresh v w) ∷ ls) r = above k ls (let a = r.0 in rising_down k (i + 1) ls (omega arith) r.1)
above k ((i, Kept v w) ∷ ls) r = above k ls (let a = r.0 in rising_down k (i + 1) ls (omega arith) r.1)

rising_ascends : (k : ℕ) (ls : List (ℕ × How)) → Rising k ls → Ascending (map (λ p. p.0) (trial_calls ls))
rising_ascends k [] r = tt
rising_ascends k ((i, Trial t) ∷ ls) r = (above i ls (rising_down i (i + 1) ls (omega arith) r.1), rising_ascends (i + 1) ls r.1)
rising_ascends k ((i, Fresh v w) ∷ ls) r = rising_ascends (i + 1) ls r.1
rising_ascends k ((i, Kept v w) ∷ ls) r = rising_ascends (i + 1) ls r.1

pub in_order : (c n : ℕ) (es : List EntryLine) (ls : List CallLine) → named c es ≡ trial_calls (lines_on n ls) → Ascending (calls_named c es)
in_order c n es ls e = rw (calls_first c es ∙ ap (λ z. map (λ (p : ℕ × ℕ). p.0) z) e) (rising_ascends 1 (lines_on n ls) (lines_rise n 1 ls))
