-- A report with a history behind it fits its deck: what entries show follows for each event from the one whose it is.
use Rattle.std.proofs.Common.{◌≡◌, ℕ, zero, suc, ◌+◌, ◌<◌, ◌≤◌, Bool, true, false, cond, eqb, List, [], ◌∷◌, ◌++◌, map, length, get_or, Option, Some, None, refl, sym, ap, ◌∙◌, subst, arith, ◌⊎◌, inl, inr}
use Rattle.std.specs.Prelude.{slice_get, slice_index_or}
use Rattle.std.specs.List.{AllByRecursion}
use Rattle.std.proofs.lemmas.Bool.Decides.{nat_tests}
use Rattle.ch_rank.specs.declared.outcome.Costed.{Costed}
use Rattle.ch_script.specs.declared.refusal.Refusal.{Refusal}
use Rattle.ch_session.specs.declared.event.Event.{Event}
use Rattle.ch_session.specs.declared.event.Event.TheVariants.{Fetch, Report, Claim, Good, Refused, Leave}
use Rattle.ch_nest.specs.CostModel.{CostModel}
use Rattle.ch_workload.specs.declared.client.Script.{Script}
use Rattle.ch_conduct.specs.declared.report.How.{How}
use Rattle.ch_conduct.specs.declared.report.How.TheVariants.{Trial, Fresh, Kept}
use Rattle.ch_conduct.specs.declared.report.CallLine.{CallLine}
use Rattle.ch_conduct.specs.declared.report.ClientPart.{ClientPart}
use Rattle.ch_report.specs.declared.part.EntryLine.{EntryLine}
use Rattle.ch_report.specs.declared.part.SessionPart.{SessionPart}
use Rattle.ch_conduct.specs.declared.report.RunReport.{RunReport}
use Rattle.ch_session.specs.History.{Theme, entries, is_legal, follow}
use Rattle.ch_session.specs.Growth.{by}
use Rattle.ch_session.proofs.Events.{both}
use Rattle.ch_rank.specs.Entries.{are_legal, are_legal_after, at_entries, played}
use Rattle.ch_rank.specs.Search.{point_at}
use Rattle.ch_conduct.specs.Places.{events_by, point}
use Rattle.ch_conduct.specs.Conduct.{Gained, Step, events_of, build_event, refusal_at, building, Answered, Turns, CallDoes, Calls, Conduct, Builds, BuilderConduct}
use Rattle.ch_conduct.specs.Meaning.{Judge, Task, Meaning, machine_of}
use Rattle.ch_conduct.specs.Conduct.Turns.{at_once, built}
use Rattle.ch_conduct.specs.Lines.{Each, EachAt, lines_from, lines_on, costed_of}
use Rattle.ch_conduct.specs.Fits.{Fits, SessionFits, HasParts, HasStores, IsSearched, IsJudged, NamesTrial, line_at, line_of_part, shown, searched_on, CallsFit, IsNamedOnce, Ascending, VersionsFit}
use Rattle.ch_conduct.specs.Lived.{IsWorker, line_of, lines_of, SessionLived, Lived}
use Rattle.ch_conduct.proofs.Named.{trial_call, trial_calls, named, named_lines, lines_rise, all_named, in_order}
use Rattle.ch_conduct.proofs.Versions.{costed_lines, versions_fit}

-- ---- lists

pub all-append : {A : Type 0} (P : A → Type 0) (xs ys : List A) → AllByRecursion P xs → AllByRecursion P ys → AllByRecursion P (xs ++ ys)
all-append P [] ys a b = b
all-append P (x ∷ xs) ys a b = (a.0, all-append P xs ys a.1 b)

pub each_at : {A B : Type 0} (P : ℕ → A → B → Type 0) (k i : ℕ) (xs : List A) (ys : List B) → Each P k xs ys → i < length xs → (x : A) × (y : B) × (slice_get xs i ≡ Some x) × (slice_get ys i ≡ Some y) × P (k + i) x y
each_at P k i [] ys e l = absurd (omega arith)
each_at P k i (x ∷ xs) [] e l = absurd e
each_at P k zero (x ∷ xs) (y ∷ ys) e l = let z : k ≡ k + 0 = omega arith in (x, y, refl, refl, subst (λ (m : ℕ). P m x y) z e.0)
each_at P k (suc i) (x ∷ xs) (y ∷ ys) e l = let r = each_at P (suc k) i xs ys e.1 (omega arith) in let z : suc k + i ≡ k + suc i = omega arith in (r.0, r.1, r.2, r.3, subst (λ (m : ℕ). P m r.0 r.1) z r.4)

pub each_map : {A B : Type 0} (P Q : ℕ → A → B → Type 0) (k : ℕ) (xs : List A) (ys : List B) → ((i : ℕ) (x : A) (y : B) → P i x y → Q i x y) → Each P k xs ys → Each Q k xs ys
each_map P Q k [] [] f e = tt
each_map P Q k [] (y ∷ ys) f e = absurd e
each_map P Q k (x ∷ xs) [] f e = absurd e
each_map P Q k (x ∷ xs) (y ∷ ys) f e = (f k x y e.0, each_map P Q (suc k) xs ys f e.1)

pub each_second : {A B : Type 0} (P : ℕ → A → B → Type 0) (Q : ℕ → B → Type 0) (k : ℕ) (xs : List A) (ys : List B) → ((i : ℕ) (x : A) (y : B) → P i x y → Q i y) → Each P k xs ys → EachAt Q k ys
each_second P Q k [] [] f e = tt
each_second P Q k [] (y ∷ ys) f e = absurd e
each_second P Q k (x ∷ xs) [] f e = absurd e
each_second P Q k (x ∷ xs) (y ∷ ys) f e = (f k x y e.0, each_second P Q (suc k) xs ys f e.1)

-- ---- what holds of each seat's events holds of all

head_case : (P : Event → Type 0) (b : Bool) (e : Event) (es : List Event) → b ≡ true → AllByRecursion P (cond b (e ∷ es) es) → P e
head_case P true e es q a = a.0
head_case P false e es q a = absurd (cc)

tail_case : (P : Event → Type 0) (b : Bool) (e : Event) (es : List Event) → AllByRecursion P (cond b (e ∷ es) es) → AllByRecursion P es
tail_case P true e es a = a.1
tail_case P false e es a = a

self_eqb : (j : ℕ) → eqb j j ≡ true
self_eqb j = grind (arith, nat_tests)

pub all_events : (P : Event → Type 0) (Theirs : ℕ → Type 0) (h : List Event) → ((n : ℕ) → Theirs n → AllByRecursion P (events_by n h)) → AllByRecursion (λ e. Theirs (by e)) h → AllByRecursion P h
all_events P Theirs [] f t = tt
all_events P Theirs (e ∷ es) f t = (head_case P (eqb (by e) (by e)) e (events_by (by e) es) (self_eqb (by e)) (f (by e) t.0), all_events P Theirs es (λ n q. tail_case P (eqb (by e) n) e (events_by n es) (f n q)) t.1)

-- ---- a client's lines stand in its part

is_line : (l : CallLine) (n : ℕ) (how : How) → l.session ≡ n → l.how ≡ how → Some l ≡ Some (record { session = n; how = how })
is_line l n how e f = λ i. Some (record { session = e i; how = f i })

abbrev pub Stands : ℕ → ℕ → List CallLine → ℕ × ℕ → Type 0
Stands n k ls p = (i : ℕ) × (p.0 ≡ k + i) × (slice_get ls i ≡ Some (record { session = n; how = Trial p.1 }))

stands_next : (n k : ℕ) (l : CallLine) (ls : List CallLine) (ps : List (ℕ × ℕ)) → AllByRecursion (Stands n (k + 1) ls) ps → AllByRecursion (Stands n k (l ∷ ls)) ps
stands_next n k l ls [] a = tt
stands_next n k l ls (p ∷ ps) a = let e = a.0.1 in ((suc a.0.0, omega arith, a.0.2), stands_next n k l ls ps a.1)

stands_first : (n k : ℕ) (l : CallLine) (ls : List CallLine) (how : How) → l.how ≡ how → l.session ≡ n → AllByRecursion (Stands n k (l ∷ ls)) (trial_call k how)
stands_first n k l ls (Trial t) e s = ((0, omega arith, is_line l n (Trial t) s e), tt)
stands_first n k l ls (Fresh v w) e s = tt
stands_first n k l ls (Kept v w) e s = tt

lines_stand : (n k : ℕ) (ls : List CallLine) → AllByRecursion (Stands n k ls) (trial_calls (lines_from n k ls))
lines_stand n k [] = tt
lines_stand n k (l ∷ ls) = at (eqb l.session n) refl (stands_next n k l ls (trial_calls (lines_from n (k + 1) ls)) (lines_stand n (k + 1) ls))
  where
    at : (b : Bool) → eqb l.session n ≡ b → AllByRecursion (Stands n k (l ∷ ls)) (trial_calls (lines_from n (k + 1) ls)) → AllByRecursion (Stands n k (l ∷ ls)) (trial_calls (cond b ((k, l.how) ∷ lines_from n (k + 1) ls) (lines_from n (k + 1) ls)))
    at true e a = let s : l.session ≡ n = grind (arith, nat_tests) in all-append (Stands n k (l ∷ ls)) (trial_call k l.how) (trial_calls (lines_from n (k + 1) ls)) (stands_first n k l ls l.how refl s) a
    at false e a = a

module _ (r : RunReport) (n c : ℕ) where
  abbrev IsAt : ℕ × ℕ → Type 0
  IsAt p = line_at r c p.0 ≡ Some (record { session = n; how = Trial p.1 })

  lines_at : (part : ClientPart) (ps : List (ℕ × ℕ)) → slice_get r.clients c ≡ Some part → AllByRecursion (Stands n 1 part.calls) ps → AllByRecursion IsAt ps
  lines_at part [] e a = tt
  lines_at part (p ∷ ps) e a = (at p a.0, lines_at part ps e a.1)
    where
      at : (p : ℕ × ℕ) → Stands n 1 part.calls p → IsAt p
      at p s = let one : p.0 ≡ suc s.0 = let q = s.1 in omega arith in rw (e, one) s.2

  pub all_at : (part : ClientPart) → slice_get r.clients c ≡ Some part → AllByRecursion IsAt (trial_calls (lines_on n part.calls))
  all_at part e = lines_at part (trial_calls (lines_on n part.calls)) e (lines_stand n 1 part.calls)

-- ---- what an event shows

module _ (ns : Theme) (judge : Judge) (m : Meaning) (r : RunReport) (n : ℕ) (h : List Event) where
  abbrev pub EventFits : Event → Type 0
  EventFits (Report c t j x l) = (line_at r c j ≡ Some (record { session = n; how = Trial t })) × (judge.refusal (point ns h t) ≡ None) × (x ≡ judge.cost (machine_of m c) (point ns h t))
  EventFits (Refused b t cause) = judge.refusal (point ns h t) ≡ Some cause
  EventFits _ = Unit {0}

  build_fits : (b t : ℕ) (o : Option Refusal) → judge.refusal (point ns h t) ≡ o → EventFits (build_event b t o)
  build_fits b t None e = tt
  build_fits b t (Some cause) e = e

  module _ (c : ℕ) (patient : Bool) (machine : CostModel) (same : machine_of m c ≡ machine) where
    answered_fits : (own : List Event) (j : ℕ) (how : How) (es : List Event) → AllByRecursion (IsAt r n c) (trial_call j how) → Answered ns judge c patient machine own h j how es → AllByRecursion EventFits es
    answered_fits own j (Trial t) es l a = subst (AllByRecursion EventFits) (sym a.1) (tt, ((l.0, a.2, ap (λ w. judge.cost w (point ns h t)) (sym same)), tt))
    answered_fits own j (Fresh v w) es l a = subst (AllByRecursion EventFits) (sym a.0) (tt, tt)
    answered_fits own j (Kept v w) es l a = absurd a

    turns_fit : (own : List Event) (j : ℕ) (how : How) (es : List Event) → AllByRecursion (IsAt r n c) (trial_call j how) → Turns ns judge c patient machine own h j how es → AllByRecursion EventFits es
    turns_fit own j how es l (at_once a m) = answered_fits own j how es l a
    turns_fit own j how es l (built v u last p q a) =
        subst (AllByRecursion EventFits) (sym q) (tt, (tt, (build_fits (200 + c) u (refusal_at ns judge h u) refl, answered_fits (own ++ building ns judge c patient machine h v u) j how last l a)))

    call_fits : (before : Option How) (own : List Event) (j : ℕ) (how : How) (g : Gained) → AllByRecursion (IsAt r n c) (trial_call j how) → CallDoes ns judge c patient machine before own h j how g → AllByRecursion EventFits g.events
    call_fits before own j (Trial t) g l d = turns_fit own j (Trial t) g.events l d.1
    call_fits before own j (Fresh v w) g l d = turns_fit own j (Fresh v w) g.events l d.1
    call_fits before own j (Kept v w) g l d = subst (AllByRecursion EventFits) (sym d.2) tt

    front_all : {A : Type 0} (P : A → Type 0) (xs ys : List A) → AllByRecursion P (xs ++ ys) → AllByRecursion P xs
    front_all P [] ys a = tt
    front_all P (x ∷ xs) ys a = (a.0, front_all P xs ys a.1)

    back_all : {A : Type 0} (P : A → Type 0) (xs ys : List A) → AllByRecursion P (xs ++ ys) → AllByRecursion P ys
    back_all P [] ys a = a
    back_all P (x ∷ xs) ys a = back_all P xs ys a.1

    calls_fit : (before : Option How) (own : List Event) (ss : List Step) → AllByRecursion (IsAt r n c) (trial_calls (map (λ s. (s.call, s.how)) ss)) → Calls ns judge c patient machine before own h ss → AllByRecursion EventFits (events_of ss)
    calls_fit before own [] l d = tt
    calls_fit before own (s ∷ ss) l d =
        let rest = trial_calls (map (λ (x : Step). (x.call, x.how)) ss) in
        all-append EventFits s.gained.events (events_of ss)
        (call_fits before own s.call s.how s.gained (front_all (IsAt r n c) (trial_call s.call s.how) rest l) d.0)
        (calls_fit (Some s.how) (own ++ s.gained.events) ss (back_all (IsAt r n c) (trial_call s.call s.how) rest l) d.1)

    pub client_fits : (part : ClientPart) (reads : List ℕ) → slice_get r.clients c ≡ Some part → Conduct ns judge c patient machine h (lines_on n part.calls) (events_by c h) reads → AllByRecursion EventFits (events_by c h)
    client_fits part reads e d = subst (AllByRecursion EventFits) d.so_far.own_are (calls_fit None [] d.so_far.steps (rw d.so_far.lines_are (all_at r n c part e)) d.so_far.calls)

  pub builder_fits : (b : ℕ) (own : List Event) → Builds ns judge b h own → AllByRecursion EventFits own
  builder_fits b [] d = tt
  builder_fits b (Claim a t ∷ []) d = absurd d
  builder_fits b (Claim a t ∷ e ∷ es) d = (tt, (subst EventFits (sym d.1) (build_fits b t (refusal_at ns judge h t) refl), builder_fits b es d.2))
  builder_fits b (Fetch c t v ∷ es) d = absurd d
  builder_fits b (Report c t j x l ∷ es) d = absurd d
  builder_fits b (Good c t ∷ es) d = absurd d
  builder_fits b (Refused c t x ∷ es) d = absurd d
  builder_fits b (Leave c t ∷ es) d = absurd d

  -- ---- what entries show

  pub all_judged : (es : List Event) → AllByRecursion EventFits es → AllByRecursion (IsJudged m judge) (lines_of (point ns h) es)
  all_judged [] a = tt
  all_judged (Report c t j x l ∷ es) a = ((a.0.1, a.0.2), all_judged es a.1)
  all_judged (Refused b t cause ∷ es) a = (a.0, all_judged es a.1)
  all_judged (Fetch c t v ∷ es) a = all_judged es a.1
  all_judged (Claim b t ∷ es) a = all_judged es a.1
  all_judged (Good b t ∷ es) a = all_judged es a.1
  all_judged (Leave c t ∷ es) a = all_judged es a.1

  pub all_name : (es : List Event) → AllByRecursion EventFits es → AllByRecursion (NamesTrial r n) (lines_of (point ns h) es)
  all_name [] a = tt
  all_name (Report c t j x l ∷ es) a = (a.0.0, all_name es a.1)
  all_name (Refused b t cause ∷ es) a = (tt, all_name es a.1)
  all_name (Fetch c t v ∷ es) a = all_name es a.1
  all_name (Claim b t ∷ es) a = all_name es a.1
  all_name (Good b t ∷ es) a = all_name es a.1
  all_name (Leave c t ∷ es) a = all_name es a.1

pub all_points : (at : ℕ → List ℕ) (es : List Event) → AllByRecursion (λ e. e.point ≡ at e.trial) (lines_of at es)
all_points at [] = tt
all_points at (Report c t j x l ∷ es) = (refl, all_points at es)
all_points at (Refused b t cause ∷ es) = (refl, all_points at es)
all_points at (Fetch c t v ∷ es) = all_points at es
all_points at (Claim b t ∷ es) = all_points at es
all_points at (Good b t ∷ es) = all_points at es
all_points at (Leave c t ∷ es) = all_points at es

pub points_of : (ns : Theme) (h : List Event) (es : List EntryLine) → es ≡ lines_of (point ns h) h → AllByRecursion (λ e. e.point ≡ point_at (played (searched_on ns es)) e.trial) es
points_of ns h es e =
    let at = point ns h in
    subst (λ (z : List EntryLine). AllByRecursion (λ (x : EntryLine). x.point ≡ point_at (played (searched_on ns z)) x.trial) z) (sym e)
    (subst (λ (w : List Costed). AllByRecursion (λ (x : EntryLine). x.point ≡ point_at (played (at_entries ns.grid ns.repeat w)) x.trial) (lines_of at h)) (sym (costed_lines at h)) (all_points at h))

-- ---- a session

machine_at : (xs : List Script) (c : ℕ) (s : Script) (d : CostModel) → slice_get xs c ≡ Some s → slice_index_or (map (λ x. x.machine) xs) c d ≡ s.machine
machine_at [] c s d e = absurd (cc)
machine_at (x ∷ xs) zero s d e = let q : x ≡ s = cc in ap (λ (y : Script). y.machine) q
machine_at (x ∷ xs) (suc c) s d e = machine_at xs c s d e

module _ (m : Meaning) (builders : ℕ) (r : RunReport) (n : ℕ) (task : Task) (part : SessionPart) where
  abbrev HasConduct : List Event → ℕ → Script → ClientPart → Type 0
  HasConduct h c s p = (reads : List ℕ) × Conduct task.theme task.judge c s.patient s.machine h (lines_on n p.calls) (events_by c h) reads

  events_fit : (l : SessionLived m builders r n task part) → AllByRecursion (EventFits task.theme task.judge m r n l.history) l.history
  events_fit l = all_events (EventFits task.theme task.judge m r n l.history) (IsWorker (length m.clients) builders) l.history theirs l.all_theirs
    where
      theirs : (c : ℕ) → IsWorker (length m.clients) builders c → AllByRecursion (EventFits task.theme task.judge m r n l.history) (events_by c l.history)
      theirs c (inl few) =
          let e = each_at (HasConduct l.history) 0 c m.clients r.clients l.clients few in
          let z : 0 + c ≡ c = omega arith in
          let q = subst (λ (c : ℕ). HasConduct l.history c e.0 e.1) z e.4 in
          client_fits task.theme task.judge m r n l.history c e.0.patient e.0.machine (machine_at m.clients c e.0 _ e.2) e.1 q.0 e.3 q.1
      theirs c (inr b) = builder_fits task.theme task.judge m r n l.history c (events_by c l.history) (l.builders_did c b.0 b.1).0

  pub session_fits : SessionLived m builders r n task part → IsSearched task.theme part → SessionFits m r n task part
  session_fits l found = record {
    legal = (
      rw shown_are (both (follow task.theme [] l.history) (are_legal task.theme.grid task.theme.repeat (entries l.history)) l.legal).1,
      points_of task.theme l.history part.entries l.entries,
    );
    judged = rw l.entries (all_judged task.theme task.judge m r n l.history l.history (events_fit l));
    searched = found;
    calls_fit = record {
      named = each_second _ _ 0 m.clients r.clients (λ c s p q. all_named c n part.entries p.calls (named_there c s p q)) l.clients;
      names = rw l.entries (all_name task.theme task.judge m r n l.history l.history (events_fit l));
      order = each_second _ _ 0 m.clients r.clients (λ c s p q. in_order c n part.entries p.calls (named_there c s p q)) l.clients;
    };
    versions_fit = each_map _ _ 0 m.clients r.clients (λ c s p q. rw l.entries (versions_fit task.theme task.judge c s.patient s.machine l.history l.legal (point task.theme l.history) (lines_on n p.calls) q.0 (lines_rise n 1 p.calls) q.1)) l.clients;
  }
    where
      shown_are : shown part.entries ≡ entries l.history
      shown_are = ap shown l.entries ∙ costed_lines (point task.theme l.history) l.history

      named_there : (c : ℕ) (s : Script) (p : ClientPart) → HasConduct l.history c s p → named c part.entries ≡ trial_calls (lines_on n p.calls)
      named_there c s p q = ap (named c) l.entries ∙ named_lines task.theme task.judge c s.patient s.machine (point task.theme l.history) l.history (lines_on n p.calls) q.0 q.1

-- ---- the whole report

module _ (m : Meaning) (builders : ℕ) (r : RunReport) where
  sessions_fit : (n : ℕ) (ts : List Task) (ps : List SessionPart) → Each (SessionLived m builders r) n ts ps → Each (λ n t p. IsSearched t.theme p) n ts ps → Each (SessionFits m r) n ts ps
  sessions_fit n [] [] l f = tt
  sessions_fit n [] (p ∷ ps) l f = absurd l
  sessions_fit n (t ∷ ts) [] l f = absurd l
  sessions_fit n (t ∷ ts) (p ∷ ps) l f = (session_fits m builders r n t p l.0 f.0, sessions_fit (suc n) ts ps l.1 f.1)

  -- A report with the deck's parts and stores that has a history behind it, and whose sessions show the search on their entries, fits.
  pub lived_fits : HasParts m r → HasStores m r → Each (λ n t p. IsSearched t.theme p) 0 m.tasks r.sessions → Lived m builders r → Fits m r
  lived_fits parts stores f l = record { parts = parts; stores = stores; sessions = sessions_fit 0 m.tasks r.sessions l f }
