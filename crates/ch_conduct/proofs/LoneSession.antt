-- A session that one client alone calls, with no builder: its history, that client's lines there and its part are the function's.
use Rattle.std.proofs.Common.{◌≡◌, ◌≢◌, ℕ, zero, suc, ◌+◌, ◌<◌, ◌≤◌, Bool, true, false, cond, eqb, List, [], ◌∷◌, ◌++◌, map, length, Option, Some, None, refl, sym, ap, ◌∙◌, subst, arith, ◌⊎◌, inl, inr}
use Rattle.std.specs.Prelude.{slice_get}
use Rattle.std.specs.List.{AllByRecursion}
use Rattle.std.proofs.lemmas.Bool.Decides.{nat_tests}
use Rattle.ch_rank.specs.declared.outcome.Costed.{Costed}
use Rattle.ch_session.specs.declared.event.Event.{Event}
use Rattle.ch_workload.specs.declared.client.Script.{Script}
use Rattle.ch_conduct.specs.declared.report.How.{How}
use Rattle.ch_conduct.specs.declared.report.ClientPart.{ClientPart}
use Rattle.ch_report.specs.declared.part.SessionPart.{SessionPart}
use Rattle.ch_conduct.specs.declared.report.RunReport.{RunReport}
use Rattle.ch_nest.specs.CostModel.{CostModel}
use Rattle.ch_session.specs.History.{Theme, entries, is_legal}
use Rattle.ch_session.specs.Growth.{by}
use Rattle.ch_rank.specs.Entries.{at_entries}
use Rattle.ch_report.specs.Summary.{summary}
use Rattle.ch_report.specs.declared.part.EntryLine.{EntryLine}
use Rattle.ch_conduct.specs.Places.{events_by, point}
use Rattle.ch_conduct.specs.Conduct.{Step, events_of, Conduct}
use Rattle.ch_conduct.specs.Meaning.{Judge, Task, Meaning}
use Rattle.ch_conduct.specs.Lines.{Each, lines_on, costed_of}
use Rattle.ch_conduct.specs.Fits.{IsSearched, shown, searched_on}
use Rattle.ch_conduct.specs.Lived.{IsWorker, lines_of, SessionLived}
use Rattle.ch_conduct.specs.Solo.{AllPlayed, solo, part_of}
use Rattle.ch_conduct.proofs.Versions.{costed_lines}
use Rattle.ch_conduct.proofs.Judged.{each_at, all_events}
use Rattle.ch_conduct.proofs.Lone.{sole_events, solo_is}

own_by : (c : ℕ) (h : List Event) → AllByRecursion (λ e. by e ≡ c) (events_by c h)
own_by c [] = tt
own_by c (e ∷ h) = at (eqb (by e) c) refl (own_by c h)
  where
    at : (b : Bool) → eqb (by e) c ≡ b → AllByRecursion (λ x. by x ≡ c) (events_by c h) → AllByRecursion (λ x. by x ≡ c) (cond b (e ∷ events_by c h) (events_by c h))
    at true q a = (same (by e) c q, a)
      where
        same : (x y : ℕ) → eqb x y ≡ true → x ≡ y
        same x y q = grind (arith, nat_tests)
    at false q a = a

-- a client without lines on the session has no events there
abbrev step_line : Step → ℕ × How
step_line s = (s.call, s.how)

no_steps : (ss : List Step) → map step_line ss ≡ [] → events_of ss ≡ []
no_steps [] e = refl
no_steps (s ∷ ss) e = absurd (cc)

no_events : (ns : Theme) (judge : Judge) (c : ℕ) (patient : Bool) (machine : CostModel) (h : List Event) (lines : List (ℕ × How)) (own : List Event) (reads : List ℕ) → lines ≡ [] → Conduct ns judge c patient machine h lines own reads → own ≡ []
no_events ns judge c patient machine h lines own reads e d = sym d.so_far.own_are ∙ no_steps d.so_far.steps (d.so_far.lines_are ∙ e)

either_same : (x y : ℕ) → (x ≡ y) ⊎ (x ≢ y)
either_same x y = at (eqb x y) refl
  where
    at : (b : Bool) → eqb x y ≡ b → (x ≡ y) ⊎ (x ≢ y)
    at true q = inl (grind (arith, nat_tests))
    at false q = inr (λ e. grind (arith, nat_tests))

same_some : {A : Type 0} (x y : A) (o : Option A) → o ≡ Some x → o ≡ Some y → x ≡ y
same_some x y o e f = cc

there : {A : Type 0} (xs : List A) (i : ℕ) (x : A) → slice_get xs i ≡ Some x → i < length xs
there [] i x e = absurd (cc)
there (y ∷ ys) zero x e = omega arith
there (y ∷ ys) (suc i) x e = let r = there ys i x e in omega (arith, r)

module _ (m : Meaning) (r : RunReport) (n : ℕ) (task : Task) (part : SessionPart) (l : SessionLived m 0 r n task part) (c : ℕ) (script : Script) (lines : ClientPart) (is : slice_get m.clients c ≡ Some script) (his : slice_get r.clients c ≡ Some lines)
    (alone : (b : ℕ) (p : ClientPart) → slice_get r.clients b ≡ Some p → b ≢ c → lines_on n p.calls ≡ []) where
  abbrev HasConduct : ℕ → Script → ClientPart → Type 0
  HasConduct b s p = (reads : List ℕ) × Conduct task.theme task.judge b s.patient s.machine l.history (lines_on n p.calls) (events_by b l.history) reads

  abbrev Acted : ℕ → Type 0
  Acted b = (s : Script) × (p : ClientPart) × (slice_get m.clients b ≡ Some s) × (slice_get r.clients b ≡ Some p) × HasConduct b s p

  acted : (b : ℕ) → b < length m.clients → Acted b
  acted b low = let e = each_at HasConduct 0 b m.clients r.clients l.clients low in let z : 0 + b ≡ b = omega arith in (e.0, e.1, e.2, e.3, subst (λ (x : ℕ). HasConduct x e.0 e.1) z e.4)

  mine : HasConduct c script lines
  mine =
      let a = acted c (there m.clients c script is) in
      let s = same_some a.0 script (slice_get m.clients c) a.2 is in
      let p = same_some a.1 lines (slice_get r.clients c) a.3 his in
      subst (λ (x : Script). HasConduct c x lines) s (subst (λ (y : ClientPart). HasConduct c a.0 y) p a.4)

  sole : AllByRecursion (λ e. by e ≡ c) l.history
  sole = all_events (λ e. by e ≡ c) (IsWorker (length m.clients) 0) l.history theirs l.all_theirs
    where
      one : (b : ℕ) → b < length m.clients → (b ≡ c) ⊎ (b ≢ c) → AllByRecursion (λ e. by e ≡ c) (events_by b l.history)
      one b low (inl e) = rw e (own_by c l.history)
      one b low (inr e) = let a = acted b low in rw (no_events task.theme task.judge b a.0.patient a.0.machine l.history (lines_on n a.1.calls) (events_by b l.history) a.4.0 (alone b a.1 a.3 e) a.4.1) tt

      theirs : (b : ℕ) → IsWorker (length m.clients) 0 b → AllByRecursion (λ e. by e ≡ c) (events_by b l.history)
      theirs b (inl low) = one b low (either_same b c)
      theirs b (inr w) = let x = w.0 in let y = w.1 in absurd (omega arith)

  -- the history and the lines
  pub lone_lines : solo task.theme task.judge c script.patient script.machine (map (λ x. x.0) (lines_on n lines.calls)) ≡ record { history = l.history; lines = lines_on n lines.calls }
  lone_lines = solo_is task.theme task.judge c script.patient script.machine l.history l.legal sole (lines_on n lines.calls) (events_by c l.history) mine.0 (sole_events c l.history sole) mine.1

-- a part that shows the search on the entries of a history
pub part_is : (m : Meaning) (builders : ℕ) (r : RunReport) (n : ℕ) (task : Task) (part : SessionPart) (l : SessionLived m builders r n task part) → IsSearched task.theme part → part ≡ part_of task.theme l.history
part_is m builders r n task part l f =
    let es : List EntryLine = lines_of (point task.theme l.history) l.history in
    f ∙ (ap (λ (x : List EntryLine). summary (searched_on task.theme x) x) l.entries
    ∙ ap (λ x. summary (at_entries task.theme.grid task.theme.repeat x) es) (costed_lines (point task.theme l.history) l.history))
