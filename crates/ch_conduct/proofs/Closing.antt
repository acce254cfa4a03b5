-- From closed books and the workers' conducts to a report with a history behind it.
use Rattle.std.proofs.Common.{◌≡◌, ℕ, zero, suc, ◌+◌, ◌<◌, ◌≤◌, Bool, true, false, cond, eqb, List, [], ◌∷◌, ◌++◌, length, Option, Some, None, refl, sym, ap, ◌∙◌, subst, arith, ◌⊎◌, inl, inr}
use Rattle.std.specs.Prelude.{filter}
use Rattle.std.specs.List.{AllByRecursion}
use Rattle.std.proofs.lemmas.Bool.{cases_lt}
use Rattle.std.proofs.lemmas.Bool.Decides.{nat_tests}
use Rattle.ch_session.specs.declared.event.Event.{Event}
use Rattle.ch_workload.specs.declared.client.Script.{Script}
use Rattle.ch_conduct.specs.declared.report.ClientPart.{ClientPart}
use Rattle.ch_report.specs.declared.part.SessionPart.{SessionPart}
use Rattle.ch_conduct.specs.declared.report.RunReport.{RunReport}
use Rattle.ch_session.specs.History.{Theme, is_legal}
use Rattle.ch_session.specs.Growth.{by}
use Rattle.ch_conduct.specs.Places.{events_by, point}
use Rattle.ch_conduct.specs.Conduct.{Conduct, BuilderConduct}
use Rattle.ch_conduct.specs.Meaning.{Judge, Task, Meaning}
use Rattle.ch_turn.specs.History.{IsPrefix}
use Rattle.ch_conduct.specs.Lines.{Each, lines_on}
use Rattle.ch_conduct.specs.Gathered.{Gathered}
use Rattle.ch_conduct.specs.Lived.{IsWorker, lines_of, SessionLived, Lived}
use Rattle.ch_conduct.proofs.Prefixes.{legal_prefix}
use Rattle.ch_conduct.proofs.Longer.{conduct_longer, builder_longer}
use Rattle.ch_conduct.proofs.Judged.{each_map}

either_worker : (clients builders n : ℕ) → IsWorker clients builders n ⊎ (IsWorker clients builders n → ⊥)
either_worker clients builders n = at (cases_lt n clients) (cases_lt n 100) (cases_lt n (100 + builders))
  where
    refuse : clients ≤ n → ((100 ≤ n) × (n < 100 + builders) → ⊥) → IsWorker clients builders n → ⊥
    refuse a f (inl x) = absurd (omega arith)
    refuse a f (inr y) = f y

    at : (n < clients) ⊎ (clients ≤ n) → (n < 100) ⊎ (100 ≤ n) → (n < 100 + builders) ⊎ (100 + builders ≤ n) → IsWorker clients builders n ⊎ (IsWorker clients builders n → ⊥)
    at (inl a) b c = inl (inl a)
    at (inr a) (inr b) (inl c) = inl (inr (b, c))
    at (inr a) (inl b) c = inr (refuse a (λ y. let l = y.0 in absurd (omega arith)))
    at (inr a) (inr b) (inr c) = inr (refuse a (λ y. let l = y.1 in absurd (omega arith)))

self_eqb : (j : ℕ) → eqb j j ≡ true
self_eqb j = grind (arith, nat_tests)

some_event : (b : Bool) (e : Event) (es : List Event) → b ≡ true → cond b (e ∷ es) es ≡ [] → ⊥
some_event true e es q n = absurd (cc)
some_event false e es q n = absurd (cc)

empty_tail : (b : Bool) (e : Event) (es : List Event) → cond b (e ∷ es) es ≡ [] → es ≡ []
empty_tail true e es q = absurd (cc)
empty_tail false e es q = q

all_workers : (clients builders : ℕ) (h : List Event) → ((b : ℕ) → (IsWorker clients builders b → ⊥) → events_by b h ≡ []) → AllByRecursion (λ e. IsWorker clients builders (by e)) h
all_workers clients builders [] f = tt
all_workers clients builders (e ∷ h) f = (at (either_worker clients builders (by e)), all_workers clients builders h (λ b q. empty_tail (eqb (by e) b) e (events_by b h) (f b q)))
  where
    at : IsWorker clients builders (by e) ⊎ (IsWorker clients builders (by e) → ⊥) → IsWorker clients builders (by e)
    at (inl w) = w
    at (inr no_one) = absurd (some_event (eqb (by e) (by e)) e (events_by (by e) h) (self_eqb (by e)) (f (by e) no_one))

module _ (m : Meaning) (builders : ℕ) (r : RunReport) where
  pub session_lived : (n : ℕ) (task : Task) (part : SessionPart) (h : List Event) → part.entries ≡ lines_of (point task.theme h) h → Gathered m builders r n task h → SessionLived m builders r n task part
  session_lived n task part h e g = record {
    history = h;
    legal = g.legal;
    entries = e;
    clients = each_map _ _ 0 m.clients r.clients (λ c s p q. (q.1, conduct_longer task.theme task.judge q.0 h q.2 g.legal c s.patient s.machine (lines_on n p.calls) (events_by c h) q.1 (legal_prefix task.theme q.0 h q.2 g.legal) q.3 q.4)) g.clients;
    builders_did = λ b l u. let q = g.builders_did b l u in builder_longer task.theme task.judge q.0 h q.1 g.legal b (events_by b h) (legal_prefix task.theme q.0 h q.1 g.legal) q.2 q.3;
    all_theirs = all_workers (length m.clients) builders h g.others;
  }
