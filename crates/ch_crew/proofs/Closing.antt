-- From the first seat of a book, with all others taken in, and the closed book's history to what the seats of a session tell together.
use Rattle.std.proofs.Common.{◌≡◌, ℕ, suc, ◌+◌, ◌<◌, ◌≤◌, Bool, true, false, cond, eqb, List, [], ◌∷◌, length, refl, sym, ap, ◌∙◌, subst, arith, ◌⊎◌, inl, inr}
use Rattle.std.specs.List.{AllByRecursion}
use Rattle.std.proofs.lemmas.Bool.{cases_lt}
use Rattle.std.proofs.lemmas.Bool.Decides.{nat_tests}
use Rattle.ch_book.specs.Books.{seen, owns}
use Rattle.ch_book.specs.declared.book.Book.{Book}
use Rattle.ch_book.specs.declared.seat.Seat.{Seat}
use Rattle.ch_conduct.proofs.Judged.{each_map}
use Rattle.ch_conduct.proofs.Prefixes.{prefix_trans}
use Rattle.ch_conduct.specs.Conduct.{Conduct, BuilderConduct}
use Rattle.ch_conduct.specs.Gathered.{Gathered}
use Rattle.ch_conduct.specs.Lines.{Each, lines_on}
use Rattle.ch_conduct.specs.Lived.{IsWorker}
use Rattle.ch_conduct.specs.Meaning.{Meaning, judge_of}
use Rattle.ch_conduct.specs.Places.{events_by}
use Rattle.ch_conduct.specs.declared.report.ClientPart.{ClientPart}
use Rattle.ch_conduct.specs.declared.report.RunReport.{RunReport}
use Rattle.ch_crew.specs.Did.{BuilderDid, ClientDid}
use Rattle.ch_seats.specs.Seated.{theme_in}
use Rattle.ch_session.specs.Growth.{by}
use Rattle.ch_session.specs.History.{is_legal}
use Rattle.ch_session.specs.declared.event.Event.{Event}
use Rattle.ch_session.specs.declared.session.Session.{Session}
use Rattle.ch_turn.specs.History.{IsPrefix}
use Rattle.ch_turn.specs.Holdings.{own_entries}
use Rattle.ch_turn.specs.declared.listed.Listed.{Ghosts}
use Rattle.ch_workload.specs.declared.client.Script.{Script}

each_below : {A B : Type 0} (P : ℕ → A → B → Type 0) (n k : ℕ) (xs : List A) (ys : List B) → k + length xs ≤ n → Each P k xs ys → Each (λ x a b. (x < n) × P x a b) k xs ys
each_below P n k [] [] l e = tt
each_below P n k [] (y ∷ ys) l e = e
each_below P n k (x ∷ xs) [] l e = e
each_below P n k (x ∷ xs) (y ∷ ys) l e = ((omega (arith, l), e.0), each_below P n (suc k) xs ys (omega (arith, l)) e.1)

no_event : (b : Bool) (e : Event) (es : List Event) → b ≡ false → es ≡ [] → cond b (e ∷ es) es ≡ []
no_event b e es f n = ap (λ (v : Bool). cond v (e ∷ es) es) f ∙ n

other_eqb : (x y : ℕ) → x < 65536 → 65536 ≤ y → eqb x y ≡ false
other_eqb x y l u = grind (arith, nat_tests)

-- no event has a number from 65,536 on
none_above : (n : ℕ) (h : List Event) → 65536 ≤ n → AllByRecursion (λ e. by e < 65536) h → events_by n h ≡ []
none_above n [] u m = refl
none_above n (e ∷ h) u m = no_event (eqb (by e) n) e (events_by n h) (other_eqb (by e) n m.0 u) (none_above n h u m.1)

module _ {V : Type 0} {G : Ghosts (Session V) Event} (m : Meaning) (i : ℕ) (b : Book V) (s : Seat V G) (h : List Event) (begins : IsPrefix (seen s) h) (own : (n : ℕ) → n < 65536 → events_by n h ≡ own_entries n (owns s)) where
  abbrev SaysClient : ℕ → Script → ClientPart → Type 0
  SaysClient x script part = (z : List Event) × (reads : List ℕ) × IsPrefix z h × (events_by x z ≡ events_by x h)
      × Conduct (theme_in b) (judge_of m i) x script.patient script.machine z (lines_on i part.calls) (events_by x h) reads

  client_says : (x : ℕ) (script : Script) (part : ClientPart) → (x < 65536) × ClientDid m x script.patient script.machine part.calls i b s → SaysClient x script part
  client_says x script part d =
      let o = own x d.0 in
      let q = d.1.1 in
      (q.0, q.1, prefix_trans q.0 (seen s) h q.2 begins, q.4 ∙ sym o, subst (λ (v : List Event). Conduct (theme_in b) (judge_of m i) x script.patient script.machine q.0 (lines_on i part.calls) v q.1) (sym o) q.5)

  builder_says : (x : ℕ) → x < 65536 → BuilderDid m x i b s → (z : List Event) × IsPrefix z h × (events_by x z ≡ events_by x h) × BuilderConduct (theme_in b) (judge_of m i) x z (events_by x h)
  builder_says x low d =
      let o = own x low in
      let q = d.1 in
      (q.0, prefix_trans q.0 (seen s) h q.1 begins, q.3 ∙ sym o, subst (λ (v : List Event). BuilderConduct (theme_in b) (judge_of m i) x q.0 v) (sym o) q.4)

  -- `legal`, `begins`, `marked` and `own` are what closing the book tells
  pub gathered : (builders : ℕ) (report : RunReport) (program : ℕ) → is_legal (theme_in b) h ≡ true → AllByRecursion (λ e. by e < 65536) h → length m.clients ≤ 100 → builders ≤ 100 →
      Each (λ x script part. ClientDid m x script.patient script.machine part.calls i b s) 0 m.clients report.clients → ((x : ℕ) → 100 ≤ x → x < 100 + builders → BuilderDid m x i b s) →
      ((x : ℕ) → x < 65536 → (IsWorker (length m.clients) builders x → ⊥) → own_entries x (owns s) ≡ []) →
      Gathered m builders report i (record { program = program; theme = theme_in b; judge = judge_of m i }) h
  gathered builders report program legal marked few some clients built others = record {
    legal = legal;
    clients = each_map (λ x script part. (x < 65536) × ClientDid m x script.patient script.machine part.calls i b s) SaysClient 0 m.clients report.clients client_says
        (each_below (λ x script part. ClientDid m x script.patient script.machine part.calls i b s) 65536 0 m.clients report.clients (omega (arith, few)) clients);
    builders_did = λ x low high. builder_says x (omega (arith, high, some)) (built x low high);
    others = λ x no_one. none x no_one (cases_lt x 65536);
  }
    where
      none : (x : ℕ) → (IsWorker (length m.clients) builders x → ⊥) → (x < 65536) ⊎ (65536 ≤ x) → events_by x h ≡ []
      none x no_one (inl l) = own x l ∙ others x l no_one
      none x no_one (inr u) = none_above x h u marked
