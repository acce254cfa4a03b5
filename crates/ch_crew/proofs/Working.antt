-- How a worker begins on new seats, and what they tell when it has ended.
use Rattle.std.proofs.Common.{◌≡◌, ℕ, ◌≤◌, Bool, true, false, map, Result, Ok, Err, List, ◌++◌, length, take, drop, get_or, refl, sym, ap, ◌∙◌, subst, arith, append-nil}
use Rattle.std.specs.Prelude.{IfOk, OnErr}
use Rattle.std.proofs.lemmas.List.{drop_all, take_all}
use Rattle.ch_book.specs.Books.{seen, reads}
use Rattle.ch_book.specs.declared.book.Book.{Book}
use Rattle.ch_book.specs.declared.seat.Seat.{Seat}
use Rattle.ch_builders.specs.Work.{MayWork, RowWorked, WorkedAt}
use Rattle.ch_builders.specs.declared.job.Outcome.{Outcome}
use Rattle.ch_builders.specs.declared.job.Outcome.TheVariants.{Done, Memory}
use Rattle.ch_client.specs.Arrays.{CellsAre}
use Rattle.ch_client.specs.Stands.{RowBegins, RowEnded, RowRests}
use Rattle.ch_client.specs.declared.client.Log.{Log}
use Rattle.ch_conduct.proofs.Prefixes.{prefix_self}
use Rattle.ch_conduct.specs.Conduct.{Builds}
use Rattle.ch_conduct.specs.Meaning.{Meaning, judge_of}
use Rattle.ch_conduct.specs.declared.report.CallLine.{CallLine}
use Rattle.ch_crew.specs.Did.{AreBooks, BuilderDid, ClientDid, ClientDone, IsReady, PlayedBy}
use Rattle.ch_nest.specs.CostModel.{CostModel}
use Rattle.ch_rows.specs.FirstSeats.{IsBack, IsNew}
use Rattle.ch_crew.specs.declared.crew.Caller.{Caller}
use Rattle.ch_seats.specs.Seated.{theme_in, Sits}
use Rattle.ch_seats.specs.Walk.{Row}
use Rattle.ch_session.specs.declared.event.Event.{Event}
use Rattle.ch_session.specs.declared.session.Session.{Session}
use Rattle.ch_turn.specs.declared.listed.Listed.{Ghosts}

-- what a vector holds after a slice of all of it was written
pub written_back : {A : Type 0} (len : ℕ) (new items : List A) → length items ≡ len → length new ≡ len → take len (new ++ drop (length new) items) ≡ new
written_back len new items e f = ap (λ (v : List _). take len (new ++ v)) (drop_all (length new) items (omega (arith, e, f))) ∙ (ap (take len) (append-nil new) ∙ take_all len new (omega (arith, f)))

-- and where nothing was changed
pub same_back : {A : Type 0} (len : ℕ) (new items : List A) → length items ≡ len → new ≡ items → take len (new ++ drop (length new) items) ≡ items
same_back len new items e f = written_back len new items e (ap length f ∙ e) ∙ f

module _ {V : Type 0} {G : Ghosts (Session V) Event} (m : Meaning) (n : ℕ) (books : List (Book V)) (row : List (Seat V G)) where
  pub builder_begins : (turns : ℕ) (callers : List Caller) → IsReady m turns callers books → Row (IsNew n turns) books row → Row (MayWork m n) books row
  builder_begins turns callers ready r = (
    r.0,
    λ j a b low.
        let h = r.1 j a b low in
        let left = h.1 in
        let some = ready.builders in (
          (ready.books_are j a low, h.0, subst (λ (v : List Event). Builds (theme_in (get_or books j a)) (judge_of m j) n (seen (get_or row j b)) v) (sym h.2) tt),
          ready.grids j a low,
          omega (arith, left, some),
        ),
  )

  pub client_begins : (turns room : ℕ) → room ≤ turns → AreBooks m books → Row (IsNew n turns) books row → RowBegins m n room books row
  client_begins turns room enough are r = (
    r.0,
    λ j a b low.
        let h = r.1 j a b low in
        let left = h.1 in
        ((are j a low, h.0, omega (arith, enough, left)), h.2, h.3),
  )

  back : (j : ℕ) (b : Book V) (s : Seat V G) → Sits n b s → IsBack j b s
  back j b s t = (t.is_of.0, refl, t.is_of.2, t.is_of.3)

  pub builder_back : (o : Outcome) → Row (WorkedAt m n o) books row → Row IsBack books row
  builder_back o r = (r.0, λ j a b low. back j (get_or books j a) (get_or row j b) (r.1 j a b low).1)

  pub rested_back : (room : ℕ) → RowRests m n room books row → Row IsBack books row
  rested_back room r = (r.0, λ j a b low. back j (get_or books j a) (get_or row j b) (r.1 j a b low).1)

  pub ended_back : (patient : Bool) (machine : CostModel) (lines : List CallLine) → RowEnded m n patient machine lines books row → Row IsBack books row
  ended_back patient machine lines r = (r.0, λ j a b low. back j (get_or books j a) (get_or row j b) (r.1 j a b low).1)

  pub builder_did : Row (WorkedAt m n Done) books row → Row (BuilderDid m n) books row
  builder_did r = (
    r.0,
    λ j a b low.
        let h = r.1 j a b low in
        let s = get_or row j b in
        (h.1.holds, (seen s, prefix_self (seen s), h.1.known.0, h.1.known.1, h.2)),
  )

  pub client_did : (patient : Bool) (machine : CostModel) (lines : List CallLine) → RowEnded m n patient machine lines books row → Row (ClientDid m n patient machine lines) books row
  client_did patient machine lines r = (
    r.0,
    λ j a b low.
        let h = r.1 j a b low in
        let s = get_or row j b in
        (h.1.holds, (seen s, reads s, prefix_self (seen s), h.1.known.0, h.1.known.1, h.2)),
  )

  -- by what the calls answer

  pub worked_back : (memory : Bool) → RowWorked m n memory books row → Row IsBack books row
  worked_back true r = builder_back Memory r
  worked_back false r = builder_back Done r

  pub played_back : {E : Type 0} (patient : Bool) (machine : CostModel) (log : Result Log E) → IfOk log (λ l. RowEnded m n patient machine l.lines.items books row) → OnErr log (RowRests m n 0 books row) → Row IsBack books row
  played_back patient machine (Ok l) e r = ended_back patient machine l.lines.items e
  played_back patient machine (Err x) e r = rested_back 0 r

  pub played_did : {E : Type 0} (callers : List Caller) (caller : Caller) (log : Result Log E) → ((c : Caller) → caller ≡ get_or callers n c) → IfOk log (λ l. map (λ x. x.session) l.lines.items ≡ caller.sessions) →
      IfOk log (λ l. RowEnded m n caller.manner.patient caller.manner.machine l.lines.items books row) → IfOk log (λ l. CellsAre m n caller.sessions l.arrays.items) → PlayedBy m n callers books row log
  played_did callers caller (Ok l) is sessions ended arrays = λ c. subst (λ (k : Caller). ClientDone m n k books row l) (is c) (sessions, client_did caller.manner.patient caller.manner.machine l.lines.items ended, arrays)
  played_did callers caller (Err x) is sessions ended arrays = tt
