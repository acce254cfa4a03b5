-- What was done stays done when other seats are taken in.
use Rattle.std.proofs.Common.{◌≡◌, ◌≢◌, ℕ, ◌+◌, ◌*◌, ◌<◌, ◌≤◌, Bool, List, [], ◌∷◌, ◌++◌, length, get_or, Result, Ok, Err, sym, ap, ◌∙◌, subst, arith}
use Rattle.std.specs.Prelude.{IsOkAnd}
use mathlib.Core.Logic.{dite}
use native.Mathlib.Decide.{ℕ_discrete}
use Rattle.std.proofs.Math.ListN.{get_or-append}
use Rattle.std.proofs.Math.Nat.{add-mul, mul-le-mul_right, one-mul}
use Rattle.std.proofs.Math.Seq.{get_or-append_seam}
use Rattle.std.proofs.Common.{length-append}
use Rattle.ch_book.specs.Books.{seen}
use Rattle.ch_book.specs.declared.book.Book.{Book}
use Rattle.ch_book.specs.declared.seat.Seat.{Seat}
use Rattle.ch_client.specs.declared.client.Log.{Log}
use Rattle.ch_conduct.proofs.Prefixes.{prefix_trans}
use Rattle.ch_conduct.specs.Conduct.{Conduct, BuilderConduct}
use Rattle.ch_conduct.specs.Lines.{lines_on}
use Rattle.ch_conduct.specs.Meaning.{Meaning, judge_of}
use Rattle.ch_conduct.specs.declared.report.CallLine.{CallLine}
use Rattle.ch_crew.specs.Did.{BuilderDid, BuildersDone, ClientDid, ClientDone, ClientsDone, PlayedBy}
use Rattle.ch_nest.specs.CostModel.{CostModel}
use Rattle.ch_rows.proofs.Kept.{row_kept}
use Rattle.ch_rows.specs.FirstSeats.{IsFirst, Keeps, MayCut}
use Rattle.ch_crew.specs.declared.crew.Caller.{Caller}
use Rattle.ch_seats.specs.Seated.{theme_in}
use Rattle.ch_seats.specs.Walk.{Row}
use Rattle.ch_session.specs.declared.event.Event.{Event}
use Rattle.ch_session.specs.declared.session.Session.{Session}
use Rattle.ch_turn.specs.declared.listed.Listed.{Ghosts}

module _ {V : Type 0} {G : Ghosts (Session V) Event} (books : List (Book V)) (old new : List (Seat V G)) where
  module _ (m : Meaning) where
    pub builder_kept : (x : ℕ) → Row (Keeps x) old new → Row (BuilderDid m x) books old → Row (BuilderDid m x) books new
    builder_kept x k r = row_kept (BuilderDid m x) (Keeps x) at books old new r k
      where
        at : (j : ℕ) (b : Book V) (s z : Seat V G) → Keeps x j s z → BuilderDid m x j b s → BuilderDid m x j b z
        at j b s z q d = let h = q d.0 in (h.0, (d.1.0, prefix_trans d.1.0 (seen s) (seen z) d.1.1 h.2, d.1.2, d.1.3 ∙ sym h.1, subst (λ (v : List Event). BuilderConduct (theme_in b) (judge_of m j) x d.1.0 v) (sym h.1) d.1.4))

    client_kept : (x : ℕ) (patient : Bool) (machine : CostModel) (lines : List CallLine) → Row (Keeps x) old new → Row (ClientDid m x patient machine lines) books old → Row (ClientDid m x patient machine lines) books new
    client_kept x patient machine lines k r = row_kept (ClientDid m x patient machine lines) (Keeps x) at books old new r k
      where
        at : (j : ℕ) (b : Book V) (s z : Seat V G) → Keeps x j s z → ClientDid m x patient machine lines j b s → ClientDid m x patient machine lines j b z
        at j b s z q d = let h = q d.0 in (
          h.0,
          (
            d.1.0,
            d.1.1,
            prefix_trans d.1.0 (seen s) (seen z) d.1.2 h.2,
            d.1.3,
            d.1.4 ∙ sym h.1,
            subst (λ (v : List Event). Conduct (theme_in b) (judge_of m j) x patient machine d.1.0 (lines_on j lines) v d.1.1) (sym h.1) d.1.5,
          ),
        )

    pub done_kept : (x : ℕ) (c : Caller) (log : Log) → Row (Keeps x) old new → ClientDone m x c books old log → ClientDone m x c books new log
    done_kept x c log k d = (d.0, client_kept x c.manner.patient c.manner.machine log.lines.items k d.1, d.2)

    pub clients_kept : (n : ℕ) (callers : List Caller) (logs : List Log) → ((x : ℕ) → Row (Keeps x) old new) → ClientsDone m n callers books old logs → ClientsDone m n callers books new logs
    clients_kept n callers logs k d = (d.0, λ x c l low. done_kept x (get_or callers x c) (get_or logs x l) (k x) (d.1 x c l low))

    pub builders_kept : (k n : ℕ) → ((x : ℕ) → Row (Keeps x) old new) → BuildersDone m k n books old → BuildersDone m k n books new
    builders_kept k n q d = λ x high low. builder_kept x (q x) (d x high low)

-- ---- one more

module _ {V : Type 0} {G : Ghosts (Session V) Event} (books : List (Book V)) (seats : List (Seat V G)) (m : Meaning) where
  pub one_client_more : (n : ℕ) (callers : List Caller) (logs : List Log) (log : Log) → ClientsDone m n callers books seats logs → ((c : Caller) → ClientDone m n (get_or callers n c) books seats log) → ClientsDone m (n + 1) callers books seats (logs ++ log ∷ [])
  one_client_more n callers logs log d new = (length-append logs (log ∷ []) ∙ ap (λ (k : ℕ). k + 1) d.0, λ x c l low. dite (ℕ_discrete x n) (here x c l) (there x c l low))
    where
      here : (x : ℕ) (c : Caller) (l : Log) → x ≡ n → ClientDone m x (get_or callers x c) books seats (get_or (logs ++ log ∷ []) x l)
      here x c l e = subst (λ (k : ℕ). ClientDone m k (get_or callers k c) books seats (get_or (logs ++ log ∷ []) k l)) (d.0 ∙ sym e)
          (subst (λ v. ClientDone m (length logs) (get_or callers (length logs) c) books seats v) (sym (get_or-append_seam logs log [] l)) (subst (λ (k : ℕ). ClientDone m k (get_or callers k c) books seats log) (sym d.0) (new c)))

      there : (x : ℕ) (c : Caller) (l : Log) → x < n + 1 → x ≢ n → ClientDone m x (get_or callers x c) books seats (get_or (logs ++ log ∷ []) x l)
      there x c l low ne =
          let under : x < n = omega (arith, ne) in
          subst (λ v. ClientDone m x (get_or callers x c) books seats v) (sym (get_or-append logs (log ∷ []) l x (subst (λ (k : ℕ). x < k) (sym d.0) under))) (d.1 x c l under)

  pub one_builder_more : (k n : ℕ) → Row (BuilderDid m k) books seats → BuildersDone m (k + 1) n books seats → BuildersDone m k n books seats
  one_builder_more k n new d = λ x high low. dite (ℕ_discrete x k) (λ e. subst (λ (y : ℕ). Row (BuilderDid m y) books seats) (sym e) new) (λ ne. d x (omega (arith, ne)) low)

module _ {V : Type 0} {G : Ghosts (Session V) Event} (books : List (Book V)) (row old new : List (Seat V G)) (theirs : (x : ℕ) → Row (Keeps x) row new) (ours : (x : ℕ) → Row (Keeps x) old new) (m : Meaning) where
  -- a client whose seats are taken in, behind those before it
  pub client_added : {E : Type 0} (c : ℕ) (callers : List Caller) (logs more : List Log) (log : Result Log E) → IsOkAnd log (λ l. more ≡ logs ++ l ∷ []) → PlayedBy m c callers books row log → ClientsDone m c callers books old logs →
      ClientsDone m (c + 1) callers books new more
  client_added c callers logs more (Ok l) is p d = subst (λ (v : List Log). ClientsDone m (c + 1) callers books new v) (sym is)
      (one_client_more books new m c callers logs l (clients_kept books old new m c callers logs ours d) (λ x. done_kept books row new m c (get_or callers c x) l (theirs c) (p x)))
  client_added c callers logs more (Err e) is p d = absurd is

  -- a builder whose seats are taken in, behind those after it
  pub builder_added : (k n : ℕ) → Row (BuilderDid m k) books row → BuildersDone m (k + 1) n books old → BuildersDone m k n books new
  builder_added k n new_one d = one_builder_more books new m k n (builder_kept books row new m k (theirs k) new_one) (builders_kept books old new m (k + 1) n ours d)

-- ---- first seats that have seen nothing

share : (k n turns : ℕ) → k + 1 ≡ n → k * turns + turns ≡ n * turns
share k n turns e = sym (add-mul k 1 turns ∙ ap (λ (v : ℕ). k * turns + v) (one-mul turns)) ∙ ap (λ (v : ℕ). v * turns) e

module _ {V : Type 0} {G : Ghosts (Session V) Event} (books : List (Book V)) (seats : List (Seat V G)) where
  pub may_first : (turns : ℕ) → Row (MayCut turns) books seats → Row IsFirst books seats
  may_first turns r = (r.0, λ j a b low. (r.1 j a b low).0)

  pub may_fewer : (some turns : ℕ) → some ≤ turns → Row (MayCut turns) books seats → Row (MayCut some) books seats
  may_fewer some turns l r = (
    r.0,
    λ j a b low.
        let h = r.1 j a b low in
        let room = h.3 in
        (h.0, h.1, h.2, omega (arith, l, room)),
  )

  -- with turns for so many workers there are turns for fewer, for one of them, and for the others
  pub may_share : (some all turns : ℕ) → some ≤ all → Row (MayCut (all * turns)) books seats → Row (MayCut (some * turns)) books seats
  may_share some all turns l r = may_fewer (some * turns) (all * turns) (mul-le-mul_right turns l) r

  pub may_one : (k n turns : ℕ) → k + 1 ≡ n → Row (MayCut (n * turns)) books seats → Row (MayCut turns) books seats
  may_one k n turns e r = let s = share k n turns e in may_fewer turns (n * turns) (omega (arith, s)) r

  pub may_others : (k n turns : ℕ) → k + 1 ≡ n → Row (MayCut (n * turns)) books seats → Row (MayCut (k * turns + turns)) books seats
  may_others k n turns e r = let s = share k n turns e in may_fewer (k * turns + turns) (n * turns) (omega (arith, s)) r
