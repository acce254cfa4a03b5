-- One turn on a book is one turn in the words of a conduct.
use Rattle.std.proofs.Common.{◌≡◌, ℕ, ◌+◌, ◌<◌, ◌≤◌, Bool, true, false, cond, eqb, List, [], ◌∷◌, ◌++◌, Option, Some, None, Result, Ok, Err, refl, sym, ap, ◌∙◌, subst, arith}
use Rattle.std.specs.Prelude.{IfOk}
use Rattle.std.specs.List.{All, AllByRecursion}
use Rattle.std.proofs.lemmas.Bool.Decides.{nat_tests}
use Rattle.std.proofs.lemmas.List.Elements.{All-head, All-tail}
use Rattle.ch_book.proofs.Turns.{numbers_kept, seat_is}
use Rattle.ch_book.specs.Books.{first_of, number_of, seen, reads, owns, Holds, IsLastOwn, IsOf, IsTurn}
use Rattle.ch_book.specs.declared.book.Book.{Book}
use Rattle.ch_book.specs.declared.seat.Seat.{Seat}
use Rattle.ch_conduct.proofs.Prefixes.{by-append}
use Rattle.ch_conduct.specs.Places.{events_by, point}
use Rattle.ch_conduct.specs.Turns.{Knowledge, IsKnown, TookTurn}
use Rattle.ch_rank.specs.Search.{point_at}
use Rattle.ch_seats.specs.Seated.{theme_in, knows, Sits, IsBuilder, FetchedLast, HasJob, ClaimedLast}
use Rattle.ch_session.proofs.Legal.{legal_front}
use Rattle.ch_session.specs.Growth.{by, seat_of}
use Rattle.ch_session.specs.History.{Theme, game, news, trials, is_legal}
use Rattle.ch_session.specs.Replies.{added_by_fetch, added_by_claim, build_event, leave_of}
use Rattle.ch_session.specs.declared.event.Event.{Event}
use Rattle.ch_session.specs.declared.event.Event.TheVariants.{Fetch, Report, Claim, Good, Refused, Leave}
use Rattle.ch_session.specs.declared.replies.Built.{Built}
use Rattle.ch_session.specs.declared.replies.Built.TheVariants as builds
use Rattle.ch_session.specs.declared.replies.ClaimError.{ClaimError}
use Rattle.ch_session.specs.declared.replies.Fetched.{Fetched}
use Rattle.ch_session.specs.declared.replies.Fetched.TheVariants.{Trial, Current}
use Rattle.ch_session.specs.declared.replies.Job.{Job}
use Rattle.ch_session.specs.declared.session.Session.{Session}
use Rattle.ch_turn.specs.Holdings.{own_entries}
use Rattle.ch_turn.specs.declared.listed.Listed.{Ghosts}

by_recursion : {A : Type 0} (P : A → Type 0) (xs : List A) → All P xs → AllByRecursion P xs
by_recursion P [] a = tt
by_recursion P (x ∷ xs) a = (All-head P x xs a, by_recursion P xs (All-tail P x xs a))

module _ {V : Type 0} {G : Ghosts (Session V) Event} where
  -- a turn of a seat of the book
  pub took : (n : ℕ) (b : Book V) (s z : Seat V G) (h added : List Event) → Sits n b s → IsTurn b s z h added → events_by n added ≡ added → TookTurn (theme_in b) n (knows n s) (knows n z) h added
  took n b s z h added t i mine =
      let kept = numbers_kept b s z h added i n t.holds in
      let own : own_entries n (owns z) ≡ own_entries n (owns s) ++ added = kept.1 ∙ ap (λ (x : List Event). own_entries n (owns s) ++ x) mine in
      let met : events_by n h ≡ own_entries n (owns s) = i.owned n t.holds in
      record {
        begins = i.later;
        legal = legal_front (theme_in b) h added i.legal;
        own = met;
        reads_met = by_recursion (λ r. r ≤ news h) (reads s) i.read;
        seen_is = i.seen_is;
        own_is = own;
        reads_are = i.reads_are;
        known = (ap (is_legal (theme_in b)) i.seen_is ∙ i.legal, ap (events_by n) i.seen_is ∙ (by-append n h added ∙ ((λ k. met k ++ mine k) ∙ sym own)));
      }

  pub sits_on : (n : ℕ) (b : Book V) (s z : Seat V G) (h added : List Event) → Sits n b s → IsTurn b s z h added → events_by n added ≡ added → Sits n b z
  sits_on n b s z h added t i mine = record {
    is_of = subst (λ (m : ℕ). IsOf b m z) t.is_of.1 i.seat;
    holds = (numbers_kept b s z h added i n t.holds).0;
    known = (took n b s z h added t i mine).known;
  }

  last_own : (n : ℕ) (b : Book V) (z : Seat V G) (before : List Event) (e : Event) → Sits n b z → own_entries n (owns z) ≡ before ++ e ∷ [] → IsLastOwn e z
  last_own n b z before e t q = (before, subst (λ (m : ℕ). own_entries m (owns z) ≡ before ++ e ∷ []) (sym t.is_of.1) q)

  -- what a fetch or a claim gave is of the seat's last event
  pub fetched_last : {E : Type 0} (n : ℕ) (b : Book V) (s z : Seat V G) (h : List Event) (r : Result (Fetched V) E) → Sits n b z → TookTurn (theme_in b) n (knows n s) (knows n z) h (added_by_fetch n r) → FetchedLast n z r
  fetched_last n b s z h (Ok (Trial t v w)) sits k = last_own n b z (own_entries n (owns s)) (Fetch n (Some t) 0) sits k.own_is
  fetched_last n b s z h (Ok (Current v x w)) sits k = tt
  fetched_last n b s z h (Err e) sits k = tt

  pub claimed_last : (n a : ℕ) (b : Book V) (s z : Seat V G) (h : List Event) (r : Result Job ClaimError) → Sits n b z → TookTurn (theme_in b) n (knows n s) (knows n z) h (added_by_claim a r) → IfOk r (λ j. (j.trial < trials (theme_in b) (seen z)) × (j.point ≡ point_at (game (theme_in b) (seen z)) j.trial)) → ClaimedLast (theme_in b) a z r
  claimed_last n a b s z h (Ok j) sits k f = (last_own n b z (own_entries n (owns s)) (Claim a j.trial) sits k.own_is, f.0, f.1)
  claimed_last n a b s z h (Err e) sits k f = tt

-- ---- what each call adds is the seat's own

self_eqb : (n : ℕ) → eqb n n ≡ true
self_eqb n = grind (arith, nat_tests)

one_event : (n : ℕ) (e : Event) → by e ≡ n → events_by n (e ∷ []) ≡ e ∷ []
one_event n e q = ap (λ (b : Bool). cond b (e ∷ []) []) (ap (λ (m : ℕ). eqb m n) q ∙ self_eqb n)

pub fetch_own : {V E : Type 0} (n : ℕ) (r : Result (Fetched V) E) → events_by n (added_by_fetch n r) ≡ added_by_fetch n r
fetch_own n (Ok (Trial t v w)) = one_event n (Fetch n (Some t) 0) refl
fetch_own n (Ok (Current k v w)) = one_event n (Fetch n None k) refl
fetch_own n (Err e) = refl

pub claim_own : (n b : ℕ) (r : Result Job ClaimError) → n < 200 → IsBuilder n b → events_by n (added_by_claim b r) ≡ added_by_claim b r
claim_own n b (Ok j) l i = one_event n (Claim b j.trial) (sym (seat_is n b l i))
claim_own n b (Err e) l i = refl

pub build_own : {V : Type 0} (n b t : ℕ) (o : Built V) → n < 200 → IsBuilder n b → events_by n (build_event b t o ∷ []) ≡ build_event b t o ∷ []
build_own n b t (builds.Good v) l i = one_event n (Good b t) (sym (seat_is n b l i))
build_own n b t (builds.Refused r) l i = one_event n (Refused b t r) (sym (seat_is n b l i))

pub report_own : (n t j x l : ℕ) → events_by n (Report n t j x l ∷ []) ≡ Report n t j x l ∷ []
report_own n t j x l = one_event n (Report n t j x l) refl

pub leave_own : (n : ℕ) (o : Option ℕ) → events_by n (leave_of n o) ≡ leave_of n o
leave_own n None = refl
leave_own n (Some t) = one_event n (Leave n t) refl
