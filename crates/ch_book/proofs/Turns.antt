-- A book's session is the one that it was started with, and its trials keep their points as the history grows.
use Rattle.std.proofs.Common.{◌≡◌, ℕ, ◌+◌, ◌<◌, ◌≤◌, Bool, true, false, ◌&&◌, List, [], ◌∷◌, ◌++◌, length, drop, refl, sym, ap, ◌∙◌, subst, arith, append_assoc, Some, None}
use Rattle.std.proofs.Math.Seq.{drop-append_seam}
use Rattle.std.specs.Arc.{arc_value}
use Rattle.ch_grid.specs.Grid.{sizes}
use Rattle.ch_rank.specs.declared.outcome.Costed.{Costed}
use Rattle.ch_rank.specs.Search.{search_on, point_at}
use Rattle.ch_rank.specs.Entries.{known, may_enter, are_legal_after}
use Rattle.ch_rank.specs.Growth.{Keeps}
use Rattle.ch_session.proofs.Legal.{points_keep}
use Rattle.ch_session.proofs.Lasting.{last_held, last_claimed}
use Rattle.ch_session.specs.declared.event.Event.{Event}
use Rattle.ch_session.specs.declared.replies.Built.{Built}
use Rattle.ch_session.specs.declared.replies.Built.TheVariants as builds
use Rattle.ch_session.specs.Making.{Making}
use Rattle.ch_session.specs.History.{Theme, entries, entry_of, game, trials, follow, is_legal}
use Rattle.ch_session.specs.Replies.{Past, IsAlike, BuiltFits, trial_made}
use Rattle.ch_turn.specs.History.{IsPrefix}
use Rattle.ch_turn.specs.Holdings.{entries_of, has_number, own_entries}
use Rattle.ch_turn.specs.declared.listed.Listed.{Ghosts}
use Rattle.ch_turn.proofs.Numbers.{has_number-with_entries, own_entries-with_entries}
use Rattle.ch_session.specs.declared.session.Session.{Session}
use Rattle.ch_session.specs.Growth.{by}
use Rattle.ch_book.specs.declared.seat.Seat.{Seat}
use Rattle.ch_book.specs.Books.{Holds, IsTurn, owns}
use Rattle.std.specs.Prelude.{Result, Ok, Err, IsOk, nat_le, ◌-◌}
use Rattle.std.proofs.Common.{cond, ◌⊎◌, inl, inr}
use Rattle.std.proofs.lemmas.Bool.Decides.{nat_tests}
use Rattle.ch_session.specs.declared.event.Event.TheVariants.{Claim, Fetch}
use Rattle.ch_session.specs.declared.replies.NotLeased.{NotLeased}
use Rattle.ch_session.specs.declared.replies.NotClaimed.{NotClaimed}
use Rattle.ch_session.specs.History.{is_held_by, is_claimed_by}
use Rattle.ch_session.specs.Growth.{seat_of}
use Rattle.ch_session.specs.Laws.{IsLastBy}
use Rattle.ch_session.specs.Replies.{ReportReply, BuiltReply}
use Rattle.ch_book.specs.declared.book.Book.{Book}
use Rattle.ch_book.specs.Books.{first_of, with_events}

pub same_past : {V : Type 0} (b : Book V) (q : Past) → IsAlike (first_of b) q → with_events b q.events ≡ q
same_past b q e = λ i. record { subject = sym e.0 i; theme = sym e.1 i; events = q.events }

-- a value that was made for a trial by what a seat has seen is made for it
pub made_later : {V : Type 0} (made : V → Making) (b : Book V) (s : List Event) (q : Past) (t : ℕ) (o : Built V) → IsAlike (first_of b) q → is_legal q.theme q.events ≡ true → IsPrefix s q.events → t < trials (first_of b).theme s → BuiltFits made (with_events b s) t o → BuiltFits made q t o
made_later made b s q t (builds.Refused r) e l p h f = tt
made_later made b s q t (builds.Good v) e l p h f =
    let th : Theme = q.theme in
    let same : (first_of b).theme ≡ th = sym e.1 in
    let k : Keeps (game th s).points (game th q.events).points = subst (λ (v : List Event). Keeps (game th s).points (game th v).points) (sym p.1) (points_keep th s p.0 (subst (λ (v : List Event). is_legal th v ≡ true) p.1 l)) in
    let here : t < trials th s = subst (λ (x : Theme). t < trials x s) same h in
    let point : point_at (game th q.events) t ≡ point_at (game th s) t = k.same t here in
    f ∙ ((λ i. trial_made (record { subject = sym e.0 i; theme = sym e.1 i; events = s }) t) ∙ ap (λ (x : List ℕ). record { subject = q.subject; nest = th.nest; origin = Some (record { recipe = th.recipe; grid = th.grid; point = x }) }) (sym point))

-- the seat's last own event is the last of its number in the history that it found
pub last_by : (by : Event → ℕ) (n m : ℕ) (own : List Event) (e : Event) (h : List Event) → entries_of by n h ≡ own → n ≡ m → (before : List Event) × (own ≡ before ++ e ∷ []) → (before : List Event) × (entries_of by m h ≡ before ++ e ∷ [])
last_by by n m own e h mine same last = (last.0, subst (λ (k : ℕ). entries_of by k h ≡ last.0 ++ e ∷ []) same (mine ∙ last.1))

is_refused : (b : Bool) → b ≡ true → b ≡ false → ⊥
is_refused b p q = cc

pub report_taken : {T : Type 0} (q : Past) (c t v : ℕ) (r : Result T NotLeased) → is_legal q.theme q.events ≡ true → IsLastBy c (Fetch c (Some t) v) q.events → ReportReply q c t r → IsOk r
report_taken q c t v (Ok x) l last f = refl
report_taken q c t v (Err e) l last f = absurd (is_refused (is_held_by q.theme q.events c t) (last_held q.theme q.events c t v l last) f.1)

pub built_taken : {T : Type 0} (q : Past) (b t : ℕ) (r : Result T NotClaimed) → is_legal q.theme q.events ≡ true → IsLastBy (seat_of b) (Claim b t) q.events → BuiltReply q b t r → IsOk r
built_taken q b t (Ok x) l last f = refl
built_taken q b t (Err e) l last f = absurd (is_refused (is_claimed_by q.theme q.events b t) (last_claimed q.theme q.events b t l last) f.1)

-- the seat of a builder below 200, or of a client that builds as 200 and its number
pub seat_is : (n b : ℕ) → n < 200 → (b ≡ n) ⊎ (b ≡ 200 + n) → n ≡ seat_of b
seat_is n b h (inl e) = sym (ap (λ (x : Bool). cond x (b - 200) b) (small b (omega (arith, h, e))) ∙ e)
  where
    small : (x : ℕ) → x < 200 → nat_le 200 x ≡ false
    small x p = grind (arith, nat_tests)
seat_is n b h (inr e) = sym (ap (λ (x : Bool). cond x (b - 200) b) (large b (omega (arith, e))) ∙ omega (arith, e))
  where
    large : (x : ℕ) → 200 ≤ x → nat_le 200 x ≡ true
    large x p = grind (arith, nat_tests)

-- after a turn the seat holds the numbers that it held, each with the events that came under it
pub numbers_kept : {V : Type 0} {G : Ghosts (Session V) Event} (b : Book V) (s z : Seat V G) (h added : List Event) → IsTurn b s z h added → (n : ℕ) → Holds s n → Holds z n × (own_entries n (owns z) ≡ own_entries n (owns s) ++ entries_of by n added)
numbers_kept b s z h added t n held = (
  ap (λ (v : List (ℕ × List Event)). has_number n v) t.owns_are ∙ (has_number-with_entries by added n (owns s) ∙ held),
  ap (λ (v : List (ℕ × List Event)). own_entries n v) t.owns_are ∙ own_entries-with_entries by added n (owns s) held,
)
