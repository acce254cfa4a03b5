-- What a seat knows it knows after each of its turns.
use Rattle.std.proofs.Common.{◌≡◌, ℕ, ◌+◌, ◌<◌, ◌≤◌, true, List, [], ◌∷◌, ◌++◌, length, refl, sym, ap, ◌∙◌, subst, arith, append_assoc, All, Some, Bool, false, cond, ltb, slice_index_or}
use Rattle.std.proofs.lemmas.List.Elements.{All-weaker}
use Rattle.std.specs.Arc.{arc_value}
use Rattle.ch_book.specs.declared.book.Book.{Book}
use Rattle.ch_book.specs.declared.seat.Seat.{Seat}
use Rattle.ch_book.specs.Books.{IsOf, IsTurn, first_of, number_of, seen, with_events}
use Rattle.ch_rank.specs.Growth.{Keeps}
use Rattle.ch_rank.specs.Entries.{Searched, played}
use Rattle.ch_rank.specs.Moves.{Point}
use Rattle.ch_rank.specs.Search.{Game, point_at}
use Rattle.ch_session.proofs.Legal.{points_keep}
use Rattle.ch_session.specs.History.{Theme, game, is_legal, searched, trials}
use Rattle.ch_session.specs.Making.{Making}
use Rattle.ch_session.specs.Replies.{BuiltFits, Past, after, trial_made}
use Rattle.ch_session.specs.declared.event.Event.{Event}
use Rattle.ch_session.specs.declared.replies.Built.{Built}
use Rattle.ch_session.specs.declared.replies.Built.TheVariants as builds
use Rattle.ch_session.specs.declared.replies.Job.{Job}
use Rattle.ch_session.specs.declared.session.Session.{Session}
use Rattle.ch_turn.specs.History.{IsPrefix, longer}
use Rattle.ch_turn.specs.declared.listed.Listed.{Ghosts}
use Rattle.ch_sessions.specs.Desks.{DeskFits, IsBuild, IsJob, IsSeat, IsStill, SeatFits, Stays}
use Rattle.ch_sessions.specs.Plans.{IsAbout, IsPlanFor, made_from, making_at, theme_of}
use Rattle.ch_sessions.specs.declared.plan.Course.{Course}
use Rattle.ch_sessions.specs.declared.plan.Plan.{Plan}

-- a trial keeps its number and its point as a legal history goes on
pub job_stays : (th : Theme) (h g : List Event) → is_legal th g ≡ true → IsPrefix h g → (j : Job) → IsJob th h j → IsJob th g j
job_stays th h g l p j f =
    let k : Keeps (game th h).points (game th g).points = subst (λ (v : List Event). Keeps (game th h).points (game th v).points) (sym p.1) (points_keep th h p.0 (subst (λ (v : List Event). is_legal th v ≡ true) p.1 l)) in
    let there : j.trial < trials th g = omega (arith, f.0, k.long) in
    (there, f.1 ∙ sym (k.same j.trial f.0))

module _ {V : Type 0} {G : Ghosts (Session V) Event} where
  -- a seat of the book by another name of its number
  pub own_seat : (b : Book V) (n : ℕ) (s : Seat V G) → IsOf b n s → IsOf b (number_of s) s
  own_seat b n s i = subst (λ (m : ℕ). IsOf b m s) (sym i.1) i

  pub seat_after : (b : Book V) (s z : Seat V G) (h added : List Event) → IsTurn b s z h added → SeatFits b z
  seat_after b s z h added t = record {
    seat = own_seat b (number_of s) z t.seat;
    legal = subst (λ (v : List Event). is_legal (first_of b).theme v ≡ true) (sym t.seen_is) t.legal;
  }

  pub still_after : (b : Book V) (s z : Seat V G) (h added : List Event) → IsTurn b s z h added → IsStill b s z
  still_after b s z h added t = (seat_after b s z h added t, t.seat.1)

  pub still_then : (b : Book V) (s y z : Seat V G) → IsStill b s y → IsStill b y z → IsStill b s z
  still_then b s y z p q = (q.0, q.1 ∙ p.1)

  -- a seat that has seen what another one has, with a number of its own
  pub seat_alike : (b : Book V) (n : ℕ) (s z : Seat V G) → IsOf b n z → seen z ≡ seen s → SeatFits b s → IsSeat b n z
  seat_alike b n s z i e f = (
    record {
      seat = own_seat b n z i;
      legal = subst (λ (v : List Event). is_legal (first_of b).theme v ≡ true) (sym e) f.legal;
    },
    i.1,
  )

module _ {G : Ghosts (Session Plan) Event} where
  pub seen_later : (b : Book Plan) (s z : Seat Plan G) (h added : List Event) → IsTurn b s z h added → IsPrefix (seen s) (seen z)
  seen_later b s z h added t = (t.later.0 ++ added, t.seen_is ∙ (ap (λ (v : List Event). v ++ added) t.later.1 ∙ append_assoc (seen s) t.later.0 added))

  pub desk_after : (b : Book Plan) (s z : Seat Plan G) (jobs : List Job) (h added : List Event) → IsTurn b s z h added → DeskFits b s jobs → DeskFits b z jobs
  desk_after b s z jobs h added t f =
      let th : Theme = (first_of b).theme in
      let after : SeatFits b z = seat_after b s z h added t in
      record {
        seat = after;
        jobs = All-weaker (IsJob th (seen s)) (IsJob th (seen z)) (job_stays th (seen s) (seen z) after.legal (seen_later b s z h added t)) jobs f.jobs;
      }

  pub stays_after : (b : Book Plan) (s z : Seat Plan G) (jobs : List Job) (h added : List Event) → IsTurn b s z h added → DeskFits b s jobs → Stays b s z jobs
  stays_after b s z jobs h added t f = (desk_after b s z jobs h added t f, t.seat.1)

  pub desk_read : (b : Book Plan) (s z : Seat Plan G) (jobs : List Job) → IsOf b (number_of s) z → seen z ≡ seen s → DeskFits b s jobs → DeskFits b z jobs
  desk_read b s z jobs i e f = record {
    seat = (seat_alike b (number_of s) s z i e f.seat).0;
    jobs = subst (λ (v : List Event). All (IsJob (first_of b).theme v) jobs) (sym e) f.jobs;
  }

  pub stays_read : (b : Book Plan) (s z : Seat Plan G) (jobs : List Job) → IsOf b (number_of s) z → seen z ≡ seen s → DeskFits b s jobs → Stays b s z jobs
  stays_read b s z jobs i e f = (desk_read b s z jobs i e f, i.1)

-- a trial of the session's search, with its point
pub job_here : (p : Past) (s : Searched) (t : ℕ) (x : Point) → s ≡ record (searched p.theme p.events) { spare = s.spare } → t < length (played s).points → x ≡ slice_index_or (played s).points t [] → IsJob p.theme p.events (record { trial = t; point = x })
job_here p s t x e h k =
    let g : played s ≡ game p.theme p.events = ap (λ (v : Searched). played v) e in
    (subst (λ (v : Game). t < length v.points) g h, k ∙ ap (λ (v : Game). slice_index_or v.points t []) g)

-- the first seat of a book round a session without events
pub first_seat : {V : Type 0} {G : Ghosts (Session V) Event} (b : Book V) (s : Seat V G) (p : Past) → first_of b ≡ p → p.events ≡ [] → is_legal p.theme p.events ≡ true → IsOf b 65535 s → seen s ≡ [] → IsSeat b 65535 s
first_seat b s p e n l i v =
    let h : seen s ≡ p.events = v ∙ sym n in (
      record {
        seat = own_seat b 65535 s i;
        legal = (λ i. is_legal (e i).theme (h i)) ∙ l;
      },
      i.1,
    )

-- a new seat knows the jobs of the first simplex
pub desk_made : {G : Ghosts (Session Plan) Event} (b : Book Plan) (s : Seat Plan G) (jobs copies : List Job) → SeatFits b s → copies ≡ jobs → All (IsJob (first_of b).theme []) jobs → DeskFits b s copies
desk_made b s jobs copies f e k = record {
  seat = f;
  jobs = subst (λ (v : List Job). All (IsJob (first_of b).theme (seen s)) v) (sym e) (All-weaker (IsJob (first_of b).theme []) (IsJob (first_of b).theme (seen s)) (job_stays (first_of b).theme [] (seen s) f.legal (seen s, refl)) jobs k);
}

legal_longer : (th : Theme) (xs ys : List Event) → is_legal th xs ≡ true → is_legal th ys ≡ true → is_legal th (longer xs ys) ≡ true
legal_longer th xs ys p q = at (ltb (length xs) (length ys))
  where
    at : (c : Bool) → is_legal th (cond c ys xs) ≡ true
    at true = q
    at false = p

-- a seat that has taken another one in
pub seat_joined : {V : Type 0} {G : Ghosts (Session V) Event} (b : Book V) (n : ℕ) (s o z : Seat V G) → IsOf b (number_of s) z → seen z ≡ longer (seen s) (seen o) → IsSeat b n s → SeatFits b o → IsSeat b n z
seat_joined b n s o z i e f g = (
  record {
    seat = own_seat b (number_of s) z i;
    legal = subst (λ (v : List Event). is_legal (first_of b).theme v ≡ true) (sym e) (legal_longer (first_of b).theme (seen s) (seen o) f.0.legal g.legal);
  },
  i.1 ∙ f.1,
)

-- what was built at the job's point fits its trial
pub build_fits : (c : Course) (p : Past) (j : Job) (o : Built Plan) → IsAbout c p → IsJob p.theme p.events j → IsPlanFor (theme_of c) j.point o → IsBuild p j.trial o
build_fits c p j (builds.Refused r) a f m = (f.0, tt)
build_fits c p j (builds.Good v) a f m =
    let x : Point = point_at (game p.theme p.events) j.trial in
    let made : made_from (arc_value v) ≡ making_at p.theme x = m ∙ (ap (λ (th : Theme). making_at th j.point) (sym a.1) ∙ ap (λ (y : Point). making_at p.theme y) f.1) in
    (f.0, made ∙ ap (λ (n : ℕ). record (making_at p.theme x) { subject = n }) (sym a.0))

-- a session is about the same course whatever its calls add
pub about_after : (c : Course) (p q : Past) (more : List Event) → IsAbout c p → q ≡ after p more → IsAbout c q
about_after c p q more a e = (ap (λ (x : Past). x.subject) e ∙ a.0, ap (λ (x : Past). x.theme) e ∙ a.1)
