-- A conduct stays one when more of the history is seen.
use Rattle.std.proofs.Common.{◌≡◌, ℕ, zero, suc, ◌+◌, ◌<◌, ◌≤◌, Bool, true, false, cond, eqb, List, [], ◌∷◌, ◌++◌, map, length, Option, Some, None, refl, sym, ap, ◌∙◌, subst, arith, append_assoc, append-nil, ◌⊎◌, inl, inr}
use Rattle.std.specs.Prelude.{filter}
use Rattle.std.specs.List.{AllByRecursion}
use Rattle.ch_turn.specs.History.{IsPrefix}
use Rattle.ch_session.specs.declared.event.Event.{Event}
use Rattle.ch_session.specs.declared.event.Event.TheVariants.{Fetch, Report, Claim, Good, Refused, Leave}
use Rattle.ch_session.specs.History.{Theme, trials, news, claim_gives, is_legal}
use Rattle.ch_session.specs.Growth.{by, news_grow}
use Rattle.ch_session.specs.Laws.{NamesBelow, AllBelow}
use Rattle.ch_conduct.proofs.Among.{all_among}
use Rattle.ch_nest.specs.CostModel.{CostModel}
use Rattle.ch_conduct.specs.declared.report.How.{How}
use Rattle.ch_conduct.specs.declared.report.How.TheVariants.{Trial, Fresh, Kept}
use Rattle.ch_conduct.specs.Conduct.{Gained, Step, events_of, reads_of, build_event, refusal_at, building, Answered, MayStay, Turns, CallDoes, Calls, Conducted, Conduct, Builds, BuildsSoFar, BuilderConduct}
use Rattle.ch_conduct.specs.Meaning.{Judge}
use Rattle.ch_conduct.specs.Places.{events_by, point, IsNext, MetNoneOpen}
use Rattle.ch_conduct.specs.Conduct.Turns.{at_once, built}
use Rattle.ch_conduct.proofs.Prefixes.{prefix_trans, prefix_front, point_stays}

-- ---- lists

all_filter : {A : Type 0} (P : A → Type 0) (p : A → Bool) (xs : List A) → AllByRecursion P xs → AllByRecursion P (filter p xs)
all_filter P p [] a = tt
all_filter P p (x ∷ xs) a = at (p x) (all_filter P p xs a.1)
  where
    at : (b : Bool) → AllByRecursion P (filter p xs) → AllByRecursion P (cond b (x ∷ filter p xs) (filter p xs))
    at true r = (a.0, r)
    at false r = r

all_imply : {A : Type 0} (P Q : A → Type 0) (xs : List A) → ((x : A) → P x → Q x) → AllByRecursion P xs → AllByRecursion Q xs
all_imply P Q [] f a = tt
all_imply P Q (x ∷ xs) f a = (f x a.0, all_imply P Q xs f a.1)

all_front : {A : Type 0} (P : A → Type 0) (xs ys : List A) → AllByRecursion P (xs ++ ys) → AllByRecursion P xs
all_front P [] ys a = tt
all_front P (x ∷ xs) ys a = (a.0, all_front P xs ys a.1)

all_back : {A : Type 0} (P : A → Type 0) (xs ys : List A) → AllByRecursion P (xs ++ ys) → AllByRecursion P ys
all_back P [] ys a = a
all_back P (x ∷ xs) ys a = all_back P xs ys a.1

all_below : (n : ℕ) (h : List Event) → AllBelow n h → AllByRecursion (NamesBelow n) h
all_below n [] a = tt
all_below n (e ∷ h) a = (a.0, all_below n h a.1)

among_all : (th : Theme) (h : List Event) → is_legal th h ≡ true → AllByRecursion (NamesBelow (trials th h)) h
among_all th h l = all_below (trials th h) h (all_among th h l)

module _ (th : Theme) where
  -- ---- what is said of a history holds of a longer one

  pub none_open_longer : (n : ℕ) (own h k : List Event) → IsPrefix h k → MetNoneOpen th n own h → MetNoneOpen th n own k
  none_open_longer n own h k p m = (m.0, prefix_trans m.0 h k m.1 p, m.2, m.3)

  module _ (judge : Judge) (h k : List Event) (p : IsPrefix h k) (whole : is_legal th k ≡ true) where
    same_refusal : (t : ℕ) → t < trials th h → refusal_at th judge k t ≡ refusal_at th judge h t
    same_refusal t l = ap judge.refusal (point_stays th h k t p whole l)

    module _ (c : ℕ) (patient : Bool) (machine : CostModel) where
      answered_longer : (own : List Event) (j : ℕ) (how : How) (es : List Event) → AllByRecursion (NamesBelow (trials th h)) es → Answered th judge c patient machine own h j how es → Answered th judge c patient machine own k j how es
      answered_longer own j (Trial t) es l a =
          let among : AllByRecursion (NamesBelow (trials th h)) (Fetch c (Some t) 0 ∷ Report c t j (judge.cost machine (point th h t)) a.0 ∷ []) = subst (AllByRecursion (NamesBelow (trials th h))) a.1 l in
          let low : t < trials th h = among.0 in
          (a.0, a.1 ∙ ap (λ x. Fetch c (Some t) 0 ∷ Report c t j (judge.cost machine x) a.0 ∷ []) (sym (point_stays th h k t p whole low)), same_refusal t low ∙ a.2)
      answered_longer own j (Fresh v w) es l a = (a.0, (a.1.0, (prefix_trans (a.1.0 ++ Fetch c None v ∷ []) h k a.1.1.0 p, a.1.1.1), a.1.2))
      answered_longer own j (Kept v w) es l a = absurd a

      may_stay_longer : (b : Bool) (how : How) (own : List Event) → MayStay th judge c patient machine b how own h → MayStay th judge c patient machine b how own k
      may_stay_longer true (Fresh v w) own m = none_open_longer c own h k p m
      may_stay_longer true (Trial t) own m = tt
      may_stay_longer true (Kept v w) own m = tt
      may_stay_longer false how own m = tt

      turns_longer : (own : List Event) (j : ℕ) (how : How) (es : List Event) → AllByRecursion (NamesBelow (trials th h)) es → Turns th judge c patient machine own h j how es → Turns th judge c patient machine own k j how es
      turns_longer own j how es l (at_once a m) = at_once (answered_longer own j how es l a) (may_stay_longer patient how (own ++ es) m)
      turns_longer own j how es l (built v u last q e a) =
          let first : List Event = building th judge c patient machine h v u in
          let among : AllByRecursion (NamesBelow (trials th h)) (first ++ last) = subst (AllByRecursion (NamesBelow (trials th h))) e l in
          let low : u < trials th h = among.1.0 in
          let same : first ≡ building th judge c patient machine k v u = ap (λ r. Fetch c None v ∷ Claim (200 + c) u ∷ build_event (200 + c) u r ∷ []) (sym (same_refusal u low)) in
          built v u last q (e ∙ ap (λ z. z ++ last) same)
          (subst (λ (z : List Event). Answered th judge c patient machine (own ++ z) k j how last) same (answered_longer (own ++ first) j how last (all_back (NamesBelow (trials th h)) first last among) a))

      call_longer : (before : Option How) (own : List Event) (j : ℕ) (how : How) (g : Gained) → AllByRecursion (NamesBelow (trials th h)) g.events → CallDoes th judge c patient machine before own h j how g → CallDoes th judge c patient machine before own k j how g
      call_longer before own j (Trial t) g l d = (d.0, turns_longer own j (Trial t) g.events l d.1)
      call_longer before own j (Fresh v w) g l d = (d.0, turns_longer own j (Fresh v w) g.events l d.1)
      call_longer before own j (Kept v w) g l d = d

      pub calls_longer : (before : Option How) (own : List Event) (ss : List Step) → AllByRecursion (NamesBelow (trials th h)) (events_of ss) → Calls th judge c patient machine before own h ss → Calls th judge c patient machine before own k ss
      calls_longer before own [] l d = tt
      calls_longer before own (s ∷ ss) l d = (
        call_longer before own s.call s.how s.gained (all_front (NamesBelow (trials th h)) s.gained.events (events_of ss) l) d.0,
        calls_longer (Some s.how) (own ++ s.gained.events) ss (all_back (NamesBelow (trials th h)) s.gained.events (events_of ss) l) d.1,
      )

      pub conducted_longer : (lines : List (ℕ × How)) (own : List Event) (reads : List ℕ) → is_legal th h ≡ true → events_by c h ≡ own → Conducted th judge c patient machine h lines own reads → Conducted th judge c patient machine k lines own reads
      conducted_longer lines own reads legal o d =
          let among = subst (AllByRecursion (NamesBelow (trials th h))) (o ∙ sym d.own_are) (all_filter (NamesBelow (trials th h)) (λ e. eqb (by e) c) h (among_all th h legal)) in
          record { steps = d.steps; lines_are = d.lines_are; own_are = d.own_are; reads_are = d.reads_are; calls = calls_longer None [] d.steps among d.calls }

      -- a client's conduct in what it has seen is one in the whole history
      pub conduct_longer : (lines : List (ℕ × How)) (own : List Event) (reads : List ℕ) → is_legal th h ≡ true → events_by c h ≡ own → Conduct th judge c patient machine h lines own reads → Conduct th judge c patient machine k lines own reads
      conduct_longer lines own reads legal o d =
          let grows : news h ≤ news k = subst (λ (v : List Event). news h ≤ news v) (sym p.1) (news_grow h p.0) in
          record { so_far = conducted_longer lines own reads legal o d.so_far; reads_within = all_imply (λ r. r ≤ news h) (λ r. r ≤ news k) reads (λ r l. at_most r l grows) d.reads_within }
        where
          at_most : (r : ℕ) → r ≤ news h → news h ≤ news k → r ≤ news k
          at_most r a b = omega arith

    builds_longer : (b : ℕ) (own : List Event) → AllByRecursion (NamesBelow (trials th h)) own → Builds th judge b h own → Builds th judge b k own
    builds_longer b [] l d = tt
    builds_longer b (Claim a t ∷ []) l d = absurd d
    builds_longer b (Claim a t ∷ e ∷ es) l d = (d.0, d.1 ∙ ap (build_event b t) (sym (same_refusal t l.0)), builds_longer b es l.1.1 d.2)
    builds_longer b (Fetch c t v ∷ es) l d = absurd d
    builds_longer b (Report c t j x f ∷ es) l d = absurd d
    builds_longer b (Good c t ∷ es) l d = absurd d
    builds_longer b (Refused c t x ∷ es) l d = absurd d
    builds_longer b (Leave c t ∷ es) l d = absurd d

    pub builds_seen_longer : (b : ℕ) (own : List Event) → is_legal th h ≡ true → events_by b h ≡ own → Builds th judge b h own → Builds th judge b k own
    builds_seen_longer b own legal o d = builds_longer b own (subst (AllByRecursion (NamesBelow (trials th h))) o (all_filter (NamesBelow (trials th h)) (λ e. eqb (by e) b) h (among_all th h legal))) d

    pub builder_longer : (b : ℕ) (own : List Event) → is_legal th h ≡ true → events_by b h ≡ own → BuilderConduct th judge b h own → BuilderConduct th judge b k own
    builder_longer b own legal o d =
        (builds_longer b own (subst (AllByRecursion (NamesBelow (trials th h))) o (all_filter (NamesBelow (trials th h)) (λ e. eqb (by e) b) h (among_all th h legal))) d.0, none_open_longer b own h k p d.1)
