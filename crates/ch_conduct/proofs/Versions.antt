-- What a client's lines show of versions and news is of its fetches, and each later fetch met a longer history.
use Rattle.std.proofs.Common.{◌≡◌, ℕ, zero, suc, ◌+◌, ◌*◌, ◌<◌, ◌≤◌, Bool, true, false, cond, eqb, nat_lt, ◌&&◌, ◌||◌, not, List, [], ◌∷◌, ◌++◌, map, length, Option, Some, None, is_some, refl, sym, ap, ◌∙◌, subst, arith, append_assoc, append-nil, length-append, ◌⊎◌, inl, inr}
use Rattle.std.specs.Prelude.{filter}
use Rattle.std.specs.List.{AllByRecursion, list_any}
use Rattle.std.proofs.lemmas.List.Folds.{list_any-append}
use Rattle.std.proofs.lemmas.Bool.Decides.{nat_tests}
use Rattle.ch_rank.specs.declared.outcome.Costed.{Costed}
use Rattle.ch_rank.specs.declared.outcome.Outcome.TheVariants.{Cost}
use Rattle.ch_rank.specs.Entries.{completed, completed_after}
use Rattle.ch_rank.specs.Ranks.{versions}
use Rattle.ch_session.specs.declared.event.Event.{Event}
use Rattle.ch_session.specs.declared.event.Event.TheVariants.{Fetch, Report, Claim, Good, Refused, Leave}
use Rattle.ch_nest.specs.CostModel.{CostModel}
use Rattle.ch_conduct.specs.declared.report.How.{How}
use Rattle.ch_conduct.specs.declared.report.How.TheVariants.{Trial, Fresh, Kept}
use Rattle.ch_report.specs.declared.part.Found.{Found}
use Rattle.ch_report.specs.declared.part.Found.TheVariants.{Cost as by_call, Refused as refused_point}
use Rattle.ch_report.specs.declared.part.EntryLine.{EntryLine}
use Rattle.ch_session.specs.History.{top, is_legal, Theme, entry_of, entries, version_now, news, may_follow, same_option, fetch_gives}
use Rattle.ch_session.specs.Growth.{by, seat_of}
use Rattle.ch_conduct.specs.Places.{events_by}
use Rattle.ch_conduct.specs.Conduct.{Gained, Step, events_of, build_event, refusal_at, building, Answered, Turns, CallDoes, Calls, Conduct}
use Rattle.ch_conduct.specs.Meaning.{Judge}
use Rattle.ch_conduct.specs.Places.{IsNext}
use Rattle.ch_turn.specs.History.{IsPrefix}
use Rattle.ch_conduct.specs.Conduct.Turns.{at_once, built}
use Rattle.ch_conduct.specs.Lines.{call_named, costed_of, up_to_last}
use Rattle.ch_conduct.specs.Fits.{versions_made, names_earlier, NotBelow, ShowsVersion, VersionsFit}
use Rattle.ch_conduct.specs.Lived.{line_of, lines_of}
use Rattle.ch_session.proofs.Legal.{entries_append}
use Rattle.ch_session.proofs.Versions.{news_twice}
use Rattle.ch_conduct.proofs.Prefixes.{by-append, fewer_first, own_rest, prefix_trans, prefix_front, legal_prefix, follows}
use Rattle.ch_conduct.proofs.Growing.{completed_append, versions_grow, version_grows, news_grows}
use Rattle.ch_conduct.proofs.Named.{reports, reports-append, reported, trial_call, trial_calls, named, named_are, named_pair, Rising, rising_down, calls_report}

-- ---- the entries of a history

pub lines-append : (at : ℕ → List ℕ) (xs ys : List Event) → lines_of at (xs ++ ys) ≡ lines_of at xs ++ lines_of at ys
lines-append at [] ys = refl
lines-append at (x ∷ xs) ys = ap (λ z. line_of at x ++ z) (lines-append at xs ys) ∙ sym (append_assoc (line_of at x) (lines_of at xs) (lines_of at ys))

pub costed_lines : (at : ℕ → List ℕ) (h : List Event) → map costed_of (lines_of at h) ≡ entries h
costed_lines at [] = refl
costed_lines at (Report c t j x l ∷ h) = ap (λ z. record { trial = t; outcome = Cost x } ∷ z) (costed_lines at h)
costed_lines at (Refused b t r ∷ h) = ap (λ z. record { trial = t; outcome = top } ∷ z) (costed_lines at h)
costed_lines at (Fetch c t v ∷ h) = costed_lines at h
costed_lines at (Claim b t ∷ h) = costed_lines at h
costed_lines at (Good b t ∷ h) = costed_lines at h
costed_lines at (Leave c t ∷ h) = costed_lines at h

pub versions_made_are : (th : Theme) (at : ℕ → List ℕ) (h : List Event) → versions_made th.repeat (lines_of at h) ≡ version_now th h
versions_made_are th at h = ap (λ z. length (versions (completed th.repeat z))) (costed_lines at h)

-- ---- entries up to the last one that passes

up_to_none : {A : Type 0} (p : A → Bool) (ys : List A) → list_any p ys ≡ false → up_to_last p ys ≡ []
up_to_none p [] e = refl
up_to_none p (y ∷ ys) e = rw e refl

-- they begin the list, and what follows without one that passes changes nothing
front_up_to : {A : Type 0} (p : A → Bool) (xs ys : List A) → list_any p ys ≡ false → (IsPrefix (up_to_last p (xs ++ ys)) xs)
front_up_to p [] ys e = rw (up_to_none p ys e) ([], refl)
front_up_to p (x ∷ xs) ys e = at (p x || list_any p (xs ++ ys)) (front_up_to p xs ys e)
  where
    at : (b : Bool) → IsPrefix (up_to_last p (xs ++ ys)) xs → IsPrefix (cond b (x ∷ up_to_last p (xs ++ ys)) []) (x ∷ xs)
    at true q = (q.0, ap (λ z. x ∷ z) q.1)
    at false q = (x ∷ xs, refl)

made_grow : (r : ℕ) (xs ys : List EntryLine) → IsPrefix xs ys → versions_made r xs ≤ versions_made r ys
made_grow r xs ys p =
    let whole : completed r (map costed_of ys) ≡ completed r (map costed_of xs) ++ completed_after r (map costed_of xs) (map costed_of p.0) = ap (λ (z : List EntryLine). completed r (map costed_of z)) p.1 ∙ (ap (completed r) (map_app xs p.0) ∙ completed_append r [] (map costed_of xs) (map costed_of p.0)) in
    subst (λ (z : List Costed). versions_made r xs ≤ length (versions z)) (sym whole) (versions_grow top (completed r (map costed_of xs)) (completed_after r (map costed_of xs) (map costed_of p.0)))
  where
    map_app : (xs ys : List EntryLine) → map costed_of (xs ++ ys) ≡ map costed_of xs ++ map costed_of ys
    map_app [] ys = refl
    map_app (x ∷ xs) ys = ap (λ z. costed_of x ∷ z) (map_app xs ys)

-- ---- calls from k on

abbrev From : ℕ → List (ℕ × ℕ) → Type 0
From k ps = AllByRecursion (λ p. k ≤ p.0) ps

from_append : (k : ℕ) (ps qs : List (ℕ × ℕ)) → From k ps → From k qs → From k (ps ++ qs)
from_append k [] qs a b = b
from_append k (p ∷ ps) qs a b = (a.0, from_append k ps qs a.1 b)

from_call : (k j : ℕ) (how : How) → k ≤ j → From k (trial_call j how)
from_call k j (Trial t) l = (l, tt)
from_call k j (Fresh v w) l = tt
from_call k j (Kept v w) l = tt

from_lines : (k : ℕ) (ls : List (ℕ × How)) → Rising k ls → From k (trial_calls ls)
from_lines k [] r = tt
from_lines k (l ∷ ls) r = let a = r.0 in from_append k (trial_call l.0 l.1) (trial_calls ls) (from_call k l.0 l.1 r.0) (lower k (l.0 + 1) (trial_calls ls) (omega arith) (from_lines (l.0 + 1) ls r.1))
  where
    lower : (k m : ℕ) (ps : List (ℕ × ℕ)) → k ≤ m → From m ps → From k ps
    lower k m [] l a = tt
    lower k m (p ∷ ps) l a = let b = a.0 in (omega arith, lower k m ps l a.1)

-- no entry among them names a call before k
none_earlier : (c k : ℕ) (es : List EntryLine) → From k (named c es) → list_any (names_earlier c k) es ≡ false
none_earlier c k [] a = refl
none_earlier c k (e ∷ es) a = at e.found a (none_earlier c k es)
  where
    low : (i : ℕ) → k ≤ i → nat_lt i k ≡ false
    low i l = grind (arith, nat_tests)

    one : (b : Bool) (i : ℕ) → From k (map (λ (j : ℕ). (j, e.trial)) (cond b (i ∷ []) []) ++ named c es) → (From k (named c es) → list_any (names_earlier c k) es ≡ false) → (list_any (λ j. nat_lt j k) (cond b (i ∷ []) []) || list_any (names_earlier c k) es) ≡ false
    one true i a f = rw (low i a.0) (f a.1)
    one false i a f = f a

    at : (f : Found) → From k (map (λ (j : ℕ). (j, e.trial)) (call_named c f) ++ named c es) → (From k (named c es) → list_any (names_earlier c k) es ≡ false) → (list_any (λ j. nat_lt j k) (call_named c f) || list_any (names_earlier c k) es) ≡ false
    at (by_call d i x) a f = one (eqb d c) i a f
    at (refused_point r) a f = f a

-- ---- a fetch of the current version

option_eq : (a b : Option ℕ) → same_option a b ≡ true → a ≡ b
option_eq None None e = refl
option_eq None (Some x) e = absurd (cc)
option_eq (Some x) None e = absurd (cc)
option_eq (Some x) (Some y) e = let s : x ≡ y = grind (arith, nat_tests) in rw s refl

and_right : (a b : Bool) → (a && b) ≡ true → b ≡ true
and_right true b e = e
and_right false b e = absurd (cc)

-- g is the history at the fetch that the client's line shows; nothing of its own came after that fetch up to now
pub record Shows (th : Theme) (c : ℕ) (h own : List Event) (v w : ℕ) : Type 0 where
  pub g : List Event
  pub before : List Event
  pub next : IsNext c before (Fetch c None v) h g
  pub now : own ≡ before ++ Fetch c None v ∷ []
  pub news_are : news g ≡ w
  pub version_is : version_now th g ≡ v

-- an earlier fetch, whose history had fewer own events than now
pub record Showed (th : Theme) (c : ℕ) (h own : List Event) (p : ℕ × ℕ) : Type 0 where
  pub g : List Event
  pub prefix : IsPrefix g h
  pub fewer : length (events_by c g) < length own
  pub news_are : news g ≡ p.1
  pub version_is : version_now th g ≡ p.0

abbrev pub LastShown : Theme → ℕ → List Event → List Event → Option (ℕ × ℕ) → Type 0
LastShown th c h own None = Unit {0}
LastShown th c h own (Some p) = Showed th c h own p

-- the line before, where it shows a version, is of the last own event but kept calls
abbrev pub BeforeShown : Theme → ℕ → List Event → List Event → Option How → Type 0
BeforeShown th c h own (Some (Fresh v w)) = Shows th c h own v w
BeforeShown th c h own (Some (Kept v w)) = Shows th c h own v w
BeforeShown th c h own _ = Unit {0}

module _ (th : Theme) (judge : Judge) (c : ℕ) (patient : Bool) (machine : CostModel) (h : List Event) (legal : is_legal th h ≡ true) where
  next_prefix : (before : List Event) (e : Event) (g : List Event) → IsNext c before e h g → IsPrefix g h
  next_prefix before e g n = prefix_trans g (g ++ e ∷ []) h (prefix_front g (e ∷ [])) n.0

  fetch_version : (before : List Event) (v : ℕ) (g : List Event) → IsNext c before (Fetch c None v) h g → version_now th g ≡ v
  fetch_version before v g n =
      let m = follows th h g (Fetch c None v) legal n.0 in
      let e : eqb v (version_now th g) ≡ true = and_right (same_option None (fetch_gives th g c)) (eqb v (version_now th g)) m in
      grind (arith, nat_tests)

  later_fetch : (own before : List Event) (last : Option (ℕ × ℕ)) (v w : ℕ) (g : List Event) → length own ≤ length before → LastShown th c h own last → IsNext c before (Fetch c None v) h g → version_now th g ≡ v → news g ≡ w → NotBelow last v w
  later_fetch own before None v w g n l s x y = tt
  later_fetch own before (Some p) v w g n l s x y =
      let few = l.fewer in
      let own_g : length (events_by c g) ≡ length before = ap length s.1 in
      let first = fewer_first c l.g g h l.prefix (next_prefix before (Fetch c None v) g s) (omega arith) in
      let a = version_grows th l.g g first in
      let b = news_grows l.g g first in
      let v0 = l.version_is in
      let w0 = l.news_are in
      (omega arith, omega arith)

  own_self : (t : Option ℕ) (v : ℕ) → events_by c (Fetch c t v ∷ []) ≡ Fetch c t v ∷ []
  own_self t v = at (eqb c c) (same c)
    where
      same : (n : ℕ) → eqb n n ≡ true
      same n = grind (arith, nat_tests)

      at : (b : Bool) → b ≡ true → cond b (Fetch c t v ∷ []) [] ≡ Fetch c t v ∷ []
      at true e = refl
      at false e = absurd (cc)

  module _ (at : ℕ → List ℕ) where
    -- what a line shows, where nothing of the client's came since the fetch but later calls
    shows_version : (own later : List Event) (j : ℕ) (last : Option (ℕ × ℕ)) (v w : ℕ) → Shows th c h own v w → events_by c h ≡ own ++ later → From j (reports later) → NotBelow last v w → ShowsVersion th.repeat (lines_of at h) c j last v w
    shows_version own later j last v w s e f n =
        let fetch : Event = Fetch c None v in
        let g : List Event = s.g in
        let upto : List Event = g ++ fetch ∷ [] in
        let q : List Event = s.next.0.0 in
        let whole : h ≡ upto ++ q = s.next.0.1 in
        let own_upto : events_by c upto ≡ own = by-append c g (fetch ∷ []) ∙ (ap (λ z. z ++ events_by c (fetch ∷ [])) s.next.1 ∙ (ap (λ z. s.before ++ z) (own_self None v) ∙ sym s.now)) in
        let rest : events_by c q ≡ later = own_rest c upto q h own later whole own_upto e in
        let none = none_earlier c j (lines_of at q) (rw (named_are at c q ∙ ap reports rest) f) in
        let front = front_up_to (names_earlier c j) (lines_of at upto) (lines_of at q) none in
        let made = made_grow th.repeat (up_to_last (names_earlier c j) (lines_of at upto ++ lines_of at q)) (lines_of at upto) front in
        let same : lines_of at h ≡ lines_of at upto ++ lines_of at q = ap (lines_of at) whole ∙ lines-append at upto q in
        let at_upto : versions_made th.repeat (lines_of at upto) ≡ version_now th g = versions_made_are th at upto ∙ ap (λ z. length (versions (completed th.repeat z))) (entries_append g (fetch ∷ []) ∙ append-nil (entries g)) in
        let all : versions_made th.repeat (lines_of at h) ≡ version_now th h = versions_made_are th at h in
        let pre = next_prefix s.before fetch g s.next in
        let grows = version_grows th g h pre in
        let twice = news_twice th g (legal_prefix th g h pre legal) in
        let v0 = s.version_is in
        let w0 = s.news_are in
        let since : versions_made th.repeat (up_to_last (names_earlier c j) (lines_of at upto ++ lines_of at q)) ≤ v = omega arith in
        record {
          exists = omega arith;
          not_below = n;
          since_entry = subst (λ (z : List EntryLine). versions_made th.repeat (up_to_last (names_earlier c j) z) ≤ v) (sym same) since;
          news = omega arith;
        }

    pub shows_of : (own : List Event) (j v w : ℕ) (es : List Event) → Turns th judge c patient machine own h j (Fresh v w) es → Shows th c h (own ++ es) v w
    shows_of own j v w es (at_once a m) = record { g = a.1.0; before = own; next = a.1.1; now = ap (λ z. own ++ z) a.0; news_are = a.1.2; version_is = fetch_version own v a.1.0 a.1.1 }
    shows_of own j v w es (built v0 u last p q a) =
        let first : List Event = building th judge c patient machine h v0 u in
        record { g = a.1.0; before = own ++ first; next = a.1.1; now = ap (λ z. own ++ z) q ∙ (sym (append_assoc own first last) ∙ ap (λ z. (own ++ first) ++ z) a.0); news_are = a.1.2; version_is = fetch_version (own ++ first) v a.1.0 a.1.1 }

    abbrev Agree : Option How → Option (ℕ × ℕ) → Type 0
    Agree (Some (Fresh v w)) last = last ≡ Some (v, w)
    Agree (Some (Kept v w)) last = last ≡ Some (v, w)
    Agree _ last = Unit {0}

    abbrev lines : List Step → List (ℕ × How)
    lines ss = map (λ s. (s.call, s.how)) ss

    longer_shown : (own more : List Event) (last : Option (ℕ × ℕ)) → LastShown th c h own last → LastShown th c h (own ++ more) last
    longer_shown own more None l = tt
    longer_shown own more (Some p) l = let a = l.fewer in let b = length-append own more in record { g = l.g; prefix = l.prefix; fewer = omega arith; news_are = l.news_are; version_is = l.version_is }

    showed : (own : List Event) (v w : ℕ) → Shows th c h own v w → Showed th c h own (v, w)
    showed own v w s =
        let long : length own ≡ length s.before + 1 = ap length s.now ∙ length-append s.before (Fetch c None v ∷ []) in
        let own_g : length (events_by c s.g) ≡ length s.before = ap length s.next.1 in
        record { g = s.g; prefix = next_prefix s.before (Fetch c None v) s.g s.next; fewer = omega arith; news_are = s.news_are; version_is = s.version_is }

    -- what is known before a call
    record Now (before : Option How) (last : Option (ℕ × ℕ)) (own : List Event) (ss : List Step) : Type 0 where
      whole : events_by c h ≡ own ++ events_of ss
      last_shown : LastShown th c h own last
      before_shown : BeforeShown th c h own before
      agree : Agree before last

    next_whole : (own more rest : List Event) → events_by c h ≡ own ++ (more ++ rest) → events_by c h ≡ (own ++ more) ++ rest
    next_whole own more rest e = e ∙ sym (append_assoc own more rest)

    later_calls : (before : Option How) (own : List Event) (ss : List Step) (j : ℕ) → Calls th judge c patient machine before own h ss → Rising (j + 1) (lines ss) → From j (reports (events_of ss))
    later_calls before own ss j d r = rw (calls_report th judge c patient machine before own h ss d) (from_lines j (lines ss) (rising_down j (j + 1) (lines ss) (omega arith) r))

    turns_not_below : (own : List Event) (j : ℕ) (last : Option (ℕ × ℕ)) (v w : ℕ) (es : List Event) → Turns th judge c patient machine own h j (Fresh v w) es → LastShown th c h own last → NotBelow last v w
    turns_not_below own j last v w es (at_once a m) l = later_fetch own own last v w a.1.0 (omega arith) l a.1.1 (fetch_version own v a.1.0 a.1.1) a.1.2
    turns_not_below own j last v w es (built v0 u more p q a) l =
        let first : List Event = building th judge c patient machine h v0 u in
        later_fetch own (own ++ first) last v w a.1.0 (longer own first) l a.1.1 (fetch_version (own ++ first) v a.1.0 a.1.1) a.1.2
      where
        longer : (xs ys : List Event) → length xs ≤ length (xs ++ ys)
        longer xs ys = let e = length-append xs ys in omega arith

    pub kept_shows : (before : Option How) (own : List Event) (v w : ℕ) → ((before ≡ Some (Fresh v w)) ⊎ (before ≡ Some (Kept v w))) → BeforeShown th c h own before → Shows th c h own v w
    kept_shows before own v w (inl e) s = subst (λ (z : Option How). BeforeShown th c h own z) e s
    kept_shows before own v w (inr e) s = subst (λ (z : Option How). BeforeShown th c h own z) e s

    kept_last : (before : Option How) (last : Option (ℕ × ℕ)) (v w : ℕ) → ((before ≡ Some (Fresh v w)) ⊎ (before ≡ Some (Kept v w))) → Agree before last → last ≡ Some (v, w)
    kept_last before last v w (inl e) a = subst (λ (z : Option How). Agree z last) e a
    kept_last before last v w (inr e) a = subst (λ (z : Option How). Agree z last) e a

    same_not_below : (last : Option (ℕ × ℕ)) (v w : ℕ) → last ≡ Some (v, w) → NotBelow last v w
    same_not_below last v w e = rw e (omega arith, omega arith)

    abbrev Goes : Option How → List Event → List Step → Type 0
    Goes before own ss = (last : Option (ℕ × ℕ)) → Now before last own ss → VersionsFit th.repeat (lines_of at h) c patient before last (lines ss)

    step_from : (before : Option How) (last : Option (ℕ × ℕ)) (own : List Event) (j : ℕ) (how : How) (g : Gained) (ss : List Step) → CallDoes th judge c patient machine before own h j how g →
        Calls th judge c patient machine (Some how) (own ++ g.events) h ss → Rising (j + 1) (lines ss) → Goes (Some how) (own ++ g.events) ss → events_by c h ≡ own ++ (g.events ++ events_of ss) →
        LastShown th c h own last → BeforeShown th c h own before → Agree before last → VersionsFit th.repeat (lines_of at h) c patient before last ((j, how) ∷ lines ss)
    step_from before last own j (Trial t) g ss d ds r go e l b a =
        go last (record { whole = next_whole own g.events (events_of ss) e; last_shown = longer_shown own g.events last l; before_shown = tt; agree = tt })
    step_from before last own j (Fresh v w) g ss d ds r go e l b a =
        let s = shows_of own j v w g.events d.1 in
        let whole = next_whole own g.events (events_of ss) e in (
          shows_version (own ++ g.events) (events_of ss) j last v w s whole (later_calls (Some (Fresh v w)) (own ++ g.events) ss j ds r) (turns_not_below own j last v w g.events d.1 l),
          go (Some (v, w)) (record { whole = whole; last_shown = showed (own ++ g.events) v w s; before_shown = s; agree = refl }),
        )
    step_from before last own j (Kept v w) g ss d ds r go e l b a =
        let s = subst (λ (z : List Event). Shows th c h z v w) (sym (append-nil own) ∙ ap (λ z. own ++ z) (sym d.2)) (kept_shows before own v w d.1 b) in
        let whole = next_whole own g.events (events_of ss) e in (
          shows_version (own ++ g.events) (events_of ss) j last v w s whole (later_calls (Some (Kept v w)) (own ++ g.events) ss j ds r) (same_not_below last v w (kept_last before last v w d.1 a)),
          d.0,
          d.1,
          go (Some (v, w)) (record { whole = whole; last_shown = showed (own ++ g.events) v w s; before_shown = s; agree = refl }),
        )

    versions_from : (before : Option How) (last : Option (ℕ × ℕ)) (own : List Event) (ss : List Step) (k : ℕ) → Calls th judge c patient machine before own h ss → Rising k (lines ss) → Now before last own ss → VersionsFit th.repeat (lines_of at h) c patient before last (lines ss)
    versions_from before last own [] k d r n = tt
    versions_from before last own (s ∷ ss) k d r n =
        step_from before last own s.call s.how s.gained ss d.0 d.1 r.1 (λ l m. versions_from (Some s.how) l (own ++ s.gained.events) ss (s.call + 1) d.1 r.1 m) n.whole n.last_shown n.before_shown n.agree

    -- the versions and news of a client's lines fit, where the client conducted itself in the session
    pub versions_fit : (ls : List (ℕ × How)) (reads : List ℕ) → Rising 1 ls → Conduct th judge c patient machine h ls (events_by c h) reads → VersionsFit th.repeat (lines_of at h) c patient None None ls
    versions_fit ls reads r d = subst (λ (z : List (ℕ × How)). VersionsFit th.repeat (lines_of at h) c patient None None z) d.so_far.lines_are
        (versions_from None None [] d.so_far.steps 1 d.so_far.calls (rw d.so_far.lines_are r) (record { whole = sym d.so_far.own_are; last_shown = tt; before_shown = tt; agree = tt }))
