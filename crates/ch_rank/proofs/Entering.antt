-- One more entry.
use Rattle.std.proofs.Common.{append-nil, ◌≡◌, ◌≢◌, ℕ, ◌+◌, ◌-◌, ◌*◌, ◌<◌, ◌≤◌, Bool, true, false, cond, eqb, nat_lt, List, [], ◌∷◌, ◌++◌, length, map, replicate, zero, suc, set, get_or, Option, Some, None, refl, sym, ap, ◌∙◌, subst, arith, ◌⊎◌, inl, inr, is_some, not, ◌&&◌, ◌||◌}
use Rattle.std.proofs.lemmas.Bool.Decides.{nat_tests}
use Rattle.std.proofs.lemmas.List.{get_or-set_same, get_or-set_other, get_or_default}
use Rattle.std.proofs.Math.ListN.{length-set}
use Rattle.ch_grid.specs.Points.{count}
use Rattle.ch_rank.specs.declared.outcome.Outcome.{Outcome}
use Rattle.ch_rank.specs.declared.outcome.Costed.{Costed}
use Rattle.ch_rank.specs.Leads.{Leads}
use Rattle.ch_rank.specs.Leads.Leads.{stay, round}
use Rattle.ch_rank.specs.Board.{IsRound, known_by}
use Rattle.ch_rank.specs.declared.tally.Tally.{Tally}
use Rattle.ch_rank.specs.Entries.{known, known_in, measured, is_refused, lesser, tally_from, outcome_with, completed, completed_now, completes, IsSearch, Searched, played, is_pending, may_enter}
use Rattle.ch_grid.specs.declared.param.Param.{Param}
use Rattle.ch_grid.specs.Grid.{sizes}
use Rattle.ch_rank.specs.Bound.{bound}
use Rattle.ch_rank.specs.Ranks.{better_by, versions_by, versions, last_of}
use Rattle.ch_rank.specs.Search.{Game, Known, advance, opening, play, go, decided, search_on}
use Rattle.ch_rank.proofs.Ranking.{versions_count}
use Rattle.ch_rank.proofs.Measuring.{which, differ, none_yet, measured_new, measured_other, tally_more, known_other, known_new, known_more, completed_more, completes_none, versions_more, kept_more, nothing_known}
use Rattle.std.specs.List.{All, IsDistinct, AllByRecursion, list_any}
use Rattle.std.proofs.lemmas.List.Elements.{All-head, All-tail, All-append, All-cons, All-nil}
use Rattle.std.proofs.lemmas.Map.Steps.{length-le_from_distinct_below}
use Rattle.ch_rank.proofs.Lists.{all_more}
use Rattle.ch_rank.proofs.Rounds.{round_on, sizes_on, points_on}
use Rattle.ch_rank.proofs.Replay.{leads_more, leads_on, leads_to_play, settles, ends_alike}
use Rattle.ch_rank.specs.Growth.{Knows}
use Rattle.ch_rank.specs.Entries.{at_entries}
use Rattle.ch_rank.proofs.Legal.{legal_one_more}

rounds_along : (most : ℕ) (k : Known) (g h : Game) → Leads most k g h → IsRound g → IsRound h
rounds_along most k _ _ (stay g) i = i
rounds_along most k _ _ (round g h j e l) i = rounds_along most k h j l (round_on most k g h i e)

sizes_along : (most : ℕ) (k : Known) (g h : Game) → Leads most k g h → h.sizes ≡ g.sizes
sizes_along most k _ _ (stay g) = refl
sizes_along most k _ _ (round g h j e l) = sizes_along most k h j l ∙ sizes_on most k g h e

opening_round : (sizes : List ℕ) → IsRound (opening sizes)
opening_round sizes = record { first = λ e. omega arith; later = λ e. absurd (e refl) }

pub played_round : (sizes : List ℕ) (k : Known) → IsRound (search_on sizes k)
unfolding search_on
played_round sizes k = let most : ℕ = bound sizes in rounds_along most k (opening sizes) (play most (3 * most + 4) k (opening sizes)) (leads_to_play most k (3 * most + 4) (opening sizes)) (opening_round sizes)

-- going on from where it waited is playing anew
pub goes_on_anew : (sizes : List ℕ) (k k' : Known) (g h : Game) → Knows k k' → g ≡ search_on sizes k → Leads (bound sizes) k' g h → advance (bound sizes) k' h ≡ None → h ≡ search_on sizes k'
unfolding search_on
goes_on_anew sizes k k' g h more e l over =
    let most : ℕ = bound sizes in
    let o : Game = opening sizes in
    let n : ℕ = 3 * most + 4 in
    let first : Leads most k' o g = subst (λ (x : Game). Leads most k' o x) (sym e) (leads_more most k k' more o (play most n k o) (leads_to_play most k n o)) in
    ends_alike most k' o h (play most n k' o) (leads_on most k' o g h first l) over (leads_to_play most k' n o) (settles most k' n o (omega arith))

-- where the first round waits, so does the search
play_waits : (most f : ℕ) (k : Known) (g : Game) → advance most k g ≡ None → play most f k g ≡ g
unfolding play
play_waits most zero k g e = refl
play_waits most (suc f) k g e = ap (λ (o : Option Game). go g o (play most f k)) e

waits : (b : Bool) (g : Game) → cond b (decided g None) None ≡ None
waits true g = refl
waits false g = refl

opening_waits_none : (sizes : List ℕ) → opening sizes ≡ search_on sizes (λ t. None)
unfolding search_on
opening_waits_none sizes = sym (play_waits (bound sizes) (3 * bound sizes + 4) (λ t. None) (opening sizes) (waits (nat_lt 0 (bound sizes) && true) (opening sizes)))

pub opening_waits : (r : ℕ) (sizes : List ℕ) → 1 ≤ r → opening sizes ≡ search_on sizes (known r [])
opening_waits r sizes h = opening_waits_none sizes ∙ ap (λ (k : Known). search_on sizes k) (λ i t. sym (nothing_known r t h) i)

pub unknown : (n t : ℕ) → known_by (replicate n None) t ≡ None
unknown zero t = refl
unknown (suc n) zero = refl
unknown (suc n) (suc t) = unknown n t

outcome_now : (r : ℕ) (os : List (Option Outcome)) (es : List Costed) (c : Costed) (done : Option Outcome) (t : ℕ) → ((u : ℕ) → known_by os u ≡ known r es u) → c.trial < length os → known r es c.trial ≡ None → done ≡ outcome_with (tally_from r (measured es c.trial)) c.outcome → (t ≡ c.trial) ⊎ (t ≢ c.trial) → known_by (set os c.trial done) t ≡ known r (es ++ c ∷ []) t
outcome_now r os es c done t are lt none is (inl e) =
    let s : get_or (set os c.trial done) c.trial None ≡ done = get_or-set_same os c.trial done None lt in
    let n : known r (es ++ c ∷ []) c.trial ≡ done = known_new r es c none ∙ sym is in
    subst (λ (u : ℕ). known_by (set os c.trial done) u ≡ known r (es ++ c ∷ []) u) (sym e) (s ∙ sym n)
outcome_now r os es c done t are lt none is (inr e) = get_or-set_other os c.trial t done None e ∙ (are t ∙ sym (known_other r es c t (differ c.trial t e)))

tally_now : (r : ℕ) (ts : List Tally) (es : List Costed) (c : Costed) (new : Tally) (t : ℕ) → ((u : ℕ) → get_or ts u (tally_from r []) ≡ tally_from r (measured es u)) → c.trial < length ts → new ≡ record { left = (tally_from r (measured es c.trial)).left - 1; least = lesser (tally_from r (measured es c.trial)).least c.outcome } → (t ≡ c.trial) ⊎ (t ≢ c.trial) → get_or (set ts c.trial new) t (tally_from r []) ≡ tally_from r (measured (es ++ c ∷ []) t)
tally_now r ts es c new t are lt is (inl e) =
    let s : get_or (set ts c.trial new) c.trial (tally_from r []) ≡ new = get_or-set_same ts c.trial new (tally_from r []) lt in
    let n : tally_from r (measured (es ++ c ∷ []) c.trial) ≡ new = ap (λ (v : List Outcome). tally_from r v) (measured_new es c) ∙ (tally_more r (measured es c.trial) c.outcome ∙ sym is) in
    subst (λ (u : ℕ). get_or (set ts c.trial new) u (tally_from r []) ≡ tally_from r (measured (es ++ c ∷ []) u)) (sym e) (s ∙ sym n)
tally_now r ts es c new t are lt is (inr e) = get_or-set_other ts c.trial t new (tally_from r []) e ∙ (are t ∙ ap (λ (v : List Outcome). tally_from r v) (sym (measured_other es c t (differ c.trial t e))))

points_along : (most : ℕ) (k : Known) (g h : Game) → Leads most k g h → length g.points ≤ length h.points
points_along most k _ _ (stay g) = omega arith
points_along most k _ _ (round g h j e l) = let p = points_on most k g h e in let r = points_along most k h j l in omega arith

-- what one more entry wrote
pub record Wrote (ps : List Param) (r : ℕ) (g h : Game) (os os' : List (Option Outcome)) (ts ts' : List Tally) (es : List Costed) (b b' : Option Costed) (vs vs' most : ℕ) (c : Costed) : Type 0 where
  pub allowed : may_enter (at_entries ps r es) c.trial c.outcome ≡ true
  pub done : Option Outcome
  pub done_is : done ≡ outcome_with (tally_from r (measured es c.trial)) c.outcome
  pub outcomes : os' ≡ set os c.trial done
  pub tally : Tally
  pub tally_is : tally ≡ record { left = (tally_from r (measured es c.trial)).left - 1; least = lesser (tally_from r (measured es c.trial)).least c.outcome }
  pub tallies : ts' ≡ set ts c.trial tally
  pub best : b' ≡ better_by b (completed_now c.trial None done)
  pub versions : vs' ≡ vs + versions_by b done
  pub fits : length h.points ≤ count h.sizes
  pub led : Leads most (known_by os') g h
  pub over : advance most (known_by os') h ≡ None

pub entered : (ps : List Param) (rep : ℕ) (g h : Game) (os os' : List (Option Outcome)) (ts ts' : List Tally) (es : List Costed) (b b' : Option Costed) (vs vs' most : ℕ) (c : Costed) → IsSearch ps rep g os ts es b vs most → c.trial < length g.points → known rep es c.trial ≡ None →
    Wrote ps rep g h os os' ts ts' es b b' vs vs' most c → IsSearch ps rep h os' ts' (es ++ c ∷ []) b' vs' most
entered ps rep g h os os' ts ts' es b b' vs vs' most c s here none w =
    let ns : List ℕ = sizes ps in
    let k : Known = known rep es in
    let k' : Known = known rep (es ++ c ∷ []) in
    let lt : c.trial < length os = omega (arith, s.long, s.within) in
    let ltt : c.trial < length ts = omega (arith, s.tallies_long, s.within) in
    let are : (t : ℕ) → known_by os' t ≡ k' t = λ t. subst (λ (v : List (Option Outcome)). known_by v t ≡ k' t) (sym w.outcomes) (outcome_now rep os es c w.done t s.outcomes_are lt none w.done_is (which t c.trial)) in
    let fun : known_by os' ≡ k' = λ i t. are t i in
    let l' : Leads most k' g h = subst (λ (f : Known). Leads most f g h) fun w.led in
    let over' : advance most k' h ≡ None = subst (λ (f : Known). advance most f h ≡ None) fun w.over in
    let same : h.sizes ≡ g.sizes = sizes_along most k' g h l' in
    let anew : h ≡ search_on ns k' = goes_on_anew ns k k' g h (λ t o e. known_more rep es c t o none e) s.game (subst (λ (n : ℕ). Leads n k' g h) s.most_is l') (subst (λ (n : ℕ). advance n k' h ≡ None) s.most_is over') in
    let all : completed_now c.trial None w.done ≡ completes rep es c = ap (λ (o : Option Outcome). completed_now c.trial None o) (w.done_is ∙ sym (known_new rep es c none)) ∙ sym (completes_none rep es c none) in
    record {
      repeat = s.repeat;
      sizes_are = same ∙ s.sizes_are;
      game = anew;
      outcomes_are = are;
      tallies_are = λ t. subst (λ (v : List Tally). get_or v t (tally_from rep []) ≡ tally_from rep (measured (es ++ c ∷ []) t)) (sym w.tallies) (tally_now rep ts es c w.tally t s.tallies_are ltt w.tally_is (which t c.trial));
      long = ap (λ (v : List (Option Outcome)). length v) w.outcomes ∙ (length-set os c.trial w.done ∙ (s.long ∙ ap count (sym same)));
      tallies_long = ap (λ (v : List Tally). length v) w.tallies ∙ (length-set ts c.trial w.tally ∙ (s.tallies_long ∙ ap count (sym same)));
      within = w.fits;
      legal = legal_one_more ps rep [] es c s.legal w.allowed;
      kept = kept_more rep es c (length g.points) (length h.points) s.kept here (points_along most k' g h l') none;
      best_is = w.best ∙ (ap (λ (o : Option Costed). better_by o (completed_now c.trial None w.done)) s.best_is ∙ (ap (λ (v : List Costed). better_by (last_of (versions (completed rep es))) v) all ∙ (versions_more (completed rep es) (completes rep es c) ∙ ap (λ (v : List Costed). last_of (versions v)) (sym (completed_more rep es c)))));
      versions_are = w.versions ∙ (ap (λ (n : ℕ). n + versions_by b w.done) s.versions_are ∙ (ap (λ (o : Option Costed). length (versions (completed rep es)) + versions_by o w.done) s.best_is ∙ (count_done (completed rep es) c.trial w.done ∙ (ap (λ (v : List Costed). length (versions (completed rep es ++ v))) all ∙ ap (λ (v : List Costed). length (versions v)) (sym (completed_more rep es c))))));
      points_few = s.points_few;
      most_is = s.most_is;
      small = s.small;
    }
  where
    plus_zero : (n : ℕ) → n + 0 ≡ n
    plus_zero n = omega arith

    count_done : (xs : List Costed) (t : ℕ) (o : Option Outcome) → length (versions xs) + versions_by (last_of (versions xs)) o ≡ length (versions (xs ++ completed_now t None o))
    count_done xs t None = plus_zero (length (versions xs)) ∙ ap (λ (v : List Costed). length (versions v)) (sym (append-nil xs))
    count_done xs t (Some o) = sym (versions_count xs (record { trial = t; outcome = o }))

none_of : (o : Option Outcome) → is_some o ≡ false → o ≡ None
none_of None e = refl
none_of (Some x) e = absurd (cc)

-- what a trial's cells say
pub record Cells (r : ℕ) (es : List Costed) (t : ℕ) (tally : Tally) : Type 0 where
  pub none : known r es t ≡ None
  pub tally_is : tally ≡ tally_from r (measured es t)

pub cells_of : (ps : List Param) (rep : ℕ) (g : Game) (os : List (Option Outcome)) (ts : List Tally) (es : List Costed) (b : Option Costed) (vs most t : ℕ) (read : Option Outcome) (tally : Tally) → IsSearch ps rep g os ts es b vs most → t < length g.points → read ≡ get_or os t read → is_some read ≡ false → tally ≡ get_or ts t tally → Cells rep es t tally
cells_of ps rep g os ts es b vs most t read tally s here r n e =
    let lt : t < length os = omega (arith, s.long, s.within) in
    let ltt : t < length ts = omega (arith, s.tallies_long, s.within) in
    let none : known_by os t ≡ None = get_or_default os t None read lt ∙ (sym r ∙ none_of read n) in
    record {
      none = sym (s.outcomes_are t) ∙ none;
      tally_is = e ∙ (get_or_default ts t tally (tally_from rep []) ltt ∙ s.tallies_are t);
    }

pub entered_now : (ps : List Param) (rep : ℕ) (g h : Game) (os os' : List (Option Outcome)) (ts : List Tally) (es es' : List Costed) (b b' : Option Costed) (vs vs' most t : ℕ) (o : Outcome) (tally new : Tally) (done : Option Outcome) → IsSearch ps rep g os ts es b vs most → t < length g.points → Cells rep es t tally → may_enter (at_entries ps rep es) t o ≡ true → done ≡ outcome_with tally o → new ≡ record { left = tally.left - 1; least = lesser tally.least o } →
    es' ≡ es ++ record { trial = t; outcome = o } ∷ [] → vs' ≡ vs + versions_by b done → b' ≡ better_by b (completed_now t None done) → os' ≡ set os t done → length h.points ≤ count h.sizes → Leads most (known_by os') g h → advance most (known_by os') h ≡ None → IsSearch ps rep h (set os t done) (set ts t new) es' b' vs' most
entered_now ps rep g h os os' ts es es' b b' vs vs' most t o tally new done s here c ok d n more made best wrote fits l over =
    let e : Costed = record { trial = t; outcome = o } in
    let d' : done ≡ outcome_with (tally_from rep (measured es t)) o = d ∙ ap (λ (y : Tally). outcome_with y o) c.tally_is in
    let n' : new ≡ record { left = (tally_from rep (measured es t)).left - 1; least = lesser (tally_from rep (measured es t)).least o } = n ∙ ap (λ (y : Tally). record { left = y.left - 1; least = lesser y.least o }) c.tally_is in
    let l' : Leads most (known_by (set os t done)) g h = subst (λ (v : List (Option Outcome)). Leads most (known_by v) g h) wrote l in
    let over' : advance most (known_by (set os t done)) h ≡ None = subst (λ (v : List (Option Outcome)). advance most (known_by v) h ≡ None) wrote over in
    subst (λ (v : List Costed). IsSearch ps rep h (set os t done) (set ts t new) v b' vs' most) (sym more)
    (entered ps rep g h os (set os t done) ts (set ts t new) es b b' vs vs' most e s here c.none
    (record { allowed = ok; done = done; done_is = d'; outcomes = refl; tally = new; tally_is = n'; tallies = refl; best = best; versions = made; fits = fits; led = l'; over = over' }))

-- the game that the code keeps is the search played anew
pub game_now : (ps : List Param) (rep : ℕ) (g : Game) (os : List (Option Outcome)) (ts : List Tally) (es : List Costed) (b : Option Costed) (vs most spare : ℕ) (now : Searched) → IsSearch ps rep g os ts es b vs most → record { grid = ps; repeat = rep; entries = es; spare = spare } ≡ now → g ≡ played now
game_now ps rep g os ts es b vs most spare now s v = s.game ∙ ap played v

test_less : (x y : ℕ) → x < y → nat_lt x y ≡ true
test_less x y h = grind (arith, nat_tests)

both_tests : (x z : Bool) (y : Option Outcome) → x ≡ true → y ≡ None → z ≡ true → (x && not (is_some y) && z) ≡ true
both_tests true true None p q r = refl
both_tests true false None p q r = absurd (cc)
both_tests true z (Some v) p q r = absurd (cc)
both_tests false z y p q r = absurd (cc)

none_measured : (r n : ℕ) → r ≤ r - n → 1 ≤ r → nat_lt 0 n ≡ false
none_measured r n h k = grind (arith, nat_tests)

some_measured : (r n : ℕ) → r - n < r → nat_lt 0 n ≡ true
some_measured r n h = grind (arith, nat_tests)

-- it may be entered
pub allowed_now : (ps : List Param) (rep : ℕ) (g : Game) (os : List (Option Outcome)) (ts : List Tally) (es : List Costed) (b : Option Costed) (vs most spare t : ℕ) (now : Searched) (tally : Tally) (o : Outcome) → IsSearch ps rep g os ts es b vs most → record { grid = ps; repeat = rep; entries = es; spare = spare } ≡ now → t < length g.points → Cells rep es t tally → (is_refused o ≡ true → rep ≤ tally.left) → may_enter now t o ≡ true
allowed_now ps rep g os ts es b vs most spare t now tally o s v lt c f =
    let p : g ≡ played now = game_now ps rep g os ts es b vs most spare now s v in
    let a : nat_lt t (length (played now).points) ≡ true = subst (λ (x : Game). nat_lt t (length x.points) ≡ true) p (test_less t (length g.points) lt) in
    let b : known_in now t ≡ None = subst (λ (x : Searched). known_in x t ≡ None) v c.none in
    let d : not (is_refused o && nat_lt 0 (length (measured now.entries t))) ≡ true = subst (λ (x : Searched). not (is_refused o && nat_lt 0 (length (measured x.entries t))) ≡ true) v (at (is_refused o) (λ e. none_measured rep (length (measured es t)) (left (f e)) s.repeat.0)) in
    both_tests (nat_lt t (length (played now).points)) (not (is_refused o && nat_lt 0 (length (measured now.entries t)))) (known_in now t) a b d
  where
    left : rep ≤ tally.left → rep ≤ rep - length (measured es t)
    left h = let e = ap (λ (y : Tally). y.left) c.tally_is in omega (arith, e)

    at : (x : Bool) → (x ≡ true → nat_lt 0 (length (measured es t)) ≡ false) → not (x && nat_lt 0 (length (measured es t))) ≡ true
    at true h = ap (λ (y : Bool). not y) (h refl)
    at false h = refl

-- a trial that was measured is not refused any more
pub refused_now : (ps : List Param) (rep : ℕ) (es : List Costed) (spare t : ℕ) (now : Searched) (tally : Tally) (o : Outcome) → record { grid = ps; repeat = rep; entries = es; spare = spare } ≡ now → Cells rep es t tally → is_refused o ≡ true → tally.left < rep → may_enter now t o ≡ false
refused_now ps rep es spare t now tally o v c e h =
    let l = ap (λ (y : Tally). y.left) c.tally_is in
    let m : nat_lt 0 (length (measured now.entries t)) ≡ true = subst (λ (x : Searched). nat_lt 0 (length (measured x.entries t)) ≡ true) v (some_measured rep (length (measured es t)) (omega (arith, l))) in
    at (is_pending now t) (is_refused o) (nat_lt 0 (length (measured now.entries t))) e m
  where
    at : (x y z : Bool) → y ≡ true → z ≡ true → (x && not (y && z)) ≡ false
    at true y z p q = ap (λ (w : Bool). not (w && z)) p ∙ ap (λ (w : Bool). not w) q
    at false y z p q = refl

-- the value afterwards
pub searched_now : (now : Searched) (ps : List Param) (rep : ℕ) (es es' : List Costed) (spare spare' : ℕ) (c : Costed) → record { grid = ps; repeat = rep; entries = es; spare = spare } ≡ now → es' ≡ es ++ c ∷ [] → spare' ≡ spare - 1 →
    record { grid = ps; repeat = rep; entries = es'; spare = spare' } ≡ record now { entries = now.entries ++ c ∷ []; spare = now.spare - 1 }
searched_now now ps rep es es' spare spare' c v e s =
    subst (λ (n : Searched). record { grid = ps; repeat = rep; entries = es'; spare = spare' } ≡ record n { entries = n.entries ++ c ∷ []; spare = n.spare - 1 }) v
    (λ i. record { grid = ps; repeat = rep; entries = e i; spare = s i })
