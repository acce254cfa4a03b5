-- Each row of a game has its trials' outcomes, and each round asks for the points that its rule names.
use Rattle.std.proofs.Common.{◌≡◌, ◌≢◌, ℕ, zero, suc, ◌+◌, ◌-◌, ◌<◌, Bool, true, false, cond, nat_lt, List, [], ◌∷◌, ◌++◌, length, get_or, Option, Some, None, refl, ap, ◌∙◌, subst, arith}
use Rattle.std.specs.List.{All, list_any}
use Rattle.std.proofs.lemmas.List.Elements.{All-head, All-tail, All-cons, All-nil}
use Rattle.std.proofs.lemmas.Bool.Decides.{nat_tests}
use Rattle.ch_rank.specs.declared.outcome.Outcome.{Outcome}
use Rattle.ch_rank.specs.declared.outcome.Costed.{Costed}
use Rattle.ch_rank.specs.declared.phase.Phase.{Phase}
use Rattle.ch_rank.specs.declared.phase.Phase.TheVariants.{Start, Reflect, Try, Expand, Shrink, Probe, Converged}
use Rattle.ch_rank.specs.Moves.{Point, same_point, expansion, halfway}
use Rattle.ch_rank.specs.Trials.{mark, mark_from, with_point}
use Rattle.ch_rank.specs.Search.{Game, Known, and_also, costed, best, best_of, below, lowers, enlisted, numbers, asks, begins, begins_on, is_flat, stepped, decides, moves, only, place_of_best}
use Rattle.ch_rank.proofs.Marks.{same_is, listed_mark, mark_new}
use Rattle.ch_rank.proofs.Asking.{keeps_self, keeps_one, keeps_on}
use Rattle.ch_rank.specs.Growth.{Keeps}

-- ---- the points of the numbers

pub mark_at : (t : ℕ) (qs : List Point) (p : Point) → 0 < mark_from t qs p → (t < mark_from t qs p) × (mark_from t qs p - suc t < length qs) × (get_or qs (mark_from t qs p - suc t) [] ≡ p)
mark_at t [] p h = absurd (omega arith)
mark_at t (q ∷ qs) p h = case (same_point q p) refl h (mark_at (suc t) qs p)
  where
    case : (b : Bool) → same_point q p ≡ b → 0 < cond b (suc t) (mark_from (suc t) qs p) → (0 < mark_from (suc t) qs p → (suc t < mark_from (suc t) qs p) × (mark_from (suc t) qs p - suc (suc t) < length qs) × (get_or qs (mark_from (suc t) qs p - suc (suc t)) [] ≡ p)) →
        (t < cond b (suc t) (mark_from (suc t) qs p)) × (cond b (suc t) (mark_from (suc t) qs p) - suc t < suc (length qs)) × (get_or (q ∷ qs) (cond b (suc t) (mark_from (suc t) qs p) - suc t) [] ≡ p)
    case true e h f = let z : suc t - suc t ≡ 0 = omega arith in (omega arith, omega arith, ap (λ n. get_or (q ∷ qs) n []) z ∙ same_is q p e)
    case false e h f = let r = f h in
        let z : mark_from (suc t) qs p - suc t ≡ suc (mark_from (suc t) qs p - suc (suc t)) = omega (arith, r.0) in (omega (arith, r.0), omega (arith, r.0, r.1), ap (λ n. get_or (q ∷ qs) n []) z ∙ r.2)

-- a point that was listed has a trial, and that trial is at the point
is_zero : (m : ℕ) → false ≡ nat_lt 0 m → m ≡ 0
is_zero m e = grind (arith, nat_tests)

is_more : (m : ℕ) → true ≡ nat_lt 0 m → 0 < m
is_more m e = grind (arith, nat_tests)

here_case : (b : Bool) (ps : List Point) (p : Point) → b ≡ nat_lt 0 (mark ps p) → 0 < mark (cond b ps (ps ++ p ∷ [])) p
here_case true ps p e = is_more (mark ps p) e
here_case false ps p e = let n = mark_new 0 ps p (is_zero (mark ps p) e) in omega (arith, n)

pub listed_here : (ps : List Point) (p : Point) → 0 < mark (with_point ps p) p
listed_here ps p = here_case (list_any (same_point p) ps) ps p (listed_mark 0 ps p)

pub point_here : (ps : List Point) (p : Point) → (mark (with_point ps p) p - 1 < length (with_point ps p)) × (get_or (with_point ps p) (mark (with_point ps p) p - 1) [] ≡ p)
point_here ps p = let m = mark_at 0 (with_point ps p) p (listed_here ps p) in (m.1, m.2)

pub keeps_all : (points ps : List Point) → Keeps points (enlisted points ps)
keeps_all points [] = keeps_self points
keeps_all points (p ∷ ps) = keeps_on points (with_point points p) (enlisted (with_point points p) ps) (keeps_one points p) (keeps_all (with_point points p) ps)

-- the points that the asked trials have are those that were asked for
pub asked_points : (points ps : List Point) (i : ℕ) → i < length ps → get_or (enlisted points ps) (get_or (numbers points ps) i 0) [] ≡ get_or ps i []
asked_points points [] i h = absurd (omega arith)
asked_points points (p ∷ ps) zero h =
    let k = keeps_all (with_point points p) ps in
    let m = point_here points p in k.same (mark (with_point points p) p - 1) m.0 ∙ m.1
asked_points points (p ∷ ps) (suc i) h = asked_points (with_point points p) ps i (omega arith)

-- ---- what a row holds

abbrev pub Held : Known → List Costed → Type 0
Held k row = All (λ c. k c.trial ≡ Some c.outcome) row

pub costed_held : (k : Known) (ts : List ℕ) (row : List Costed) → costed k ts ≡ Some row → Held k row
costed_held k [] row e = let r : [] ≡ row = cc in subst (λ (v : List Costed). Held k v) r (All-nil (λ c. k c.trial ≡ Some c.outcome))
costed_held k (t ∷ ts) row e = at (k t) (costed k ts) refl e (costed_held k ts)
  where
    at : (o : Option Outcome) (xs : Option (List Costed)) → k t ≡ o → and_also t o xs ≡ Some row → ((r : List Costed) → xs ≡ Some r → Held k r) → Held k row
    at (Some v) (Some r) is e f = let q : record { trial = t; outcome = v } ∷ r ≡ row = cc in subst (λ (w : List Costed). Held k w) q (All-cons (λ c. k c.trial ≡ Some c.outcome) (record { trial = t; outcome = v }) r is (f r refl))
    at (Some v) None is e f = absurd (cc)
    at None xs is e f = absurd (cc)

best_of_held : (k : Known) (b : Costed) (cs : List Costed) → k b.trial ≡ Some b.outcome → Held k cs → k (best_of b cs).trial ≡ Some (best_of b cs).outcome
best_of_held k b [] h a = h
best_of_held k b (c ∷ cs) h a = best_of_held k (cond (below c.outcome b.outcome) c b) cs (pick (below c.outcome b.outcome) (All-head (λ u. k u.trial ≡ Some u.outcome) c cs a)) (All-tail (λ u. k u.trial ≡ Some u.outcome) c cs a)
  where
    pick : (t : Bool) → k c.trial ≡ Some c.outcome → k (cond t c b).trial ≡ Some (cond t c b).outcome
    pick true x = x
    pick false x = h

pub best_held : (k : Known) (row : List Costed) → 0 < length row → Held k row → k (best row).trial ≡ Some (best row).outcome
best_held k [] h a = absurd (omega arith)
best_held k (c ∷ cs) h a = best_of_held k c cs (All-head (λ u. k u.trial ≡ Some u.outcome) c cs a) (All-tail (λ u. k u.trial ≡ Some u.outcome) c cs a)

-- ---- every round keeps it

pub record Rows (k : Known) (g : Game) : Type 0 where
  pub simplex : Held k g.simplex
  pub kept : Held k g.kept
  pub some : g.phase ≢ Start → 0 < length g.simplex

pub led_held : (k : Known) (simplex row : List Costed) → 0 < length simplex → Held k simplex → Held k row → Held k (best simplex ∷ row)
led_held k simplex row h a b = All-cons (λ c. k c.trial ≡ Some c.outcome) (best simplex) row (best_held k simplex h a) b

nothing : (k : Known) → Held k []
nothing k = All-nil (λ c. k c.trial ≡ Some c.outcome)

begins_rows : (k : Known) (b : Bool) (g : Game) → 0 < length g.simplex → Held k g.simplex → Held k g.kept → Rows k (begins_on b g)
begins_rows k true g h a c = record { simplex = a; kept = c; some = λ e. h }
begins_rows k false g h a c = record { simplex = a; kept = c; some = λ e. h }

begin_rows : (k : Known) (g : Game) (row : List Costed) → 0 < length row → Held k row → Rows k (begins g row)
begin_rows k g row h a = begins_rows k (is_flat row) (record g { simplex = row; kept = [] }) h a (nothing k)

pick_rows : (k : Known) (b : Bool) (g h : Game) → Rows k g → Rows k h → Rows k (cond b g h)
pick_rows k true g h p q = p
pick_rows k false g h p q = q

pub decides_rows : (k : Known) (ph : Phase) (g : Game) (row : List Costed) → Held k g.simplex → Held k g.kept → (ph ≡ Start → 0 < length row) → (ph ≢ Start → 0 < length g.simplex) → ph ≢ Converged → Held k row → Rows k (decides ph g row)
decides_rows k Start g row s c f l n r = begin_rows k g row (f refl) r
decides_rows k Reflect g row s c f l n r = let h = l (λ e. cc) in
    pick_rows k (lowers (best g.simplex) row) (asks (record g { kept = row }) Try (only (place_of_best row) (moves expansion g))) (asks g Shrink (moves halfway g)) (record { simplex = s; kept = r; some = λ e. h }) (record { simplex = s; kept = c; some = λ e. h })
decides_rows k Try g row s c f l n r = let h = l (λ e. cc) in
    pick_rows k (lowers (best g.kept) row) (asks g Expand (moves expansion g)) (stepped g (best g.simplex ∷ g.kept)) (record { simplex = s; kept = c; some = λ e. h }) (begin_rows k (record g { steps = g.steps + 1 }) (best g.simplex ∷ g.kept) (omega arith) (led_held k g.simplex g.kept h s c))
decides_rows k Expand g row s c f l n r = let h = l (λ e. cc) in begin_rows k (record g { steps = g.steps + 1 }) (best g.simplex ∷ row) (omega arith) (led_held k g.simplex row h s r)
decides_rows k Shrink g row s c f l n r = let h = l (λ e. cc) in begin_rows k (record g { steps = g.steps + 1 }) (best g.simplex ∷ row) (omega arith) (led_held k g.simplex row h s r)
decides_rows k Probe g row s c f l n r = let h = l (λ e. cc) in
    pick_rows k (lowers (best g.simplex) row) (stepped g (best g.simplex ∷ row)) (record g { phase = Converged; asked = []; steps = g.steps + 1 }) (begin_rows k (record g { steps = g.steps + 1 }) (best g.simplex ∷ row) (omega arith) (led_held k g.simplex row h s r)) (record { simplex = s; kept = c; some = λ e. h })
decides_rows k Converged g row s c f l n r = absurd (n refl)
