-- What each round of a search keeps, from its opening to its end.
use Rattle.std.proofs.Common.{◌≡◌, ℕ, zero, suc, ◌+◌, ◌-◌, ◌*◌, ◌^◌, ◌<◌, ◌≤◌, min, Bool, true, false, cond, eqb, nat_lt, List, [], ◌∷◌, length, set, get_or, Some, refl, sym, subst, arith, ◌⊎◌, inl, inr}
use Rattle.std.specs.List.{All}
use Rattle.std.proofs.lemmas.Bool.Decides.{nat_tests}
use Rattle.std.proofs.lemmas.List.Elements.{All-head, All-tail, All-cons, All-nil, All-append, All-get_or}
use Rattle.ch_grid.specs.Points.{count}
use Rattle.ch_rank.specs.declared.outcome.Outcome.{Outcome}
use Rattle.ch_rank.specs.declared.outcome.Outcome.TheVariants.{Refused}
use Rattle.ch_rank.specs.declared.outcome.Costed.{Costed}
use Rattle.ch_rank.specs.declared.phase.Phase.{Phase}
use Rattle.ch_rank.specs.declared.phase.Phase.TheVariants.{Start, Reflect, Try, Expand, Shrink, Probe, Converged}
use Rattle.ch_rank.specs.Moves.{Point, expansion, centre, around, in_turn, first_simplex, beside, near, width}
use Rattle.ch_rank.specs.Trials.{mark}
use Rattle.ch_rank.specs.Search.{Game, Known, costed, below, best, others, all_but, place_of_best, lowers, is_flat, enlisted, numbers, move, moves, only}
use Rattle.ch_rank.specs.Entries.{In}
use Rattle.ch_rank.proofs.Lists.{all_map, all_more, all_both, list_all_of}
use Rattle.ch_rank.proofs.Table.{InGrid}
use Rattle.ch_rank.proofs.Moved.{coordinate}
use Rattle.ch_rank.proofs.Beside.{set_point}
use Rattle.ch_rank.specs.Growth.{Keeps}
use Rattle.ch_rank.proofs.Held.{Held}
use Rattle.ch_rank.proofs.Spread.{Within, AreSizes, within_one, within_grid}
use Rattle.ch_rank.proofs.Least.{Steps}
use Rattle.ch_rank.proofs.Outcomes.{not_trans, in_costed}
use Rattle.ch_rank.proofs.Apart.{AreApart, new_asked, one_trial}

-- ---- points that a round asks for are in the grid

abbrev pub Inside : ℕ → List Costed → Type 0
Inside n row = All (λ c. c.trial < n) row

pub at_point : (ns : List ℕ) (ps : List Point) (t : ℕ) → AreApart ns ps → t < length ps → InGrid ns (get_or ps t [])
at_point ns ps t a h = All-get_or (InGrid ns) ps t [] h a.in_grid

pub all_but_all : (P : Costed → Type 0) (place here : ℕ) (cs : List Costed) → All P cs → All P (all_but place here cs)
all_but_all P place here [] a = All-nil P
all_but_all P place here (c ∷ cs) a = at (eqb here place) (all_but_all P place (suc here) cs (All-tail P c cs a))
  where
    at : (b : Bool) → All P (all_but place (suc here) cs) → All P (cond b (all_but place (suc here) cs) (c ∷ all_but place (suc here) cs))
    at true r = r
    at false r = All-cons P c (all_but place (suc here) cs) (All-head P c cs a) r

pub moves_all : (Q : Point → Type 0) (f : ℕ → ℕ → ℕ) (g : Game) → All (λ c. Q (move f g (best g.simplex).trial c)) g.simplex → All Q (moves f g)
moves_all Q f g a = all_map Q (move f g (best g.simplex).trial) (others g.simplex) (all_but_all (λ c. Q (move f g (best g.simplex).trial c)) (place_of_best g.simplex) 0 g.simplex a)

pub only_all : (Q : Point → Type 0) (n : ℕ) (ps : List Point) → All Q ps → All Q (only n ps)
only_all Q n [] a = All-nil Q
only_all Q zero (p ∷ ps) a = All-cons Q p [] (All-head Q p ps a) (All-nil Q)
only_all Q (suc n) (p ∷ ps) a = only_all Q n ps (All-tail Q p ps a)

in_turn_all : (Q : Point → Type 0) (rule : ℕ → List Point) (m k n : ℕ) → m + k ≡ n → ((i : ℕ) → i < n → All Q (rule i)) → All Q (in_turn rule m k)
in_turn_all Q rule zero k n e f = All-nil Q
in_turn_all Q rule (suc m) k n e f = All-append Q (rule k) (in_turn rule m (suc k)) (f k (omega arith)) (in_turn_all Q rule m (suc k) n (omega arith) f)

one_if_all : (Q : Point → Type 0) (b : Bool) (p : Point) → (b ≡ true → Q p) → All Q (cond b (p ∷ []) [])
one_if_all Q true p f = All-cons Q p [] (f refl) (All-nil Q)
one_if_all Q false p f = All-nil Q

test_lt : (x n : ℕ) → nat_lt x n ≡ true → x < n
test_lt x n h = grind (arith, nat_tests)

pub near_in : (ns p : List ℕ) → InGrid ns p → All (InGrid ns) (near ns p)
near_in ns p h = in_turn_all (InGrid ns) (beside ns p) (length ns) 0 (length ns) (omega arith) (λ k lt.
    let c = coordinate ns p k h lt in
    All-append (InGrid ns) (cond (nat_lt (get_or p k 0 + 1) (get_or ns k 0)) (set p k (get_or p k 0 + 1) ∷ []) []) (cond (nat_lt 0 (get_or p k 0)) (set p k (get_or p k 0 - 1) ∷ []) [])
    (one_if_all (InGrid ns) (nat_lt (get_or p k 0 + 1) (get_or ns k 0)) (set p k (get_or p k 0 + 1)) (λ e. set_point ns p k (get_or p k 0 + 1) h (test_lt (get_or p k 0 + 1) (get_or ns k 0) e)))
    (one_if_all (InGrid ns) (nat_lt 0 (get_or p k 0)) (set p k (get_or p k 0 - 1)) (λ e. set_point ns p k (get_or p k 0 - 1) h (less (get_or p k 0) (get_or ns k 0) c.below))))
  where
    less : (x n : ℕ) → x < n → x - 1 < n
    less x n h = omega arith

pub first_in : (ns : List ℕ) → InGrid ns (centre ns) → All (InGrid ns) (first_simplex ns)
first_in ns h = All-cons (InGrid ns) (centre ns) (in_turn (around ns (centre ns)) (length ns) 0) h (in_turn_all (InGrid ns) (around ns (centre ns)) (length ns) 0 (length ns) (omega arith) (λ k lt.
    let c = coordinate ns (centre ns) k h lt in
    let x : ℕ = get_or (centre ns) k 0 in
    let n : ℕ = get_or ns k 0 in
    All-cons (InGrid ns) (set (centre ns) k (min (x + width n) (n - 1))) (set (centre ns) k (x - width n) ∷ []) (set_point ns (centre ns) k (min (x + width n) (n - 1)) h (above x n (width n) c.below))
    (All-cons (InGrid ns) (set (centre ns) k (x - width n)) [] (set_point ns (centre ns) k (x - width n) h (under x n (width n) c.below)) (All-nil (InGrid ns)))))
  where
    above : (x n w : ℕ) → x < n → min (x + w) (n - 1) < n
    above x n w h = omega arith

    under : (x n w : ℕ) → x < n → x - w < n
    under x n w h = omega arith

-- ---- how far the simplex reaches

abbrev pub Spread : ℕ → List Point → ℕ → List Costed → Type 0
Spread e points top row = All (λ c. Within e (get_or points top []) (get_or points c.trial [])) row

pub spread_keeps : (e : ℕ) (ps qs : List Point) (top : ℕ) (row : List Costed) → Keeps ps qs → top < length ps → Inside (length ps) row → Spread e ps top row → Spread e qs top row
spread_keeps e ps qs top row k h i s = all_both (λ c. c.trial < length ps) (λ c. Within e (get_or ps top []) (get_or ps c.trial [])) (λ c. Within e (get_or qs top []) (get_or qs c.trial [])) row
    (λ c lt w. subst (λ (p : Point). Within e p (get_or qs c.trial [])) (sym (k.same top h)) (subst (λ (p : Point). Within e (get_or ps top []) p) (sym (k.same c.trial lt)) w)) i s

pub spread_grid : (m : ℕ) (ns : List ℕ) (ps : List Point) (top : ℕ) (row : List Costed) → AreSizes m ns → AreApart ns ps → top < length ps → Inside (length ps) row → Spread m ps top row
spread_grid m ns ps top row z a h i = all_more (λ c. c.trial < length ps) (λ c. Within m (get_or ps top []) (get_or ps c.trial [])) row (λ c lt. within_grid m ns (get_or ps top []) (get_or ps c.trial []) z (at_point ns ps top a h) (at_point ns ps c.trial a lt)) i

eqb_of : (x y : ℕ) → x ≡ y → eqb x y ≡ true
eqb_of x y e = grind (arith, nat_tests)

-- at distance below one all places are the best point
pub flat_of : (ns : List ℕ) (ps : List Point) (row : List Costed) → AreApart ns ps → (best row).trial < length ps → Inside (length ps) row → Spread 1 ps (best row).trial row → is_flat row ≡ true
flat_of ns ps row a h i s = list_all_of (λ c. eqb c.trial (best row).trial) row (all_both (λ c. c.trial < length ps) (λ c. Within 1 (get_or ps (best row).trial []) (get_or ps c.trial [])) (λ c. eqb c.trial (best row).trial ≡ true) row
    (λ c lt w. eqb_of c.trial (best row).trial (one_trial ns ps c.trial (best row).trial a lt h (sym (within_one (get_or ps (best row).trial []) (get_or ps c.trial []) w)))) i s)

-- ---- outcomes of the trials so far

abbrev pub Above : Known → ℕ → Outcome → Type 0
Above k n m = (t : ℕ) → t < n → (o : Outcome) × (k t ≡ Some o) × (below o m ≡ false)

-- each trial is asked for, or has an outcome that is not below m
abbrev pub Decided : Known → ℕ → List ℕ → Outcome → Type 0
Decided k n asked m = (t : ℕ) → t < n → In t asked ⊎ ((o : Outcome) × (k t ≡ Some o) × (below o m ≡ false))

pub above_less : (k : Known) (n : ℕ) (m l : Outcome) → Above k n m → below m l ≡ false → Above k n l
above_less k n m l a h t lt = let x = a t lt in (x.0, x.1, not_trans x.0 m l x.2 h)

pub decided_row : (k : Known) (n : ℕ) (asked : List ℕ) (m l : Outcome) (row : List Costed) → Decided k n asked m → costed k asked ≡ Some row → ((c : Costed) → In c row → below c.outcome l ≡ false) → below m l ≡ false → Above k n l
decided_row k n asked m l row d e f h t lt = at (d t lt)
  where
    at : In t asked ⊎ ((o : Outcome) × (k t ≡ Some o) × (below o m ≡ false)) → (o : Outcome) × (k t ≡ Some o) × (below o l ≡ false)
    at (inl i) = let x = in_costed k asked row t e i in (x.0, x.1, f (record { trial = t; outcome = x.0 }) x.2)
    at (inr x) = (x.0, x.1, not_trans x.0 m l x.2 h)

pub asks_decided : (k : Known) (points ps : List Point) (m : Outcome) → Above k (length points) m → Decided k (length (enlisted points ps)) (numbers points ps) m
asks_decided k points ps m a t h = at (new_asked points ps t h)
  where
    at : (t < length points) ⊎ In t (numbers points ps) → In t (numbers points ps) ⊎ ((o : Outcome) × (k t ≡ Some o) × (below o m ≡ false))
    at (inl lt) = inr (a t lt)
    at (inr i) = inl i

-- ---- what is kept

-- the rows of a game on a grid: n points so far, at most 2 ^ (c - j) apart, in j halvings of the least outcome
pub record Base (k : Known) (ns : List ℕ) (c j : ℕ) (g : Game) : Type 0 where
  pub sizes : g.sizes ≡ ns
  pub trials : AreApart ns g.points
  pub some : 0 < length g.simplex
  pub simplex_in : Inside (length g.points) g.simplex
  pub kept_in : Inside (length g.points) g.kept
  pub simplex_held : Held k g.simplex
  pub kept_held : Held k g.kept
  pub steps : Steps k (best g.simplex).outcome (length g.points) c j g.steps
  pub spread : Spread (2 ^ (c - j)) g.points (best g.simplex).trial g.simplex

abbrev pub aim : Phase → Game → Outcome
aim Try g = (best g.kept).outcome
aim Expand g = (best g.kept).outcome
aim _ g = (best g.simplex).outcome

abbrev pub Turn : Known → List ℕ → ℕ → ℕ → Phase → Game → Type 0
Turn k ns c j Start g = ⊥
Turn k ns c j Reflect g = is_flat g.simplex ≡ false
Turn k ns c j Try g = (is_flat g.simplex ≡ false) × (lowers (best g.simplex) g.kept ≡ true) × All (λ t. (t < length g.points) × In (get_or g.points t []) (moves expansion g)) g.asked
Turn k ns c j Expand g = (is_flat g.simplex ≡ false) × (lowers (best g.simplex) g.kept ≡ true) × ((row : List Costed) → costed k g.asked ≡ Some row → lowers (best g.kept) row ≡ true)
Turn k ns c j Shrink g = (j < c) × All (λ t. (t < length g.points) × Within (2 ^ (c - (j + 1))) (get_or g.points (best g.simplex).trial []) (get_or g.points t [])) g.asked
Turn k ns c j Probe g = (is_flat g.simplex ≡ true) × All (λ p. 0 < mark g.points p) (near ns (get_or g.points (best g.simplex).trial []))
Turn k ns c j Converged g = ⊥

pub record Going (k : Known) (ns : List ℕ) (c j : ℕ) (ph : Phase) (g : Game) : Type 0 where
  pub base : Base k ns c j g
  pub asked_in : All (λ t. t < length g.points) g.asked
  pub decided : Decided k (length g.points) g.asked (aim ph g)
  pub old : (t : ℕ) → t + length g.asked < length g.points → (o : Outcome) × (k t ≡ Some o)
  pub turn : Turn k ns c j ph g

pub record Opened (k : Known) (ns : List ℕ) (j : ℕ) (g : Game) : Type 0 where
  pub sizes : g.sizes ≡ ns
  pub trials : AreApart ns g.points
  pub some : 0 < length g.asked
  pub empty : g.simplex ≡ []
  pub asked_in : All (λ t. t < length g.points) g.asked
  pub decided : Decided k (length g.points) g.asked Refused
  pub old : (t : ℕ) → t + length g.asked < length g.points → (o : Outcome) × (k t ≡ Some o)
  pub no_steps : g.steps ≡ 0
  pub no_halvings : j ≡ 0

pub record Ended (k : Known) (ns : List ℕ) (c : ℕ) (g : Game) : Type 0 where
  pub sizes : g.sizes ≡ ns
  pub trials : AreApart ns g.points
  pub some : 0 < length g.simplex
  pub simplex_in : Inside (length g.points) g.simplex
  pub simplex_held : Held k g.simplex
  pub no_more : g.asked ≡ []
  pub flat : is_flat g.simplex ≡ true
  pub neighbours : All (λ p. 0 < mark g.points p) (near ns (get_or g.points (best g.simplex).trial []))
  pub above : Above k (length g.points) (best g.simplex).outcome
  pub steps_few : g.steps ≤ count ns * (c + 1)

abbrev pub Reached : Known → List ℕ → ℕ → ℕ → Phase → Game → Type 0
Reached k ns c j Start g = Opened k ns j g
Reached k ns c j Converged g = Ended k ns c g
Reached k ns c j ph g = Going k ns c j ph g
