-- The trials without an outcome, from a number on.
use Rattle.std.proofs.Common.{IsSome, ◌≡◌, ℕ, zero, suc, ◌+◌, ◌-◌, ◌<◌, ◌≤◌, Bool, true, false, cond, not, List, [], ◌∷◌, length, get_or, Option, Some, None, is_some, refl, sym, ap, ◌∙◌, subst, arith, ◌⊎◌, inl, inr}
use Rattle.std.specs.List.{range_with_len}
use Rattle.std.specs.Prelude.{filter}
use Rattle.std.proofs.lemmas.List.{get_or_default}
use Rattle.std.proofs.lemmas.Bool.Decides.{nat_tests}
use Rattle.ch_grid.specs.declared.param.Param.{Param}
use Rattle.ch_grid.specs.Grid.{sizes}
use Rattle.ch_rank.specs.declared.outcome.Outcome.{Outcome}
use Rattle.ch_rank.specs.declared.outcome.Costed.{Costed}
use Rattle.ch_rank.specs.declared.tally.Tally.{Tally}
use Rattle.ch_rank.specs.declared.phase.Phase.TheVariants.{Converged}
use Rattle.ch_rank.specs.Search.{Game, Known, search_on}
use Rattle.ch_rank.specs.Board.{known_by}
use Rattle.ch_rank.specs.Entries.{known, known_in, IsSearch, Searched, played, pending}
use Rattle.ch_rank.proofs.Entering.{game_now}
use Rattle.ch_rank.proofs.Ending.{old_known, ends, ended}

-- those among s trials from a on
abbrev pub unknown_from : Known → ℕ → ℕ → List ℕ
unknown_from k a s = filter (λ t. not (is_some (k t))) (range_with_len a s)

abbrev pub KnownBetween : Known → ℕ → ℕ → Type 0
KnownBetween k a n = (t : ℕ) → a ≤ t → t < a + n → (o : Outcome) × (k t ≡ Some o)

test_known : (x : Option Outcome) (o : Outcome) → x ≡ Some o → not (is_some x) ≡ false
test_known (Some v) o e = refl
test_known None o e = absurd (cc)

pub skip : (k : Known) (n a s : ℕ) → KnownBetween k a n → unknown_from k a (n + s) ≡ unknown_from k (a + n) s
skip k zero a s f = let z : a + 0 ≡ a = omega arith in let y : 0 + s ≡ s = omega arith in ap (λ m. unknown_from k a m) y ∙ ap (λ m. unknown_from k m s) (sym z)
skip k (suc n) a s f =
    let x = f a (omega arith) (omega arith) in
    let up : suc n + s ≡ suc (n + s) = omega arith in
    let next : a + 1 + n ≡ a + suc n = omega arith in
    ap (λ m. unknown_from k a m) up ∙ (ap (λ (b : Bool). cond b (a ∷ unknown_from k (a + 1) (n + s)) (unknown_from k (a + 1) (n + s))) (test_known (k a) x.0 x.1)
    ∙ (skip k n (a + 1) s (λ t l h. f t (omega arith) (omega arith)) ∙ ap (λ m. unknown_from k m s) next))

-- one more trial, which has no outcome or has one
pub at_unknown : (k : Known) (a n : ℕ) → a < n → k a ≡ None → unknown_from k a (n - a) ≡ a ∷ unknown_from k (a + 1) (n - (a + 1))
at_unknown k a n h e =
    let up : n - a ≡ suc (n - (a + 1)) = omega arith in
    ap (λ m. unknown_from k a m) up ∙ ap (λ (o : Option Outcome). cond (not (is_some o)) (a ∷ unknown_from k (a + 1) (n - (a + 1))) (unknown_from k (a + 1) (n - (a + 1)))) e

pub at_known : (k : Known) (a n : ℕ) → a < n → (o : Outcome) → k a ≡ Some o → unknown_from k a (n - a) ≡ unknown_from k (a + 1) (n - (a + 1))
at_known k a n h o e =
    let up : n - a ≡ suc (n - (a + 1)) = omega arith in
    ap (λ m. unknown_from k a m) up ∙ ap (λ (o : Option Outcome). cond (not (is_some o)) (a ∷ unknown_from k (a + 1) (n - (a + 1))) (unknown_from k (a + 1) (n - (a + 1)))) e

at_end : (k : Known) (a : ℕ) → unknown_from k a (a - a) ≡ []
at_end k a = let z : a - a ≡ 0 = omega arith in ap (λ m. unknown_from k a m) z

-- all that wait stand from this number on
pub waiting : (ps : List Param) (k : Known) (g : Game) → g ≡ search_on (sizes ps) k → unknown_from k (length g.points - length g.asked) (length g.points - (length g.points - length g.asked)) ≡ unknown_from k 0 (length g.points)
waiting ps k g e =
    let n : ℕ = length g.points in
    let a : ℕ = n - length g.asked in
    let whole : a + (n - a) ≡ n = omega arith in
    let front : 0 + a ≡ a = omega arith in
    sym (ap (λ m. unknown_from k 0 m) (sym whole) ∙ (skip k a 0 (n - a) (λ t l h. old t (omega arith)) ∙ ap (λ m. unknown_from k m (n - a)) front))
  where
    old : (t : ℕ) → t + length g.asked < length g.points → (o : Outcome) × (k t ≡ Some o)
    old t h = old_known ps k t (subst (λ (x : Game). t + length x.asked < length x.points) e h)

-- what the loops over the waiting trials know
pub record IsAt (k : Known) (whole : List ℕ) (n a : ℕ) (passed : ℕ) : Type 0 where
  pub within : a ≤ n
  pub few : passed ≤ n
  pub count : passed + length (unknown_from k a (n - a)) ≡ length whole
  pub rest : (i d : ℕ) → get_or (unknown_from k a (n - a)) i d ≡ get_or whole (passed + i) d

plus_none : (i : ℕ) → 0 + i ≡ i
plus_none i = omega arith

pub at_start : (k : Known) (whole : List ℕ) (n a : ℕ) → a ≤ n → unknown_from k a (n - a) ≡ whole → IsAt k whole n a 0
at_start k whole n a h e = record {
  within = h;
  few = omega arith;
  count = omega (arith, ap (λ (xs : List ℕ). length xs) e);
  rest = λ i d. ap (λ (xs : List ℕ). get_or xs i d) e ∙ ap (λ j. get_or whole j d) (sym (plus_none i));
}

pub at_next : (k : Known) (whole : List ℕ) (n a passed : ℕ) → IsAt k whole n a passed → passed ≤ a → a < n → k a ≡ None → IsAt k whole n (a + 1) (passed + 1)
at_next k whole n a passed s few h e =
    let u = at_unknown k a n h e in
    record {
      within = omega arith;
      few = omega arith;
      count = omega (arith, s.count, ap (λ (xs : List ℕ). length xs) u);
      rest = λ i d. ap (λ (xs : List ℕ). get_or xs (suc i) d) (sym u) ∙ (s.rest (suc i) d ∙ ap (λ j. get_or whole j d) (shift passed i));
    }
  where
    shift : (p i : ℕ) → p + suc i ≡ p + 1 + i
    shift p i = omega arith

pub at_other : (k : Known) (whole : List ℕ) (n a passed : ℕ) → IsAt k whole n a passed → a < n → (o : Outcome) → k a ≡ Some o → IsAt k whole n (a + 1) passed
at_other k whole n a passed s h o e =
    let u = at_known k a n h o e in
    record {
      within = omega arith;
      few = s.few;
      count = omega (arith, s.count, ap (λ (xs : List ℕ). length xs) u);
      rest = λ i d. ap (λ (xs : List ℕ). get_or xs i d) (sym u) ∙ s.rest i d;
    }

pub at_last : (k : Known) (whole : List ℕ) (n a passed : ℕ) → IsAt k whole n a passed → a ≡ n → passed ≡ length whole
at_last k whole n a passed s e = let z : n - a ≡ 0 = omega arith in omega (arith, s.count, ap (λ m. length (unknown_from k a m)) z)

pub at_here : (k : Known) (whole : List ℕ) (n a passed d : ℕ) → IsAt k whole n a passed → a < n → k a ≡ None → a ≡ get_or whole passed d
at_here k whole n a passed d s h e = ap (λ (xs : List ℕ). get_or xs 0 d) (sym (at_unknown k a n h e)) ∙ (s.rest 0 d ∙ ap (λ j. get_or whole j d) (more_none passed))
  where
    more_none : (p : ℕ) → p + 0 ≡ p
    more_none p = omega arith

-- ---- none waits exactly at the end

none_known : (x : Option Outcome) → not (is_some x) ≡ false → (o : Outcome) × (x ≡ Some o)
none_known (Some o) e = (o, refl)
none_known None e = absurd (cc)

none_left : (b : Bool) (x : ℕ) (xs : List ℕ) → length (cond b (x ∷ xs) xs) ≡ 0 → (b ≡ false) × (length xs ≡ 0)
none_left true x xs h = absurd (omega arith)
none_left false x xs h = (refl, h)

pub all_between : (k : Known) (n a : ℕ) → length (unknown_from k a n) ≡ 0 → KnownBetween k a n
all_between k zero a e t l h = absurd (omega arith)
all_between k (suc n) a e t l h = at (which a t l) (all_between k n (a + 1) (none_left (not (is_some (k a))) a (unknown_from k (a + 1) n) e).1 t)
  where
    which : (x y : ℕ) → x ≤ y → (x ≡ y) ⊎ (x + 1 ≤ y)
    which x y h = grind (arith, nat_tests)

    at : (a ≡ t) ⊎ (a + 1 ≤ t) → (a + 1 ≤ t → t < a + 1 + n → (o : Outcome) × (k t ≡ Some o)) → (o : Outcome) × (k t ≡ Some o)
    at (inl z) f = subst (λ (u : ℕ). (o : Outcome) × (k u ≡ Some o)) z (none_known (k a) (none_left (not (is_some (k a))) a (unknown_from k (a + 1) n) e).0)
    at (inr z) f = f z (omega arith)

pub none_waits : (s : Searched) → length (pending s) ≡ 0 → (played s).phase ≡ Converged
none_waits s e = ends s.grid (known_in s) (λ t h. all_between (known_in s) (length (played s).points) 0 e t (omega arith) (omega arith))

pub end_waits : (s : Searched) → (played s).phase ≡ Converged → length (pending s) ≡ 0
end_waits s e =
    let d = ended s.grid (known_in s) e in
    let n : ℕ = length (played s).points in
    let z : n + 0 ≡ n = omega arith in
    ap (λ m. length (unknown_from (known_in s) 0 m)) (sym z) ∙ ap (λ (xs : List ℕ). length xs) (skip (known_in s) n 0 0 (λ t l h. let x = d.above t (omega arith) in (x.0, x.1)))

-- a trial's cell in the code
pub cell_known : (rep : ℕ) (os : List (Option Outcome)) (es : List Costed) (t : ℕ) (read : Option Outcome) → ((u : ℕ) → known_by os u ≡ known rep es u) → t < length os → read ≡ get_or os t read → read ≡ known rep es t
cell_known rep os es t read are h e = e ∙ (get_or_default os t read None h ∙ are t)

pub is_none_of : (x : Option Outcome) (r : Bool) → is_some x ≡ not r → r ≡ true → x ≡ None
is_none_of None r e f = refl
is_none_of (Some o) true e f = absurd (cc)
is_none_of (Some o) false e f = absurd (cc)

pub is_some_of : (x : Option Outcome) (r : Bool) → is_some x ≡ not r → r ≡ false → (o : Outcome) × (x ≡ Some o)
is_some_of None true e f = absurd (cc)
is_some_of None false e f = absurd (cc)
is_some_of (Some o) r e f = (o, refl)

pub waiting_now : (ps : List Param) (rep : ℕ) (g : Game) (os : List (Option Outcome)) (ts : List Tally) (es : List Costed) (b : Option Costed) (vs most spare first : ℕ) (now : Searched) → IsSearch ps rep g os ts es b vs most → record { grid = ps; repeat = rep; entries = es; spare = spare } ≡ now → first ≡ length g.points - length g.asked → IsAt (known_in now) (pending now) (length (played now).points) first 0
waiting_now ps rep g os ts es b vs most spare first now s v e =
    let k : Known = known rep es in
    let a : IsAt k (unknown_from k 0 (length g.points)) (length g.points) (length g.points - length g.asked) 0 = at_start k (unknown_from k 0 (length g.points)) (length g.points) (length g.points - length g.asked) (omega arith) (waiting ps k g s.game) in
    let f : IsAt k (unknown_from k 0 (length g.points)) (length g.points) first 0 = subst (λ m. IsAt k (unknown_from k 0 (length g.points)) (length g.points) m 0) (sym e) a in
    let p : IsAt k (unknown_from k 0 (length (search_on (sizes ps) k).points)) (length (search_on (sizes ps) k).points) first 0 = subst (λ (x : Game). IsAt k (unknown_from k 0 (length x.points)) (length x.points) first 0) s.game f in
    subst (λ (x : Searched). IsAt (known_in x) (pending x) (length (played x).points) first 0) v p

-- what a look at a trial's cell tells
pub record Cell (now : Searched) (t : ℕ) (read : Option Outcome) : Type 0 where
  pub here : t < length (played now).points
  pub is : read ≡ known_in now t

pub cell_now : (ps : List Param) (rep : ℕ) (g : Game) (os : List (Option Outcome)) (ts : List Tally) (es : List Costed) (b : Option Costed) (vs most spare t end : ℕ) (now : Searched) (read : Option Outcome) → IsSearch ps rep g os ts es b vs most → record { grid = ps; repeat = rep; entries = es; spare = spare } ≡ now → end ≡ length g.points → t < end → read ≡ get_or os t read → Cell now t read
cell_now ps rep g os ts es b vs most spare t end now read s v n h e =
    let p = ap (λ (x : Game). length x.points) (game_now ps rep g os ts es b vs most spare now s v) in
    record {
      here = omega (arith, p);
      is = cell_known rep os es t read s.outcomes_are (omega (arith, s.long, s.within)) e ∙ ap (λ (x : Searched). known_in x t) v;
    }

-- a trial below the first one that may wait has its outcome
pub known_before : (ps : List Param) (rep : ℕ) (g : Game) (os : List (Option Outcome)) (ts : List Tally) (es : List Costed) (b : Option Costed) (vs most spare first : ℕ) (now : Searched) → IsSearch ps rep g os ts es b vs most → record { grid = ps; repeat = rep; entries = es; spare = spare } ≡ now → first ≡ length g.points - length g.asked → (t : ℕ) → t < first → IsSome (known_in now t)
known_before ps rep g os ts es b vs most spare first now s v e t h =
    let p : g ≡ played now = game_now ps rep g os ts es b vs most spare now s v in
    let o = old_known now.grid (known_in now) t (omega (arith, h, e, ap (λ (x : Game). length x.points) p, ap (λ (x : Game). length x.asked) p)) in
    subst (λ (x : Option Outcome). IsSome x) (sym o.1) refl
