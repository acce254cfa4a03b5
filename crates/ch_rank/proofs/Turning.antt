-- A loop that asks for what a rule gives for each coordinate in turn.
use Rattle.std.proofs.Common.{◌≡◌, ℕ, suc, ◌+◌, ◌-◌, ◌*◌, ◌<◌, ◌≤◌, List, [], ◌∷◌, ◌++◌, length, take, refl, sym, ap, ◌∙◌, subst, arith, length-append}
use Rattle.ch_rank.specs.Moves.{Point, in_turn, around, centre, first_simplex}
use Rattle.ch_rank.specs.Trials.{with_point}
use Rattle.ch_rank.specs.Board.{ask_one, finish}
use Rattle.ch_rank.specs.Search.{Game, numbers, asks}
use Rattle.ch_rank.proofs.Asking.{finish_more, finish_none}

pub finish_append : (g : Game) (ps qs : List Point) → finish (finish g ps) qs ≡ finish g (ps ++ qs)
finish_append g [] qs = ap (λ (h : Game). finish h qs) (finish_none g)
finish_append g (p ∷ ps) qs = ap (λ (h : Game). finish h qs) (sym (finish_more g p ps)) ∙ (finish_append (ask_one g p) ps qs ∙ finish_more g p (ps ++ qs))

numbers_long : (points ps : List Point) → length (numbers points ps) ≡ length ps
numbers_long points [] = refl
numbers_long points (p ∷ ps) = ap (λ n. suc n) (numbers_long (with_point points p) ps)

-- at coordinate k of n: what is left makes the whole of what the loop began with
pub record Turning (g0 : Game) (rule : ℕ → List Point) (n k : ℕ) (g : Game) : Type 0 where
  pub sizes : g.sizes ≡ g0.sizes
  pub few : length g.asked ≤ length g0.asked + 2 * k
  pub rest : finish g (in_turn rule (n - k) k) ≡ finish g0 (in_turn rule n 0)

less_none : (n : ℕ) → n - 0 ≡ n
less_none n = omega arith

more_one : (k : ℕ) → suc k ≡ k + 1
more_one k = omega arith

pub turning_start : (g0 : Game) (rule : ℕ → List Point) (n : ℕ) → Turning g0 rule n 0 g0
turning_start g0 rule n = record { sizes = refl; few = omega arith; rest = ap (λ j. finish g0 (in_turn rule j 0)) (less_none n) }

pub turning_more : (g0 g h : Game) (rule : ℕ → List Point) (n k : ℕ) → Turning g0 rule n k g → k < n → length (rule k) ≤ 2 → h ≡ finish g (rule k) → Turning g0 rule n (k + 1) h
turning_more g0 g h rule n k a lt two e =
    let m : n - k ≡ suc (n - (k + 1)) = omega arith in
    let r : finish g (rule k ++ in_turn rule (n - (k + 1)) (suc k)) ≡ finish g0 (in_turn rule n 0) = ap (λ j. finish g (in_turn rule j k)) (sym m) ∙ a.rest in
    subst (λ (x : Game). Turning g0 rule n (k + 1) x) (sym e) (record {
      sizes = a.sizes;
      few = omega (arith, a.few, length-append g.asked (numbers g.points (rule k)), numbers_long g.points (rule k));
      rest = subst (λ (j : ℕ). finish (finish g (rule k)) (in_turn rule (n - (k + 1)) j) ≡ finish g0 (in_turn rule n 0)) (more_one k) (finish_append g (rule k) (in_turn rule (n - (k + 1)) (suc k)) ∙ r);
    })

pub turning_end : (g0 g : Game) (rule : ℕ → List Point) (n k : ℕ) → Turning g0 rule n k g → k ≡ n → g ≡ finish g0 (in_turn rule n 0)
turning_end g0 g rule n k a e =
    let z : n - k ≡ 0 = omega arith in
    sym (finish_none g) ∙ (ap (λ j. finish g (in_turn rule j k)) (sym z) ∙ a.rest)

-- the first simplex: the centre, then what is around it
pub first_asked : (g0 g1 g : Game) (row : List ℕ) (k : ℕ) → g0.asked ≡ [] → g1 ≡ ask_one g0 (take (length g0.sizes) row) → take (length g0.sizes) row ≡ centre g0.sizes → Turning g1 (around g1.sizes (take (length g1.sizes) row)) (length g1.sizes) k g → k ≡ length g0.sizes →
    g ≡ asks g0 g0.phase (first_simplex g0.sizes)
first_asked g0 g1 g row k none one row_is a e =
    let n : g1.sizes ≡ g0.sizes = ap (λ (h : Game). h.sizes) one in
    let here : k ≡ length g1.sizes = omega (arith, e, ap (λ (v : List ℕ). length v) n) in
    let rest : List ℕ → List Point = λ ns. in_turn (around ns (take (length ns) row)) (length ns) 0 in
    let around_is : rest g1.sizes ≡ in_turn (around g0.sizes (centre g0.sizes)) (length g0.sizes) 0 = ap rest n ∙ ap (λ (p : Point). in_turn (around g0.sizes p) (length g0.sizes) 0) row_is in
    turning_end g1 g (around g1.sizes (take (length g1.sizes) row)) (length g1.sizes) k a here
    ∙ (ap (λ (ps : List Point). finish g1 ps) around_is
    ∙ (ap (λ (h : Game). finish h (in_turn (around g0.sizes (centre g0.sizes)) (length g0.sizes) 0)) (one ∙ ap (λ (p : Point). ask_one g0 p) row_is)
    ∙ (finish_more g0 (centre g0.sizes) (in_turn (around g0.sizes (centre g0.sizes)) (length g0.sizes) 0)
    ∙ ap (λ (ts : List ℕ). record (finish g0 (first_simplex g0.sizes)) { asked = ts ++ numbers g0.points (first_simplex g0.sizes) }) none)))
