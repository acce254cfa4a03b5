-- Each round keeps what a search keeps, and what a step does to the least outcome.
use Rattle.std.proofs.Common.{◌≡◌, ◌≢◌, ℕ, zero, suc, ◌+◌, ◌-◌, ◌^◌, ◌<◌, ◌≤◌, Bool, true, false, List, [], ◌∷◌, length, map, get_or, Some, refl, sym, ap, ap₂, ◌∙◌, subst, arith, ◌⊎◌, inl, inr}
use Rattle.std.specs.List.{All}
use Rattle.std.proofs.lemmas.Bool.Decides.{nat_tests}
use Rattle.std.proofs.lemmas.List.Elements.{All-cons, All-nil}
use Rattle.std.proofs.Math.Nat.{pow-suc}
use Rattle.ch_rank.specs.declared.outcome.Outcome.{Outcome}
use Rattle.ch_rank.specs.declared.outcome.Costed.{Costed}
use Rattle.ch_rank.specs.declared.phase.Phase.{Phase}
use Rattle.ch_rank.specs.declared.phase.Phase.TheVariants.{Reflect, Shrink, Probe, Converged}
use Rattle.ch_rank.specs.Moves.{Point, moved, reflection, near}
use Rattle.ch_rank.specs.Trials.{mark}
use Rattle.ch_rank.specs.Course.{least}
use Rattle.ch_rank.specs.Search.{Game, Known, costed, below, best, others, place_of_best, lowers, is_flat, enlisted, numbers, asks, move, moves, begins_on, stepped}
use Rattle.ch_rank.proofs.Lists.{all_at, all_of, all_more}
use Rattle.ch_rank.proofs.Table.{InGrid}
use Rattle.ch_rank.proofs.Moved.{moved_point}
use Rattle.ch_rank.proofs.Ranges.{costed_in, best_in, led_in}
use Rattle.ch_rank.proofs.Rowing as rowing
use Rattle.ch_rank.proofs.Held.{Held, keeps_all, best_held, led_held}
use Rattle.ch_rank.proofs.Spread.{Within, AreSizes, within_self}
use Rattle.ch_rank.proofs.Least.{Steps, steps_more, steps_shrink, steps_lower, best_keeps, best_lower}
use Rattle.ch_rank.proofs.Apart.{enlisted_apart, asked_all, asked_marks, enlisted_long, numbers_long}
use Rattle.ch_rank.proofs.Going.{Inside, Spread, spread_keeps, spread_grid, flat_of, at_point, all_but_all, moves_all, near_in, Above, Decided, asks_decided, Base, aim, Turn, Going, Reached}

-- ---- asking for points

pub top_in : (k : Known) (ns : List ℕ) (c j : ℕ) (g : Game) → Base k ns c j g → (best g.simplex).trial < length g.points
top_in k ns c j g b = best_in (length g.points) g.simplex b.some b.simplex_in

pub base_asks : (k : Known) (ns : List ℕ) (c j : ℕ) (g : Game) (ph : Phase) (ps : List Point) → Base k ns c j g → All (InGrid ns) ps → Base k ns c j (asks g ph ps)
base_asks k ns c j g ph ps b a =
    let kept = keeps_all g.points ps in
    record {
      sizes = b.sizes;
      trials = enlisted_apart ns g.points ps b.trials a;
      some = b.some;
      simplex_in = costed_in (length g.points) (length (enlisted g.points ps)) g.simplex kept.long b.simplex_in;
      kept_in = costed_in (length g.points) (length (enlisted g.points ps)) g.kept kept.long b.kept_in;
      simplex_held = b.simplex_held;
      kept_held = b.kept_held;
      steps = steps_more k (best g.simplex).outcome (length g.points) (length (enlisted g.points ps)) c j g.steps b.steps kept.long;
      spread = spread_keeps (2 ^ (c - j)) g.points (enlisted g.points ps) (best g.simplex).trial g.simplex kept (top_in k ns c j g b) b.simplex_in b.spread;
    }

abbrev pub AllKnown : Known → ℕ → Type 0
AllKnown k n = (t : ℕ) → t < n → (o : Outcome) × (k t ≡ Some o)

pub known_of : (k : Known) (n : ℕ) (m : Outcome) → Above k n m → AllKnown k n
known_of k n m a t h = let x = a t h in (x.0, x.1)

pub going_asks : (k : Known) (ns : List ℕ) (c j : ℕ) (g : Game) (ph : Phase) (ps : List Point) → Base k ns c j g → All (InGrid ns) ps → AllKnown k (length g.points) → Decided k (length (enlisted g.points ps)) (numbers g.points ps) (aim ph (asks g ph ps)) → Turn k ns c j ph (asks g ph ps) → Going k ns c j ph (asks g ph ps)
going_asks k ns c j g ph ps b a n d t = record {
  base = base_asks k ns c j g ph ps b a;
  asked_in = all_more (λ t. (t < length (enlisted g.points ps)) × InGrid ns (get_or (enlisted g.points ps) t [])) (λ t. t < length (enlisted g.points ps)) (numbers g.points ps) (λ t x. x.0) (asked_all (InGrid ns) g.points ps a);
  decided = d;
  old = λ t h. n t (omega (arith, h, enlisted_long g.points ps, numbers_long g.points ps));
  turn = t;
}

pub moves_in : (k : Known) (ns : List ℕ) (c j : ℕ) (g : Game) (f : ℕ → ℕ → ℕ) → Base k ns c j g → All (InGrid ns) (moves f g)
moves_in k ns c j g f b = moves_all (InGrid ns) f g (all_more (λ d. d.trial < length g.points) (λ d. InGrid ns (move f g (best g.simplex).trial d)) g.simplex
    (λ d lt. subst (λ (s : List ℕ). InGrid ns (moved f s (get_or g.points (best g.simplex).trial []) (get_or g.points d.trial []))) (sym b.sizes)
    (moved_point f ns (get_or g.points (best g.simplex).trial []) (get_or g.points d.trial []) (at_point ns g.points (best g.simplex).trial b.trials (top_in k ns c j g b)) (at_point ns g.points d.trial b.trials lt))) b.simplex_in)

map_same : (f h : Costed → Point) (row : List Costed) → All (λ d. f d ≡ h d) row → map f row ≡ map h row
map_same f h [] a = refl
map_same f h (d ∷ ds) a = ap₂ (λ (p : Point) (ps : List Point). p ∷ ps) (all_at (λ d. f d ≡ h d) d (d ∷ ds) a (inl refl)) (map_same f h ds (all_of (λ d. f d ≡ h d) ds (λ e i. all_at (λ d. f d ≡ h d) e (d ∷ ds) a (inr i))))

-- more points leave the moves as they are
pub moves_keep : (k : Known) (ns : List ℕ) (c j : ℕ) (g : Game) (f : ℕ → ℕ → ℕ) (ph : Phase) (ps : List Point) → Base k ns c j g → moves f (asks g ph ps) ≡ moves f g
moves_keep k ns c j g f ph ps b =
    let kept = keeps_all g.points ps in
    let top : ℕ = (best g.simplex).trial in
    map_same (move f (asks g ph ps) top) (move f g top) (others g.simplex) (all_but_all (λ d. move f (asks g ph ps) top d ≡ move f g top d) (place_of_best g.simplex) 0 g.simplex
    (all_more (λ d. d.trial < length g.points) (λ d. move f (asks g ph ps) top d ≡ move f g top d) g.simplex (λ d lt. ap₂ (λ (x y : Point). moved f g.sizes x y) (kept.same top (top_in k ns c j g b)) (kept.same d.trial lt)) b.simplex_in))

-- ---- what a round makes of a game

pub record After (j : ℕ) (ph : Phase) (g : Game) (j' : ℕ) (h : Game) : Type 0 where
  pub either : (below (least h) (least g) ≡ true) ⊎ ((least h ≡ least g) × (j' + g.steps ≡ j + h.steps))
  pub lowers : ph ≢ Shrink → h.phase ≢ Converged → g.steps < h.steps → below (least h) (least g) ≡ true

pub record Next (k : Known) (ns : List ℕ) (c j : ℕ) (ph : Phase) (g h : Game) : Type 0 where
  pub halvings : ℕ
  pub reached : Reached k ns c halvings h.phase h
  pub after : After j ph g halvings h

-- a round within a step
pub same_step : (j : ℕ) (ph : Phase) (g h : Game) → h.simplex ≡ g.simplex → h.steps ≡ g.steps → After j ph g j h
same_step j ph g h s e = record { either = inr (ap (λ (row : List Costed). (best row).outcome) s, omega arith); lowers = λ a b l. absurd (omega arith) }

pub begins_same : (b : Bool) (g : Game) → ((begins_on b g).simplex ≡ g.simplex) × ((begins_on b g).steps ≡ g.steps)
begins_same true g = (refl, refl)
begins_same false g = (refl, refl)

pub begins_reached : (k : Known) (ns : List ℕ) (c j : ℕ) (b : Bool) (g : Game) → Base k ns c j g → is_flat g.simplex ≡ b → Above k (length g.points) (least g) → Reached k ns c j (begins_on b g).phase (begins_on b g)
begins_reached k ns c j true g b flat a =
    let top : ℕ = (best g.simplex).trial in
    let ps : List Point = near g.sizes (get_or g.points top []) in
    let kept = keeps_all g.points ps in
    let inside : All (InGrid ns) ps = subst (λ (s : List ℕ). All (InGrid ns) (near s (get_or g.points top []))) (sym b.sizes) (near_in ns (get_or g.points top []) (at_point ns g.points top b.trials (top_in k ns c j g b))) in
    let marks : All (λ p. 0 < mark (enlisted g.points ps) p) (near ns (get_or (enlisted g.points ps) top [])) =
    subst (λ (p : Point). All (λ q. 0 < mark (enlisted g.points ps) q) (near ns p)) (sym (kept.same top (top_in k ns c j g b)))
    (subst (λ (s : List ℕ). All (λ q. 0 < mark (enlisted g.points ps) q) (near s (get_or g.points top []))) b.sizes (asked_marks g.points ps)) in
    going_asks k ns c j g Probe ps b inside (known_of k (length g.points) (least g) a) (asks_decided k g.points ps (least g) a) (flat, marks)
begins_reached k ns c j false g b flat a =
    going_asks k ns c j g Reflect (moves reflection g) b (moves_in k ns c j g reflection b) (known_of k (length g.points) (least g) a) (asks_decided k g.points (moves reflection g) (least g) a) flat

-- ---- steps

abbrev led : Game → List Costed → Game
led g row = record g { steps = g.steps + 1; simplex = best g.simplex ∷ row; kept = [] }

module _ (k : Known) (ns : List ℕ) (c j : ℕ) (large : AreSizes (2 ^ c) ns) where
  full : AreSizes (2 ^ (c - 0)) ns
  full = subst (λ n. AreSizes (2 ^ n) ns) (let e : c ≡ c - 0 = omega arith in e) large

  -- a step to a lower outcome
  lower_base : (g : Game) (row : List Costed) → Base k ns c j g → Inside (length g.points) row → Held k row → lowers (best g.simplex) row ≡ true → Base k ns c 0 (led g row)
  lower_base g row b i h l =
      let n : ℕ = length g.points in
      let top : Costed = best (best g.simplex ∷ row) in
      let inside = led_in n g.simplex row b.some b.simplex_in i in
      let held = led_held k g.simplex row b.some b.simplex_held h in
      record {
        sizes = b.sizes;
        trials = b.trials;
        some = omega arith;
        simplex_in = inside;
        kept_in = All-nil (λ d. d.trial < n);
        simplex_held = held;
        kept_held = All-nil (λ d. k d.trial ≡ Some d.outcome);
        steps = steps_lower k (least g) top.outcome (best g.simplex).trial n n c j g.steps b.steps (top_in k ns c j g b) (best_held k g.simplex b.some b.simplex_held) (best_lower (best g.simplex) row l) (omega arith);
        spread = spread_grid (2 ^ (c - 0)) ns g.points top.trial (best g.simplex ∷ row) full b.trials (best_in n (best g.simplex ∷ row) (omega arith) inside) inside;
      }

  pub lower_next : (ph : Phase) (g : Game) (row : List Costed) → Base k ns c j g → Inside (length g.points) row → Held k row → lowers (best g.simplex) row ≡ true → Above k (length g.points) (best (best g.simplex ∷ row)).outcome → Next k ns c j ph g (stepped g (best g.simplex ∷ row))
  lower_next ph g row b i h l a =
      let s = begins_same (is_flat (best g.simplex ∷ row)) (led g row) in
      let f : below (least (stepped g (best g.simplex ∷ row))) (least g) ≡ true = subst (λ (r : List Costed). below (best r).outcome (least g) ≡ true) (sym s.0) (best_lower (best g.simplex) row l) in
      record {
        halvings = 0;
        reached = begins_reached k ns c 0 (is_flat (best g.simplex ∷ row)) (led g row) (lower_base g row b i h l) refl a;
        after = record { either = inl f; lowers = λ p q r. f };
      }

  -- a shrink that leaves the least outcome
  same_base : (g : Game) (row : List Costed) → Base k ns c j g → Inside (length g.points) row → Held k row → lowers (best g.simplex) row ≡ false → j < c →
      All (λ d. Within (2 ^ (c - (j + 1))) (get_or g.points (best g.simplex).trial []) (get_or g.points d.trial [])) row → Base k ns c (j + 1) (led g row)
  same_base g row b i h l lt w =
      let n : ℕ = length g.points in
      let e : ℕ = 2 ^ (c - (j + 1)) in
      let stays : best (best g.simplex ∷ row) ≡ best g.simplex = best_keeps (best g.simplex) row l in
      let inside = led_in n g.simplex row b.some b.simplex_in i in
      let s : Steps k (least g) n c (j + 1) (g.steps + 1) = steps_shrink k (least g) n n c j g.steps b.steps lt (omega arith) in
      let at : Spread e g.points (best g.simplex).trial (best g.simplex ∷ row) = All-cons (λ d. Within e (get_or g.points (best g.simplex).trial []) (get_or g.points d.trial [])) (best g.simplex) row (within_self e (get_or g.points (best g.simplex).trial []) (positive (c - (j + 1)))) w in
      record {
        sizes = b.sizes;
        trials = b.trials;
        some = omega arith;
        simplex_in = inside;
        kept_in = All-nil (λ d. d.trial < n);
        simplex_held = led_held k g.simplex row b.some b.simplex_held h;
        kept_held = All-nil (λ d. k d.trial ≡ Some d.outcome);
        steps = subst (λ (x : Costed). Steps k x.outcome n c (j + 1) (g.steps + 1)) (sym stays) s;
        spread = subst (λ (x : Costed). Spread e g.points x.trial (best g.simplex ∷ row)) (sym stays) at;
      }
    where
      positive : (n : ℕ) → 0 < 2 ^ n
      positive zero = omega arith
      positive (suc n) = let r = pow-suc 2 n in let p = positive n in omega (arith, r)

  pub same_next : (g : Game) (row : List Costed) → Base k ns c j g → Inside (length g.points) row → Held k row → lowers (best g.simplex) row ≡ false → j < c →
      All (λ d. Within (2 ^ (c - (j + 1))) (get_or g.points (best g.simplex).trial []) (get_or g.points d.trial [])) row → Above k (length g.points) (best (best g.simplex ∷ row)).outcome → Next k ns c j Shrink g (stepped g (best g.simplex ∷ row))
  same_next g row b i h l lt w a =
      let s = begins_same (is_flat (best g.simplex ∷ row)) (led g row) in
      let stays : best (best g.simplex ∷ row) ≡ best g.simplex = best_keeps (best g.simplex) row l in
      record {
        halvings = j + 1;
        reached = begins_reached k ns c (j + 1) (is_flat (best g.simplex ∷ row)) (led g row) (same_base g row b i h l lt w) refl a;
        after = record { either = inr (ap (λ (r : List Costed). (best r).outcome) s.0 ∙ ap (λ (d : Costed). d.outcome) stays, omega (arith, s.1)); lowers = λ p q r. absurd (p refl) };
      }

  pub row_in : (g : Game) (row : List Costed) → All (λ t. t < length g.points) g.asked → costed k g.asked ≡ Some row → Inside (length g.points) row
  row_in g row a e = rowing.costed_in k g.asked (length g.points) row e a

  pub left : (g : Game) → Base k ns c j g → is_flat g.simplex ≡ false → j < c
  left g b f = at (which j c)
    where
      which : (m n : ℕ) → (m < n) ⊎ (n ≤ m)
      which m n = grind (arith, nat_tests)

      both_ways : (t : Bool) → t ≡ true → t ≡ false → ⊥
      both_ways t p q = cc

      at : (j < c) ⊎ (c ≤ j) → j < c
      at (inl lt) = lt
      at (inr le) = let z : c - j ≡ 0 = omega arith in
          absurd (both_ways (is_flat g.simplex) (flat_of ns g.points g.simplex b.trials (top_in k ns c j g b) b.simplex_in (subst (λ n. Spread (2 ^ n) g.points (best g.simplex).trial g.simplex) z b.spread)) f)
