-- Turns of loops and parts in order, one step on.
use Rattle.std.proofs.Common.{◌≡◌, ◌∙◌, sym, ap, refl, arith, ℕ, ◌+◌, ◌<◌, ◌≤◌, ◌^◌, ℤ, pos, ◌+ℤ◌, ◌≤ℤ◌, unsigned_abs, Bool, true, false, ◌&&◌, List, [], ◌∷◌, get_or, set, drop, map, length, add-one, if◌then◌else◌}
use Rattle.std.specs.Bool.{IsTrue}
use Rattle.std.proofs.lemmas.Bool.{and_parts, leb-true}
use Rattle.std.proofs.lemmas.Int.{ints}
use Rattle.std.proofs.lemmas.List.{drop_more, set-get_or, set-set}
use Rattle.ch_affine.specs.Affine.{IsAtMost}
use Rattle.ch_affine.specs.Rows.{Rows}
use Rattle.ch_nest.specs.Run.{Change, count, in_order}
use Rattle.ch_plan.specs.declared.plan.Limit.{Limit}
use Rattle.ch_plan.specs.declared.meter.Setting.{Setting}
use Rattle.ch_plan.specs.declared.plan.Spot.{Spot}
use Rattle.ch_plan.specs.declared.plan.Right.{Right}
use Rattle.ch_plan.specs.declared.plan.Plan.{Plan}
use Rattle.ch_plan.specs.declared.plan.Plan.TheVariants.{Seq, Loop, Guard, Leaf, rolls-Seq, rolls-Loop, rolls-Guard, rolls-Leaf}
use Rattle.ch_plan.specs.declared.plan.Plan.TheFolds.{fold-roll-Plan}
use Rattle.ch_plan.specs.Planned.{Metering, Walked, meter_plan, meter_plans, meter_step, metered_if, metered_leaf, turns_done, turns_metered, done_if, high_of, low_of, passes, plan_step, right_value, run_plan, run_plans, spot_place, turns_between, is_small}

taken : (n k : ℕ) (a b : Bool) → k < (if a && b then n else 0) → (IsTrue a × IsTrue b) × (k < n)
taken n k true true l = ((refl, refl), l)
taken n k true false l = absurd (omega (arith, l))
taken n k false b l = absurd (omega (arith, l))

nth_in : (low high : ℤ) (k : ℕ) → unsigned_abs low ≤ 2 ^ 54 → unsigned_abs high ≤ 2 ^ 54 → k < count low high → unsigned_abs (low +ℤ pos k) ≤ 2 ^ 54
nth_in low high k l h b = grind (arith, ints)

pub nth_small : (k : ℕ) (low high : ℤ) → k < turns_between low high → IsAtMost (2 ^ 54) low × IsAtMost (2 ^ 54) (low +ℤ pos k)
nth_small k low high l =
    let p = taken (count low high) k (is_small low) (is_small high) l in
    let a : unsigned_abs low ≤ 2 ^ 54 = leb-true _ _ p.0.0 in
    let b : unsigned_abs high ≤ 2 ^ 54 = leb-true _ _ p.0.1 in
    (a, nth_in low high k a b p.1)

module _ (vars rows : ℕ) where
  pub seq_is : (parts : List Plan) (point cells : List ℤ) → run_plan vars rows (Seq parts) point cells ≡ run_plans vars rows parts point cells
  seq_is parts point cells = ap (λ f. f point cells) (ap (run_plan vars rows) (sym (rolls-Seq parts)) ∙ fold-roll-Plan Change (plan_step vars rows) _)

  pub loop_is : (level : ℕ) (lows highs : List Limit) (inner : Plan) (point cells : List ℤ) → run_plan vars rows (Loop level lows highs inner) point cells
      ≡ turns_done (turns_between (low_of lows point) (high_of highs point)) (low_of lows point) (λ x. run_plan vars rows inner (set point level x)) cells
  loop_is level lows highs inner point cells = ap (λ f. f point cells) (ap (run_plan vars rows) (sym (rolls-Loop level lows highs inner)) ∙ fold-roll-Plan Change (plan_step vars rows) _)

  pub guard_is : (system : Rows) (around : ℕ) (inner : Plan) (point cells : List ℤ) → run_plan vars rows (Guard system around inner) point cells
      ≡ done_if (passes vars rows system around point) (run_plan vars rows inner point cells) cells
  guard_is system around inner point cells = ap (λ f. f point cells) (ap (run_plan vars rows) (sym (rolls-Guard system around inner)) ∙ fold-roll-Plan Change (plan_step vars rows) _)

  pub leaf_is : (leaf : ℕ) (write : Spot) (right : Right) (point cells : List ℤ) → run_plan vars rows (Leaf leaf write right) point cells
      ≡ set cells (spot_place point write) (right_value point cells right)
  leaf_is leaf write right point cells = ap (λ f. f point cells) (ap (run_plan vars rows) (sym (rolls-Leaf leaf write right)) ∙ fold-roll-Plan Change (plan_step vars rows) _)

  pub run_plans_more : (plans : List Plan) (point cells new total : List ℤ) (k : ℕ) (d : Plan) → k < length plans
      → new ≡ run_plan vars rows (get_or plans k d) point cells → run_plans vars rows (drop k plans) point cells ≡ total
      → run_plans vars rows (drop (k + 1) plans) point new ≡ total
  run_plans_more plans point cells new total k d l n h =
      let a = rw (drop_more plans k d l) at h in
      rw n a

  pub plan_turn : (inner : Plan) (point p inside cells new first : List ℤ) (level k : ℕ) (low x : ℤ) → x ≡ low +ℤ pos k
      → ((y : ℤ) → set p level y ≡ set point level y) → inside ≡ set p level x
      → cells ≡ turns_done k low (λ y. run_plan vars rows inner (set point level y)) first → new ≡ run_plan vars rows inner inside cells
      → new ≡ turns_done (k + 1) low (λ y. run_plan vars rows inner (set point level y)) first
  plan_turn inner point p inside cells new first level k low x e same is c n =
      let q : inside ≡ set point level (low +ℤ pos k) = is ∙ same x ∙ ap (set point level) e in
      rw (add-one) (n ∙ ap (λ z. run_plan vars rows inner z cells) q ∙ ap (run_plan vars rows inner (set point level (low +ℤ pos k))) c)

pub set_more : (point p inside : List ℤ) (level : ℕ) (x : ℤ) → ((y : ℤ) → set p level y ≡ set point level y) → inside ≡ set p level x
    → (y : ℤ) → set inside level y ≡ set point level y
set_more point p inside level x same is y = ap (λ z. set z level y) is ∙ set-set p level x y ∙ same y

pub set_back : (point p new : List ℤ) (level : ℕ) (before : ℤ) → ((y : ℤ) → set p level y ≡ set point level y) → before ≡ get_or point level (pos 0)
    → new ≡ set p level before → new ≡ point
set_back point p new level before same b n = n ∙ same before ∙ ap (set point level) b ∙ set-get_or point level (pos 0)

pub loop_done : (vars rows : ℕ) (plan : Plan) (level : ℕ) (lows highs : List Limit) (inner : Plan) (point cells new : List ℤ) (n k : ℕ) (low high : ℤ)
    → plan ≡ Loop level lows highs inner → low ≡ low_of lows point → high ≡ high_of highs point → n ≡ turns_between low high → k ≡ n
    → new ≡ turns_done k low (λ x. run_plan vars rows inner (set point level x)) cells → new ≡ run_plan vars rows plan point cells
loop_done vars rows plan level lows highs inner point cells new n k low high is l h c e r =
    rw (is, loop_is vars rows, ← l, ← h, ← c, ← e) r

module _ (s : Setting) where
  pub meter_seq : (parts : List Plan) (point : List ℤ) (w : Walked) → meter_plan s (Seq parts) point w ≡ meter_plans s parts point w
  meter_seq parts point w = ap (λ f. f point w) (ap (meter_plan s) (sym (rolls-Seq parts)) ∙ fold-roll-Plan Metering (meter_step s) _)

  pub meter_loop : (level : ℕ) (lows highs : List Limit) (inner : Plan) (point : List ℤ) (w : Walked) → meter_plan s (Loop level lows highs inner) point w
      ≡ turns_metered (turns_between (low_of lows point) (high_of highs point)) (low_of lows point) (λ x. meter_plan s inner (set point level x)) w
  meter_loop level lows highs inner point w = ap (λ f. f point w) (ap (meter_plan s) (sym (rolls-Loop level lows highs inner)) ∙ fold-roll-Plan Metering (meter_step s) _)

  pub meter_guard : (system : Rows) (around : ℕ) (inner : Plan) (point : List ℤ) (w : Walked) → meter_plan s (Guard system around inner) point w
      ≡ metered_if (passes s.vars s.rows system around point) (meter_plan s inner point w) w
  meter_guard system around inner point w = ap (λ f. f point w) (ap (meter_plan s) (sym (rolls-Guard system around inner)) ∙ fold-roll-Plan Metering (meter_step s) _)

  pub meter_leaf : (leaf : ℕ) (write : Spot) (right : Right) (point : List ℤ) (w : Walked) → meter_plan s (Leaf leaf write right) point w ≡ metered_leaf s leaf write right point w
  meter_leaf leaf write right point w = ap (λ f. f point w) (ap (meter_plan s) (sym (rolls-Leaf leaf write right)) ∙ fold-roll-Plan Metering (meter_step s) _)

  pub meter_turn : (inner : Plan) (point p inside : List ℤ) (w new first : Walked) (level k : ℕ) (low x : ℤ) → x ≡ low +ℤ pos k
      → ((y : ℤ) → set p level y ≡ set point level y) → inside ≡ set p level x
      → w ≡ turns_metered k low (λ y. meter_plan s inner (set point level y)) first → new ≡ meter_plan s inner inside w
      → new ≡ turns_metered (k + 1) low (λ y. meter_plan s inner (set point level y)) first
  meter_turn inner point p inside w new first level k low x e same is c n =
      let q : inside ≡ set point level (low +ℤ pos k) = is ∙ same x ∙ ap (set point level) e in
      rw (add-one) (n ∙ ap (λ z. meter_plan s inner z w) q ∙ ap (meter_plan s inner (set point level (low +ℤ pos k))) c)

  pub meter_done : (plan : Plan) (level : ℕ) (lows highs : List Limit) (inner : Plan) (point : List ℤ) (w new : Walked) (n k : ℕ) (low high : ℤ)
      → plan ≡ Loop level lows highs inner → low ≡ low_of lows point → high ≡ high_of highs point → n ≡ turns_between low high → k ≡ n
      → new ≡ turns_metered k low (λ x. meter_plan s inner (set point level x)) w → new ≡ meter_plan s plan point w
  meter_done plan level lows highs inner point w new n k low high is l h c e r =
      rw (is, meter_loop, ← l, ← h, ← c, ← e) r
