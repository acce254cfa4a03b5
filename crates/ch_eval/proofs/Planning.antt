-- Plans of code do what the elements of the code do.
use Rattle.std.proofs.Common.{◌≡◌, ap, ap₂, sym, ◌∙◌, refl, subst, ℕ, zero, suc, ◌+◌, ◌-◌, ◌<◌, ◌≤◌, ◌^◌, ℤ, pos, ◌+ℤ◌, Bool, true, false, cond, inl, inr, List, [], ◌∷◌, ◌++◌, get_or, set, take, map, length, length-append, arith, add-one, append-nil}
use Rattle.std.specs.Bool.{IsTrue}
use Rattle.std.specs.List.{All, flat_map, list_all}
use Rattle.std.proofs.lemmas.Bool.{cases_lt}
use Rattle.std.proofs.lemmas.List.{get_or_append_left, length-set, length-take-le, length_push, map-append, take_more_set}
use Rattle.std.proofs.lemmas.List.Elements.{All-head, All-push}
use Rattle.ch_affine.specs.Affine.{IsAtMost}
use Rattle.ch_affine.specs.Form.{Form}
use Rattle.ch_affine.specs.Rows.{Rows}
use Rattle.ch_code.specs.declared.code.Bound.{Bound}
use Rattle.ch_code.specs.declared.code.Code.{Code}
use Rattle.ch_code.specs.declared.code.Code.TheVariants as code
use Rattle.ch_code.specs.Trace as trace
use Rattle.ch_code.specs.Trace.{guarded, one_by_one, turns_listed}
use Rattle.ch_code.specs.WellFormed.{bound_fits, loop_values, turn_values}
use Rattle.ch_cost.specs.Meter.{Meter, metered, visit}
use Rattle.ch_nest.specs.declared.nest.Body.{Body}
use Rattle.ch_nest.specs.Arrays.{total}
use Rattle.ch_nest.specs.Run.{count, expr_value, place}
use Rattle.ch_plan.specs.declared.meter.Setting.{Setting}
use Rattle.ch_plan.specs.declared.plan.Limit.{Limit}
use Rattle.ch_plan.specs.declared.plan.Plan.{Plan}
use Rattle.ch_plan.specs.declared.plan.Plan.TheVariants as plan
use Rattle.ch_plan.specs.declared.plan.Right.{Right}
use Rattle.ch_plan.specs.declared.plan.Spot.{Spot}
use Rattle.ch_plan.specs.Planned.{Walked, done_if, high_of, low_of, machine_of, meter_plan, meter_plans, metered_if, metered_leaf, passes, places_of, run_plan, run_plans, spot_place, spots, turns_between, turns_done, turns_metered}
use Rattle.ch_plan.proofs.Guarding.{passes_where}
use Rattle.ch_plan.proofs.Turning.{guard_is, leaf_is, loop_is, meter_guard, meter_leaf, meter_loop, meter_seq, seq_is}
use Rattle.ch_poly.specs.Points.{begins_some}
use Rattle.ch_timed.specs.Conflict.{cell_of, reads}
use Rattle.ch_timed.specs.Flat.{IsInside, StaysInside, done_flat, execute_flat, place_of}
use Rattle.ch_timed.specs.Members.{Each}
use Rattle.ch_timed.specs.Order.{do_all}
use Rattle.ch_timed.specs.Timed.{step}
use Rattle.ch_timed.specs.Vectors.{woven}
use Rattle.ch_timed.specs.declared.element.Element.{Element}
use Rattle.ch_timed.specs.declared.element.Label.{Label}
use Rattle.ch_eval.specs.declared.make.Needs.{Needs}
use Rattle.ch_plan.specs.Ready.{IsPoint, IsSpot, iters_at}
use Rattle.ch_plan.specs.Agreement.{Agree}
use Rattle.ch_eval.specs.Made.{AreLimits, ArePlans, Grows, IsAt, IsDone, IsLoopOf, IsPlan, IsRight, Pairs, Serves}
use Rattle.ch_eval.proofs.Fitting.{leaf_element, trace_guard, trace_leaf, trace_loop, trace_seq, values_guard, values_loop, values_seq}
use Rattle.ch_eval.proofs.Limits.{all_left, all_right, highs_same, lows_same, turn_small, turns_are}
use Rattle.ch_plan.proofs.Metered.{do_mapped, leaf_agrees}

-- what is needed

pub grows_same : (n : Needs) → Grows n n
grows_same n = record { deep = omega arith; vars = omega arith; rows = omega arith; count = omega arith; places = λ k l. refl }

pub grows_then : (a b c : Needs) → Grows a b → Grows b c → Grows a c
grows_then a b c f g = record {
  deep = omega (arith, f.deep, g.deep);
  vars = omega (arith, f.vars, g.vars);
  rows = omega (arith, f.rows, g.rows);
  count = omega (arith, f.count, g.count);
  places = λ k l. g.places k (omega (arith, l, f.count)) ∙ f.places k l;
}

pub grows_more : (n new : Needs) → n.deep ≤ new.deep → n.vars ≤ new.vars → n.rows ≤ new.rows → new.places ≡ n.places → Grows n new
grows_more n new d v r p = record {
  deep = d;
  vars = v;
  rows = r;
  count = omega (arith, ap length p);
  places = λ k l. ap (λ ps. get_or ps k []) p;
}

pub grows_push : (n new : Needs) (places : List ℕ) → new.deep ≡ n.deep → new.vars ≡ n.vars → new.rows ≡ n.rows → new.places ≡ n.places ++ places ∷ [] → Grows n new
grows_push n new places d v r p = record {
  deep = omega (arith, d);
  vars = omega (arith, v);
  rows = omega (arith, r);
  count = omega (arith, ap length p, length_push n.places places);
  places = λ k l. ap (λ ps. get_or ps k []) p ∙ get_or_append_left n.places (places ∷ []) [] k l;
}

serves_less : (s : Setting) (deep : ℕ) (a b : Needs) → Grows a b → Serves s deep b → Serves s deep a
serves_less s deep a b g h = record {
  deep = omega (arith, g.deep, h.deep);
  vars = omega (arith, g.vars, h.vars);
  rows = omega (arith, g.rows, h.rows);
  places = λ k l. h.places k (omega (arith, l, g.count)) ∙ g.places k l;
}

module _ (extents : List (List ℕ)) where
  pub plan_more : (around : ℕ) (a b : Needs) (c : Code) (p : Plan) → Grows a b → IsPlan extents around a c p → IsPlan extents around b c p
  plan_more around a b c p g h = λ s point serves few at. h s point (serves_less s (length point) a b g serves) few at

  pub plans_more : (around : ℕ) (a b : Needs) (cs : List Code) (ps : List Plan) → Grows a b → ArePlans extents around a cs ps → ArePlans extents around b cs ps
  plans_more around a b [] [] g h = tt
  plans_more around a b [] (p ∷ ps) g h = absurd h
  plans_more around a b (c ∷ cs) [] g h = absurd h
  plans_more around a b (c ∷ cs) (p ∷ ps) g h = (plan_more around a b c p g h.0, plans_more around a b cs ps g h.1)

  -- parts of a list of elements

  each_left : {X : Type 0} (P : X → Type 0) (xs ys : List X) → Each P (xs ++ ys) → Each P xs
  each_left P [] ys h = tt
  each_left P (x ∷ xs) ys h = (h.0, each_left P xs ys h.1)

  each_right : {X : Type 0} (P : X → Type 0) (xs ys : List X) → Each P (xs ++ ys) → Each P ys
  each_right P [] ys h = h
  each_right P (x ∷ xs) ys h = each_right P xs ys h.1

  inside_parts : (xs ys : List Element) → StaysInside extents (xs ++ ys) → StaysInside extents xs × StaysInside extents ys
  inside_parts xs ys h =
      let g : Each (IsInside extents) (map step xs ++ map step ys) = subst (Each (IsInside extents)) (map-append step xs ys) h in
      (each_left (IsInside extents) (map step xs) (map step ys) g, each_right (IsInside extents) (map step xs) (map step ys) g)

  abbrev AreNear : Element → Type 0
  AreNear e = All (IsAtMost (2 ^ 54)) e.identity.iters

  done_both : (xs ys : List Element) (cells : List ℤ) → done_flat extents (xs ++ ys) cells ≡ done_flat extents ys (done_flat extents xs cells)
  done_both xs ys cells = do_mapped (execute_flat extents) step xs ys cells

  -- one turn of all

  abbrev OfTurn : List Element → Type 0
  OfTurn es = All AreNear es × StaysInside extents es

  turn_listed : (n k : ℕ) (low : ℤ) (f : ℤ → List Element) → k < n → OfTurn (turns_listed n low f) → OfTurn (f (low +ℤ pos k))
  turn_listed zero k low f l h = absurd (omega arith)
  turn_listed (suc n) k low f l h =
      let i = inside_parts (turns_listed n low f) (f (low +ℤ pos n)) h.1 in
      elim (cases_lt k n) as (λ _. OfTurn (f (low +ℤ pos k))) [
        | inl below ↦ turn_listed n k low f below (all_left AreNear (turns_listed n low f) (f (low +ℤ pos n)) h.0, i.0)
        | inr past ↦
            let e : n ≡ k = omega arith in
            subst (λ j. OfTurn (f (low +ℤ pos j))) e (all_right AreNear (turns_listed n low f) (f (low +ℤ pos n)) h.0, i.1)
      ]

  turns_cells : (n : ℕ) (low : ℤ) (g : ℤ → List ℤ → List ℤ) (f : ℤ → List Element) (cells : List ℤ)
      → ((k : ℕ) → k < n → (cells : List ℤ) → g (low +ℤ pos k) cells ≡ done_flat extents (f (low +ℤ pos k)) cells) → turns_done n low g cells ≡ done_flat extents (turns_listed n low f) cells
  turns_cells zero low g f cells h = refl
  turns_cells (suc n) low g f cells h =
      let before = turns_cells n low g f cells (λ k l. h k (omega arith)) in
      ap (g (low +ℤ pos n)) before ∙ h n (omega arith) (done_flat extents (turns_listed n low f) cells) ∙ sym (done_both (turns_listed n low f) (f (low +ℤ pos n)) cells)

  abbrev after : Setting → List Element → Meter → Meter
  after s es m = do_all (metered (machine_of s)) (map (visit extents) es) m

  turns_meter : (s : Setting) (deep n : ℕ) (low : ℤ) (g : ℤ → Walked → Walked) (f : ℤ → List Element) (w : Walked) (m : Meter)
      → ((k : ℕ) → k < n → (w : Walked) (m : Meter) → Agree s deep w m → Agree s deep (g (low +ℤ pos k) w) (after s (f (low +ℤ pos k)) m)) → Agree s deep w m
      → Agree s deep (turns_metered n low g w) (after s (turns_listed n low f) m)
  turns_meter s deep zero low g f w m h a = a
  turns_meter s deep (suc n) low g f w m h a =
      let before = turns_meter s deep n low g f w m (λ k l. h k (omega arith)) a in
      subst (Agree s deep (g (low +ℤ pos n) (turns_metered n low g w))) (sym (do_mapped (metered (machine_of s)) (visit extents) (turns_listed n low f) (f (low +ℤ pos n)) m))
      (h n (omega arith) (turns_metered n low g w) (after s (turns_listed n low f) m) before)

  -- loops

  module _ (around : ℕ) (lows highs : List Bound) (inner : Code) (point : List ℤ) where
    abbrev xs : List ℤ
    xs = take around point

    abbrev first : ℤ
    first = trace.low_of lows xs

    abbrev turns : ℕ
    turns = count (trace.low_of lows xs) (trace.high_of highs xs)

    abbrev elements : ℤ → List Element
    elements x = trace.trace inner (xs ++ x ∷ [])

    turn_point : (x : ℤ) → around < length point → take (suc around) (set point around x) ≡ xs ++ x ∷ []
    turn_point x l = let e : suc around ≡ around + 1 = omega arith in ap (λ n. take n (set point around x)) e ∙ take_more_set point around x l

    turn_at : (k : ℕ) → k < turns → around < length point → All (IsAtMost (2 ^ 54)) xs → All (IsAtMost (2 ^ 54)) (turn_values turns first (λ x. loop_values inner (xs ++ x ∷ [])))
        → OfTurn (turns_listed turns first elements) → IsAt extents (suc around) inner (set point around (first +ℤ pos k))
    turn_at k l deep near values listed =
        let x : ℤ = first +ℤ pos k in
        let e = turn_point x deep in
        let small = turn_small turns k first (λ x. loop_values inner (xs ++ x ∷ [])) l values in
        let here = turn_listed turns k first elements l listed in
        record {
          long = omega (arith, length-set point around x, deep);
          near = subst (All (IsAtMost (2 ^ 54))) (sym e) (All-push (IsAtMost (2 ^ 54)) xs x near small.0);
          values = subst (λ ys. All (IsAtMost (2 ^ 54)) (loop_values inner ys)) (sym e) small.1;
          iterators = subst (λ ys. All AreNear (trace.trace inner ys)) (sym e) here.0;
          inside = subst (λ ys. StaysInside extents (trace.trace inner ys)) (sym e) here.1;
        }

  pub loop_planned : (around level : ℕ) (needs : Needs) (lows highs : List Bound) (inner : Code) (ls hs : List Limit) (p : Plan) (c : Code) (number : ℕ) → c ≡ code.Loop number lows highs inner
      → IsTrue (list_all (bound_fits around) lows) → IsTrue (list_all (bound_fits around) highs) → suc around ≤ needs.deep → level ≡ around → AreLimits lows ls → AreLimits highs hs
      → IsPlan extents (suc around) needs inner p → IsPlan extents around needs c (plan.Loop level ls hs p)
  loop_planned around level needs lows highs inner ls hs p c number is fit_lows fit_highs deep at_level il ih planned = λ s point serves few at.
      let ys : List ℤ = take around point in
      let room : around < length point = omega (arith, deep, serves.deep) in
      let low : low_of ls point ≡ trace.low_of lows ys = lows_same around point at.near lows ls il fit_lows in
      let high : high_of hs point ≡ trace.high_of highs ys = highs_same around point at.near highs hs ih fit_highs in
      let n : ℕ = count (trace.low_of lows ys) (trace.high_of highs ys) in
      let start : ℤ = trace.low_of lows ys in
      let listed : trace.trace c ys ≡ turns_listed n start (λ x. trace.trace inner (ys ++ x ∷ [])) = ap (λ d. trace.trace d ys) is ∙ trace_loop ys number lows highs inner in
      let values : All (IsAtMost (2 ^ 54)) (turn_values n start (λ x. loop_values inner (ys ++ x ∷ []))) =
      subst (All (IsAtMost (2 ^ 54))) (ap (λ d. loop_values d ys) is ∙ values_loop ys number lows highs inner) at.values in
      let near : All AreNear (turns_listed n start (λ x. trace.trace inner (ys ++ x ∷ []))) = subst (All AreNear) listed at.iterators in
      let inside : StaysInside extents (turns_listed n start (λ x. trace.trace inner (ys ++ x ∷ []))) = subst (StaysInside extents) listed at.inside in
      let count_is : turns_between (low_of ls point) (high_of hs point) ≡ n =
      ap₂ turns_between low high ∙ turns_are (trace.low_of lows ys) (trace.high_of highs ys) (λ x. loop_values inner (ys ++ x ∷ [])) values in
      let long : (x : ℤ) → length (set point around x) ≡ length point = λ x. length-set point around x in
      let turn : (k : ℕ) → k < n → IsDone extents s (suc around) inner p (set point around (start +ℤ pos k)) = λ k l.
      planned s (set point around (start +ℤ pos k)) (subst (λ d. Serves s d needs) (sym (long (start +ℤ pos k))) serves) few (turn_at around lows highs inner point k l room at.near values (near, inside)) in
      let point_is : (k : ℕ) → take (suc around) (set point around (start +ℤ pos k)) ≡ ys ++ (start +ℤ pos k) ∷ [] = λ k. turn_point around lows highs inner point (start +ℤ pos k) room in
      record {
        cells = λ cells.
            loop_is s.vars s.rows level ls hs p point cells
            ∙ ap (λ j. turns_done (turns_between (low_of ls point) (high_of hs point)) (low_of ls point) (λ x. run_plan s.vars s.rows p (set point j x)) cells) at_level
            ∙ ap₂ (λ m z. turns_done m z (λ x. run_plan s.vars s.rows p (set point around x)) cells) count_is low
            ∙ turns_cells n start (λ x. run_plan s.vars s.rows p (set point around x)) (λ x. trace.trace inner (ys ++ x ∷ [])) cells
            (λ k l cells. (turn k l).cells cells ∙ ap (λ zs. done_flat extents (trace.trace inner zs) cells) (point_is k))
            ∙ ap (λ es. done_flat extents es cells) (sym listed);
        meter = λ w m a.
            subst (λ v. Agree s (length point) v (after s (trace.trace c ys) m))
            (sym (
            meter_loop s level ls hs p point w
            ∙ ap (λ j. turns_metered (turns_between (low_of ls point) (high_of hs point)) (low_of ls point) (λ x. meter_plan s p (set point j x)) w) at_level
            ∙ ap₂ (λ m z. turns_metered m z (λ x. meter_plan s p (set point around x)) w) count_is low
            ))
            (subst (λ es. Agree s (length point) (turns_metered n start (λ x. meter_plan s p (set point around x)) w) (after s es m)) (sym listed)
            (turns_meter s (length point) n start (λ x. meter_plan s p (set point around x)) (λ x. trace.trace inner (ys ++ x ∷ [])) w m
            (λ k l w m a.
            subst (λ zs. Agree s (length point) (meter_plan s p (set point around (start +ℤ pos k)) w) (after s (trace.trace inner zs) m)) (point_is k)
            (subst (λ d. Agree s d (meter_plan s p (set point around (start +ℤ pos k)) w) (after s (trace.trace inner (take (suc around) (set point around (start +ℤ pos k)))) m)) (long (start +ℤ pos k))
            ((turn k l).meter w m (subst (λ d. Agree s d w m) (sym (long (start +ℤ pos k))) a)))) a));
      }

  -- guards

  pub guard_planned : (around at_around : ℕ) (needs : Needs) (system copy : Rows) (inner : Code) (p : Plan) (c : Code) → c ≡ code.Guard system inner → around ≤ system.vars → at_around ≡ around
      → copy ≡ system → system.vars ≤ needs.vars → length system.rows ≤ needs.rows → IsPlan extents around needs inner p → IsPlan extents around needs c (plan.Guard copy at_around p)
  guard_planned around at_around needs system copy inner p c is fit same_around same vars rows planned = λ s point serves few at.
      let ys : List ℤ = take around point in
      let b : Bool = begins_some system ys in
      let asked : b ≡ passes s.vars s.rows copy at_around point =
      passes_where s.vars s.rows system around point b at.long fit (omega (arith, vars, serves.vars)) (omega (arith, rows, serves.rows)) refl
      ∙ sym (ap₂ (λ (z : Rows) n. passes s.vars s.rows z n point) same same_around) in
      let listed : trace.trace c ys ≡ guarded b (trace.trace inner ys) = ap (λ d. trace.trace d ys) is ∙ trace_guard ys system inner in
      let values : loop_values c ys ≡ cond b (loop_values inner ys) [] = ap (λ d. loop_values d ys) is ∙ values_guard ys system inner in
      let cells_are = guard_is s.vars s.rows copy at_around p point in
      let meter_are = meter_guard s copy at_around p point in
      by s point b refl (λ e. planned s point serves few (inner_at point b e at listed values))
      (λ cells. cells_are cells ∙ ap (λ t. done_if t (run_plan s.vars s.rows p point cells) cells) (sym asked))
      (λ w. meter_are w ∙ ap (λ t. metered_if t (meter_plan s p point w) w) (sym asked)) listed
    where
      inner_at : (point : List ℤ) (b : Bool) → b ≡ true → IsAt extents around c point → trace.trace c (take around point) ≡ guarded b (trace.trace inner (take around point))
          → loop_values c (take around point) ≡ cond b (loop_values inner (take around point)) [] → IsAt extents around inner point
      inner_at point true e at listed values = record {
        long = at.long;
        near = at.near;
        values = subst (All (IsAtMost (2 ^ 54))) values at.values;
        iterators = subst (All AreNear) listed at.iterators;
        inside = subst (StaysInside extents) listed at.inside;
      }
      inner_at point false e at listed values = absurd cc

      by : (s : Setting) (point : List ℤ) (b : Bool) → b ≡ b → (b ≡ true → IsDone extents s around inner p point)
          → ((cells : List ℤ) → run_plan s.vars s.rows (plan.Guard copy at_around p) point cells ≡ done_if b (run_plan s.vars s.rows p point cells) cells)
          → ((w : Walked) → meter_plan s (plan.Guard copy at_around p) point w ≡ metered_if b (meter_plan s p point w) w)
          → trace.trace c (take around point) ≡ guarded b (trace.trace inner (take around point)) → IsDone extents s around c (plan.Guard copy at_around p) point
      by s point true e done cells_are meter_are listed =
          let d = done refl in
          record {
            cells = λ cells. cells_are cells ∙ d.cells cells ∙ ap (λ es. done_flat extents es cells) (sym listed);
            meter = λ w m a.
                subst (λ v. Agree s (length point) v (after s (trace.trace c (take around point)) m)) (sym (meter_are w))
                (subst (λ es. Agree s (length point) (meter_plan s p point w) (after s es m)) (sym listed) (d.meter w m a));
          }
      by s point false e done cells_are meter_are listed = record {
        cells = λ cells. cells_are cells ∙ ap (λ es. done_flat extents es cells) (sym listed);
        meter = λ w m a.
            subst (λ v. Agree s (length point) v (after s (trace.trace c (take around point)) m)) (sym (meter_are w)) (subst (λ es. Agree s (length point) w (after s es m)) (sym listed) a);
      }

  -- sequences

  record AreAt (around : ℕ) (cs : List Code) (point : List ℤ) : Type 0 where
    long : around ≤ length point
    near : All (IsAtMost (2 ^ 54)) (take around point)
    values : All (IsAtMost (2 ^ 54)) (flat_map (λ part. part (take around point)) (map loop_values cs))
    iterators : All AreNear (one_by_one (map trace.trace cs) (take around point))
    inside : StaysInside extents (one_by_one (map trace.trace cs) (take around point))

  record AreDone (s : Setting) (around : ℕ) (cs : List Code) (ps : List Plan) (point : List ℤ) : Type 0 where
    cells : (cells : List ℤ) → run_plans s.vars s.rows ps point cells ≡ done_flat extents (one_by_one (map trace.trace cs) (take around point)) cells
    meter : (w : Walked) (m : Meter) → Agree s (length point) w m → Agree s (length point) (meter_plans s ps point w) (after s (one_by_one (map trace.trace cs) (take around point)) m)

  parts_done : (around : ℕ) (needs : Needs) (cs : List Code) (ps : List Plan) (s : Setting) (point : List ℤ) → ArePlans extents around needs cs ps → Serves s (length point) needs
      → total extents < 2 ^ 63 → AreAt around cs point → AreDone s around cs ps point
  parts_done around needs [] [] s point h serves few at = record { cells = λ cells. refl; meter = λ w m a. a }
  parts_done around needs [] (p ∷ ps) s point h serves few at = absurd h
  parts_done around needs (c ∷ cs) [] s point h serves few at = absurd h
  parts_done around needs (c ∷ cs) (p ∷ ps) s point h serves few at =
      let ys : List ℤ = take around point in
      let rest : List Element = one_by_one (map trace.trace cs) ys in
      let i = inside_parts (trace.trace c ys) rest at.inside in
      let one = h.0 s point serves few (record {
        long = at.long;
        near = at.near;
        values = all_left (IsAtMost (2 ^ 54)) (loop_values c ys) (flat_map (λ part. part ys) (map loop_values cs)) at.values;
        iterators = all_left AreNear (trace.trace c ys) rest at.iterators;
        inside = i.0;
      }) in
      let others = parts_done around needs cs ps s point h.1 serves few (record {
        long = at.long;
        near = at.near;
        values = all_right (IsAtMost (2 ^ 54)) (loop_values c ys) (flat_map (λ part. part ys) (map loop_values cs)) at.values;
        iterators = all_right AreNear (trace.trace c ys) rest at.iterators;
        inside = i.1;
      }) in
      record {
        cells = λ cells.
            ap (run_plans s.vars s.rows ps point) (one.cells cells) ∙ others.cells (done_flat extents (trace.trace c ys) cells) ∙ sym (done_both (trace.trace c ys) rest cells);
        meter = λ w m a.
            subst (Agree s (length point) (meter_plans s ps point (meter_plan s p point w))) (sym (do_mapped (metered (machine_of s)) (visit extents) (trace.trace c ys) rest m))
            (others.meter (meter_plan s p point w) (after s (trace.trace c ys) m) (one.meter w m a));
      }

  pub seq_planned : (around : ℕ) (needs : Needs) (cs : List Code) (ps : List Plan) (c : Code) → c ≡ code.Seq cs → ArePlans extents around needs cs ps → IsPlan extents around needs c (plan.Seq ps)
  seq_planned around needs cs ps c is h = λ s point serves few at.
      let ys : List ℤ = take around point in
      let listed : trace.trace c ys ≡ one_by_one (map trace.trace cs) ys = ap (λ d. trace.trace d ys) is ∙ trace_seq ys cs in
      let values : loop_values c ys ≡ flat_map (λ part. part ys) (map loop_values cs) = ap (λ d. loop_values d ys) is ∙ values_seq ys cs in
      let done = parts_done around needs cs ps s point h serves few (record {
        long = at.long;
        near = at.near;
        values = subst (All (IsAtMost (2 ^ 54))) values at.values;
        iterators = subst (All AreNear) listed at.iterators;
        inside = subst (StaysInside extents) listed at.inside;
      }) in
      record {
        cells = λ cells. seq_is s.vars s.rows ps point cells ∙ done.cells cells ∙ ap (λ es. done_flat extents es cells) (sym listed);
        meter = λ w m a.
            subst (λ v. Agree s (length point) v (after s (trace.trace c ys) m)) (sym (meter_seq s ps point w))
            (subst (λ es. Agree s (length point) (meter_plans s ps point w) (after s es m)) (sym listed) (done.meter w m a));
      }

  -- statements

  pub leaf_planned : (around leaf : ℕ) (needs : Needs) (label : Label) (body : Body) (origin : List Form) (places : List ℕ) (write : Spot) (right : Right) (c : Code)
      → c ≡ code.Leaf label body origin places → length places ≡ suc around → leaf < length needs.places → get_or needs.places leaf [] ≡ places → IsSpot extents origin around body.write write
      → IsRight extents origin around body.right right → IsPlan extents around needs c (plan.Leaf leaf write right)
  leaf_planned around leaf needs label body origin places write right c is long there known spot planned = λ s point serves few at.
      let ys : List ℤ = take around point in
      let iters : List ℤ = iters_at origin ys in
      let e : Element = leaf_element label body origin places ys in
      let listed : trace.trace c ys ≡ e ∷ [] = ap (λ d. trace.trace d ys) is ∙ trace_leaf ys label body origin places in
      let near : All AreNear (e ∷ []) = subst (All AreNear) listed at.iterators in
      let fine : IsPoint origin around point = record { long = at.long; iters = All-head AreNear e [] near } in
      let inside : IsInside extents (step e) = (subst (StaysInside extents) listed at.inside).0 in
      let written : spot_place point write ≡ place extents body.write iters = spot point fine few inside.writes in
      let r = planned point fine few inside.reads in
      let table : places_of s leaf ≡ places = serves.places leaf there ∙ known in
      let count_is : length ys ≡ around = length-take-le around point at.long in
      let enough : length (places_of s leaf) ≡ suc (length ys) = ap length table ∙ long ∙ ap suc (sym count_is) in
      let taken : ys ≡ take (length (places_of s leaf) - 1) point = let k : length (places_of s leaf) - 1 ≡ around = omega (arith, enough, count_is) in ap (λ n. take n point) (sym k) in
      let vector : woven (map pos places) ys ≡ woven (map pos (places_of s leaf)) ys = ap (λ ps. woven (map pos ps) ys) (sym table) in
      let addresses_are : map (place_of extents) (map (cell_of iters) (reads body.right) ++ cell_of iters body.write ∷ [])
      ≡ map (place_of extents) (map (cell_of iters) (reads body.right)) ++ place extents body.write iters ∷ [] =
      map-append (place_of extents) (map (cell_of iters) (reads body.right)) (cell_of iters body.write ∷ []) in
      record {
        cells = λ cells.
            leaf_is s.vars s.rows leaf write right point cells ∙ ap₂ (λ n v. set cells n v) written (r.value cells) ∙ ap (λ es. done_flat extents es cells) (sym listed);
        meter = λ w m a.
            subst (λ v. Agree s (length point) v (after s (trace.trace c ys) m)) (sym (meter_leaf s leaf write right point w))
            (subst (λ es. Agree s (length point) (metered_leaf s leaf write right point w) (after s es m)) (sym listed)
            (leaf_agrees s leaf write right point ys w m (visit extents e) (map (place_of extents) (map (cell_of iters) (reads body.right))) (place extents body.write iters)
            a enough taken r.reads written vector addresses_are));
      }

  -- what the makers of plans give

  pub loop_made : (around : ℕ) (needs : Needs) (lows highs : List Bound) (inner : Code) (p : Plan) (c : Code) (number : ℕ) (made : Plan) → c ≡ code.Loop number lows highs inner
      → IsTrue (list_all (bound_fits around) lows) → IsTrue (list_all (bound_fits around) highs) → suc around ≤ needs.deep → IsPlan extents (suc around) needs inner p
      → IsLoopOf lows highs around p made → IsPlan extents around needs c made
  loop_made around needs lows highs inner p c number made is fit_lows fit_highs deep planned h =
      subst (IsPlan extents around needs c) (sym h.made)
      (loop_planned around around needs lows highs inner h.low_limits h.high_limits p c number is fit_lows fit_highs deep refl h.lows h.highs planned)

  pub guard_made : (around : ℕ) (old new : Needs) (system : Rows) (inner : Code) (p : Plan) (c : Code) (made : Plan) → c ≡ code.Guard system inner → around ≤ system.vars → Grows old new
      → (system.vars ≤ new.vars) × (length system.rows ≤ new.rows) → IsPlan extents around old inner p → made ≡ plan.Guard system around p → IsPlan extents around new c made
  guard_made around old new system inner p c made is fit grows room planned e =
      subst (IsPlan extents around new c) (sym e) (guard_planned around around new system system inner p c is fit refl refl room.0 room.1 (plan_more around old new inner p grows planned))

  pub leaf_made : (around : ℕ) (needs : Needs) (c : Code) (label : Label) (body : Body) (origin : List Form) (places : List ℕ) (made : Plan) → c ≡ code.Leaf label body origin places
      → ((l : Label) → IsPlan extents around needs (code.Leaf l body origin places) made) → IsPlan extents around needs c made
  leaf_made around needs c label body origin places made is h = subst (λ d. IsPlan extents around needs d made) (sym is) (h label)
