use Rattle.std.proofs.Common.{◌≡◌, ◌<◌, ◌+ℤ◌, ℤ, List, to_z, suc, rules, SFits, w64, pos, Bool, sym, ◌∙◌, subst, arith, length-drop, true, false, add-one}
use Rattle.std.proofs.lemmas.Int.{ints, to_z-of_z}
use Rattle.std.proofs.lemmas.Result.{IfOk-weaker}
use Rattle.std.proofs.lemmas.List.{take_rest}
use Rattle.ch_code.specs.Trace.{trace}
use Rattle.ch_codegen.specs.Around.{IsAround}
use Rattle.ch_affine.specs.Rows.{IsSystem}
use Rattle.ch_timed.specs.declared.element.Element.{Element}
use Rattle.ch_timed.specs.Members.{Each}
use Rattle.ch_timed.proofs.Orders.{at_each}
use Rattle.ch_codegen.specs.Bounds.{Binds}
use Rattle.ch_codegen.proofs.Neighbours.{whole_in}
use Rattle.ch_codegen.specs.Cuts.{actives}
use Rattle.ch_codegen.specs.Formed.{HasBody, IsFormed}
use Rattle.ch_codegen.specs.Parts.{AreSystems, IsAmong, IsTurn, Lists, Together}
use Rattle.ch_space.specs.Keeps.{AreApart}
use Rattle.ch_codegen.proofs.Actives.{actives_apart, actives_each, actives_together, ranges_boxes, same_length}
use Rattle.ch_codegen.proofs.Forming.{formed_more, guard_formed, loop_formed, run_formed, sequence_is_formed}
use Rattle.ch_codegen.proofs.Listing.{bound_listed, code_more, code_whole, guard_listed, hull_listed, numbers_fit, numbers_narrow, natural_falls, stretch_box, stretch_listed, stretch_none, AreStretches, next_fits, not_le, stretches_keep, stretches_push, stretches_whole}
use Rattle.ch_codegen.proofs.Steps.{apart_first, first_in, first_of, only_one, apart_rest, depth_small, precede_more, run_deep, run_is_one, some_first, systems_first, systems_rest, together_rest}
use Rattle.ch_codegen.proofs.generator.+code.Goals.{cut_code-in-Some+in_ok-push-in-Some, cut_code-in-None}
use Rattle.ch_codegen.proofs.generator.+code.Goals as goal

not_both : (b : Bool) → b ≡ true → b ≡ false → ⊥
not_both b t f = cc

pub code_of-run_end-count-requires-clause-apart : goal.code_of-run_end-count-requires-clause-apart
code_of-run_end-count-requires-clause-apart t c = apart_rest c.args.pieces.now c.loop-start.start c.requires.apart

pub code_of-run_end-count-requires-clause-together : goal.code_of-run_end-count-requires-clause-together
code_of-run_end-count-requires-clause-together t c = together_rest c.args.pieces.now c.loop-start.start _ c.requires.together

pub code_of-run_code-requires : goal.code_of-run_code-requires
code_of-run_code-requires t c = (
  omega (arith, c.decreases),
  (
    some_first _ c.run_end-count.result c.run_end-count.ensures.some c.run_end-count.ensures.within,
    (
      apart_first _ c.run_end-count.result (apart_rest c.args.pieces.now c.loop-start.start c.requires.apart),
      (systems_first _ c.run_end-count.result (systems_rest c.args.pieces.now c.loop-start.start c.requires.systems), c.run_end-count.ensures.run),
    ),
  ),
)

pub code_of-loop-start-preserved : goal.code_of-loop-start-preserved
code_of-loop-start-preserved t c =
    let counted = rw (take_rest c.args.pieces.now c.loop-start.start) at c.run_end-count.ensures in
    let part = rw (take_rest c.args.pieces.now c.loop-start.start) at c.in_ok-part.ensures in
    record {
      within = omega (arith, counted.within, length-drop c.loop-start.start c.args.pieces.now, c.loop-start.invariant.within);
      lists = code_more c.args.around.depth c.args.around.known c.args.pieces.now c.loop-start.parts c.push.new.self c.in_ok-part.part c.loop-start.start c.run_end-count.result
          c.requires.apart c.requires.systems c.requires.together c.loop-start.invariant.lists c.loop-start.invariant.precede part.lists c.in_ok-push.ensures.ok;
      formed =
          run_formed c.args.around.depth c.args.pieces.now c.loop-start.start c.run_end-count.result c.loop-start.parts c.push.new.self c.in_ok-part.part c.loop-start.invariant.formed part.formed
          c.in_ok-push.ensures.ok;
      precede = precede_more _ c.args.pieces.now c.loop-start.start c.run_end-count.result c.loop-start.invariant.precede counted.precede;
    }

pub code_of-returns-clause-lists : goal.code_of-returns-clause-lists
code_of-returns-clause-lists t c =
    code_whole c.args.around.depth c.args.around.known c.args.pieces.now c.loop-start.parts c.in_sequence.result c.loop-start.start c.loop-start-test.false c.in_sequence.ensures c.loop-start.invariant.lists

pub code_of-returns-clause-formed : goal.code_of-returns-clause-formed
code_of-returns-clause-formed t c =
    sequence_is_formed c.args.around.depth c.args.pieces.now c.loop-start.parts c.in_sequence.result c.in_sequence.ensures c.loop-start.invariant.formed

-- one piece under a guard

pub guarded_code-returns-clause-lists : goal.guarded_code-returns-clause-lists
guarded_code-returns-clause-lists t c =
    let one = only_one c.args.run.now c.index-run-0.result c.requires.one c.index-run-0.is in
    IfOk-weaker c.guard_over.result _ _
    (λ code is. subst (λ ps. Lists (IsAround c.args.around.depth false ps) (IsAmong ps) (trace code)) (sym one)
    (guard_listed c.args.around.depth false c.index-run-0.result c.in_ok-inner.inner code
    (subst (λ ps. Lists (IsAround c.args.around.depth true ps) (IsAmong ps) (trace c.in_ok-inner.inner)) one c.in_ok-inner.ensures.lists) is))
    c.guard_over.ensures

pub guarded_code-returns-clause-formed : goal.guarded_code-returns-clause-formed
guarded_code-returns-clause-formed t c =
    let i = first_in c.args.run.now c.index-run-0.result (omega (arith, c.requires.one)) c.index-run-0.is in
    let deep = c.requires.together.deep c.index-run-0.result i in
    IfOk-weaker c.guard_over.result _ _
    (λ code is. subst (IsFormed c.args.around.depth c.args.run.now) (sym is)
    (guard_formed c.args.around.depth c.args.run.now c.index-run-0.result c.in_ok-inner.inner (whole_in c.args.run.now c.index-run-0.result c.requires.apart i)
    (at_each (λ p. IsSystem p.system) c.args.run.now c.requires.systems c.index-run-0.result i) (omega (arith, deep)) c.in_ok-inner.ensures.formed))
    c.guard_over.ensures

-- a loop over all values

pub hull_code-shared_range-range-requires-clause-deep : goal.hull_code-shared_range-range-requires-clause-deep
hull_code-shared_range-range-requires-clause-deep t c = run_deep c.args.run.now c.args.around.depth c.requires.apart c.requires.systems c.requires.together

pub hull_code-overflow_add-inside : goal.hull_code-overflow_add-inside
hull_code-overflow_add-inside t c =
    let few = depth_small c.args.run.now c.args.around.depth c.requires.some c.requires.apart c.requires.systems c.requires.together in
    omega (arith, few)

pub hull_code-code_of-requires : goal.hull_code-code_of-requires
hull_code-code_of-requires t c =
    let few = depth_small c.args.run.now c.args.around.depth c.requires.some c.requires.apart c.requires.systems c.requires.together in (
      omega (arith, c.decreases, few),
      (c.requires.apart, (c.requires.systems, subst (λ n. Together n c.args.run.now) (sym (add-one c.args.around.depth)) c.requires.together)),
    )

pub hull_code-loop_over-requires-clause-few : goal.hull_code-loop_over-requires-clause-few
hull_code-loop_over-requires-clause-few t c =
    let few = depth_small c.args.run.now c.args.around.depth c.requires.some c.requires.apart c.requires.systems c.requires.together in
    omega (arith, few)

pub hull_code-returns-clause-lists : goal.hull_code-returns-clause-lists
hull_code-returns-clause-lists t c =
    IfOk-weaker c.loop_over.result _ _
    (λ code is. hull_listed c.args.around.depth c.args.around.known c.args.run.now c.shared_range-range.result c.in_ok-inner.inner code c.requires.apart c.requires.systems c.requires.together
    c.shared_range-range.ensures.covers
    (subst (λ n. Lists (IsAround n false c.args.run.now) (IsAmong c.args.run.now) (trace c.in_ok-inner.inner)) (add-one c.args.around.depth) c.in_ok-inner.ensures.lists) is)
    c.loop_over.ensures

pub hull_code-returns-clause-formed : goal.hull_code-returns-clause-formed
hull_code-returns-clause-formed t c =
    let r = c.shared_range-range.result in
    IfOk-weaker c.loop_over.result _ _
    (λ code is. subst (IsFormed c.args.around.depth c.args.run.now) (sym is)
    (loop_formed c.args.around.depth c.args.run.now _ _ c.in_ok-inner.inner (numbers_fit c.args.around.depth r.low r.high) (numbers_narrow c.args.around.depth r c.shared_range-range.ensures.fits)
    (subst (λ n. IsFormed n c.args.run.now c.in_ok-inner.inner) (add-one c.args.around.depth) c.in_ok-inner.ensures.formed)))
    c.loop_over.ensures

-- a loop by bounds

pub loop_code-shared_ends-requires-clause-deep : goal.loop_code-shared_ends-requires-clause-deep
loop_code-shared_ends-requires-clause-deep t c = run_deep c.args.run.now c.args.around.depth c.requires.apart c.requires.systems c.requires.together

pub loop_code-fixed_ranges-requires-clause-deep : goal.loop_code-fixed_ranges-requires-clause-deep
loop_code-fixed_ranges-requires-clause-deep t c = run_deep c.args.run.now c.args.around.depth c.requires.apart c.requires.systems c.requires.together

pub loop_code-overflow_add-inside : goal.loop_code-overflow_add-inside
loop_code-overflow_add-inside t c =
    let few = depth_small c.args.run.now c.args.around.depth c.requires.some c.requires.apart c.requires.systems c.requires.together in
    omega (arith, few)

pub loop_code-code_of-requires : goal.loop_code-code_of-requires
loop_code-code_of-requires t c =
    let few = depth_small c.args.run.now c.args.around.depth c.requires.some c.requires.apart c.requires.systems c.requires.together in (
      omega (arith, c.decreases, few),
      (c.requires.apart, (c.requires.systems, subst (λ n. Together n c.args.run.now) (sym (add-one c.args.around.depth)) c.requires.together)),
    )

pub loop_code-loop_between-requires : goal.loop_code-loop_between-requires
loop_code-loop_between-requires t c =
    let few = depth_small c.args.run.now c.args.around.depth c.requires.some c.requires.apart c.requires.systems c.requires.together in
    omega (arith, few)

pub loop_code-returns-in-Some-clause-lists : goal.loop_code-returns-in-Some-clause-lists
loop_code-returns-in-Some-clause-lists t c =
    let binds : Each (Binds c.args.around.depth c.in-Some.ends.lows c.in-Some.ends.highs) c.args.run.now = rw c.in-Some.is at c.in_ok-ends.ensures in
    IfOk-weaker c.loop_between.result _ _
    (λ code is. bound_listed c.args.around.depth c.args.around.known c.args.run.now c.in-Some.ends.lows c.in-Some.ends.highs c.in_ok-inner.inner code c.requires.apart c.requires.systems c.requires.together binds
    (subst (λ n. Lists (IsAround n c.args.around.known c.args.run.now) (IsAmong c.args.run.now) (trace c.in_ok-inner.inner)) (add-one c.args.around.depth) c.in_ok-inner.ensures.lists) is)
    c.loop_between.ensures

pub loop_code-returns-in-Some-clause-formed : goal.loop_code-returns-in-Some-clause-formed
loop_code-returns-in-Some-clause-formed t c =
    let binds : Each (Binds c.args.around.depth c.in-Some.ends.lows c.in-Some.ends.highs) c.args.run.now = rw c.in-Some.is at c.in_ok-ends.ensures in
    let b = first_of c.args.run.now _ binds c.requires.some in
    IfOk-weaker c.loop_between.result _ _
    (λ code is. subst (IsFormed c.args.around.depth c.args.run.now) (sym is)
    (loop_formed c.args.around.depth c.args.run.now c.in-Some.ends.lows c.in-Some.ends.highs c.in_ok-inner.inner b.1.fit b.1.narrow
    (subst (λ n. IsFormed n c.args.run.now c.in_ok-inner.inner) (add-one c.args.around.depth) c.in_ok-inner.ensures.formed)))
    c.loop_between.ensures

-- a stretch

pub stretch_code-active_pieces-requires : goal.stretch_code-active_pieces-requires
stretch_code-active_pieces-requires t c = same_length c.args.around.depth c.args.run.now c.args.ranges.now c.requires.ranges

pub stretch_code-returns-then-is_empty-clause-lists : goal.stretch_code-returns-then-is_empty-clause-lists
stretch_code-returns-then-is_empty-clause-lists t c =
    let f : SFits w64 c.args.stretch.low = search rules in
    let e : c.in_ok-active.active ≡ actives c.args.stretch.low c.args.run.now c.args.ranges.now = simp to_z-of_z at c.in_ok-active.ensures in
    stretch_none c.args.around.depth c.args.around.known c.args.run.now c.args.ranges.now c.args.stretch.low c.args.stretch.high c.requires.ranges c.requires.steady (sym e ∙ c.is_empty.ensures.0 c.if-is_empty.true)

pub stretch_code-overflow_add-inside : goal.stretch_code-overflow_add-inside
stretch_code-overflow_add-inside t c =
    let few = depth_small c.args.run.now c.args.around.depth c.requires.pieces c.requires.apart c.requires.systems c.requires.together in
    omega (arith, few)

pub stretch_code-code_of-requires : goal.stretch_code-code_of-requires
stretch_code-code_of-requires t c =
    let few = depth_small c.args.run.now c.args.around.depth c.requires.pieces c.requires.apart c.requires.systems c.requires.together in
    let f : SFits w64 c.args.stretch.low = search rules in
    let e : c.in_ok-active.active ≡ actives c.args.stretch.low c.args.run.now c.args.ranges.now = simp to_z-of_z at c.in_ok-active.ensures in
    let s = sym (c.as_slice.ensures ∙ e) in (
      omega (arith, c.decreases, few),
      (
        subst AreApart s (actives_apart c.args.stretch.low c.args.run.now c.args.ranges.now c.requires.apart),
        (
          subst AreSystems s (actives_each (λ p. IsSystem p.system) c.args.stretch.low c.args.run.now c.args.ranges.now c.requires.systems),
          subst (λ n. Together n c.as_slice.result.now) (sym (add-one c.args.around.depth)) (subst (Together (suc c.args.around.depth)) s (actives_together (suc c.args.around.depth) c.args.stretch.low c.args.run.now c.args.ranges.now c.requires.together)),
        ),
      ),
    )

pub stretch_code-loop_over-requires-clause-few : goal.stretch_code-loop_over-requires-clause-few
stretch_code-loop_over-requires-clause-few t c =
    let few = depth_small c.args.run.now c.args.around.depth c.requires.pieces c.requires.apart c.requires.systems c.requires.together in
    omega (arith, few)

pub stretch_code-loop_over-requires-clause-range : goal.stretch_code-loop_over-requires-clause-range
stretch_code-loop_over-requires-clause-range t c =
    let f : SFits w64 c.args.stretch.low = search rules in
    let e : c.in_ok-active.active ≡ actives c.args.stretch.low c.args.run.now c.args.ranges.now = simp to_z-of_z at c.in_ok-active.ensures in
    stretch_box c.args.around.depth c.args.run.now c.args.ranges.now c.args.stretch c.requires.ranges c.requires.steady c.requires.some (λ n. not_both c.is_empty.result (c.is_empty.ensures.1 (e ∙ n)) c.if-is_empty.false)

pub stretch_code-returns-clause-lists : goal.stretch_code-returns-clause-lists
stretch_code-returns-clause-lists t c =
    let f : SFits w64 c.args.stretch.low = search rules in
    let e : c.in_ok-active.active ≡ actives c.args.stretch.low c.args.run.now c.args.ranges.now = simp to_z-of_z at c.in_ok-active.ensures in
    let s = c.as_slice.ensures ∙ e in
    stretch_listed c.args.around.depth c.args.around.known c.args.run.now c.args.ranges.now c.args.stretch.low c.args.stretch.high c.in_ok-inner.inner c.in_ok-loop_over.field-0
    (actives_apart c.args.stretch.low c.args.run.now c.args.ranges.now c.requires.apart)
    (actives_each (λ p. IsSystem p.system) c.args.stretch.low c.args.run.now c.args.ranges.now c.requires.systems)
    (actives_together (suc c.args.around.depth) c.args.stretch.low c.args.run.now c.args.ranges.now c.requires.together) c.requires.ranges c.requires.some c.requires.steady
    (subst (λ ps. Lists (IsAround (suc c.args.around.depth) c.args.around.known ps) (IsAmong ps) (trace c.in_ok-inner.inner)) s
    (subst (λ n. Lists (IsAround n c.args.around.known c.as_slice.result.now) (IsAmong c.as_slice.result.now) (trace c.in_ok-inner.inner)) (add-one c.args.around.depth) c.in_ok-inner.ensures.lists))
    c.in_ok-loop_over.ensures

pub stretch_code-returns-clause-formed : goal.stretch_code-returns-clause-formed
stretch_code-returns-clause-formed t c =
    let f : SFits w64 c.args.stretch.low = search rules in
    let e : c.in_ok-active.active ≡ actives c.args.stretch.low c.args.run.now c.args.ranges.now = simp to_z-of_z at c.in_ok-active.ensures in
    let s = c.as_slice.ensures ∙ e in
    let b = stretch_box c.args.around.depth c.args.run.now c.args.ranges.now c.args.stretch c.requires.ranges c.requires.steady c.requires.some (λ n. not_both c.is_empty.result (c.is_empty.ensures.1 (e ∙ n)) c.if-is_empty.false) in
    let inner : IsFormed (suc c.args.around.depth) (actives c.args.stretch.low c.args.run.now c.args.ranges.now) c.in_ok-inner.inner =
    subst (λ ps. IsFormed (suc c.args.around.depth) ps c.in_ok-inner.inner) s (subst (λ n. IsFormed n c.as_slice.result.now c.in_ok-inner.inner) (add-one c.args.around.depth) c.in_ok-inner.ensures.formed) in
    subst (IsFormed c.args.around.depth c.args.run.now) (sym c.in_ok-loop_over.ensures)
    (loop_formed c.args.around.depth c.args.run.now _ _ c.in_ok-inner.inner (numbers_fit c.args.around.depth c.args.stretch.low c.args.stretch.high) (numbers_narrow c.args.around.depth c.args.stretch b)
    (formed_more (suc c.args.around.depth) c.args.run.now (actives c.args.stretch.low c.args.run.now c.args.ranges.now) c.in_ok-inner.inner
    (λ n h. actives_each (HasBody n) c.args.stretch.low c.args.run.now c.args.ranges.now h) inner))

-- all stretches

pub cut_code-statements_cut-statements-requires-clause-some : goal.cut_code-statements_cut-statements-requires-clause-some
cut_code-statements_cut-statements-requires-clause-some t c = subst (λ n. 0 < n) (sym (same_length c.args.around.depth c.args.run.now c.args.ranges.now c.requires.ranges)) c.requires.some

pub cut_code-statements_cut-statements-requires-clause-boxes : goal.cut_code-statements_cut-statements-requires-clause-boxes
cut_code-statements_cut-statements-requires-clause-boxes t c = ranges_boxes c.args.around.depth c.args.run.now c.args.ranges.now c.requires.ranges

pub cut_code-whole_range-whole-requires-clause-some : goal.cut_code-whole_range-whole-requires-clause-some
cut_code-whole_range-whole-requires-clause-some t c = subst (λ n. 0 < n) (sym (same_length c.args.around.depth c.args.run.now c.args.ranges.now c.requires.ranges)) c.requires.some

pub cut_code-whole_range-whole-requires-clause-boxes : goal.cut_code-whole_range-whole-requires-clause-boxes
cut_code-whole_range-whole-requires-clause-boxes t c = ranges_boxes c.args.around.depth c.args.run.now c.args.ranges.now c.requires.ranges

pub cut_code-loop-low-smaller : goal.cut_code-loop-low-smaller
cut_code-loop-low-smaller t c =
    let b = c.whole_range-whole.ensures.fits in
    let top = b.high in
    let bottom = b.low in
    let h : SFits w64 c.whole_range-whole.result.high = omega (arith, ints, top) in
    let r : SFits w64 c.cut_end-high.result = search rules in
    let before = simp to_z-of_z at c.cut_end-high.ensures.before in
    let after = c.cut_end-high.ensures.after in
    let first = c.loop-low.invariant.after in
    let n : SFits w64 (c.cut_end-high.result +ℤ pos 1) = next_fits c.cut_end-high.result _ c.whole_range-whole.result.low c.whole_range-whole.result.high after first before top bottom in
    simp to_z-of_z (natural_falls c.whole_range-whole.result.high (to_z w64 c.loop-low.low-bits) (c.cut_end-high.result +ℤ pos 1) (omega (arith, ints, after)) (omega (arith, ints, after, before)))

pub cut_code-loop-low-preserved : goal.cut_code-loop-low-preserved
cut_code-loop-low-preserved t c =
    let b = c.whole_range-whole.ensures.fits in
    let top = b.high in
    let bottom = b.low in
    let h : SFits w64 c.whole_range-whole.result.high = omega (arith, ints, top) in
    let r : SFits w64 c.cut_end-high.result = search rules in
    let before = simp to_z-of_z at c.cut_end-high.ensures.before in
    let after = c.cut_end-high.ensures.after in
    let first = c.loop-low.invariant.after in
    let n : SFits w64 (c.cut_end-high.result +ℤ pos 1) = next_fits c.cut_end-high.result _ c.whole_range-whole.result.low c.whole_range-whole.result.high after first before top bottom in
    let low = to_z w64 c.loop-low.low-bits in
    let high = c.cut_end-high.result in
    let both : AreStretches c.args.around.depth c.args.around.known c.args.run.now c.whole_range-whole.result.low c.cut_end-high.result c.match-branch-2.parts =
    elim c.match-branch-2.branch as (λ _. AreStretches c.args.around.depth c.args.around.known c.args.run.now c.whole_range-whole.result.low c.cut_end-high.result c.match-branch-2.parts) [
      | cut_code-in-Some+in_ok-push-in-Some w ↦
          let got = rw w.in-Some.is at c.in_ok-part.ensures in
          let part : Lists (IsAround c.args.around.depth c.args.around.known c.args.run.now) (IsTurn (to_z w64 c.loop-low.low-bits) c.cut_end-high.result c.args.run.now) (trace w.in-Some.part) = simp to_z-of_z at got.lists in
          subst (AreStretches c.args.around.depth c.args.around.known c.args.run.now c.whole_range-whole.result.low c.cut_end-high.result) (sym w.parts-is)
          (stretches_push c.args.around.depth c.args.around.known c.args.run.now c.whole_range-whole.result.low (to_z w64 c.loop-low.low-bits) c.cut_end-high.result c.loop-low.parts w.push.new.self w.in-Some.part c.requires.apart c.requires.systems
          c.requires.together first after c.loop-low.invariant.lists c.loop-low.invariant.formed part got.formed w.in_ok-push-in-Some.ensures.ok)
      | cut_code-in-None w ↦
          let got = rw w.in-None.is at c.in_ok-part.ensures in
          let none : (xs : List ℤ) (e : Element) → IsAround c.args.around.depth c.args.around.known c.args.run.now xs → IsTurn (to_z w64 c.loop-low.low-bits) c.cut_end-high.result c.args.run.now xs e → ⊥ = simp to_z-of_z at got.lists in
          subst (AreStretches c.args.around.depth c.args.around.known c.args.run.now c.whole_range-whole.result.low c.cut_end-high.result) (sym w.parts-is)
          (stretches_keep c.args.around.depth c.args.around.known c.args.run.now c.whole_range-whole.result.low (to_z w64 c.loop-low.low-bits) c.cut_end-high.result c.loop-low.parts after c.loop-low.invariant.lists c.loop-low.invariant.formed none)
    ] in
    simp to_z-of_z (record { after = omega (arith, ints, after, first); lists = both.lists; formed = both.formed })

pub cut_code-returns-clause-lists : goal.cut_code-returns-clause-lists
cut_code-returns-clause-lists t c =
    let top = c.whole_range-whole.ensures.fits.high in
    let h : SFits w64 c.whole_range-whole.result.high = omega (arith, ints, top) in
    let over = simp to_z-of_z at c.loop-low-test.false in
    stretches_whole c.args.around.depth c.args.around.known c.args.run.now c.args.ranges.now c.whole_range-whole.result (to_z w64 c.loop-low.low-bits) c.loop-low.parts c.in_sequence.result c.requires.apart c.requires.systems
    c.requires.together c.requires.ranges c.whole_range-whole.ensures.covers (not_le (to_z w64 c.loop-low.low-bits) c.whole_range-whole.result.high over) c.loop-low.invariant.lists c.in_sequence.ensures

pub cut_code-returns-clause-formed : goal.cut_code-returns-clause-formed
cut_code-returns-clause-formed t c = sequence_is_formed c.args.around.depth c.args.run.now c.loop-low.parts c.in_sequence.result c.in_sequence.ensures c.loop-low.invariant.formed

-- runs

pub run_code-returns-then-first-depth-clause-lists : goal.run_code-returns-then-first-depth-clause-lists
run_code-returns-then-first-depth-clause-lists t c =
    let one = run_is_one c.args.run.now _ c.index-run-0.result c.requires.some c.index-run-0.is c.requires.run c.if-first-depth.true in
    IfOk-weaker c.end_code.result _ _ (λ code lists. subst (λ ps. Lists (IsAround c.args.around.depth c.args.around.known ps) (IsAmong ps) (trace code)) (sym one) lists) c.end_code.ensures.lists

pub run_code-returns-then-first-depth-clause-formed : goal.run_code-returns-then-first-depth-clause-formed
run_code-returns-then-first-depth-clause-formed t c =
    let one = run_is_one c.args.run.now _ c.index-run-0.result c.requires.some c.index-run-0.is c.requires.run c.if-first-depth.true in
    IfOk-weaker c.end_code.result _ _ (λ code formed. subst (λ ps. IsFormed c.args.around.depth ps code) (sym one) formed) c.end_code.ensures.formed
