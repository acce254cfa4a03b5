use Rattle.std.proofs.Common.{◌≡◌, ◌∙◌, ◌++◌, ◌∷◌, [], ap, sym, arith, rules, take, append-nil, SFits, w64}
use Rattle.std.proofs.lemmas.Int.{to_z-of_z}
use Rattle.std.proofs.lemmas.List.{take_all}
use Rattle.ch_nest.specs.declared.nest.ArrayDecl.{ArrayDecl}
use Rattle.ch_nest.specs.Arrays.{extents_of}
use Rattle.ch_plan.specs.Ready.{extents_in}
use Rattle.ch_eval.proofs.Placing.{arrays_more, buffers_more}
use Rattle.ch_eval.proofs.ready.placed.Goals as goal

pub loop-array-preserved : goal.loop-array-preserved
loop-array-preserved c =
    let b : SFits w64 c.in_ok-base.base = search rules in
    let same = c.in_ok-base.ensures.extents ∙ ap (λ es. extents_in c.loop-array.placed ++ es ∷ []) (c.as_slice.ensures ∙ ap (λ (d : ArrayDecl). d.extents) c.array-item.is) in
    record {
      bases = c.in_ok-base.ensures.bases;
      base = simp to_z-of_z c.in_ok-base.ensures.end;
      extents =
          arrays_more c.args.arrays.now c.loop-array.array-index c.array-item.result (extents_in c.loop-array.placed) (extents_in c.place.new.placed) c.loop-array-test.true c.loop-array.invariant.extents same;
    }

pub loop-extents-init : goal.loop-extents-init
loop-extents-init c = record {
  bases = c.loop-array.invariant.bases;
  base = c.loop-array.invariant.base;
  extents =
      c.loop-array.invariant.extents ∙ ap extents_of (take_all c.loop-array.array-index c.args.arrays.now c.loop-array-test.false) ∙ sym (append-nil (extents_of c.args.arrays.now));
}

pub loop-extents-preserved : goal.loop-extents-preserved
loop-extents-preserved c =
    let b : SFits w64 c.in_ok-base-2.base = search rules in
    let same = c.in_ok-base-2.ensures.extents ∙ ap (λ es. extents_in c.loop-extents.placed ++ es ∷ []) (c.as_slice-in-loop-extents.ensures ∙ c.extents-item.is) in
    record {
      bases = c.in_ok-base-2.ensures.bases;
      base = simp to_z-of_z c.in_ok-base-2.ensures.end;
      extents =
          buffers_more (extents_of c.args.arrays.now) c.args.temps.now c.loop-extents.extents-index c.extents-item.result (extents_in c.loop-extents.placed)
          (extents_in c.place-in-loop-extents.new.placed) c.loop-extents-test.true c.loop-extents.invariant.extents same;
    }

pub returns-clause-extents : goal.returns-clause-extents
returns-clause-extents c =
    c.loop-extents.invariant.extents ∙ ap (λ zs. extents_of c.args.arrays.now ++ zs) (take_all c.loop-extents.extents-index c.args.temps.now c.loop-extents-test.false)
