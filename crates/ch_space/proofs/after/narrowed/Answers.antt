use Rattle.std.proofs.Common.{◌≡◌, ◌∙◌, sym, subst, ◌<ℤ◌, ◌≤ℤ◌, get_or, pos, arith, rules, SFits, w64}
use Rattle.std.proofs.lemmas.Int.{ints, to_z-of_z}
use Rattle.ch_affine.specs.Rows.{IsBox}
use Rattle.ch_affine.specs.declared.system.Range.{Range}
use Rattle.ch_space.specs.Following.{narrowed}
use Rattle.ch_space.proofs.Narrowed.{empty_at, length_narrowed, narrowed_all, narrowed_back, narrowed_front, narrowed_more, shared_box}
use Rattle.ch_space.proofs.after.narrowed.Goals as goal
use Rattle.ch_space.proofs.after.narrowed.Goals.{then-k-front, else-k-front}

abbrev nothing : Range
nothing = record { low = pos 0; high = pos 0 }

pub returns-then-range : goal.returns-then-range
returns-then-range c =
    let n = length_narrowed c.args.boxes.now c.args.front.now in
    let h : SFits w64 c.if-k-front.range.high = search rules in
    let l : SFits w64 c.if-k-front.range.low = search rules in
    let test = simp to_z-of_z at c.if-range.true in
    let less : c.if-k-front.range.high <ℤ c.if-k-front.range.low = grind (arith, ints) in
    let is : get_or (narrowed c.args.boxes.now c.args.front.now) c.loop-k.k nothing ≡ c.if-k-front.range = elim c.if-k-front.branch as (λ _. get_or (narrowed c.args.boxes.now c.args.front.now) c.loop-k.k nothing ≡ c.if-k-front.range) [
      | then-k-front w ↦ narrowed_front c.args.boxes.now c.args.front.now c.loop-k.k nothing nothing c.loop-k-test.true w.if-k-front.true ∙ sym w.shared-range.ensures ∙ sym w.range-is
      | else-k-front w ↦ narrowed_back c.args.boxes.now c.args.front.now c.loop-k.k nothing w.if-k-front.false ∙ sym w.range-is
    ] in
    empty_at (narrowed c.args.boxes.now c.args.front.now) c.loop-k.k nothing (omega arith) (subst (λ r. r.high <ℤ r.low) (sym is) less)

pub loop-k-preserved : goal.loop-k-preserved
loop-k-preserved c =
    let h : SFits w64 c.if-k-front.range.high = search rules in
    let l : SFits w64 c.if-k-front.range.low = search rules in
    let test = simp to_z-of_z at c.if-range.false in
    let some : c.if-k-front.range.low ≤ℤ c.if-k-front.range.high = grind (arith, ints) in
    let box : IsBox (get_or c.args.boxes.now c.loop-k.k nothing) = c.requires c.loop-k.k nothing c.loop-k-test.true in
    let here : (c.if-k-front.range ≡ get_or (narrowed c.args.boxes.now c.args.front.now) c.loop-k.k nothing) × IsBox c.if-k-front.range =
    elim c.if-k-front.branch as (λ _. (c.if-k-front.range ≡ get_or (narrowed c.args.boxes.now c.args.front.now) c.loop-k.k nothing) × IsBox c.if-k-front.range) [
      | then-k-front w ↦ (
        w.range-is ∙ w.shared-range.ensures ∙ sym (narrowed_front c.args.boxes.now c.args.front.now c.loop-k.k nothing nothing c.loop-k-test.true w.if-k-front.true),
        subst IsBox (sym (w.range-is ∙ w.shared-range.ensures))
            (shared_box (get_or c.args.boxes.now c.loop-k.k nothing) (get_or c.args.front.now c.loop-k.k nothing) box
            (subst (λ r. r.low ≤ℤ r.high) (w.range-is ∙ w.shared-range.ensures) some)),
      )
      | else-k-front w ↦ (
        w.range-is ∙ sym (narrowed_back c.args.boxes.now c.args.front.now c.loop-k.k nothing w.if-k-front.false),
        subst IsBox (sym w.range-is) box,
      )
    ] in
    narrowed_more c.args.boxes.now c.args.front.now c.loop-k.narrow c.push.new.self c.loop-k.k c.if-k-front.range nothing c.loop-k-test.true c.loop-k.invariant c.in_ok-push.ensures.ok here.0 here.1

pub returns : goal.returns
returns c = narrowed_all c.args.boxes.now c.args.front.now c.loop-k.narrow c.loop-k.k c.loop-k-test.false c.loop-k.invariant
