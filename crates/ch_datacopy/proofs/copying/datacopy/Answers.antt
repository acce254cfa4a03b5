use Rattle.std.proofs.Common.{◌≡◌, ◌+◌, ◌-◌, ◌++◌, ◌∷◌, [], sym, ap, ap₂, ◌∙◌, subst, length, SFits, w64, arith}
use Rattle.std.specs.Prelude.{IfSome}
use Rattle.std.proofs.lemmas.Int.{to_z-of_z}
use Rattle.std.proofs.lemmas.Result.{IfOk-weaker}
use Rattle.ch_copied.specs.Copied.{buffer_extents, copied, datacopied}
use Rattle.ch_copied.specs.Copyable.{HasLoop}
use Rattle.ch_datacopy.specs.Causes.{of_plan}
use Rattle.ch_datacopy.specs.Moved.{plan_in}
use Rattle.ch_datacopy.proofs.Naming.{cause_here, cause_none, cause_undeclared, is_named, plan_tells}
use Rattle.ch_moved.specs.Arguments.{natural}
use Rattle.ch_moved.specs.Causes.{Answers, first_of}
use Rattle.ch_space.specs.Listed.{Listed}
use Rattle.ch_datacopy.proofs.copying.datacopy.Goals as goal

pub returns-in-Some-clause-cause : goal.returns-in-Some-clause-cause
returns-in-Some-clause-cause c =
    let f : SFits w64 c.args.piece = c.ranges.piece in
    let g : SFits w64 c.args.level = c.ranges.level in
    let here = sym (simp to_z-of_z at c.first_cause.ensures) ∙ c.in-Some.is in
    cause_here c.args.space.now.list c.args.space.now.arrays (length c.args.space.now.temps) c.args.piece c.args.level c.args.array c.in-Some.shape here

pub returns-in_default-array-clause-cause : goal.returns-in_default-array-clause-cause
returns-in_default-array-clause-cause c =
    let f : SFits w64 c.args.piece = c.ranges.piece in
    let g : SFits w64 c.args.level = c.ranges.level in
    let none = sym (simp to_z-of_z at c.first_cause.ensures) ∙ c.in_default.is in
    cause_none c.args.space.now.list c.args.space.now.arrays (length c.args.space.now.temps) c.args.piece c.args.level c.args.array c.not_there.result none c.in_default-array.is c.not_there.ensures

pub returns-then-array-space-clause-cause : goal.returns-then-array-space-clause-cause
returns-then-array-space-clause-cause c =
    let f : SFits w64 c.args.piece = c.ranges.piece in
    let g : SFits w64 c.args.level = c.ranges.level in
    let none = sym (simp to_z-of_z at c.first_cause.ensures) ∙ c.in_default.is in
    let most = c.if-array-space.true in
    let same = ap (λ (r : Listed). r.arrays) c.space.view_is in
    cause_undeclared c.args.space.now.list c.args.space.now.arrays (length c.args.space.now.temps) c.args.piece c.args.level c.args.array c.in-Some-array.array c.not_there-then-array-space.result none c.in-Some-array.is
    (omega (arith, most, same)) c.not_there-then-array-space.ensures

pub overflow_sub-around : goal.overflow_sub-around
overflow_sub-around c =
    let f : SFits w64 c.args.piece = c.ranges.piece in
    let g : SFits w64 c.args.level = c.ranges.level in
    let none = sym (simp to_z-of_z at c.first_cause.ensures) ∙ c.in_default.is in
    let some = (is_named c.args.space.now.list c.args.piece c.args.level none).some in
    let same = simp to_z-of_z at c.natural-around.ensures in
    omega (arith, some, same)

pub index-requires : goal.index-requires
index-requires c =
    let f : SFits w64 c.args.piece = c.ranges.piece in
    let g : SFits w64 c.args.level = c.ranges.level in
    let none = sym (simp to_z-of_z at c.first_cause.ensures) ∙ c.in_default.is in
    simp to_z-of_z (is_named c.args.space.now.list c.args.piece c.args.level none).there

pub copied-requires-clause-declared : goal.copied-requires-clause-declared
copied-requires-clause-declared c =
    let less = c.if-array-space.false in
    let same = ap (λ (r : Listed). r.arrays) c.space.view_is in
    omega (arith, less, same)

pub copied-requires-clause-inside : goal.copied-requires-clause-inside
copied-requires-clause-inside c =
    let f : SFits w64 c.args.piece = c.ranges.piece in
    let g : SFits w64 c.args.level = c.ranges.level in
    let none = sym (simp to_z-of_z at c.first_cause.ensures) ∙ c.in_default.is in
    let number = simp to_z-of_z at c.index.ensures in
    let around = ap (λ n. n - 1) (simp to_z-of_z at c.natural-around.ensures) in
    subst (λ n. HasLoop c.args.space.now.list n (c.natural-around.result - 1 + 1)) (sym number)
    (subst (λ n. HasLoop c.args.space.now.list (natural c.args.piece) (n + 1)) (sym around) (is_named c.args.space.now.list c.args.piece c.args.level none).loop)

pub returns-clause-cause : goal.returns-clause-cause
returns-clause-cause c =
    let f : SFits w64 c.args.piece = c.ranges.piece in
    let g : SFits w64 c.args.level = c.ranges.level in
    let none = sym (simp to_z-of_z at c.first_cause.ensures) ∙ c.in_default.is in
    let number = simp to_z-of_z at c.index.ensures in
    let around = ap (λ n. n - 1) (simp to_z-of_z at c.natural-around.ensures) in
    let less = c.if-array-space.false in
    let same = ap (λ (r : Listed). r.arrays) c.space.view_is in
    plan_tells c.args.space.now.list c.args.space.now.arrays (length c.args.space.now.temps) c.args.piece c.args.level c.copied.result c.args.array c.in-Some-array.array none c.in-Some-array.is (omega (arith, less, same))
    (subst (λ n. Answers c.copied.result (first_of (of_plan (plan_in c.args.space.now (natural c.args.piece) n c.in-Some-array.array) c.args.space.now.list))) around
    (subst (λ n. Answers c.copied.result (first_of (of_plan (plan_in c.args.space.now n (c.natural-around.result - 1) c.in-Some-array.array) c.args.space.now.list))) number c.copied.ensures.cause))

pub returns-clause-list : goal.returns-clause-list
returns-clause-list c =
    let f : SFits w64 c.args.piece = c.ranges.piece in
    let g : SFits w64 c.args.level = c.ranges.level in
    let number = simp to_z-of_z at c.index.ensures in
    let around = ap (λ n. n - 1) (simp to_z-of_z at c.natural-around.ensures) in
    IfOk-weaker c.copied.result (λ (new : Listed). new.list ≡ copied (plan_in c.args.space.now c.index.result (c.natural-around.result - 1) c.in-Some-array.array) c.args.space.now.list)
    (λ new. IfSome c.args.array (λ k. new.list ≡ datacopied c.args.space.now.list (natural c.args.piece) (natural c.args.level) k (c.args.space.now.arrays + length c.args.space.now.temps)))
    (λ new e. subst (λ o. IfSome o (λ k. new.list ≡ datacopied c.args.space.now.list (natural c.args.piece) (natural c.args.level) k (c.args.space.now.arrays + length c.args.space.now.temps))) (sym c.in-Some-array.is)
    (e ∙ ap₂ (λ s a. copied (plan_in c.args.space.now s a c.in-Some-array.array) c.args.space.now.list) number around))
    c.copied.ensures.list

pub returns-clause-temps : goal.returns-clause-temps
returns-clause-temps c =
    let f : SFits w64 c.args.piece = c.ranges.piece in
    let g : SFits w64 c.args.level = c.ranges.level in
    let number = simp to_z-of_z at c.index.ensures in
    let around = ap (λ n. n - 1) (simp to_z-of_z at c.natural-around.ensures) in
    IfOk-weaker c.copied.result (λ (new : Listed). new.temps ≡ c.args.space.now.temps ++ (plan_in c.args.space.now c.index.result (c.natural-around.result - 1) c.in-Some-array.array).extents ∷ [])
    (λ new. IfSome c.args.array (λ k. new.temps ≡ c.args.space.now.temps
    ++ buffer_extents c.args.space.now.list (natural c.args.piece) (natural c.args.level) k (c.args.space.now.arrays + length c.args.space.now.temps) ∷ []))
    (λ new e. subst (λ o. IfSome o (λ k. new.temps ≡ c.args.space.now.temps
    ++ buffer_extents c.args.space.now.list (natural c.args.piece) (natural c.args.level) k (c.args.space.now.arrays + length c.args.space.now.temps) ∷ [])) (sym c.in-Some-array.is)
    (e ∙ ap₂ (λ s a. c.args.space.now.temps ++ (plan_in c.args.space.now s a c.in-Some-array.array).extents ∷ []) number around))
    c.copied.ensures.temps
