use Rattle.std.proofs.Common.{◌≡◌, sym, subst, SFits, w64}
use Rattle.std.specs.Result.{IfOk}
use Rattle.std.proofs.lemmas.Int.{to_z-of_z}
use Rattle.ch_cut.proofs.Spacing.{peel_answers, peel_same}
use Rattle.ch_moved.specs.Moved.{moved}
use Rattle.ch_cut.proofs.peeling.peel.Goals as goal

pub returns-clause-cause : goal.returns-clause-cause
returns-clause-cause c =
    let p : SFits w64 c.args.piece = c.ranges.piece in
    let l : SFits w64 c.args.level = c.ranges.level in
    let k : SFits w64 c.args.count = c.ranges.count in
    let list = c.args.space.now.list in
    let h = simp to_z-of_z at c.in_ok-form.ensures.same in
    let none = sym (simp to_z-of_z at c.in_default.ensures) in
    let a = simp to_z-of_z at c.cut.ensures.cause in
    peel_answers c.cut.result list c.args.piece c.args.level c.args.count c.in_ok-form.form h none a

pub returns-clause-list : goal.returns-clause-list
returns-clause-list c =
    let p : SFits w64 c.args.piece = c.ranges.piece in
    let l : SFits w64 c.args.level = c.ranges.level in
    let k : SFits w64 c.args.count = c.ranges.count in
    let list = c.args.space.now.list in
    let h = simp to_z-of_z at c.in_ok-form.ensures.same in
    let a = simp to_z-of_z at c.cut.ensures.list in
    subst (λ z. IfOk c.cut.result (λ new. new.list ≡ moved z list)) (peel_same list c.args.piece c.args.level c.args.count c.in_ok-form.form h) a
