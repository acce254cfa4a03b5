use Rattle.std.proofs.Common.{◌≡◌, ◌^◌, ap, sym, subst, ◌∙◌, ◌-◌, ◌++◌, ◌∷◌, pos, SFits, w64, arith}
use Rattle.std.specs.Int.{w128}
use Rattle.std.proofs.lemmas.Int.{ints, to_z-of_z}
use Rattle.ch_affine.specs.Affine.{IsAtMost, form}
use Rattle.ch_affine.specs.Rows.{IsSystem}
use Rattle.ch_space.specs.Built.{zeros}
use Rattle.ch_space.specs.declared.piece.Piece.{Piece}
use Rattle.ch_cut.proofs.Leasts.{least_by, least_near, multiple, multiple_long, none_by}
use Rattle.ch_cut.proofs.ends.least_in.Goals as goal

pub least_value-requires : goal.least_value-requires
least_value-requires c =
    let s : SFits w64 c.args.factor = c.ranges.factor in
    let p = c.args.piece.now in
    let e : c.in_ok-form.form ≡ multiple p c.args.level c.args.factor c.requires.whole c.requires.some c.requires.deep =
    (simp to_z-of_z at c.in_ok-form.ensures) ∙ ap (λ (q : Piece). form (zeros (c.args.level - 1) ++ c.args.factor ∷ zeros (q.system.vars - c.args.level)) (pos 0)) c.piece.view_is in
    record { same = multiple_long p c.args.level c.args.factor c.requires.whole c.requires.some c.requires.deep c.in_ok-form.form e }

pub overflow_cast-result : goal.overflow_cast-result
overflow_cast-result c =
    let s : SFits w64 c.args.factor = c.ranges.factor in
    let p = c.args.piece.now in
    let e : c.in_ok-form.form ≡ multiple p c.args.level c.args.factor c.requires.whole c.requires.some c.requires.deep =
    (simp to_z-of_z at c.in_ok-form.ensures) ∙ ap (λ (q : Piece). form (zeros (c.args.level - 1) ++ c.args.factor ∷ zeros (q.system.vars - c.args.level)) (pos 0)) c.piece.view_is in
    let l = least_by p c.args.level c.args.factor c.requires.whole c.requires.some c.requires.deep c.in_ok-form.form c.in-Some.value e (sym c.in-Some.is ∙ c.in_ok-value.ensures) in
    let near : IsAtMost (2 ^ 54) c.in-Some.value = least_near p c.args.level c.args.factor c.requires.whole c.requires.some c.requires.deep c.in-Some.value (subst (λ (q : Piece). IsSystem q.system) c.piece.view_is c.piece.invariant) c.requires.factor l in
    let f : SFits w128 c.in-Some.value = omega (arith, ints) in
    let g : SFits w64 c.in-Some.value = omega (arith, ints) in
    simp to_z-of_z (omega (arith, ints))

pub unreachable-requires : goal.unreachable-requires
unreachable-requires c =
    let s : SFits w64 c.args.factor = c.ranges.factor in
    let p = c.args.piece.now in
    let e : c.in_ok-form.form ≡ multiple p c.args.level c.args.factor c.requires.whole c.requires.some c.requires.deep =
    (simp to_z-of_z at c.in_ok-form.ensures) ∙ ap (λ (q : Piece). form (zeros (c.args.level - 1) ++ c.args.factor ∷ zeros (q.system.vars - c.args.level)) (pos 0)) c.piece.view_is in
    none_by p c.args.level c.args.factor c.requires.whole c.requires.some c.requires.deep c.in_ok-form.form e c.requires.instances (sym c.in-None.is ∙ c.in_ok-value.ensures)

pub returns-clause-least : goal.returns-clause-least
returns-clause-least c =
    let s : SFits w64 c.args.factor = c.ranges.factor in
    let p = c.args.piece.now in
    let e : c.in_ok-form.form ≡ multiple p c.args.level c.args.factor c.requires.whole c.requires.some c.requires.deep =
    (simp to_z-of_z at c.in_ok-form.ensures) ∙ ap (λ (q : Piece). form (zeros (c.args.level - 1) ++ c.args.factor ∷ zeros (q.system.vars - c.args.level)) (pos 0)) c.piece.view_is in
    let l = least_by p c.args.level c.args.factor c.requires.whole c.requires.some c.requires.deep c.in_ok-form.form c.in-Some.value e (sym c.in-Some.is ∙ c.in_ok-value.ensures) in
    let near : IsAtMost (2 ^ 54) c.in-Some.value = least_near p c.args.level c.args.factor c.requires.whole c.requires.some c.requires.deep c.in-Some.value (subst (λ (q : Piece). IsSystem q.system) c.piece.view_is c.piece.invariant) c.requires.factor l in
    let f : SFits w128 c.in-Some.value = omega (arith, ints) in
    let g : SFits w64 c.in-Some.value = omega (arith, ints) in
    simp to_z-of_z l

pub returns-clause-near : goal.returns-clause-near
returns-clause-near c =
    let s : SFits w64 c.args.factor = c.ranges.factor in
    let p = c.args.piece.now in
    let e : c.in_ok-form.form ≡ multiple p c.args.level c.args.factor c.requires.whole c.requires.some c.requires.deep =
    (simp to_z-of_z at c.in_ok-form.ensures) ∙ ap (λ (q : Piece). form (zeros (c.args.level - 1) ++ c.args.factor ∷ zeros (q.system.vars - c.args.level)) (pos 0)) c.piece.view_is in
    let l = least_by p c.args.level c.args.factor c.requires.whole c.requires.some c.requires.deep c.in_ok-form.form c.in-Some.value e (sym c.in-Some.is ∙ c.in_ok-value.ensures) in
    let near : IsAtMost (2 ^ 54) c.in-Some.value = least_near p c.args.level c.args.factor c.requires.whole c.requires.some c.requires.deep c.in-Some.value (subst (λ (q : Piece). IsSystem q.system) c.piece.view_is c.piece.invariant) c.requires.factor l in
    let f : SFits w128 c.in-Some.value = omega (arith, ints) in
    let g : SFits w64 c.in-Some.value = omega (arith, ints) in
    simp to_z-of_z near
