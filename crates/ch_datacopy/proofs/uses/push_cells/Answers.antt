use Rattle.std.proofs.Common.{◌≡◌, sym, ap, ◌∙◌, subst, length, map, arith}
use Rattle.std.specs.List.{All}
use Rattle.std.proofs.lemmas.List.{length-map}
use Rattle.ch_affine.specs.Form.{Form}
use Rattle.ch_datacopy.specs.Used.{AreNear, IsCellsOf}
use Rattle.ch_datacopy.proofs.Steps.{adds_all, adds_none, adds_one}
use Rattle.ch_nest.specs.declared.nest.Access.{Access}
use Rattle.ch_nest.specs.declared.nest.Sub.{Sub}
use Rattle.ch_datacopy.proofs.uses.push_cells.Goals as goal

pub loop-access-init : goal.loop-access-init
loop-access-init c = adds_none c.args.around c.args.all.now

pub cells_of-requires-clause-whole : goal.cells_of-requires-clause-whole
cells_of-requires-clause-whole c = (c.requires.ready c.loop-access.access-index c.access-item.result c.loop-access-test.true).whole

pub cells_of-requires-clause-around : goal.cells_of-requires-clause-around
cells_of-requires-clause-around c = (c.requires.ready c.loop-access.access-index c.access-item.result c.loop-access-test.true).deep

pub cells_of-requires-clause-few : goal.cells_of-requires-clause-few
cells_of-requires-clause-few c =
    let l = (c.requires.ready c.loop-access.access-index c.access-item.result c.loop-access-test.true).few in
    omega (arith, l)

pub cells_of-requires-clause-iterators : goal.cells_of-requires-clause-iterators
cells_of-requires-clause-iterators c = (c.requires.ready c.loop-access.access-index c.access-item.result c.loop-access-test.true).iterators

pub cells_of-requires-clause-dimensions : goal.cells_of-requires-clause-dimensions
cells_of-requires-clause-dimensions c =
    let l = (c.requires.ready c.loop-access.access-index c.access-item.result c.loop-access-test.true).dimensions in
    let same = c.as_slice-in-loop-access.ensures ∙ c.in_ok-forms.ensures ∙ ap (λ ss. map (λ (s : Sub). s.form) ss) (c.as_slice.ensures ∙ ap (λ (a : Access). a.subs) c.access-item.is) in
    let n = ap length same ∙ length-map {A = Sub} _ (λ (s : Sub). s.form) in
    omega (arith, l, n)

pub cells_of-requires-clause-long : goal.cells_of-requires-clause-long
cells_of-requires-clause-long c =
    let ready = c.requires.ready c.loop-access.access-index c.access-item.result c.loop-access-test.true in
    let same = c.as_slice-in-loop-access.ensures ∙ c.in_ok-forms.ensures ∙ ap (λ ss. map (λ (s : Sub). s.form) ss) (c.as_slice.ensures ∙ ap (λ (a : Access). a.subs) c.access-item.is) in
    subst (λ fs. All (λ (f : Form). length f.coefs ≡ length c.args.piece.now.origin) fs) (sym same) ready.long

pub cells_of-requires-clause-near : goal.cells_of-requires-clause-near
cells_of-requires-clause-near c =
    let ready = c.requires.ready c.loop-access.access-index c.access-item.result c.loop-access-test.true in
    let same = c.as_slice-in-loop-access.ensures ∙ c.in_ok-forms.ensures ∙ ap (λ ss. map (λ (s : Sub). s.form) ss) (c.as_slice.ensures ∙ ap (λ (a : Access). a.subs) c.access-item.is) in
    subst (AreNear c.args.piece.now) (sym same) ready.near

pub loop-access-preserved : goal.loop-access-preserved
loop-access-preserved c =
    let same = c.as_slice-in-loop-access.ensures ∙ c.in_ok-forms.ensures ∙ ap (λ ss. map (λ (s : Sub). s.form) ss) c.as_slice.ensures in
    adds_one c.args.around c.args.piece.now c.args.accesses.now c.loop-access.access-index c.access-item.result c.in_ok-cells_of.field-0 c.args.all.now c.loop-access.all c.push.new.self
    c.loop-access-test.true c.access-item.is c.loop-access.invariant (subst (λ fs. IsCellsOf c.args.piece.now c.args.around fs c.in_ok-cells_of.field-0) same c.in_ok-cells_of.ensures) c.in_ok-push.ensures.ok

pub returns : goal.returns
returns c = adds_all c.args.around c.args.piece.now c.args.accesses.now c.loop-access.access-index c.args.all.now c.loop-access.all c.loop-access-test.false c.loop-access.invariant
