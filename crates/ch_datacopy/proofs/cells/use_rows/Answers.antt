use Rattle.std.proofs.Common.{◌≡◌, ◌+◌, sym, ap, ◌∙◌, subst, length, arith}
use Rattle.std.specs.List.{All}
use Rattle.ch_affine.specs.Form.{Form}
use Rattle.ch_affine.specs.Rows.{IsSystem}
use Rattle.ch_datacopy.proofs.Steps.{rows_made}
use Rattle.ch_space.specs.declared.piece.Piece.{Piece}
use Rattle.ch_datacopy.proofs.cells.use_rows.Goals as goal

pub push_kept-requires-clause-long : goal.push_kept-requires-clause-long
push_kept-requires-clause-long c =
    let sys = subst (λ (q : Piece). IsSystem q.system) c.piece.view_is c.piece.invariant in
    let rows = c.as_slice.ensures ∙ ap (λ (q : Piece). q.system.rows) c.piece.view_is in
    let x = c.requires.fit.inner in
    let y = c.requires.fit.around in
    let z = c.requires.whole.variables in
    let many : c.args.piece.now.system.vars ≡ c.args.frame.around + c.args.frame.inner = omega (arith, x, y, z) in
    subst (All (λ (f : Form). length f.coefs ≡ c.args.frame.around + c.args.frame.inner)) (sym rows)
    (subst (λ n. All (λ (f : Form). length f.coefs ≡ n) c.args.piece.now.system.rows) many sys.rows)

pub push_iterators-requires-clause-long : goal.push_iterators-requires-clause-long
push_iterators-requires-clause-long c =
    let levels = ap (λ (q : Piece). q.levels) c.piece.view_is in
    let origin = c.as_slice-2.ensures ∙ ap (λ (q : Piece). q.origin) c.piece.view_is in
    subst (λ n. All (λ (f : Form). length f.coefs ≡ n) c.as_slice-2.result.now) (sym levels)
    (subst (All (λ (f : Form). length f.coefs ≡ c.args.piece.now.levels)) (sym origin) c.requires.whole.origin)

pub push_iterators-requires-clause-around : goal.push_iterators-requires-clause-around
push_iterators-requires-clause-around c =
    let levels = ap (λ (q : Piece). q.levels) c.piece.view_is in
    let y = c.requires.fit.around in
    omega (arith, levels, y)

pub push_iterators-requires-clause-inner : goal.push_iterators-requires-clause-inner
push_iterators-requires-clause-inner c =
    let levels = ap (λ (q : Piece). q.levels) c.piece.view_is in
    let x = c.requires.fit.inner in
    let y = c.requires.fit.around in
    omega (arith, levels, x, y)

pub push_iterators-requires-clause-iters : goal.push_iterators-requires-clause-iters
push_iterators-requires-clause-iters c = ap length (c.as_slice-2.ensures ∙ ap (λ (q : Piece). q.origin) c.piece.view_is) ∙ sym c.requires.fit.iters

pub push_cells-requires-clause-long : goal.push_cells-requires-clause-long
push_cells-requires-clause-long c = subst (λ n. All (λ (f : Form). length f.coefs ≡ n) c.args.forms.now) (sym c.requires.fit.iters) c.requires.fit.long

pub push_cells-requires-clause-cells : goal.push_cells-requires-clause-cells
push_cells-requires-clause-cells c = sym c.requires.fit.cells

pub returns : goal.returns
returns c =
    rows_made c.args.piece.now c.args.frame c.args.forms.now c.new-rows.result c.push_kept.new.rows c.push_iterators.new.rows c.push_cells.new.rows c.as_slice.result.now c.as_slice-2.result.now _ c.requires.fit
    c.new-rows.ensures (c.as_slice.ensures ∙ ap (λ (q : Piece). q.system.rows) c.piece.view_is) (c.as_slice-2.ensures ∙ ap (λ (q : Piece). q.origin) c.piece.view_is) (ap (λ (q : Piece). q.levels) c.piece.view_is)
    c.in_ok-push_kept.ensures c.in_ok-push_iterators.ensures c.in_ok-push_cells.ensures
