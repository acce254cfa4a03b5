use Rattle.std.proofs.Common.{◌≡◌, ◌∙◌, refl, sym, ap, subst, map, ◌≤◌}
use Rattle.std.specs.List.{All}
use Rattle.std.proofs.lemmas.List.{length-map}
use Rattle.ch_depends.specs.Sought.{IsReadable}
use Rattle.ch_space.specs.Keeps.{accesses}
use Rattle.ch_timed.specs.Timed.{step}
use Rattle.ch_depends.proofs.Bests.{item_all, item_below, item_is}
use Rattle.ch_depends.proofs.Gathered.{cells_all, cells_more}
use Rattle.ch_depends.proofs.cells.cells_of.Goals as goal

pub loop-access-init : goal.loop-access-init
loop-access-init c = c.in_ok-cells.ensures

pub cell_at-requires-clause-readable : goal.cell_at-requires-clause-readable
cell_at-requires-clause-readable c =
    let found : map (λ a. a.now) c.as_slice-access-items.result.now ≡ accesses c.args.element.now.body = ap (map (λ a. a.now)) c.as_slice-access-items.ensures ∙ c.in_ok-found.ensures in
    subst (λ z. IsReadable z c.access-item.result.now) (sym c.as_slice.ensures)
    (item_all (λ a. a.now) c.as_slice-access-items.result.now c.as_slice-access-items.result.now refl c.loop-access.access-index c.access-item.result (IsReadable c.args.element.now.identity.iters)
    (subst (All (IsReadable c.args.element.now.identity.iters)) (sym found) c.requires.readable) c.loop-access-test.true c.access-item.is)

pub loop-access-preserved : goal.loop-access-preserved
loop-access-preserved c =
    cells_more c.args.element.now.identity.iters c.as_slice.result.now (map (λ a. a.now) c.as_slice-access-items.result.now) c.loop-access.access-index c.access-item.result.now
    c.loop-access.cells c.push.new.self c.in_ok-cell_at.field-0
    (item_below (λ a. a.now) c.as_slice-access-items.result.now c.as_slice-access-items.result.now refl c.loop-access.access-index c.access-item.result c.loop-access-test.true)
    (item_is (λ a. a.now) c.as_slice-access-items.result.now c.as_slice-access-items.result.now refl c.loop-access.access-index c.access-item.result c.loop-access-test.true c.access-item.is)
    c.as_slice.ensures c.in_ok-cell_at.ensures c.loop-access.invariant c.in_ok-push.ensures.ok

pub returns : goal.returns
returns c =
    let found : map (λ a. a.now) c.as_slice-access-items.result.now ≡ accesses c.args.element.now.body = ap (map (λ a. a.now)) c.as_slice-access-items.ensures ∙ c.in_ok-found.ensures in
    cells_all (step c.args.element.now) (map (λ a. a.now) c.as_slice-access-items.result.now) c.loop-access.access-index c.loop-access.cells
    (subst (λ n. n ≤ c.loop-access.access-index) (sym (length-map c.as_slice-access-items.result.now (λ a. a.now))) c.loop-access-test.false) found c.loop-access.invariant
