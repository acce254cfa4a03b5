use Rattle.std.proofs.Common.{◌∙◌, ◌+◌, arith, pos, rules, SFits, w64}
use Rattle.std.proofs.lemmas.Int.{to_z-of_z}
use Rattle.std.proofs.lemmas.List.{get_or_read}
use Rattle.ch_eval.proofs.Cutting.{cell_below, cell_is, known_start}
use Rattle.ch_eval.proofs.arrays.Arrays.cell.Goals as goal

pub index-start-requires : goal.index-start-requires
index-start-requires c = omega (arith, known_start c.self.inside.sizes.items c.self.inside.starts.items c.self.inside.cells.items c.args.self.now c.self.invariant c.self.view_is c.args.array c.requires.array, c.self.inside.starts.ok.0)

pub overflow_add-start : goal.overflow_add-start
overflow_add-start c =
    let v = c.self.inside.cells in
    omega (arith, cell_below c.self.inside.sizes.items c.self.inside.starts.items c.self.inside.cells.items c.args.self.now c.self.invariant c.self.view_is c.args.array c.requires.array c.args.at c.index-start.result.now c.requires.at c.index-start.ensures, v.ok.0, v.ok.1, v.small)

pub index-requires : goal.index-requires
index-requires c = omega (arith, cell_below c.self.inside.sizes.items c.self.inside.starts.items c.self.inside.cells.items c.args.self.now c.self.invariant c.self.view_is c.args.array c.requires.array c.args.at c.index-start.result.now c.requires.at c.index-start.ensures, c.self.inside.cells.ok.0)

pub returns : goal.returns
returns c =
    let f : SFits w64 c.index.result.now = search rules in
    let below = cell_below c.self.inside.sizes.items c.self.inside.starts.items c.self.inside.cells.items c.args.self.now c.self.invariant c.self.view_is c.args.array c.requires.array c.args.at c.index-start.result.now c.requires.at c.index-start.ensures in
    simp to_z-of_z (get_or_read c.self.inside.cells.items (c.index-start.result.now + c.args.at) c.index.result.now below c.index.ensures (pos 0)
    ∙ cell_is c.self.inside.sizes.items c.self.inside.starts.items c.self.inside.cells.items c.args.self.now c.self.invariant c.self.view_is c.args.array c.requires.array c.args.at c.index-start.result.now c.requires.at c.index-start.ensures)
