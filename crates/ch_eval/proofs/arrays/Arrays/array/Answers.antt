use Rattle.std.proofs.Common.{◌≡◌, ◌∙◌, ◌+◌, ◌-◌, ap, ap₂, arith, drop, length, take}
use Rattle.ch_eval.proofs.Cutting.{array_is, array_within, known_size, known_start}
use Rattle.ch_eval.proofs.arrays.Arrays.array.Goals as goal

pub index-start-requires : goal.index-start-requires
index-start-requires c = omega (arith, known_start c.self.inside.sizes.items c.self.inside.starts.items c.self.inside.cells.items c.args.self.now c.self.invariant c.self.view_is c.args.array c.requires, c.self.inside.starts.ok.0)

pub index-size-requires : goal.index-size-requires
index-size-requires c = omega (arith, known_size c.self.inside.sizes.items c.self.inside.starts.items c.self.inside.cells.items c.args.self.now c.self.invariant c.self.view_is c.args.array c.requires, c.self.inside.sizes.ok.0)

pub overflow_add-result : goal.overflow_add-result
overflow_add-result c =
    let v = c.self.inside.cells in
    omega (arith, array_within c.self.inside.sizes.items c.self.inside.starts.items c.self.inside.cells.items c.args.self.now c.self.invariant c.self.view_is c.args.array c.requires c.index-start.result.now c.index-size.result.now c.index-start.ensures c.index-size.ensures, v.ok.0, v.ok.1, v.small)

pub slice_bounds-result-end : goal.slice_bounds-result-end
slice_bounds-result-end c =
    omega (arith, array_within c.self.inside.sizes.items c.self.inside.starts.items c.self.inside.cells.items c.args.self.now c.self.invariant c.self.view_is c.args.array c.requires c.index-start.result.now c.index-size.result.now c.index-start.ensures c.index-size.ensures, ap length c.deref.ensures.value)

pub offset_bounds-deref-start : goal.offset_bounds-deref-start
offset_bounds-deref-start c =
    let within = array_within c.self.inside.sizes.items c.self.inside.starts.items c.self.inside.cells.items c.args.self.now c.self.invariant c.self.view_is c.args.array c.requires c.index-start.result.now c.index-size.result.now c.index-start.ensures c.index-size.ensures in
    let long = ap length c.deref.ensures.value in
    let t = c.deref.type_inv in
    omega arith

pub returns : goal.returns
returns c =
    let start = c.index-start.result.now in
    let size = c.index-size.result.now in
    let n : (start + size) - start ≡ size = omega arith in
    ap₂ (λ m zs. take m (drop start zs)) n c.deref.ensures.value ∙ array_is c.self.inside.sizes.items c.self.inside.starts.items c.self.inside.cells.items c.args.self.now c.self.invariant c.self.view_is c.args.array c.requires start size c.index-start.ensures c.index-size.ensures
