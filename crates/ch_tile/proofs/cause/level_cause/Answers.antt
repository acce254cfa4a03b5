use Rattle.std.proofs.Common.{◌≡◌, sym, ◌∙◌, of_z, to_z, SFits, w64}
use Rattle.std.proofs.lemmas.Int.{to_z-of_z}
use Rattle.ch_tile.proofs.Allowed.{after_numbers}
use Rattle.ch_tile.proofs.cause.level_cause.Goals as goal

pub returns : goal.returns
returns c =
    let f : SFits w64 c.args.level = c.ranges.level in
    let g : SFits w64 c.args.size = c.ranges.size in
    let h : SFits w64 c.args.outer = c.ranges.outer in
    let o : to_z w64 (of_z w64 c.args.outer) ≡ c.args.outer = simp to_z-of_z in
    let l : to_z w64 (of_z w64 c.args.level) ≡ c.args.level = simp to_z-of_z in
    after_numbers c.args.space.now.list c.args.ours c.args.level c.args.size c.args.outer _ _ c.group_cause.result o l (sym (simp to_z-of_z at c.no_outer.ensures) ∙ c.in_default.is)
    (sym (simp to_z-of_z at c.no_size.ensures) ∙ c.in_default-no_size.is) c.group_cause.ensures
