use Rattle.std.proofs.Common.{ap, ◌∙◌, unsigned_abs, SFits, w64}
use Rattle.std.proofs.lemmas.Int.{to_z-of_z}
use Rattle.std.proofs.Common.{rules}
use Rattle.ch_cut.proofs.Spacing.{condition_small, few_levels, stands}
use Rattle.ch_space.specs.Listed.{Listed}
use Rattle.ch_cut.proofs.splitting.form_of.Goals as goal

pub invariant_of-result : goal.invariant_of-result
invariant_of-result c =
    let f : SFits w64 c.args.number = c.ranges.number in
    let g : SFits w64 c.args.level = c.ranges.level in
    let list = c.args.space.now.list in
    let e = ap (λ (r : Listed). r.list) c.space.view_is in
    let st = stands list c.args.number c.args.level c.requires.piece c.requires.level in
    let k : SFits w64 c.args.condition.now.constant = search rules in
    let few = few_levels c.space.inside.arrays c.space.inside.weight c.space.inside.commands c.space.inside.pieces c.space.inside.counts c.space.inside.temps c.args.number c.args.level list c.space.invariant e st in
    simp to_z-of_z (condition_small c.args.condition.now.coefs c.in_ok-coefs.coefs c.args.condition.now.constant c.args.level (unsigned_abs c.args.level) (c.in_ok-coefs.ensures ∙ c.as_slice.ensures)
    c.requires.short st.level_is few c.requires.coefs c.requires.constant)
