use Rattle.std.proofs.Common.{rules, sym, SFits, w64}
use Rattle.std.proofs.lemmas.Int.{to_z-of_z}
use Rattle.ch_affine.specs.Affine.{form}
use Rattle.ch_cut.proofs.Spacing.{coefs_small}
use Rattle.ch_cut.proofs.splitting.split.Goals as goal

pub form_of-requires-clause-coefs : goal.form_of-requires-clause-coefs
form_of-requires-clause-coefs c =
    let p : SFits w64 c.args.piece = c.ranges.piece in
    let l : SFits w64 c.args.level = c.ranges.level in
    let k : SFits w64 c.args.condition.now.constant = search rules in
    coefs_small c.args.space.now.list c.args.piece c.args.level (form c.args.condition.now.coefs c.args.condition.now.constant) (sym (simp to_z-of_z at c.in_default.ensures))
