use Rattle.std.proofs.Common.{◌∙◌, refl, rules, SFits, w64}
use Rattle.std.proofs.lemmas.Int.{to_z-of_z}
use Rattle.ch_codegen.proofs.Said.{replaced}
use Rattle.ch_codegen.proofs.fixed.simple.Goals as goal

pub returns : goal.returns
returns c =
    let r : SFits w64 c.end_of-number.result = search rules in
    let constant = simp to_z-of_z at c.with_number.ensures.constant in
    replaced c.args.is_low c.args.bound c.with_number.result (c.if-not-is_number.ensures refl) c.requires c.with_number.ensures.coefs (constant ∙ c.end_of-number.ensures.value) c.with_number.ensures.divisor
