use Rattle.std.proofs.Common.{rules, SFits, w64}
use Rattle.std.proofs.lemmas.Int.{to_z-of_z}
use Rattle.ch_plan.specs.declared.accesses.Draft.{Draft}
use Rattle.ch_plan.proofs.Spots.{drafted_new}
use Rattle.ch_plan.proofs.accesses.Draft.new.Goals as goal

pub returns-clause-value : goal.returns-clause-value
returns-clause-value c = λ point.
    let f : SFits w64 c.args.constant = c.ranges.constant in
    let draft : Draft = record { coefs = c.in_ok-coefs.coefs; constant = c.args.constant; residues = c.new.result } in
    simp to_z-of_z (drafted_new draft c.args.around point (c.in_ok-coefs.ensures.items_if_clones_equal (λ y h. search rules)) c.new.ensures)
