use Rattle.std.proofs.Common.{◌∙◌, refl, sym, arith, take, SFits, w64}
use Rattle.std.proofs.lemmas.Int.{to_z-of_z}
use Rattle.std.proofs.lemmas.Result.{on_ok_weaker}
use Rattle.ch_nest.specs.Run.{sub_value}
use Rattle.ch_plan.specs.declared.accesses.Draft.{Draft}
use Rattle.ch_plan.specs.Ready.{iters_at}
use Rattle.ch_plan.proofs.Spots.{plain_added, residue_added}
use Rattle.ch_plan.proofs.accesses.add_sub.Goals as goal

pub add_composed-requires-clause-same : goal.add_composed-requires-clause-same
add_composed-requires-clause-same c = c.requires.same

pub add_composed-requires-clause-origin : goal.add_composed-requires-clause-origin
add_composed-requires-clause-origin c = λ k d l. c.requires.origin k d l ∙ sym c.requires.long

pub returns-then-sub-eq0-clause-long : goal.returns-then-sub-eq0-clause-long
returns-then-sub-eq0-clause-long c = c.add_composed.ensures.long ∙ c.requires.long

pub returns-then-sub-eq0-clause-value : goal.returns-then-sub-eq0-clause-value
returns-then-sub-eq0-clause-value c = λ point p.
    let f : SFits w64 c.args.stride = c.ranges.stride in
    let sum = simp to_z-of_z at (c.add_composed.ensures.value (take c.args.site.now.around point)) in
    plain_added c.args.site.now.around point c.args.draft.now c.add_composed.new.self c.args.sub.now c.args.stride (iters_at c.args.site.now.origin.now (take c.args.site.now.around point))
    c.if-sub-eq0.true c.add_composed.ensures.residues sum

pub residue_of-requires-clause-modulus : goal.residue_of-requires-clause-modulus
residue_of-requires-clause-modulus c = let z = c.if-sub-eq0.false in omega arith

pub returns-clause-long : goal.returns-clause-long
returns-clause-long c = c.requires.long

pub returns-clause-value : goal.returns-clause-value
returns-clause-value c =
    let f : SFits w64 c.args.stride = c.ranges.stride in
    let stride = simp to_z-of_z at c.in_ok-residue.ensures.stride_is in
    let new : Draft = record { coefs = c.args.draft.now.coefs; constant = c.args.draft.now.constant; residues = c.push.new.self } in
    on_ok_weaker c.push.result
    (λ e. λ point p. residue_added c.args.site.now.around point c.args.draft.now new c.in_ok-residue.residue
    (sub_value (iters_at c.args.site.now.origin.now (take c.args.site.now.around point)) c.args.sub.now) c.args.stride refl e stride (c.in_ok-residue.ensures.value_is point p))
    c.push.ensures.ok
