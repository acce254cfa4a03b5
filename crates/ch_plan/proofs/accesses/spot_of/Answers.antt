use Rattle.std.proofs.Common.{◌∙◌, ap, ap₂, map, of_z, rules, sym, take, to_z, ◌+ℤ◌, SFits, w64}
use Rattle.std.specs.Int.{int_wrap}
use Rattle.std.proofs.lemmas.Int.{to_z-of_z}
use Rattle.std.proofs.lemmas.Result.{IfOk-weaker}
use Rattle.ch_nest.specs.Run.{sub_value}
use Rattle.ch_plan.specs.declared.accesses.Placed.{Placed}
use Rattle.ch_plan.specs.Ready.{drafted, iters_at, strided}
use Rattle.ch_plan.proofs.Spots.{spot_made}
use Rattle.ch_plan.proofs.accesses.spot_of.Goals as goal

pub add_subs-requires-clause-long : goal.add_subs-requires-clause-long
add_subs-requires-clause-long c = c.in_ok-draft.ensures.long

pub returns : goal.returns
returns c =
    let b : SFits w64 c.index-site-access.result.base = search rules in
    let base = ap (λ (p : Placed). to_z w64 (of_z w64 p.base)) (sym c.index-site-access.is) ∙ to_z-of_z w64 c.index-site-access.result.base b in
    IfOk-weaker c.finish.result _ _
    (λ spot done. spot_made c.args.site.now.arrays.now c.args.site.now.origin.now c.args.site.now.around c.args.access.now c.index-site-access.result c.in_ok-draft.draft c.add_subs.new.draft spot
    c.requires.bases c.requires.array c.index-site-access.is c.in_ok-add_subs.ensures.long (λ point. c.in_ok-draft.ensures.value point ∙ base)
    (λ point p.
    c.in_ok-add_subs.ensures.value point p
    ∙ ap₂ (λ es ss. int_wrap w64 (drafted c.in_ok-draft.draft c.args.site.now.around point +ℤ strided es (map (sub_value (iters_at c.args.site.now.origin.now (take c.args.site.now.around point))) ss)))
    (c.as_slice-extents.ensures ∙ ap (λ (p : Placed). p.extents) (sym c.index-site-access.is)) c.as_slice.ensures)
    done)
    c.finish.ensures
