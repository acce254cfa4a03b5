use Rattle.std.proofs.Common.{◌∙◌, ap, arith, length, map, rules, take, SFits, w64}
use Rattle.std.proofs.lemmas.Int.{to_z-of_z}
use Rattle.std.proofs.lemmas.List.{length-map}
use Rattle.std.proofs.lemmas.Result.{on_ok_weaker}
use Rattle.ch_nest.specs.declared.nest.Sub as sub
use Rattle.ch_nest.specs.Run.{sub_value}
use Rattle.ch_plan.specs.Ready.{drafted, iters_at}
use Rattle.ch_plan.proofs.Spots.{rest_fit, subs_added}
use Rattle.ch_plan.proofs.Striding.{no_more_strided, none_strided, shorter}
use Rattle.ch_plan.proofs.accesses.+add_subs.Goals as goal

pub add_sub-requires-clause-same : goal.add_sub-requires-clause-same
add_sub-requires-clause-same t c = ap (λ (s : sub.Sub). length s.form.coefs) c.sub-item.is ∙ c.requires.subs 0 c.sub-item.result (omega (arith, c.in-len1-up-subs.len_at_least))

pub add_subs-requires : goal.add_subs-requires
add_subs-requires t c = (
  omega (arith, c.decreases, shorter c.args.extents.now c.in-len1-up.len_at_least),
  (c.in_ok-add_sub-in-len1-up-subs.ensures.long, (rest_fit (length c.args.site.now.origin.now) c.args.subs.now c.in-len1-up-subs.len_at_least c.requires.subs, c.requires.origin)),
)

pub returns-in-empty-clause-value : goal.returns-in-empty-clause-value
returns-in-empty-clause-value t c = λ point p.
    none_strided (drafted c.args.draft.now c.args.site.now.around point) c.args.extents.now (map (sub_value (iters_at c.args.site.now.origin.now (take c.args.site.now.around point))) c.args.subs.now)
    (omega (arith, c.in-empty.len_below))

pub returns-in-empty-subs-clause-value : goal.returns-in-empty-subs-clause-value
returns-in-empty-subs-clause-value t c = λ point p.
    no_more_strided (drafted c.args.draft.now c.args.site.now.around point) c.args.extents.now (map (sub_value (iters_at c.args.site.now.origin.now (take c.args.site.now.around point))) c.args.subs.now)
    (omega (arith, c.in-empty-subs.len_below, length-map c.args.subs.now (sub_value (iters_at c.args.site.now.origin.now (take c.args.site.now.around point)))))

pub returns-in_ok-add_sub-in-len1-up-subs-clause-long : goal.returns-in_ok-add_sub-in-len1-up-subs-clause-long
returns-in_ok-add_sub-in-len1-up-subs-clause-long t c = c.add_subs.ensures.long

pub returns-in_ok-add_sub-in-len1-up-subs-clause-value : goal.returns-in_ok-add_sub-in-len1-up-subs-clause-value
returns-in_ok-add_sub-in-len1-up-subs-clause-value t c =
    let f : SFits w64 c.stride.result = search rules in
    on_ok_weaker c.add_subs.result
    (λ e. subs_added c.args.site.now.origin.now c.args.site.now.around c.args.draft.now c.add_sub.new.draft c.add_subs.new.draft c.sub-item.result c.args.extents.now c.args.subs.now c.stride.result
    c.in-len1-up.len_at_least c.in-len1-up-subs.len_at_least c.sub-item.is c.stride.ensures (λ point p. simp to_z-of_z at (c.in_ok-add_sub-in-len1-up-subs.ensures.value point p)) e)
    c.add_subs.ensures.value
