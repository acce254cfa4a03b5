use Rattle.std.proofs.Common.{◌≡◌, ◌∙◌, ◌-◌, rules, length, take, drop, SFits, w64, to_z, of_z}
use Rattle.std.proofs.lemmas.Int.{to_z-of_z}
use Rattle.ch_nest.specs.Fast.{IsRowMajor}
use Rattle.ch_nest.proofs.Flattens.{next_fits, next_same, ok_maps, row_step}
use Rattle.ch_nest.proofs.plan.+row_major_form.Goals as goal

pub row_major_form-requires : goal.row_major_form-requires
row_major_form-requires t c = (
  search rules,
  next_fits c.args.subs.now c.sub-item.result (to_z w64 (of_z w64 c.from.result)) c.args.at c.in_ok-next-in-len1-up-subs.next c.in-len1-up-subs.len_at_least
      c.requires c.sub-item.is c.in_ok-next-in-len1-up-subs.ensures.value,
)

pub returns-in_ok-next-in-len1-up-subs-clause-same : goal.returns-in_ok-next-in-len1-up-subs-clause-same
returns-in_ok-next-in-len1-up-subs-clause-same t c =
    let same = next_same c.args.subs.now c.sub-item.result (to_z w64 (of_z w64 c.from.result)) c.args.at c.in_ok-next-in-len1-up-subs.next c.in-len1-up-subs.len_at_least
    c.requires c.sub-item.is c.in_ok-next-in-len1-up-subs.ensures.value in
    ok_maps c.row_major_form.result (λ f. length f.coefs ≡ length c.in_ok-next-in-len1-up-subs.next.coefs) (λ f. length f.coefs ≡ length c.args.at.coefs)
    (λ f e. e ∙ same) c.row_major_form.ensures.same

pub returns-in_ok-next-in-len1-up-subs-clause-value : goal.returns-in_ok-next-in-len1-up-subs-clause-value
returns-in_ok-next-in-len1-up-subs-clause-value t c =
    let f : SFits w64 c.from.result = search rules in
    let extent = to_z-of_z w64 c.from.result f ∙ c.from.ensures in
    ok_maps c.row_major_form.result
    (IsRowMajor c.in_ok-next-in-len1-up-subs.next (take (length c.args.extents.now - 1) (drop 1 c.args.extents.now)) (take (length c.args.subs.now - 1) (drop 1 c.args.subs.now)))
    (IsRowMajor c.args.at c.args.extents.now c.args.subs.now)
    (λ f h. row_step c.args.extents.now c.args.subs.now c.sub-item.result (to_z w64 (of_z w64 c.from.result)) c.args.at c.in_ok-next-in-len1-up-subs.next f
    c.in-len1-up.len_at_least c.in-len1-up-subs.len_at_least c.requires extent c.sub-item.is c.in_ok-next-in-len1-up-subs.ensures.value h)
    c.row_major_form.ensures.value
