use Rattle.std.proofs.Common.{◌∙◌, sym, subst}
use Rattle.ch_meeting.specs.Drafts.{IsDraft, IsLeastFit}
use Rattle.ch_meeting.proofs.Commons.{common_answer, common_none}
use Rattle.ch_meeting.proofs.common.have_common.Goals as goal

pub is_excluded-requires : goal.is_excluded-requires
is_excluded-requires c = c.in_ok-draft.ensures.draft

pub returns-then-is_excluded : goal.returns-then-is_excluded
returns-then-is_excluded c =
    common_none c.args.first.now c.args.second.now c.requires.first c.requires.second (sym c.len.ensures ∙ c.if-len.false ∙ c.len-2.ensures) c.in_ok-draft.draft c.in_ok-draft.ensures (c.is_excluded.ensures.none c.if-is_excluded.true)

pub least-requires : goal.least-requires
least-requires c = subst IsDraft (sym c.is_excluded.ensures.draft) c.in_ok-draft.ensures.draft

pub returns : goal.returns
returns c =
    common_answer c.args.first.now c.args.second.now c.requires.first c.requires.second (sym c.len.ensures ∙ c.if-len.false ∙ c.len-2.ensures) c.in_ok-draft.draft c.in_ok-least.field-0 c.is_some.result c.in_ok-draft.ensures
    (subst (λ d. IsLeastFit d c.in_ok-least.field-0) c.is_excluded.ensures.draft c.in_ok-least.ensures.least)
    c.is_some.ensures
