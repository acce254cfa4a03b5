use Rattle.std.proofs.Common.{◌∙◌, ap}
use Rattle.ch_affine.specs.Rows.{Rows}
use Rattle.ch_meeting.proofs.Least.{same_draft, told_excluded}
use Rattle.ch_meeting.proofs.draft.Draft.is_excluded.Goals as goal

pub returns-clause-draft : goal.returns-clause-draft
returns-clause-draft c =
    same_draft c.take_back.new.self c.args.self.now (c.take_back.ensures.boxes ∙ ap (λ (s : Rows). s.boxes) c.lend-system.ensures) (c.take_back.ensures.rows ∙ ap (λ (s : Rows). s.rows) c.lend-system.ensures)

pub returns-clause-none : goal.returns-clause-none
returns-clause-none c = λ t. told_excluded c.args.self.now c.lend-system.result c.excluded.result c.is_some-excluded.result c.lend-system.ensures c.excluded.ensures.empty c.is_some-excluded.ensures t
