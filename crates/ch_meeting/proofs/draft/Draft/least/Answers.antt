use Rattle.std.proofs.Common.{◌∙◌, ap}
use Rattle.ch_affine.specs.Rows.{Rows}
use Rattle.ch_meeting.proofs.Least.{least_first, same_draft}
use Rattle.ch_poly.specs.Points.{first, points}
use Rattle.ch_meeting.proofs.draft.Draft.least.Goals as goal

pub returns-clause-draft : goal.returns-clause-draft
returns-clause-draft c =
    same_draft c.take_back.new.self c.args.self.now (c.take_back.ensures.boxes ∙ ap (λ (s : Rows). s.boxes) c.lend-system.ensures) (c.take_back.ensures.rows ∙ ap (λ (s : Rows). s.rows) c.lend-system.ensures)

pub returns-clause-least : goal.returns-clause-least
returns-clause-least c = least_first c.args.self.now c.in_ok-point.point (c.in_ok-point.ensures ∙ ap (λ (s : Rows). first (points s)) c.lend-system.ensures)
