use Rattle.std.proofs.Common.{refl}
use Rattle.std.proofs.lemmas.Result.{on_ok_weaker}
use Rattle.ch_meeting.proofs.Least.{pushed_row}
use Rattle.ch_meeting.proofs.draft.Draft.at_least_zero.Goals as goal

pub returns : goal.returns
returns c =
    on_ok_weaker c.push.result
    (λ e. pushed_row c.args.self.now (record { boxes = c.args.self.now.boxes; rows = c.push.new.self }) c.args.row c.requires.draft c.requires.long refl e) c.push.ensures.ok
