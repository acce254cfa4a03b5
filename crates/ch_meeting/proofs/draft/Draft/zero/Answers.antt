use Rattle.std.proofs.Common.{refl}
use Rattle.std.proofs.lemmas.Result.{on_ok_weaker}
use Rattle.ch_meeting.proofs.Least.{pushed_both}
use Rattle.ch_meeting.proofs.draft.Draft.zero.Goals as goal

pub returns : goal.returns
returns c =
    on_ok_weaker c.push-2.result
    (λ e. pushed_both c.args.self.now (record { boxes = c.args.self.now.boxes; rows = c.push.new.self }) (record { boxes = c.args.self.now.boxes; rows = c.push-2.new.self })
    c.args.row c.in_ok-other.other c.requires.draft c.requires.long c.in_ok-other.ensures refl c.in_ok-push.ensures.ok refl e) c.push-2.ensures.ok
