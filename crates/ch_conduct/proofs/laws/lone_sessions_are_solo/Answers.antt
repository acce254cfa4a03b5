use Rattle.ch_conduct.proofs.LoneSession.{lone_lines, part_is}
use Rattle.ch_conduct.proofs.laws.lone_sessions_are_solo.Goals as goal

pub returns : goal.returns
returns c = record {
  lines = λ m r n task part l b script own is his alone. lone_lines m r n task part l b script own is his alone;
  part = part_is;
}
