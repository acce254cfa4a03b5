use Rattle.std.proofs.Common.{arith, ◌++◌}
use Rattle.ch_check.specs.Checked.{check_line, is_refused}
use Rattle.ch_report.specs.Numbered.{numbered}
use Rattle.ch_check.proofs.Lines.{any_all, any_more, line_more, no_line}
use Rattle.ch_check.proofs.Sessions.{all_done, can_check, few_sessions, item_of}
use Rattle.ch_check.proofs.checking.put_lines.Goals as goal

pub overflow_cast-k : goal.overflow_cast-k
overflow_cast-k c =
    let deck = c.args.deck.now in
    let item = item_of c.sessions-session-items.result.now deck.sessions c.loop-k.k c.session-item.result c.sessions-session-items.ensures c.loop-k-test.true c.session-item.is in
    let few = few_sessions deck c.known.ensures in
    omega (arith, few, item.0)

pub put_line-requires-clause-session : goal.put_line-requires-clause-session
put_line-requires-clause-session c =
    let deck = c.args.deck.now in
    let item = item_of c.sessions-session-items.result.now deck.sessions c.loop-k.k c.session-item.result c.sessions-session-items.ensures c.loop-k-test.true c.session-item.is in
    can_check deck c.args.at.now c.loop-k.k c.session-item.result c.known.ensures c.requires.long item.0 item.1

pub loop-k-preserved : goal.loop-k-preserved
loop-k-preserved c =
    let deck = c.args.deck.now in
    let at = c.args.at.now in
    let s = c.session-item.result in
    let item = item_of c.sessions-session-items.result.now deck.sessions c.loop-k.k s c.sessions-session-items.ensures c.loop-k-test.true c.session-item.is in
    record {
      text = line_more (check_line deck at) deck.sessions c.loop-k.k s c.loop-k.out c.put_line.new.out (c.args.out.now ++ numbered (check_line deck at) 0 deck.sessions) item.0 item.1
          c.in_ok-here.ensures.text c.loop-k.invariant.text;
      refused = any_more (is_refused deck at) deck.sessions c.loop-k.k s c.loop-k.refused c.in_ok-here.here c.either-refused.result item.0 item.1 c.loop-k.invariant.refused
          c.in_ok-here.ensures.refused c.either-refused.ensures;
    }

pub returns-clause-text : goal.returns-clause-text
returns-clause-text c =
    let deck = c.args.deck.now in
    let at = c.args.at.now in
    no_line (check_line deck at) deck.sessions c.loop-k.k c.loop-k.out (c.args.out.now ++ numbered (check_line deck at) 0 deck.sessions)
    (all_done c.sessions-session-items.result.now deck.sessions c.loop-k.k c.sessions-session-items.ensures c.loop-k-test.false) c.loop-k.invariant.text

pub returns-clause-refused : goal.returns-clause-refused
returns-clause-refused c =
    let deck = c.args.deck.now in
    let at = c.args.at.now in
    any_all (is_refused deck at) deck.sessions c.loop-k.k c.loop-k.refused
    (all_done c.sessions-session-items.result.now deck.sessions c.loop-k.k c.sessions-session-items.ensures c.loop-k-test.false) c.loop-k.invariant.refused
