use Rattle.std.proofs.Common.{◌≡◌, ◌∙◌, ◌++◌, ◌<◌, sym, ap, subst, length, arith}
use Rattle.std.specs.Bool.{IsTrue}
use Rattle.ch_report.specs.Sessions.{is_inside}
use Rattle.ch_search.specs.Parts.{Each}
use Rattle.ch_search.specs.Searched.{lines_of, session_part}
use Rattle.ch_search.proofs.Sessions.{each_at, each_long, fits_there, lines_all, lines_more}
use Rattle.ch_search.proofs.search.put_parts.Goals as goal

pub put_part-requires-clause-there : goal.put_part-requires-clause-there
put_part-requires-clause-there c =
    fits_there c.args.deck.now c.sessions-sessions.result.now c.loop-k.k c.sessions-sessions.ensures c.loop-k-test.true c.index-sessions-k.result c.index-sessions-k.is c.known.ensures

pub put_part-requires-clause-inside : goal.put_part-requires-clause-inside
put_part-requires-clause-inside c =
    each_at (λ k s part. IsTrue (is_inside s.params part)) 0 c.sessions-sessions.result.now c.args.parts.now c.loop-k.k c.index-sessions-k.result c.index-parts-k.result
    (subst (λ ss. Each (λ k s part. IsTrue (is_inside s.params part)) 0 ss c.args.parts.now) (sym c.sessions-sessions.ensures) c.requires)
    c.loop-k-test.true c.index-sessions-k.is c.index-parts-k.is

pub bounds-parts-k : goal.bounds-parts-k
bounds-parts-k c =
    let long : length c.args.deck.now.sessions ≡ length c.args.parts.now = each_long (λ k s part. IsTrue (is_inside s.params part)) 0 c.args.deck.now.sessions c.args.parts.now c.requires in
    let same = ap length c.sessions-sessions.ensures in
    omega (arith, c.loop-k-test.true, long, same)

pub loop-k-preserved : goal.loop-k-preserved
loop-k-preserved c =
    let long : length c.args.deck.now.sessions ≡ length c.args.parts.now = each_long (λ k s part. IsTrue (is_inside s.params part)) 0 c.args.deck.now.sessions c.args.parts.now c.requires in
    let same = ap length c.sessions-sessions.ensures in
    let there : c.loop-k.k < length c.args.parts.now = omega (arith, c.loop-k-test.true, long, same) in
    lines_more (session_part c.args.deck.now) c.sessions-sessions.result.now c.args.parts.now c.loop-k.k c.index-sessions-k.result c.index-parts-k.result c.loop-k.out c.put_part.new.out _
    c.loop-k-test.true there c.index-sessions-k.is c.index-parts-k.is c.in_ok-put_part.ensures c.loop-k.invariant

pub returns : goal.returns
returns c =
    lines_all (session_part c.args.deck.now) c.sessions-sessions.result.now c.args.parts.now c.loop-k.k c.loop-k.out _ (let t = c.loop-k-test.false in omega arith) c.loop-k.invariant
    ∙ ap (λ ss. c.args.out.now ++ lines_of (session_part c.args.deck.now) ss c.args.parts.now) c.sessions-sessions.ensures
