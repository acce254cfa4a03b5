use Rattle.std.proofs.Common.{◌≡◌, ◌<◌, ◌≤◌, ◌++◌, length, get_or, arith}
use Rattle.std.specs.Bool.{IsTrue}
use Rattle.ch_demo.specs.Generated.{count_of, generated, session_of}
use Rattle.ch_demo.specs.Summaries.{summary_line}
use Rattle.ch_demo.proofs.Made.{session_there, sessions_long}
use Rattle.ch_report.specs.Sessions.{is_inside}
use Rattle.ch_search.proofs.Sessions.{each_at, each_long, lines_all, lines_more}
use Rattle.ch_demo.proofs.demo.put_summaries.Goals as goal

pub put_summary-requires-clause-inside : goal.put_summary-requires-clause-inside
put_summary-requires-clause-inside c =
    let number = c.args.number in
    let k = c.loop-k.k in
    let l : k < count_of number = omega (arith, c.loop-k-test.true, c.count_of-k-end.ensures.value) in
    let there : k < length (generated number).sessions = omega (arith, l, sessions_long number) in
    each_at (λ k s part. IsTrue (is_inside s.params part)) 0 (generated number).sessions c.args.parts.now k (session_of k) c.index-parts-k.result c.requires.inside
    there (session_there number k l) c.index-parts-k.is

pub bounds-parts-k : goal.bounds-parts-k
bounds-parts-k c =
    let number = c.args.number in
    let l : c.loop-k.k < count_of number = omega (arith, c.loop-k-test.true, c.count_of-k-end.ensures.value) in
    let long : length (generated number).sessions ≡ length c.args.parts.now = each_long (λ k s part. IsTrue (is_inside s.params part)) 0 (generated number).sessions c.args.parts.now c.requires.inside in
    omega (arith, l, long, sessions_long number)

pub loop-k-preserved : goal.loop-k-preserved
loop-k-preserved c =
    let number = c.args.number in
    let k = c.loop-k.k in
    let l : k < count_of number = omega (arith, c.loop-k-test.true, c.count_of-k-end.ensures.value) in
    let there : k < length (generated number).sessions = omega (arith, l, sessions_long number) in
    let long : length (generated number).sessions ≡ length c.args.parts.now = each_long (λ k s part. IsTrue (is_inside s.params part)) 0 (generated number).sessions c.args.parts.now c.requires.inside in
    lines_more summary_line (generated number).sessions c.args.parts.now k (session_of k) c.index-parts-k.result c.loop-k.out c.put_summary.new.out _
    there (omega (arith, there, long)) (session_there number k l) c.index-parts-k.is c.in_ok-put_summary.ensures c.loop-k.invariant

pub returns : goal.returns
returns c =
    let number = c.args.number in
    let over : length (generated number).sessions ≤ c.loop-k.k = omega (arith, c.loop-k-test.false, c.count_of-k-end.ensures.value, sessions_long number) in
    lines_all summary_line (generated number).sessions c.args.parts.now c.loop-k.k c.loop-k.out _ over c.loop-k.invariant
