use Rattle.std.proofs.Common.{◌≡◌, ◌<◌, ◌≤◌, ◌++◌, ◌∷◌, [], length, arith, rules, refl}
use Rattle.std.specs.Bool.{IsTrue}
use Rattle.ch_demo.specs.Generated.{count_of, generated, session_of}
use Rattle.ch_demo.proofs.Made.{session_there, sessions_long}
use Rattle.ch_report.specs.Sessions.{is_inside}
use Rattle.ch_search.specs.Parts.{IsPart}
use Rattle.ch_search.proofs.Sessions.{each_all, each_more}
use Rattle.ch_demo.proofs.demo.parts_of.Goals as goal

pub loop-k-preserved : goal.loop-k-preserved
loop-k-preserved c =
    let number = c.args.number in
    let k = c.loop-k.k in
    let part = c.in_ok-part.part in
    let l : k < count_of number = omega (arith, c.loop-k-test.true, c.count_of-k-end.ensures.value) in
    let there : k < length (generated number).sessions = omega (arith, l, sessions_long number) in
    let pushed : c.push.new.self ≡ c.loop-k.parts ++ part ∷ [] = search rules in
    record {
      tuned = each_more (IsPart (generated number)) (generated number).sessions k (session_of k) c.loop-k.parts c.push.new.self part there (session_there number k l)
          c.loop-k.invariant.tuned c.in_ok-part.ensures.tuned pushed;
      inside = each_more (λ k s part. IsTrue (is_inside s.params part)) (generated number).sessions k (session_of k) c.loop-k.parts c.push.new.self part there
          (session_there number k l) c.loop-k.invariant.inside c.in_ok-part.ensures.inside pushed;
    }

pub returns-clause-tuned : goal.returns-clause-tuned
returns-clause-tuned c =
    let number = c.args.number in
    let over : length (generated number).sessions ≤ c.loop-k.k = omega (arith, c.loop-k-test.false, c.count_of-k-end.ensures.value, sessions_long number) in
    each_all (IsPart (generated number)) (generated number).sessions (generated number).sessions c.loop-k.k c.loop-k.parts over refl c.loop-k.invariant.tuned

pub returns-clause-inside : goal.returns-clause-inside
returns-clause-inside c =
    let number = c.args.number in
    let over : length (generated number).sessions ≤ c.loop-k.k = omega (arith, c.loop-k-test.false, c.count_of-k-end.ensures.value, sessions_long number) in
    each_all (λ k s part. IsTrue (is_inside s.params part)) (generated number).sessions (generated number).sessions c.loop-k.k c.loop-k.parts over refl
    c.loop-k.invariant.inside
