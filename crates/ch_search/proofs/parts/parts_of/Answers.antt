use Rattle.std.proofs.Common.{◌≡◌, ◌++◌, ◌∷◌, [], arith, rules}
use Rattle.std.specs.Bool.{IsTrue}
use Rattle.ch_report.specs.Sessions.{is_inside}
use Rattle.ch_search.specs.Parts.{IsPart}
use Rattle.ch_search.proofs.Sessions.{each_all, each_more, few_sessions, fits_there}
use Rattle.ch_search.proofs.parts.parts_of.Goals as goal

pub overflow_cast-k : goal.overflow_cast-k
overflow_cast-k c =
    let few = few_sessions c.args.deck.now c.sessions-sessions.result.now c.loop-k.k c.sessions-sessions.ensures c.loop-k-test.true c.known.ensures in
    omega (arith, few)

pub part_of-requires : goal.part_of-requires
part_of-requires c = record {
  there = fits_there c.args.deck.now c.sessions-sessions.result.now c.loop-k.k c.sessions-sessions.ensures c.loop-k-test.true c.index-sessions-k.result c.index-sessions-k.is c.known.ensures;
}

pub loop-k-preserved : goal.loop-k-preserved
loop-k-preserved c =
    let ss = c.sessions-sessions.result.now in
    let part = c.in_ok-part.part in
    let pushed : c.push.new.self ≡ c.loop-k.parts ++ part ∷ [] = search rules in
    record {
      tuned = each_more (IsPart c.args.deck.now) ss c.loop-k.k c.index-sessions-k.result c.loop-k.parts c.push.new.self part c.loop-k-test.true
          c.index-sessions-k.is c.loop-k.invariant.tuned c.in_ok-part.ensures.tuned pushed;
      inside = each_more (λ k s part. IsTrue (is_inside s.params part)) ss c.loop-k.k c.index-sessions-k.result c.loop-k.parts c.push.new.self part c.loop-k-test.true
          c.index-sessions-k.is c.loop-k.invariant.inside c.in_ok-part.ensures.inside pushed;
    }

pub returns-clause-tuned : goal.returns-clause-tuned
returns-clause-tuned c =
    each_all (IsPart c.args.deck.now) c.sessions-sessions.result.now c.args.deck.now.sessions c.loop-k.k c.loop-k.parts (let t = c.loop-k-test.false in omega arith)
    c.sessions-sessions.ensures c.loop-k.invariant.tuned

pub returns-clause-inside : goal.returns-clause-inside
returns-clause-inside c =
    each_all (λ k s part. IsTrue (is_inside s.params part)) c.sessions-sessions.result.now c.args.deck.now.sessions c.loop-k.k c.loop-k.parts (let t = c.loop-k-test.false in omega arith)
    c.sessions-sessions.ensures c.loop-k.invariant.inside
