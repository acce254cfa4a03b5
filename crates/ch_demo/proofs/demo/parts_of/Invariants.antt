use Rattle.std.proofs.Common.{take}
use Rattle.std.specs.Bool.{IsTrue}
use Rattle.ch_report.specs.Sessions.{is_inside}
use Rattle.ch_search.specs.Parts.{Each, IsPart}
use Rattle.ch_demo.specs.Generated.{generated}
use Rattle.ch_demo.proofs.demo.parts_of.Given as goal

abbrev pub invariant-loop-k : goal.invariant-loop-k
invariant-loop-k l = record {
  tuned : Each (IsPart (generated l.number)) 0 (take l.k (generated l.number).sessions) l.parts;
  inside : Each (λ k s part. IsTrue (is_inside s.params part)) 0 (take l.k (generated l.number).sessions) l.parts;
}
