use Rattle.std.proofs.Common.{◌≡◌, ◌++◌, drop}
use Rattle.ch_demo.specs.Generated.{generated}
use Rattle.ch_demo.specs.Summaries.{summary_line}
use Rattle.ch_search.specs.Searched.{lines_of}
use Rattle.ch_demo.proofs.demo.put_summaries.Given as goal

abbrev pub invariant-loop-k : goal.invariant-loop-k
invariant-loop-k l =
    l.out ++ lines_of summary_line (drop l.k (generated l.number).sessions) (drop l.k l.parts) ≡ l.initial.out ++ lines_of summary_line (generated l.number).sessions l.parts
