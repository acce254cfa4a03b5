use Rattle.std.proofs.Common.{◌≡◌, ◌++◌, drop}
use Rattle.ch_search.specs.Searched.{lines_of, session_part}
use Rattle.ch_search.proofs.search.put_parts.Given as goal

abbrev pub invariant-loop-k : goal.invariant-loop-k
invariant-loop-k l =
    l.out ++ lines_of (session_part l.deck) (drop l.k l.sessions) (drop l.k l.parts) ≡ l.initial.out ++ lines_of (session_part l.deck) l.sessions l.parts
