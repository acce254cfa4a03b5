-- The line that is written for words that ask for nothing.
use Rattle.std.specs.Prelude.{ℕ, List, codes}

abbrev pub usage : List ℕ
usage = codes "usage: chilltune eval|check|show|search|run|replay|demo [--at V,V] [--builders N] [--arrays all|sum] [--number N]\n"
