use Rattle.std.proofs.Common.{◌≡◌, ◌++◌, ◌≤◌, drop}
use Rattle.ch_nestprint.specs.Layouts.{first_layout, spell}
use Rattle.ch_nestprint.proofs.layout.spell.Given as goal

abbrev pub invariant-loop-i : goal.invariant-loop-i
invariant-loop-i l = (l.layout.depth ≤ l.i) × (l.out ++ spell l.layout (drop l.i l.symbols) ≡ spell first_layout l.symbols)
