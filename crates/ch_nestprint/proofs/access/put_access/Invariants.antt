use Rattle.std.proofs.Common.{◌≡◌, ◌++◌, drop}
use Rattle.std.specs.List.{flat_map}
use Rattle.ch_nestprint.specs.Sides.{sub_symbols}
use Rattle.ch_nestprint.proofs.access.put_access.Given as goal

abbrev pub invariant-loop-sub : goal.invariant-loop-sub
invariant-loop-sub l = l.out ++ flat_map (sub_symbols l.letters) (drop l.sub-index l.access.subs) ≡ l.initial.out ++ flat_map (sub_symbols l.letters) l.access.subs
