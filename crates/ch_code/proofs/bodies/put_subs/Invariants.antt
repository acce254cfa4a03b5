use Rattle.std.proofs.Common.{◌≡◌, ◌++◌, take}
use Rattle.std.specs.List.{flat_map}
use Rattle.ch_code.specs.BodyText.{sub_text}
use Rattle.ch_code.proofs.bodies.put_subs.Given as goal

abbrev pub invariant-loop-sub : goal.invariant-loop-sub
invariant-loop-sub l = l.out ≡ l.initial.out ++ flat_map (sub_text l.iterators) (take l.sub-index l.subs)
