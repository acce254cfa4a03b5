use Rattle.std.proofs.Common.{◌≡◌, suc, ◌++◌, drop, map}
use Rattle.ch_code.specs.CodeText.{code_text, parts_text}
use Rattle.ch_code.proofs.print.+code.Given as goal

abbrev pub invariant-put_parts-loop-part : goal.invariant-put_parts-loop-part
invariant-put_parts-loop-part l =
    l.out ++ parts_text (map (code_text l.names) (drop l.part-index l.parts)) (suc l.level) l.around
    ≡ l.initial.out ++ parts_text (map (code_text l.names) l.parts) (suc l.level) l.around
