use Rattle.std.proofs.Common.{◌≡◌, ◌++◌, take}
use Rattle.std.specs.List.{flat_map}
use Rattle.ch_scriptprint.specs.Printed.{command_line}
use Rattle.ch_scriptprint.proofs.recipe.put_commands.Given as goal

abbrev pub invariant-loop-command : goal.invariant-loop-command
invariant-loop-command l = l.out ≡ l.initial.out ++ flat_map (command_line l.params) (take l.command-index l.commands)
