-- The commands so far are those of the names so far.
use Rattle.std.proofs.Common.{◌≡◌, map, take}
use Rattle.clap.specs.Words.{shape_of}
use Rattle.rfb.specs.command.Program.{shape_named}
use Rattle.rfb.proofs.commands.commands_of.Given as goal

abbrev pub invariant-loop-verb : goal.invariant-loop-verb
invariant-loop-verb l =
    map shape_of l.commands.items ≡ map shape_named (take l.verb-index l.verbs)
