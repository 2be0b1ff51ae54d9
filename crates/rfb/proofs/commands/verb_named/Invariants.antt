-- None of the commands so far has that name.
use Rattle.std.proofs.Common.{◌<◌, ◌≢◌, ℕ, slice_index_or}
use Rattle.rfb.specs.declared.commands.Verb.{Verb}
use Rattle.rfb.specs.command.Program.{name_of}
use Rattle.rfb.proofs.commands.verb_named.Given as goal

abbrev pub invariant-loop-verb : goal.invariant-loop-verb
invariant-loop-verb l = (k : ℕ) (d : Verb) → k < l.verb-index → l.name ≢ name_of (slice_index_or l.verbs k d)
