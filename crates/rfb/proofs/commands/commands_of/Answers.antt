use Rattle.std.proofs.Common.{◌∙◌, ap, map}
use Rattle.std.proofs.lemmas.List.{take_all}
use Rattle.clap.specs.Words.{shape_of}
use Rattle.rfb.specs.command.Program.{shape_named}
use Rattle.rfb.proofs.UsageLemmas.{one_as_table}
use Rattle.rfb.proofs.commands.commands_of.Goals as goal

pub loop-verb-init : goal.loop-verb-init
loop-verb-init c = ap (map shape_of) c.in_ok-commands.ensures.items

pub loop-verb-preserved : goal.loop-verb-preserved
loop-verb-preserved c =
    one_as_table shape_of shape_named c.loop-verb.commands.items
    _ _ c.args.verbs.now c.loop-verb.verb-index _ c.loop-verb-test.true c.in_ok-push.ensures.items
    (c.in_ok-command_of.ensures ∙ c.usage.ensures) c.loop-verb.invariant

pub returns : goal.returns
returns c =
    c.loop-verb.invariant
    ∙ ap (map shape_named) (take_all c.loop-verb.verb-index c.args.verbs.now c.loop-verb-test.false)
