use Rattle.std.proofs.Common.{rules, map, sym}
use Rattle.rfb.specs.CommandLine.{DoesAsked}
use Rattle.rfb.specs.Options.{AreOrdered, plain_of}
use Rattle.rfb.proofs.CommandLemmas.{does_asked}
use Rattle.rfb.proofs.command_line.command.Goals as goal

pub returns-in-Ok-read_words-clause-played : goal.returns-in-Ok-read_words-clause-played
returns-in-Ok-read_words-clause-played g c = λ zero command.
    let asked : AreOrdered (plain_of (map g.S.AsStr.text c.args.words.now)) c.in-Ok-read_words.order =
    search rules in
    let done : DoesAsked g.row.P.Denot (plain_of (map g.S.AsStr.text c.args.words.now))
    (g.R.Read.remaining c.args.input.now) (g.W.Write.contents c.args.output.now)
    (g.W.Write.contents c.work_through-done.new.context.output.now) =
    does_asked (plain_of (map g.S.AsStr.text c.args.words.now)) c.in-Ok-read_words.order _ _ _
    c.status_of.result c.work_through-done.result asked c.work_through-done.ensures.done
    c.status_of.ensures.failed zero in
    rw (c.output-1.given.1 (sym c.work_through-done.ensures.same.1)) done
