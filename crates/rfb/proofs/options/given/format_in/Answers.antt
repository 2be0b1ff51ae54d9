use Rattle.std.proofs.Common.{sym, subst, codes, Option}
use Rattle.clap.specs.Walk.{Text, rows_of}
use Rattle.clap.specs.Matches.{found_of}
use Rattle.rfb.specs.command.Values.{NamesFormat}
use Rattle.rfb.proofs.OptionLemmas.{first_is, format_given}
use Rattle.rfb.proofs.options.given.format_in.Goals as goal

pub returns-in-Some : goal.returns-in-Some
returns-in-Some c =
    format_given (rows_of (found_of c.args.given.now)) c.in-Some.word.now c.format_named.result
    (first_is (found_of c.args.given.now) (codes "format") _ _ c.get_str.ensures c.in-Some.is) c.format_named.ensures

pub returns-in-None : goal.returns-in-None
returns-in-None c =
    subst (λ (o : Option Text). NamesFormat o c.rgb888.result)
    (sym (first_is (found_of c.args.given.now) (codes "format") _ _ c.get_str.ensures c.in-None.is))
    c.rgb888.ensures.value
