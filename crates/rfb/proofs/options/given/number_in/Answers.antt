use Rattle.std.proofs.Common.{◌∙◌, arith}
use Rattle.clap.specs.Matches.{found_of}
use Rattle.rfb.proofs.OptionLemmas.{none_read, number_read}
use Rattle.rfb.proofs.options.given.number_in.Goals as goal

pub returns-in-Some-clause-number : goal.returns-in-Some-clause-number
returns-in-Some-clause-number c = λ text is numeral above below.
    let read =
    number_read (found_of c.args.given.now) c.args.name.now _ _ c.in-Some.is c.get_one.ensures.value text is in
    c.within.ensures.same (rw read above) (rw read below) ∙ read

pub returns-in-None-clause-number : goal.returns-in-None-clause-number
returns-in-None-clause-number c = λ text is numeral above below.
    absurd (none_read (found_of c.args.given.now) c.args.name.now _ c.in-None.is c.get_one.ensures.value text is numeral
    (omega (arith, below)))
