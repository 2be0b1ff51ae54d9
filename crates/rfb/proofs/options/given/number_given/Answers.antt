use Rattle.std.proofs.Common.{◌∙◌, ap, refl, ℕ, Some}
use Rattle.clap.specs.Matches.{found_of}
use Rattle.rfb.proofs.OptionLemmas.{none_read, number_absent, number_read}
use Rattle.rfb.proofs.options.given.number_given.Goals as goal

pub returns-in-Some-clause-number : goal.returns-in-Some-clause-number
returns-in-Some-clause-number c = record {
  absent = λ is. absurd
      (number_absent (found_of c.args.given.now) c.args.name.now _ _ c.in-Some.is c.get_one.ensures.none is);
  given = λ text is numeral above below.
      let read =
      number_read (found_of c.args.given.now) c.args.name.now _ _ c.in-Some.is c.get_one.ensures.value text is in
      ap (λ (n : ℕ). Some n) (c.at_least_one.ensures.same (rw read above) ∙ read);
}

pub returns-in-None-clause-number : goal.returns-in-None-clause-number
returns-in-None-clause-number c = record {
  absent = λ is. refl;
  given = λ text is numeral above below. absurd (none_read (found_of c.args.given.now) c.args.name.now _ c.in-None.is
      c.get_one.ensures.value text is numeral below);
}
