use Rattle.std.proofs.Common.{◌≡◌, ◌≤◌, ◌∙◌, ap, sym, arith, refl, ℕ, Some}
use Rattle.std.specs.Str.Parse.{digits_value, without_leading_plus}
use Rattle.std.proofs.lemmas.Option.{none-some, same_Some}
use Rattle.rfb.proofs.options.address.port_given.Goals as goal

pub returns-in-Some : goal.returns-in-Some
returns-in-Some c = record {
  absent = λ is. absurd (none-some c.in-Some.number (sym (c.number_given.ensures.number.absent is) ∙ c.in-Some.is));
  given = λ text is numeral above below.
      let most : digits_value 10 (without_leading_plus text) ≤ 4294967295 = omega arith in
      let read : c.in-Some.number ≡ digits_value 10 (without_leading_plus text) =
      same_Some c.in-Some.number _
      (sym c.in-Some.is ∙ c.number_given.ensures.number.given text is numeral above most) in
      ap (λ (n : ℕ). Some n) (c.within.ensures.same (rw read above) (rw read below) ∙ read);
}

pub returns-in-None : goal.returns-in-None
returns-in-None c = record {
  absent = λ is. refl;
  given = λ text is numeral above below.
      let most : digits_value 10 (without_leading_plus text) ≤ 4294967295 = omega arith in
      absurd (none-some _ (sym c.in-None.is ∙ c.number_given.ensures.number.given text is numeral above most));
}
