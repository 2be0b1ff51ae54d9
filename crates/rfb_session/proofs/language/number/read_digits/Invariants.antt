-- The characters so far are digits, and this is their value.
use Rattle.std.proofs.Common.{◌≡◌, take}
use Rattle.std.specs.Str.Parse.{AllDigits, digits_value}
use Rattle.rfb_session.proofs.language.number.read_digits.Given as goal

abbrev pub invariant-loop-byte : goal.invariant-loop-byte
invariant-loop-byte l = record {
  digits : AllDigits 10 (take l.byte-index l.word);
  value : l.value ≡ digits_value 10 (take l.byte-index l.word);
}
