-- The characters so far are digits, and this is their value.
use Rattle.std.proofs.Common.{◌≡◌, take}
use Rattle.std.specs.Str.Parse.{AllDigits, digits_value}
use Rattle.rfb_session.proofs.drive.keys.read_hex.Given as goal

abbrev pub invariant-loop-byte : goal.invariant-loop-byte
invariant-loop-byte l = record {
  digits : AllDigits 16 (take l.byte-index l.digits);
  value : l.value ≡ digits_value 16 (take l.byte-index l.digits);
}
