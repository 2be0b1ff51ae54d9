-- The encodings of a rectangle's data, RFC 6143 section 7.7, by their numbers.
use Rattle.std.specs.Prelude.{◌≢◌, ℤ, pos}
use Rattle.rfb_wire.specs.declared.encoding.Encoding.{Encoding}
use Rattle.rfb_wire.specs.declared.encoding.Encoding.TheVariants.{Raw, CopyRect, Rre, Hextile}

-- the number of an encoding, an S32 on the wire
abbrev pub number_of : Encoding → ℤ
number_of Raw = pos 0
number_of CopyRect = pos 1
number_of Rre = pos 2
number_of Hextile = pos 5

-- no encoding has this number
abbrev pub IsNoEncoding : ℤ → Type 0
IsNoEncoding number = (encoding : Encoding) → number_of encoding ≢ number
