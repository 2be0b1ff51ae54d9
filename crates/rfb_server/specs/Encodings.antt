-- The encodings that a viewer lists, RFC 6143 section 7.5.2.
use Rattle.std.specs.Prelude.{ℕ, ℤ, ◌+◌, ◌≤◌, Bool, true, false, ◌||◌, List, [], ◌∷◌, ◌++◌, Option, Some, None}
use Rattle.std.specs.Prelude.{if◌then◌else◌}
use Rattle.rfb_wire.specs.declared.encoding.Encoding.{Encoding}
use Rattle.rfb_wire.specs.declared.encoding.Encoding.TheVariants.{Raw, CopyRect, Rre, Hextile}
use Rattle.rfb_wire.specs.RectStream.{encoding_of}

-- both are one encoding
abbrev pub is_same : Encoding → Encoding → Bool
is_same Raw Raw = true
is_same CopyRect CopyRect = true
is_same Rre Rre = true
is_same Hextile Hextile = true
is_same one other = false

-- the encoding is one of the list
abbrev pub is_listed : Encoding → List Encoding → Bool
is_listed encoding [] = false
is_listed encoding (other ∷ list) = is_same encoding other || is_listed encoding list

-- the list with one encoding more, if there is one that it has not
abbrev pub with_encoding : List Encoding → Option Encoding → List Encoding
with_encoding list None = list
with_encoding list (Some encoding) = if is_listed encoding list then list else list ++ encoding ∷ []

-- a list, and after it the encodings of these numbers that are known, in order, each once
abbrev pub known_among : List ℤ → List Encoding → List Encoding
known_among [] list = list
known_among (number ∷ numbers) list = known_among numbers (with_encoding list (encoding_of number))

-- the encoding of pixels: the first listed one that brings pixels, and Raw where there is none
abbrev pub preferred : List Encoding → Encoding
preferred [] = Raw
preferred (Raw ∷ list) = Raw
preferred (CopyRect ∷ list) = preferred list
preferred (Rre ∷ list) = Rre
preferred (Hextile ∷ list) = Hextile

-- how often the list has the encoding
abbrev pub times_listed : Encoding → List Encoding → ℕ
times_listed encoding [] = 0
times_listed encoding (other ∷ list) =
    (if is_same encoding other then 1 else 0) + times_listed encoding list

-- the list has no encoding twice
abbrev pub IsEachOnce : List Encoding → Type 0
IsEachOnce list = (encoding : Encoding) → times_listed encoding list ≤ 1
