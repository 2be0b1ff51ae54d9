-- ProtocolVersion, RFC 6143 section 7.1.1: the text, and the version that it stands for.
use Rattle.std.specs.Prelude.{◌≡◌, ℕ, ◌+◌, ◌-◌, ◌*◌, ◌≤◌, ◌==◌, ◌&&◌, nat_le, Bool, List, [], ◌∷◌, length}
use Rattle.std.specs.Prelude.{if◌then◌else◌}
use Rattle.rfb_wire.specs.Fields.{u8_at}
use Rattle.rfb_hello.specs.declared.version.Version.{Version}
use Rattle.rfb_hello.specs.declared.version.Version.TheVariants.{V33, V37, V38}

-- the byte is a decimal digit
abbrev pub IsDigit : ℕ → Type 0
IsDigit byte = (48 ≤ byte) × (byte ≤ 57)

-- "RFB ddd.ddd" and a line feed
pub record IsVersionText (bytes : List ℕ) : Type 0 where
  pub size : length bytes ≡ 12
  pub letters : (u8_at 0 bytes ≡ 82) × (u8_at 1 bytes ≡ 70) × (u8_at 2 bytes ≡ 66)
      × (u8_at 3 bytes ≡ 32)
  pub major : IsDigit (u8_at 4 bytes) × IsDigit (u8_at 5 bytes) × IsDigit (u8_at 6 bytes)
  pub point : u8_at 7 bytes ≡ 46
  pub minor : IsDigit (u8_at 8 bytes) × IsDigit (u8_at 9 bytes) × IsDigit (u8_at 10 bytes)
  pub end : u8_at 11 bytes ≡ 10

-- the number that three decimal digits are
abbrev pub number_at : ℕ → List ℕ → ℕ
number_at i bytes =
    (u8_at i bytes - 48) * 100 + (u8_at (i + 1) bytes - 48) * 10 + (u8_at (i + 2) bytes - 48)

-- the published versions are 3.3, 3.7 and 3.8; any other is taken as 3.3
abbrev pub version_named : ℕ → ℕ → Version
version_named major minor =
    if major == 3 && minor == 8 then V38 else
    if major == 3 && minor == 7 then V37 else V33

-- the bytes are a ProtocolVersion that stands for this version
pub record SpellsVersion (version : Version) (bytes : List ℕ) : Type 0 where
  pub text : IsVersionText bytes
  pub version_is : version ≡ version_named (number_at 4 bytes) (number_at 8 bytes)

-- the test that a byte is a decimal digit
abbrev pub is_digit : ℕ → Bool
is_digit byte = nat_le 48 byte && nat_le byte 57

-- the test that three bytes are digits
abbrev pub are_digits : ℕ → List ℕ → Bool
are_digits i bytes =
    is_digit (u8_at i bytes) && is_digit (u8_at (i + 1) bytes) && is_digit (u8_at (i + 2) bytes)

-- the test that bytes begin with "RFB "
abbrev pub has_letters : List ℕ → Bool
has_letters bytes =
    u8_at 0 bytes == 82 && u8_at 1 bytes == 70 && u8_at 2 bytes == 66 && u8_at 3 bytes == 32

-- the test of twelve bytes for a ProtocolVersion
abbrev pub is_version_text : List ℕ → Bool
is_version_text bytes =
    has_letters bytes && are_digits 4 bytes && u8_at 7 bytes == 46 && are_digits 8 bytes
    && u8_at 11 bytes == 10

-- the version that a text stands for
abbrev pub version_of : List ℕ → Version
version_of bytes = version_named (number_at 4 bytes) (number_at 8 bytes)

-- the minor number of a version; the major number of each is 3
abbrev pub minor_of : Version → ℕ
minor_of V33 = 3
minor_of V37 = 7
minor_of V38 = 8

-- the lower of two versions
abbrev pub lower : Version → Version → Version
lower a b = if nat_le (minor_of a) (minor_of b) then a else b

-- the text of a version
abbrev pub version_text : Version → List ℕ
version_text V33 = 82 ∷ 70 ∷ 66 ∷ 32 ∷ 48 ∷ 48 ∷ 51 ∷ 46 ∷ 48 ∷ 48 ∷ 51 ∷ 10 ∷ []
version_text V37 = 82 ∷ 70 ∷ 66 ∷ 32 ∷ 48 ∷ 48 ∷ 51 ∷ 46 ∷ 48 ∷ 48 ∷ 55 ∷ 10 ∷ []
version_text V38 = 82 ∷ 70 ∷ 66 ∷ 32 ∷ 48 ∷ 48 ∷ 51 ∷ 46 ∷ 48 ∷ 48 ∷ 56 ∷ 10 ∷ []
