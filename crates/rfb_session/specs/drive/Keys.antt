-- Keys by their names, and keys that go down together.
use Rattle.std.specs.Prelude.{◌≡◌, ◌==◌, ◌≤◌, ◌&&◌, ℕ, Bool, true, false, List, [], ◌∷◌, ◌++◌, map}
use Rattle.std.specs.Prelude.{drop, length}
use Rattle.std.specs.Prelude.{Option, None, Some, if◌then◌else◌, nat_le, nat_lt, reverse}
use Rattle.std.specs.Prelude.{slice_index}
use Rattle.std.specs.Char.{digit_value}
use Rattle.std.specs.List.{slice_split}
use Rattle.std.specs.Str.Parse.{digits_value}
use Rattle.rfb_session.specs.declared.drive.key_event.KeyEvent.{KeyEvent}
use Rattle.rfb_session.specs.drive.Characters.{key_of_char, only_char}
use Rattle.rfb_session.specs.drive.KeyNames.{looked_up, key_names}

-- ---- one key

-- a name begins with "0x"
abbrev pub is_number : List ℕ → Bool
is_number name = slice_index name 0 == 48 && slice_index name 1 == 120

-- each byte is a hexadecimal digit
abbrev pub are_hex_digits : List ℕ → Bool
are_hex_digits [] = true
are_hex_digits (byte ∷ bytes) = nat_lt (digit_value byte) 16 && are_hex_digits bytes

-- the value of one to eight hexadecimal digits
abbrev pub hex_number : List ℕ → Option ℕ
hex_number digits =
    if nat_le 1 (length digits) && nat_le (length digits) 8 && are_hex_digits digits
    then Some (digits_value 16 digits) else None

-- the key of a name of more characters: a number, or what the tables say
abbrev pub key_of_longer : List ℕ → Option ℕ
key_of_longer name =
    if is_number name then hex_number (drop 2 name) else looked_up key_names name

-- a character has its own key, whatever the name
abbrev pub key_by : Option ℕ → List ℕ → Option ℕ
key_by (Some c) name = key_of_char c
key_by None name = key_of_longer name

-- the key that a name names
abbrev pub key_of : List ℕ → Option ℕ
key_of name = key_by (only_char name) name

-- ---- keys that go down together

-- names name these keys, at most eight
abbrev pub AreKeys : List (List ℕ) → List ℕ → Type 0
AreKeys names keys = (map key_of names ≡ map (λ key. Some key) keys) × (length keys ≤ 8)

-- the names in a word: parted by hyphens, or one character
abbrev pub names_in : List ℕ → List (List ℕ)
names_in word =
    if length word == 1 then word ∷ [] else slice_split (λ byte. byte == 45) word

-- a word names these keys, in the order in which they go down
abbrev pub IsCombination : List ℕ → List ℕ → Type 0
IsCombination word keys = AreKeys (names_in word) keys

-- ---- what happens to keys

abbrev pub down : ℕ → KeyEvent
down key = record { down = true; key = key }

abbrev pub up : ℕ → KeyEvent
up key = record { down = false; key = key }

-- they go down one after another, and up in the reverse order
abbrev pub pressing : List ℕ → List KeyEvent
pressing keys = map down keys ++ map up (reverse keys)
