-- The keys of characters, as X11 numbers them.
use Rattle.std.specs.Prelude.{◌==◌, ◌+◌, ◌&&◌, ◌||◌, ℕ, Bool, List, [], ◌∷◌}
use Rattle.std.specs.Prelude.{Option, None, Some, if◌then◌else◌, nat_le, nat_lt}
use Rattle.std.specs.Str.{chars, is_utf8}

-- a control character
abbrev pub is_control : ℕ → Bool
is_control c = nat_lt c 32 || (nat_le 127 c && nat_lt c 160)

-- the keys of control characters that have one: BackSpace, Tab, Return, Escape and Delete
abbrev pub key_of_control : ℕ → Option ℕ
key_of_control c =
    if c == 8 then Some 0xFF08 else if c == 9 then Some 0xFF09
    else if c == 10 || c == 13 then Some 0xFF0D
    else if c == 27 then Some 0xFF1B else if c == 127 then Some 0xFFFF else None

-- the key of a character: those of Latin-1 have their own numbers, others their number in Unicode
-- and 0x01000000
abbrev pub key_of_char : ℕ → Option ℕ
key_of_char c =
    if is_control c then key_of_control c
    else if nat_lt c 256 then Some c else Some (0x01000000 + c)

-- the only one of these characters
abbrev pub alone : List ℕ → Option ℕ
alone [] = None
alone (c ∷ []) = Some c
alone (c ∷ d ∷ rest) = None

-- the one character that a word is, in UTF-8
abbrev pub only_char : List ℕ → Option ℕ
only_char word = if is_utf8 word then alone (chars word) else None
