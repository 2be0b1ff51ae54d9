-- The names of keys. Those in most use are of RFC 6143, section 7.5.4, and the others of X11.
use Rattle.std.specs.Prelude.{◌≡◌, ℕ, false, List, [], ◌∷◌, ◌++◌, codes, Option}
use Rattle.std.specs.List.{AllPairs}
use Rattle.std.specs.Str.{str_eq_ignore_ascii_case}
use Rattle.rfb_session.specs.drive.Tables.{found_by}

-- ---- tables of names and keys

-- the key of the first entry with that name, whatever the case of its letters
abbrev pub looked_up : List (List ℕ × ℕ) → List ℕ → Option ℕ
looked_up table name = found_by str_eq_ignore_ascii_case table name

-- no two entries of a table have the same name, whatever the case of its letters
abbrev pub StandOnce : List (List ℕ × ℕ) → Type 0
StandOnce table =
    AllPairs (λ entry other. str_eq_ignore_ascii_case entry.0 other.0 ≡ false) table

-- ---- the names

-- keys that edit, as they lie above and beside the letters
unfoldable pub editing_keys : List (List ℕ × ℕ)
editing_keys =
    (codes "BackSpace", 0xFF08) ∷ (codes "Tab", 0xFF09) ∷ (codes "Linefeed", 0xFF0A) ∷
    (codes "Clear", 0xFF0B) ∷ (codes "Return", 0xFF0D) ∷ (codes "Enter", 0xFF0D) ∷
    (codes "Pause", 0xFF13) ∷ (codes "Scroll_Lock", 0xFF14) ∷ (codes "Sys_Req", 0xFF15) ∷
    (codes "Escape", 0xFF1B) ∷ (codes "Esc", 0xFF1B) ∷ (codes "Delete", 0xFFFF) ∷
    (codes "Del", 0xFFFF) ∷ []

-- keys that move, and those beside them
unfoldable pub moving_keys : List (List ℕ × ℕ)
moving_keys =
    (codes "Home", 0xFF50) ∷ (codes "Left", 0xFF51) ∷ (codes "Up", 0xFF52) ∷
    (codes "Right", 0xFF53) ∷ (codes "Down", 0xFF54) ∷ (codes "Page_Up", 0xFF55) ∷
    (codes "Prior", 0xFF55) ∷ (codes "Page_Down", 0xFF56) ∷ (codes "Next", 0xFF56) ∷
    (codes "End", 0xFF57) ∷ (codes "Begin", 0xFF58) ∷ (codes "Select", 0xFF60) ∷
    (codes "Print", 0xFF61) ∷ (codes "Execute", 0xFF62) ∷ (codes "Insert", 0xFF63) ∷
    (codes "Ins", 0xFF63) ∷ (codes "Undo", 0xFF65) ∷ (codes "Redo", 0xFF66) ∷
    (codes "Menu", 0xFF67) ∷ (codes "Find", 0xFF68) ∷ (codes "Cancel", 0xFF69) ∷
    (codes "Help", 0xFF6A) ∷ (codes "Break", 0xFF6B) ∷ (codes "Mode_switch", 0xFF7E) ∷
    (codes "Num_Lock", 0xFF7F) ∷ []

-- function keys
unfoldable pub function_keys : List (List ℕ × ℕ)
function_keys =
    (codes "F1", 0xFFBE) ∷ (codes "F2", 0xFFBF) ∷ (codes "F3", 0xFFC0) ∷ (codes "F4", 0xFFC1) ∷
    (codes "F5", 0xFFC2) ∷ (codes "F6", 0xFFC3) ∷ (codes "F7", 0xFFC4) ∷ (codes "F8", 0xFFC5) ∷
    (codes "F9", 0xFFC6) ∷ (codes "F10", 0xFFC7) ∷ (codes "F11", 0xFFC8) ∷
    (codes "F12", 0xFFC9) ∷ (codes "F13", 0xFFCA) ∷ (codes "F14", 0xFFCB) ∷
    (codes "F15", 0xFFCC) ∷ (codes "F16", 0xFFCD) ∷ (codes "F17", 0xFFCE) ∷
    (codes "F18", 0xFFCF) ∷ (codes "F19", 0xFFD0) ∷ (codes "F20", 0xFFD1) ∷
    (codes "F21", 0xFFD2) ∷ (codes "F22", 0xFFD3) ∷ (codes "F23", 0xFFD4) ∷
    (codes "F24", 0xFFD5) ∷ []

-- keys that are held while others go down; a name without a side is the left one
unfoldable pub holding_keys : List (List ℕ × ℕ)
holding_keys =
    (codes "Shift_L", 0xFFE1) ∷ (codes "Shift", 0xFFE1) ∷ (codes "Shift_R", 0xFFE2) ∷
    (codes "Control_L", 0xFFE3) ∷ (codes "Control", 0xFFE3) ∷ (codes "Ctrl", 0xFFE3) ∷
    (codes "Control_R", 0xFFE4) ∷ (codes "Caps_Lock", 0xFFE5) ∷ (codes "Shift_Lock", 0xFFE6) ∷
    (codes "Meta_L", 0xFFE7) ∷ (codes "Meta", 0xFFE7) ∷ (codes "Meta_R", 0xFFE8) ∷
    (codes "Alt_L", 0xFFE9) ∷ (codes "Alt", 0xFFE9) ∷ (codes "Alt_R", 0xFFEA) ∷
    (codes "Super_L", 0xFFEB) ∷ (codes "Super", 0xFFEB) ∷ (codes "Super_R", 0xFFEC) ∷
    (codes "Hyper_L", 0xFFED) ∷ (codes "Hyper_R", 0xFFEE) ∷ (codes "ISO_Level3_Shift", 0xFE03) ∷ []

-- keys of the keypad
unfoldable pub keypad_keys : List (List ℕ × ℕ)
keypad_keys =
    (codes "KP_Space", 0xFF80) ∷ (codes "KP_Tab", 0xFF89) ∷ (codes "KP_Enter", 0xFF8D) ∷
    (codes "KP_F1", 0xFF91) ∷ (codes "KP_F2", 0xFF92) ∷ (codes "KP_F3", 0xFF93) ∷
    (codes "KP_F4", 0xFF94) ∷ (codes "KP_Home", 0xFF95) ∷ (codes "KP_Left", 0xFF96) ∷
    (codes "KP_Up", 0xFF97) ∷ (codes "KP_Right", 0xFF98) ∷ (codes "KP_Down", 0xFF99) ∷
    (codes "KP_Page_Up", 0xFF9A) ∷ (codes "KP_Prior", 0xFF9A) ∷ (codes "KP_Page_Down", 0xFF9B) ∷
    (codes "KP_Next", 0xFF9B) ∷ (codes "KP_End", 0xFF9C) ∷ (codes "KP_Begin", 0xFF9D) ∷
    (codes "KP_Insert", 0xFF9E) ∷ (codes "KP_Delete", 0xFF9F) ∷ (codes "KP_Multiply", 0xFFAA) ∷
    (codes "KP_Add", 0xFFAB) ∷ (codes "KP_Separator", 0xFFAC) ∷ (codes "KP_Subtract", 0xFFAD) ∷
    (codes "KP_Decimal", 0xFFAE) ∷ (codes "KP_Divide", 0xFFAF) ∷ (codes "KP_0", 0xFFB0) ∷
    (codes "KP_1", 0xFFB1) ∷ (codes "KP_2", 0xFFB2) ∷ (codes "KP_3", 0xFFB3) ∷
    (codes "KP_4", 0xFFB4) ∷ (codes "KP_5", 0xFFB5) ∷ (codes "KP_6", 0xFFB6) ∷
    (codes "KP_7", 0xFFB7) ∷ (codes "KP_8", 0xFFB8) ∷ (codes "KP_9", 0xFFB9) ∷
    (codes "KP_Equal", 0xFFBD) ∷ []

-- what a keyboard has beside letters and digits; its number is its character
unfoldable pub marks_keys : List (List ℕ × ℕ)
marks_keys =
    (codes "space", 0x0020) ∷ (codes "exclam", 0x0021) ∷ (codes "quotedbl", 0x0022) ∷
    (codes "numbersign", 0x0023) ∷ (codes "dollar", 0x0024) ∷ (codes "percent", 0x0025) ∷
    (codes "ampersand", 0x0026) ∷ (codes "apostrophe", 0x0027) ∷ (codes "parenleft", 0x0028) ∷
    (codes "parenright", 0x0029) ∷ (codes "asterisk", 0x002A) ∷ (codes "plus", 0x002B) ∷
    (codes "comma", 0x002C) ∷ (codes "minus", 0x002D) ∷ (codes "period", 0x002E) ∷
    (codes "slash", 0x002F) ∷ (codes "colon", 0x003A) ∷ (codes "semicolon", 0x003B) ∷
    (codes "less", 0x003C) ∷ (codes "equal", 0x003D) ∷ (codes "greater", 0x003E) ∷
    (codes "question", 0x003F) ∷ (codes "at", 0x0040) ∷ (codes "bracketleft", 0x005B) ∷
    (codes "backslash", 0x005C) ∷ (codes "bracketright", 0x005D) ∷
    (codes "asciicircum", 0x005E) ∷ (codes "underscore", 0x005F) ∷ (codes "grave", 0x0060) ∷
    (codes "braceleft", 0x007B) ∷ (codes "bar", 0x007C) ∷ (codes "braceright", 0x007D) ∷
    (codes "asciitilde", 0x007E) ∷ []

-- all of them
unfoldable pub key_names : List (List ℕ × ℕ)
key_names =
    editing_keys ++ moving_keys ++ function_keys ++ holding_keys ++ keypad_keys ++ marks_keys
