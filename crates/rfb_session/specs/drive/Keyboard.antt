-- What a keyboard does where a text is typed.
use Rattle.std.specs.Prelude.{◌||◌, ℕ, Bool, List, [], ◌∷◌, ◌++◌, codes}
use Rattle.std.specs.Prelude.{Option, None, Some, if◌then◌else◌, nat_eq}
use Rattle.std.specs.Char.{is_ascii_uppercase}
use Rattle.std.specs.List.{list_any}
use Rattle.rfb_session.specs.declared.drive.key_event.KeyEvent.{KeyEvent}
use Rattle.rfb_session.specs.drive.Characters.{key_of_char}
use Rattle.rfb_session.specs.drive.Keys.{down, up}

-- what a US keyboard has shifted: capitals, and these
abbrev pub shifted_marks : List ℕ
shifted_marks = codes "~!@#$%^&*()_+{}|:\"<>?"

abbrev pub is_shifted : ℕ → Bool
is_shifted c = is_ascii_uppercase c || list_any (λ mark. nat_eq mark c) shifted_marks

-- a key goes down and up
abbrev pub tapped : ℕ → List KeyEvent
tapped key = down key ∷ up key ∷ []

-- with Shift held around it
abbrev pub held : Bool → List KeyEvent → List KeyEvent
held shift events =
    if shift then down 0xFFE1 ∷ (events ++ up 0xFFE1 ∷ []) else events

-- what happens to the keys where a character is typed
abbrev pub pressed : Bool → Option ℕ → List KeyEvent
pressed shift None = []
pressed shift (Some key) = held shift (tapped key)

abbrev pub typed_char : ℕ → List KeyEvent
typed_char c = pressed (is_shifted c) (key_of_char c)

-- the same of a text, a character after another
abbrev pub typed : List ℕ → List KeyEvent
typed [] = []
typed (c ∷ text) = typed_char c ++ typed text
