-- The messages that a line becomes, in their order, and the bytes that spell them.
use Rattle.std.specs.Prelude.{ℕ, zero, suc, ◌-◌, ◌^◌, ◌&&◌, nat_le, List, [], ◌∷◌, ◌++◌, map, take}
use Rattle.std.specs.Prelude.{Option, Some, None, Result, Ok, Err, if◌then◌else◌}
use Rattle.std.specs.Str.{chars}
use Rattle.hex.specs.Hex.{decode_of}
use Rattle.hex.specs.declared.error.FromHexError.{FromHexError}
use Rattle.rfb_viewer.specs.Messages.{key_message, pointer_message, text_message}
use Rattle.rfb_session.specs.declared.drive.drive_line.DriveLine.{DriveLine}
use Rattle.rfb_session.specs.declared.drive.drive_line.DriveLine.TheVariants.{Key, Down, Up, Text}
use Rattle.rfb_session.specs.declared.drive.drive_line.DriveLine.TheVariants.{Move}
use Rattle.rfb_session.specs.declared.drive.drive_line.DriveLine.TheVariants.{Click, Double, Drag}
use Rattle.rfb_session.specs.declared.drive.drive_line.DriveLine.TheVariants.{Wheel, Paste}
use Rattle.rfb_session.specs.declared.drive.drive_line.DriveLine.TheVariants.{PasteFile, Save}
use Rattle.rfb_session.specs.declared.drive.drive_line.DriveLine.TheVariants.{Expect, Still, Wait}
use Rattle.rfb_session.specs.declared.drive.drive_line.DriveLine.TheVariants.{UntilChange, Timeout}
use Rattle.rfb_session.specs.declared.drive.key_event.KeyEvent.{KeyEvent}
use Rattle.rfb_session.specs.declared.drive.words.Place.{Place}
use Rattle.rfb_session.specs.declared.drive.words.Press.{Press}
use Rattle.rfb_session.specs.declared.drive.words.Way.{Way}
use Rattle.rfb_session.specs.declared.drive.words.Way.TheVariants as Turns
use Rattle.rfb_session.specs.drive.Keys.{down, up}
use Rattle.rfb_session.specs.drive.Keyboard.{typed}

-- ---- messages, RFC 6143 sections 7.5.4 to 7.5.6

-- a key goes down or up; the pointer is at a place, and these buttons are down; a text is cut
pub data Act : Type 0 where
  OfKey : (event : KeyEvent) → Act
  OfPointer : (buttons : ℕ) → (at : Place) → Act
  OfText : (text : List ℕ) → Act

-- the bytes of each
abbrev pub act_bytes : Act → List ℕ
act_bytes (OfKey event) = key_message event.down event.key
act_bytes (OfPointer buttons at) = pointer_message buttons at.x at.y
act_bytes (OfText text) = text_message text

-- those of one after another
abbrev pub spelled : List Act → List ℕ
spelled [] = []
spelled (act ∷ acts) = act_bytes act ++ spelled acts

-- ---- what a line becomes

-- the bit of a button
abbrev pub mask_of : ℕ → ℕ
mask_of button = if nat_le 1 button && nat_le button 8 then 2 ^ (button - 1) else 0

-- a wheel is the fourth button, or the fifth
abbrev pub turning : Way → ℕ
turning Turns.Up = 8
turning Turns.Down = 16

-- buttons go down and up at a place, so many times
abbrev pub clicks : ℕ → Place → ℕ → List Act
clicks buttons at zero = []
clicks buttons at (suc times) =
    clicks buttons at times ++ (OfPointer buttons at ∷ OfPointer 0 at ∷ [])

-- where a press names a place, the pointer goes there first
abbrev pub pressed_at : Option Place → ℕ → ℕ → Place → List Act
pressed_at None button times at = clicks (mask_of button) at times
pressed_at (Some place) button times at = OfPointer 0 place ∷ clicks (mask_of button) place times

abbrev pub pressed : Press → ℕ → Place → List Act
pressed press times at = pressed_at press.at press.button times at

-- the first button goes down where the pointer is, is held on the way, and goes up at its end
abbrev pub dragged : Place → Place → List Act
dragged from to = OfPointer 1 from ∷ OfPointer 1 to ∷ OfPointer 0 to ∷ []

-- the text that digits spell
abbrev pub text_in : Result (List ℕ) FromHexError → List ℕ
text_in (Ok text) = text
text_in (Err fault) = []

abbrev pub pasted : List ℕ → List ℕ
pasted digits = take 1048576 (text_in (decode_of digits))

-- the messages of a line, where the pointer is at a place
abbrev pub acts_of : Place → DriveLine → List Act
acts_of at (Key events) = map (λ event. OfKey event) events.items
acts_of at (Down key) = OfKey (down key) ∷ []
acts_of at (Up key) = OfKey (up key) ∷ []
acts_of at (Text text) = map (λ event. OfKey event) (typed (chars text.now))
acts_of at (Move place) = OfPointer 0 place ∷ []
acts_of at (Click press) = pressed press 1 at
acts_of at (Double press) = pressed press 2 at
acts_of at (Drag place) = dragged at place
acts_of at (Wheel way times) = clicks (turning way) at times
acts_of at (Paste digits) = OfText (pasted digits.now) ∷ []
acts_of at (PasteFile name) = []
acts_of at (Save name part) = []
acts_of at (Expect name likeness) = []
acts_of at (Still n) = []
acts_of at (Wait n) = []
acts_of at (UntilChange part) = []
acts_of at (Timeout n) = []

-- ---- where the pointer is

-- the place that a line names for it
abbrev pub place_named : DriveLine → Option Place
place_named (Key events) = None
place_named (Down key) = None
place_named (Up key) = None
place_named (Text text) = None
place_named (Move place) = Some place
place_named (Click press) = press.at
place_named (Double press) = press.at
place_named (Drag place) = Some place
place_named (Wheel way times) = None
place_named (Paste digits) = None
place_named (PasteFile name) = None
place_named (Save name part) = None
place_named (Expect name likeness) = None
place_named (Still n) = None
place_named (Wait n) = None
place_named (UntilChange part) = None
place_named (Timeout n) = None

-- it is there after the line, or where it was
abbrev pub place_or : Option Place → Place → Place
place_or None at = at
place_or (Some place) at = place
