-- The words after the first of a line, each kind by itself.
use Rattle.std.specs.Prelude.{◌≡◌, ◌≢◌, ◌==◌, ◌&&◌, ◌%◌, ◌≤◌, ℕ, Bool, true, List, [], ◌∷◌, ◌++◌}
use Rattle.std.specs.Prelude.{Option, None, Some, codes, length}
use Rattle.std.specs.Str.Parse.{digits_value}
use Rattle.rfb_picture.specs.declared.rect.Rect.{Rect}
use Rattle.rfb_session.specs.declared.drive.key_event.KeyEvent.{KeyEvent}
use Rattle.rfb_session.specs.declared.drive.words.Likeness.{Likeness}
use Rattle.rfb_session.specs.declared.drive.words.Place.{Place}
use Rattle.rfb_session.specs.declared.drive.words.Press.{Press}
use Rattle.rfb_session.specs.declared.drive.words.Way.{Way}
use Rattle.rfb_session.specs.declared.drive.words.Way.TheVariants.{Up, Down}
use Rattle.rfb_session.specs.drive.Keys.{IsCombination, are_hex_digits, key_of, pressing}
use Rattle.rfb_session.specs.language.Number.{IsCount}
use Rattle.rfb_session.specs.language.Words.{AreRect, IsNumberOf, IsSlotWord}

-- ---- keys

-- the keys of each word go down and up, a word after another
abbrev pub GoInTurn : List (List ℕ) → List KeyEvent → Type 0
GoInTurn [] events = events ≡ []
GoInTurn (word ∷ words) events =
    (keys : List ℕ) × (more : List KeyEvent) × IsCombination word keys
    × GoInTurn words more × (events ≡ pressing keys ++ more)

-- the same of one to eight words
abbrev pub ArePresses : List (List ℕ) → List KeyEvent → Type 0
ArePresses words events =
    GoInTurn words events × (1 ≤ length words) × (length words ≤ 8)

-- one key, by its name
abbrev pub IsKeyAlone : List (List ℕ) → ℕ → Type 0
IsKeyAlone (name ∷ []) key = key_of name ≡ Some key
IsKeyAlone words key = ⊥

-- ---- numbers and places

-- one number of seconds, below 2 to the 32nd
abbrev pub AreSeconds : List (List ℕ) → ℕ → Type 0
AreSeconds (word ∷ []) n = IsCount word × (n ≡ digits_value 10 word)
AreSeconds words n = ⊥

-- two words are the numbers of a place
abbrev pub IsAt : List ℕ → List ℕ → Place → Type 0
IsAt x y place = IsNumberOf x place.x × IsNumberOf y place.y

abbrev pub IsPlace : List (List ℕ) → Place → Type 0
IsPlace (x ∷ y ∷ []) place = IsAt x y place
IsPlace words place = ⊥

-- the same of a place that there is
abbrev pub IsAtSome : List ℕ → List ℕ → Option Place → Type 0
IsAtSome x y None = ⊥
IsAtSome x y (Some place) = IsAt x y place

-- nothing, or a rectangle
abbrev pub IsPart : List (List ℕ) → Option Rect → Type 0
IsPart [] None = Unit {0}
IsPart (x ∷ y ∷ w ∷ h ∷ []) (Some rect) = AreRect x y w h rect
IsPart words part = ⊥

-- ---- the pointer

-- a word is one digit, 1 to 8
abbrev pub IsButton : List ℕ → ℕ → Type 0
IsButton word button = IsSlotWord word button × (1 ≤ button) × (button ≤ 8)

-- a button, the first where none is named, and a place or none
abbrev pub IsPress : List (List ℕ) → Press → Type 0
IsPress [] press = (press.button ≡ 1) × (press.at ≡ None)
IsPress (button ∷ []) press = IsButton button press.button × (press.at ≡ None)
IsPress (x ∷ y ∷ []) press = (press.button ≡ 1) × IsAtSome x y press.at
IsPress (button ∷ x ∷ y ∷ []) press = IsButton button press.button × IsAtSome x y press.at
IsPress words press = ⊥

abbrev pub IsWay : List ℕ → Way → Type 0
IsWay word Up = word ≡ codes "up"
IsWay word Down = word ≡ codes "down"

-- which way a wheel turns, and how many times
abbrev pub IsWheel : List (List ℕ) → Way → ℕ → Type 0
IsWheel (word ∷ times ∷ []) way n = IsWay word way × IsNumberOf times n
IsWheel words way n = ⊥

-- ---- pictures, files and bytes

-- the top left place
abbrev pub corner : Place
corner = record { x = 0; y = 0 }

-- the word, and a number of 255
abbrev pub IsWithin : List ℕ → List ℕ → ℕ → Type 0
IsWithin word number within =
    (word ≡ codes "within") × IsNumberOf number within × (within ≤ 255)

-- the word, and a place
abbrev pub IsAfterAt : List ℕ → List ℕ → List ℕ → Place → Type 0
IsAfterAt word x y place = (word ≡ codes "at") × IsAt x y place

-- where a picture is to be, the corner where no place is named, and how far it may be off
abbrev pub IsLikeness : List (List ℕ) → Likeness → Type 0
IsLikeness [] likeness = (likeness.at ≡ corner) × (likeness.within ≡ 0)
IsLikeness (word ∷ n ∷ []) likeness =
    IsWithin word n likeness.within × (likeness.at ≡ corner)
IsLikeness (word ∷ x ∷ y ∷ []) likeness =
    IsAfterAt word x y likeness.at × (likeness.within ≡ 0)
IsLikeness (word ∷ x ∷ y ∷ other ∷ n ∷ []) likeness =
    IsAfterAt word x y likeness.at × IsWithin other n likeness.within
IsLikeness words likeness = ⊥

-- hexadecimal digits, two for each byte
abbrev pub are_byte_digits : List ℕ → Bool
are_byte_digits word = are_hex_digits word && (length word % 2 == 0)

abbrev pub AreDigitsAlone : List (List ℕ) → List ℕ → Type 0
AreDigitsAlone (word ∷ []) digits = (digits ≡ word) × (are_byte_digits word ≡ true)
AreDigitsAlone words digits = ⊥

-- any word but an empty one is the name of a file
abbrev pub IsFile : List ℕ → List ℕ → Type 0
IsFile word name = (name ≡ word) × (word ≢ [])

abbrev pub IsFileAlone : List (List ℕ) → List ℕ → Type 0
IsFileAlone (word ∷ []) name = IsFile word name
IsFileAlone words name = ⊥
