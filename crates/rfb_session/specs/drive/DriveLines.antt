-- The lines of a rig: what each says.
use Rattle.std.specs.Prelude.{◌≡◌, ◌==◌, ◌&&◌, ℕ, Bool, true, List, [], ◌∷◌, Option, None, Some}
use Rattle.std.specs.Prelude.{if◌then◌else◌}
use Rattle.std.specs.Option.{is_some}
use Rattle.std.specs.Str.{IsUtf8, chars}
use Rattle.rfb_session.specs.declared.drive.drive_line.DriveLine.{DriveLine}
use Rattle.rfb_session.specs.declared.drive.drive_line.DriveLine.TheVariants.{Key, Down, Up, Text}
use Rattle.rfb_session.specs.declared.drive.drive_line.DriveLine.TheVariants.{Move}
use Rattle.rfb_session.specs.declared.drive.drive_line.DriveLine.TheVariants.{Click, Double, Drag}
use Rattle.rfb_session.specs.declared.drive.drive_line.DriveLine.TheVariants.{Wheel, Paste}
use Rattle.rfb_session.specs.declared.drive.drive_line.DriveLine.TheVariants.{PasteFile, Save}
use Rattle.rfb_session.specs.declared.drive.drive_line.DriveLine.TheVariants.{Expect, Still, Wait}
use Rattle.rfb_session.specs.declared.drive.drive_line.DriveLine.TheVariants.{UntilChange, Timeout}
use Rattle.rfb_session.specs.declared.drive.drive_line.BadLine.{BadLine}
use Rattle.rfb_session.specs.declared.drive.drive_line.BadLine.TheVariants.{Unknown, Wants}
use Rattle.rfb_session.specs.declared.drive.keyword.Keyword.{Keyword}
use Rattle.rfb_session.specs.declared.drive.keyword.Keyword.TheVariants as Of
use Rattle.rfb_session.specs.drive.Arguments.{AreDigitsAlone, ArePresses, IsFile, IsFileAlone}
use Rattle.rfb_session.specs.drive.Arguments.{IsKeyAlone, IsLikeness}
use Rattle.rfb_session.specs.drive.Arguments.{AreSeconds, IsPart, IsPlace, IsPress, IsWheel}
use Rattle.rfb_picture.specs.declared.rect.Rect.{Rect}
use Rattle.rfb_session.specs.declared.drive.words.Likeness.{Likeness}
use Rattle.rfb_session.specs.drive.Keywords.{keyword_named}
use Rattle.rfb_session.specs.drive.Characters.{key_of_char}
use Rattle.rfb_session.specs.language.Words.{words_of}

-- ---- the first word, and what comes after it

-- the bytes before the first space, or all
abbrev pub first_word : List ℕ → List ℕ
first_word [] = []
first_word (byte ∷ line) = if byte == 32 then [] else byte ∷ first_word line

-- the bytes after the first space, if there is one
abbrev pub after_word : List ℕ → Option (List ℕ)
after_word [] = None
after_word (byte ∷ line) = if byte == 32 then Some line else after_word line

-- the words of what comes after the first word
abbrev pub words_after : Option (List ℕ) → List (List ℕ)
words_after None = []
words_after (Some rest) = words_of rest

-- ---- what a line says

-- each character has a key
abbrev pub are_typed : List ℕ → Bool
are_typed [] = true
are_typed (c ∷ text) = is_some (key_of_char c) && are_typed text

-- what comes after the word is a text that a keyboard types
abbrev pub IsText : Option (List ℕ) → List ℕ → Type 0
IsText None text = ⊥
IsText (Some rest) text =
    (text ≡ rest) × IsUtf8 rest × (are_typed (chars rest) ≡ true)

-- a file, and a part of the screen or nothing
abbrev pub IsSaved : List (List ℕ) → List ℕ → Option Rect → Type 0
IsSaved [] name part = ⊥
IsSaved (word ∷ words) name part = IsFile word name × IsPart words part

-- a file, and where and how near its picture is to be
abbrev pub IsExpected : List (List ℕ) → List ℕ → Likeness → Type 0
IsExpected [] name likeness = ⊥
IsExpected (word ∷ words) name likeness = IsFile word name × IsLikeness words likeness

-- the keyword of what is said
abbrev pub kind_of : DriveLine → Keyword
kind_of (Key events) = Of.Key
kind_of (Down key) = Of.Down
kind_of (Up key) = Of.Up
kind_of (Text text) = Of.Text
kind_of (Move place) = Of.Move
kind_of (Click press) = Of.Click
kind_of (Double press) = Of.Double
kind_of (Drag place) = Of.Drag
kind_of (Wheel way n) = Of.Wheel
kind_of (Paste digits) = Of.Paste
kind_of (PasteFile name) = Of.PasteFile
kind_of (Save name part) = Of.Save
kind_of (Expect name likeness) = Of.Expect
kind_of (Still n) = Of.Still
kind_of (Wait n) = Of.Wait
kind_of (UntilChange part) = Of.UntilChange
kind_of (Timeout n) = Of.Timeout

-- the words after the first say it
abbrev pub AreWords : List (List ℕ) → DriveLine → Type 0
AreWords words (Key events) = ArePresses words events.items
AreWords words (Down key) = IsKeyAlone words key
AreWords words (Up key) = IsKeyAlone words key
AreWords words (Text text) = ⊥
AreWords words (Move place) = IsPlace words place
AreWords words (Click press) = IsPress words press
AreWords words (Double press) = IsPress words press
AreWords words (Drag place) = IsPlace words place
AreWords words (Wheel way n) = IsWheel words way n
AreWords words (Paste digits) = AreDigitsAlone words digits.now
AreWords words (PasteFile name) = IsFileAlone words name.now
AreWords words (Save name part) = IsSaved words name.now part
AreWords words (Expect name likeness) = IsExpected words name.now likeness
AreWords words (Still n) = AreSeconds words n
AreWords words (Wait n) = AreSeconds words n
AreWords words (UntilChange part) = IsPart words part
AreWords words (Timeout n) = AreSeconds words n

-- what comes after the first word says it; a text is all that comes, with its spaces
abbrev pub AreArguments : Option (List ℕ) → DriveLine → Type 0
AreArguments rest (Text text) = IsText rest text.now
AreArguments rest said = AreWords (words_after rest) said

-- a line says it
abbrev pub Says : List ℕ → DriveLine → Type 0
Says line said =
    (keyword_named (first_word line) ≡ Some (kind_of said)) × AreArguments (after_word line) said

-- a line says nothing, and why
abbrev pub SaysNone : List ℕ → BadLine → Type 0
SaysNone line Unknown = keyword_named (first_word line) ≡ None
SaysNone line (Wants keyword) =
    (keyword_named (first_word line) ≡ Some keyword)
    × ((said : DriveLine) → ¬ (Says line said))

-- ---- what is read after a keyword

-- these words say nothing of that kind
abbrev pub SayNothing : Keyword → List (List ℕ) → Type 0
SayNothing keyword words =
    (said : DriveLine) → kind_of said ≡ keyword → ¬ (AreWords words said)

-- they say this
abbrev pub SayOf : Keyword → List (List ℕ) → DriveLine → Type 0
SayOf keyword words said = (kind_of said ≡ keyword) × AreWords words said

-- the same of all that comes after it
abbrev pub ArgueNothing : Keyword → Option (List ℕ) → Type 0
ArgueNothing keyword rest =
    (said : DriveLine) → kind_of said ≡ keyword → ¬ (AreArguments rest said)

abbrev pub ArgueOf : Keyword → Option (List ℕ) → DriveLine → Type 0
ArgueOf keyword rest said = (kind_of said ≡ keyword) × AreArguments rest said
