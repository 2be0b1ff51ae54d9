-- What the words of the command line ask for.
use Rattle.std.specs.Prelude.{◌≡◌, ◌≢◌, ◌⊎◌, ◌&&◌, not, nat_eq, Bool, true, false}
use Rattle.std.specs.Prelude.{List, [], ◌∷◌, Option, codes, filter}
use Rattle.std.specs.Cmp.Lexicographic.{pointwise}
use Rattle.clap.specs.Words.{HasKind, IsAmong, Row, Text, fault_of, kind_of}
use Rattle.clap.specs.declared.error.kind.ErrorKind.{ErrorKind}
use Rattle.clap.specs.declared.error.kind.ErrorKind.TheVariants.{DisplayHelp, DisplayVersion, OutOfMemory}
use Rattle.rfb.specs.declared.options.Order.{Order}
use Rattle.rfb.specs.declared.options.WrongWords.{WrongWords}
use Rattle.rfb.specs.declared.options.WrongWords.TheVariants.{Words, Value}
use Rattle.rfb.specs.command.Program.{HasBadValue, IsTask, asked, program}
use Rattle.rfb.specs.command.Values.{GivesFiles}

-- a word asks for sentences
abbrev pub is_explain : Text → Bool
is_explain word = pointwise nat_eq word (codes "--explain")

-- the words but those that do
abbrev pub plain_of : List Text → List Text
plain_of words = filter (λ word. not (is_explain word)) words

-- the words are those of a command
abbrev pub AreCommand : List Text → Type 0
AreCommand words = fault_of program words ≡ []

-- a command with its files
abbrev pub IsOrder : Option (Text × List Row) → Order → Type 0
IsOrder given order = IsTask given order.task × GivesFiles given order.paths

-- they ask for this
abbrev pub AreOrdered : List Text → Order → Type 0
AreOrdered words order = AreCommand words × IsOrder (asked words) order

-- the words ask for help, or for the version
abbrev pub AskForText : List Text → Type 0
AskForText words =
    IsAmong DisplayHelp (fault_of program words) ⊎ IsAmong DisplayVersion (fault_of program words)

-- a word is this one
abbrev pub is_word : Text → Text → Bool
is_word word other = pointwise nat_eq word other

-- the words after the program's name ask for the table of faults
abbrev pub ask_for_faults : List Text → Bool
ask_for_faults (name ∷ first ∷ second ∷ []) =
    is_word first (codes "help") && is_word second (codes "faults")
ask_for_faults _ = false

-- the words ask for something that there is
abbrev pub HaveMeaning : List Text → Type 0
HaveMeaning words =
    ((order : Order) × AreOrdered words order) ⊎ AskForText words ⊎ (ask_for_faults words ≡ true)

-- the words are none that there are
abbrev pub AreUnknown : List Text → Type 0
AreUnknown words =
    (kind : ErrorKind) × IsAmong kind (fault_of program words) × (kind ≢ DisplayHelp)
    × (kind ≢ DisplayVersion)

-- they are, but a value of an option is none that it may have
abbrev pub HaveBadValue : List Text → Type 0
HaveBadValue words = AreCommand words × HasBadValue (asked words)

-- the words ask for nothing that there is
abbrev pub AreMistaken : List Text → Type 0
AreMistaken words = AreUnknown words ⊎ HaveBadValue words

-- why they ask for no task
abbrev pub AreWrong : List Text → WrongWords → Type 0
AreWrong words (Words error) = HasKind (fault_of program words) error
AreWrong words (Value value) = HaveBadValue words

abbrev pub IsWrongValue : Option (Text × List Row) → WrongWords → Type 0
IsWrongValue given (Words error) = kind_of error ≡ OutOfMemory
IsWrongValue given (Value value) = HasBadValue given
