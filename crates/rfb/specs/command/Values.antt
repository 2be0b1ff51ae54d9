-- What a word gives: a format, encodings, a number, a file, or that it is there.
use Rattle.std.specs.Prelude.{◌≡◌, ◌≤◌, ◌⊎◌, ℕ, Bool, true, false, List, [], ◌∷◌}
use Rattle.std.specs.Prelude.{◌++◌, Option, Some, None, codes}
use Rattle.std.specs.Prelude.{flat_map, option_map}
use Rattle.std.specs.Str.Parse.{IsNumeral, digits_value, without_leading_plus}
use Rattle.clap.specs.Words.{Row, Text, all_of, first_of, one_of}
use Rattle.rfb_pixel.specs.Format.{PixelFormat, rgb888}
use Rattle.rfb_wire.specs.declared.encoding.Encoding.{Encoding}
use Rattle.rfb.specs.declared.options.paths.Input.{Input}
use Rattle.rfb.specs.declared.options.paths.Input.TheVariants.{Standard, File, Lines}
use Rattle.rfb.specs.declared.options.paths.Paths.{Paths}
use Rattle.rfb.specs.declared.script.line.Wants.{Wants}
use Rattle.rfb_session.specs.language.Words.{AreEncodings, IsFormatWord, parts_of}

-- the format that is given by its name, or rgb888
abbrev pub NamesFormat : Option Text → PixelFormat → Type 0
NamesFormat None format = format ≡ rgb888
NamesFormat (Some word) format = IsFormatWord word format

abbrev pub GivesFormat : List Row → PixelFormat → Type 0
GivesFormat rows format = NamesFormat (first_of (codes "format") rows) format

-- a word for a format is the name of none
abbrev pub HasBadFormat : List Row → Type 0
HasBadFormat rows =
    (word : Text) × (first_of (codes "format") rows ≡ Some word)
    × ((format : PixelFormat) → ¬ (IsFormatWord word format))

-- the encodings that are given by their names, with commas between them, or these
abbrev pub NamesEncodings : List Encoding → Option Text → List Encoding → Type 0
NamesEncodings otherwise None encodings = encodings ≡ otherwise
NamesEncodings otherwise (Some list) encodings = AreEncodings (parts_of list) encodings

abbrev pub GivesEncodings : List Encoding → List Row → List Encoding → Type 0
GivesEncodings otherwise rows encodings =
    NamesEncodings otherwise (first_of (codes "encodings") rows) encodings

-- a list of encodings has a part that is the name of none, or too many
abbrev pub HasBadEncodings : List Row → Type 0
HasBadEncodings rows =
    (list : Text) × (first_of (codes "encodings") rows ≡ Some list)
    × ((encodings : List Encoding) → ¬ (AreEncodings (parts_of list) encodings))

-- what a server is asked for, in these encodings if none are given
pub record GivesWants (otherwise : List Encoding) (rows : List Row) (wants : Wants) : Type 0 where
  pub format : GivesFormat rows wants.format
  pub encodings : GivesEncodings otherwise rows wants.encodings.items

-- a word is no format, or no list of encodings
abbrev pub HasBadWants : List Row → Type 0
HasBadWants rows = HasBadFormat rows ⊎ HasBadEncodings rows

-- a number that is given by its digits, a plus before them or none, if it lies in the range
abbrev pub GivesNumber : Text → ℕ → ℕ → List Row → ℕ → Type 0
GivesNumber name least most rows n =
    (text : Text) → one_of name rows ≡ Some text → IsNumeral 10 (without_leading_plus text) →
    least ≤ digits_value 10 (without_leading_plus text) →
    digits_value 10 (without_leading_plus text) ≤ most →
    n ≡ digits_value 10 (without_leading_plus text)

-- the same of a number that may be left out
pub record MayGiveNumber (name : Text) (least most : ℕ) (rows : List Row) (n : Option ℕ)
    : Type 0 where
  pub absent : one_of name rows ≡ None → n ≡ None
  pub given : (text : Text) → one_of name rows ≡ Some text →
      IsNumeral 10 (without_leading_plus text) →
      least ≤ digits_value 10 (without_leading_plus text) →
      digits_value 10 (without_leading_plus text) ≤ most →
      n ≡ Some (digits_value 10 (without_leading_plus text))

-- a word that is given or not is there
abbrev pub IsFlagged : Text → List Row → Bool → Type 0
IsFlagged name rows flag =
    (one_of name rows ≡ Some (codes "true") → flag ≡ true)
    × (one_of name rows ≡ Some (codes "false") → flag ≡ false)

-- a word is given, or is not
abbrev pub IsAbsent : Text → List Row → Type 0
IsAbsent name rows = first_of name rows ≡ None

abbrev pub IsThere : Text → List Row → Type 0
IsThere name rows = (word : Text) × (first_of name rows ≡ Some word)

-- words that may be given as often as one likes are, or are not
abbrev pub HasNoWords : Text → List Row → Type 0
HasNoWords name rows = all_of name rows ≡ None

abbrev pub HasWords : Text → List Row → Type 0
HasWords name rows = (words : List Text) × (all_of name rows ≡ Some words)

-- words as lines, each with its end
abbrev pub as_lines : List Text → List ℕ
as_lines words = flat_map (λ word. word ++ 10 ∷ []) words

-- what is read: a file that is named, or else the words that are lines, or else standard input
abbrev pub GivesInput : List Row → Input → Type 0
GivesInput rows Standard = IsAbsent (codes "input") rows × HasNoWords (codes "line") rows
GivesInput rows (File path) = first_of (codes "input") rows ≡ Some path.now
GivesInput rows (Lines text) =
    IsAbsent (codes "input") rows
    × ((words : List Text) × (all_of (codes "line") rows ≡ Some words) × (text.items ≡ as_lines words))

-- what is named to be read and written
pub record GivesPaths (rows : List Row) (paths : Paths) : Type 0 where
  pub input : GivesInput rows paths.input
  pub output : option_map (λ path. path.now) paths.output ≡ first_of (codes "output") rows

-- the same of a command; where none is named nothing else is
abbrev pub GivesFiles : Option (Text × List Row) → Paths → Type 0
GivesFiles None paths = (paths.input ≡ Standard) × (paths.output ≡ None)
GivesFiles (Some (name, rows)) paths = GivesPaths rows paths

-- a number from 1 on that may be left out, and is this one then
pub record GivesOr (name : Text) (most otherwise : ℕ) (rows : List Row) (n : ℕ) : Type 0 where
  pub absent : one_of name rows ≡ None → n ≡ otherwise
  pub given : GivesNumber name 1 most rows n

-- the word that is given, or else this one
abbrev pub NamesWord : Text → Option Text → Text → Type 0
NamesWord default None word = word ≡ default
NamesWord default (Some given) word = word ≡ given

-- the address that is given, or else the loopback address
abbrev pub NamesHost : Option Text → Text → Type 0
NamesHost given host = NamesWord (codes "127.0.0.1") given host
