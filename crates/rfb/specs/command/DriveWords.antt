-- What the words of `drive` ask for.
use Rattle.std.specs.Prelude.{◌≡◌, ◌⊎◌, Bool, true, false, List, codes, option_map}
use Rattle.clap.specs.Words.{Row, first_of}
use Rattle.rfb.specs.declared.driving.drive_words.DriveOptions.{DriveOptions}
use Rattle.rfb.specs.command.RelayWords.{GivesAllWants, GivesServerAlone, HasBadRelay}
use Rattle.rfb.specs.command.Values.{GivesNumber, HasNoWords, HasWords, IsAbsent, IsFlagged, IsThere}

-- lines are named: a file has them, or they are words
abbrev pub NamesLines : List Row → Type 0
NamesLines rows = IsThere (codes "input") rows ⊎ HasWords (codes "line") rows

abbrev pub NamesNoLines : List Row → Type 0
NamesNoLines rows = IsAbsent (codes "input") rows × HasNoWords (codes "line") rows

abbrev pub AreNamed : List Row → Bool → Type 0
AreNamed rows true = NamesLines rows
AreNamed rows false = NamesNoLines rows

-- they are named twice
abbrev pub NamesLinesTwice : List Row → Type 0
NamesLinesTwice rows = IsThere (codes "input") rows × HasWords (codes "line") rows

-- what `drive` is asked for
pub record GivesDriveOptions (rows : List Row) (options : DriveOptions) : Type 0 where
  pub server : GivesServerAlone rows options.server.host.now options.server.port
  pub timeout : GivesNumber (codes "timeout") 1 4294967295 rows options.timeout
  pub keep : option_map (λ name. name.now) options.keep ≡ first_of (codes "keep") rows
  pub tells : IsFlagged (codes "tell") rows options.tells_changes
  pub quiet : IsFlagged (codes "quiet") rows options.is_quiet
  pub has_lines : AreNamed rows options.has_lines
  pub wants : GivesAllWants rows options.wants

-- it names no server, or a word of its is no format, or no list of encodings; or it names its lines
-- twice
abbrev pub HasBadDrive : List Row → Type 0
HasBadDrive rows = HasBadRelay rows ⊎ NamesLinesTwice rows
