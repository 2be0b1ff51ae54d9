-- What the words of `serve` ask for.
use Rattle.std.specs.Prelude.{◌≡◌, ◌⊎◌, ℕ, Bool, true, false, List, Some, codes}
use Rattle.clap.specs.Words.{Row, first_of}
use Rattle.rfb.specs.declared.serving.serve_words.ScreenChoice.{ScreenChoice}
use Rattle.rfb.specs.declared.serving.serve_words.ScreenChoice.TheVariants.{Scene, Picture}
use Rattle.rfb.specs.declared.serving.serve_words.ServeOptions.{ServeOptions}
use Rattle.rfb.specs.command.Values.{GivesNumber, MayGiveNumber, IsFlagged, NamesHost, GivesOr, IsAbsent, IsThere}

-- what is shown: a picture, which has its own size, or the test scene
abbrev pub GivesScreen : List Row → ScreenChoice → Type 0
GivesScreen rows (Picture path) =
    (first_of (codes "picture") rows ≡ Some path.now) × IsAbsent (codes "width") rows
    × IsAbsent (codes "height") rows
GivesScreen rows (Scene size) =
    IsAbsent (codes "picture") rows × GivesOr (codes "width") 4096 64 rows size.width
    × GivesOr (codes "height") 4096 64 rows size.height

-- or a picture of another size
abbrev pub HasBadScreen : List Row → Type 0
HasBadScreen rows =
    IsThere (codes "picture") rows × (IsThere (codes "width") rows ⊎ IsThere (codes "height") rows)

-- how many connections are served: a number, or as many as can be counted
abbrev pub CountsConnections : Bool → List Row → ℕ → Type 0
CountsConnections true rows n = IsAbsent (codes "connections") rows × (n ≡ 18446744073709551615)
CountsConnections false rows n = GivesOr (codes "connections") 65535 1 rows n

abbrev pub GivesConnections : List Row → ℕ → Type 0
GivesConnections rows n =
    (is_endless : Bool) × IsFlagged (codes "forever") rows is_endless
    × CountsConnections is_endless rows n

-- or both
abbrev pub HasBadConnections : List Row → Type 0
HasBadConnections rows =
    IsFlagged (codes "forever") rows true × IsThere (codes "connections") rows

-- what `serve` is asked for
pub record GivesServeOptions (rows : List Row) (options : ServeOptions) : Type 0 where
  pub port : GivesNumber (codes "port") 1 65535 rows options.port
  pub listen : NamesHost (first_of (codes "listen") rows) options.listen.now
  pub screen : GivesScreen rows options.screen
  pub connections : GivesConnections rows options.connections
  pub timeout : MayGiveNumber (codes "timeout") 1 4294967295 rows options.timeout

-- words that go with no other
abbrev pub HasBadServe : List Row → Type 0
HasBadServe rows = HasBadScreen rows ⊎ HasBadConnections rows
