-- What the words of `view` ask for.
use Rattle.std.specs.Prelude.{◌⊎◌, ℕ, true, false, List, [], ◌∷◌, Option, codes}
use Rattle.clap.specs.Words.{Row, Text, first_of}
use Rattle.rfb_wire.specs.declared.encoding.Encoding.TheVariants.{Raw}
use Rattle.rfb.specs.declared.options.address.Peer.{Peer}
use Rattle.rfb.specs.declared.viewing.view_options.ViewOptions.{ViewOptions}
use Rattle.rfb.specs.declared.viewing.view_options.Sight.{Sight}
use Rattle.rfb.specs.declared.viewing.film.FollowOptions.{FollowOptions}
use Rattle.rfb.specs.declared.viewing.film.Film.{Film}
use Rattle.rfb.specs.Address.{GivesServer}
use Rattle.rfb.specs.command.Values.{GivesWants, HasBadWants}
use Rattle.rfb.specs.command.Values.{GivesOr, IsAbsent, IsFlagged, IsThere, MayGiveNumber}

-- the server that is given
abbrev pub NamesServer : List Row → Option ℕ → Text → ℕ → Type 0
NamesServer rows number host port =
    GivesServer (first_of (codes "server") rows) (first_of (codes "host") rows) number host port

abbrev pub GivesAddress : List Row → Text → ℕ → Type 0
GivesAddress rows host port =
    (number : Option ℕ) × MayGiveNumber (codes "port") 1 65535 rows number
    × NamesServer rows number host port

-- none is, or what is given names none
abbrev pub HasBadAddress : List Row → Type 0
HasBadAddress rows =
    (number : Option ℕ) × MayGiveNumber (codes "port") 1 65535 rows number
    × ((host : Text) (port : ℕ) → ¬ (NamesServer rows number host port))

-- a server is given, and how many seconds are waited for it
pub record GivesPeer (rows : List Row) (peer : Peer) : Type 0 where
  pub address : GivesAddress rows peer.address.host.now peer.address.port
  pub timeout : MayGiveNumber (codes "timeout") 1 4294967295 rows peer.timeout

-- what is to be seen of a server
pub record GivesSight (rows : List Row) (sight : Sight) : Type 0 where
  pub wants : GivesWants (Raw ∷ []) rows sight.wants
  pub updates : GivesOr (codes "updates") 4294967295 1 rows sight.updates
  pub is_recorded : IsFlagged (codes "record") rows sight.is_recorded
  pub is_partial : IsFlagged (codes "partial") rows sight.is_partial

-- what `view` is asked for, where one picture is wanted
pub record GivesViewOptions (rows : List Row) (options : ViewOptions) : Type 0 where
  pub unpaced : IsAbsent (codes "fps") rows
  pub peer : GivesPeer rows options.peer
  pub sight : GivesSight rows options.sight

-- a word of `view` is no format, or no list of encodings; or it names no server, or says how many
-- pictures there are in a second
abbrev pub HasBadLook : List Row → Type 0
HasBadLook rows = HasBadAddress rows ⊎ HasBadWants rows ⊎ IsThere (codes "fps") rows

-- where a picture is wanted after each update: what is to be seen
pub record GivesFilm (rows : List Row) (film : Film) : Type 0 where
  pub wants : GivesWants (Raw ∷ []) rows film.wants
  pub updates : MayGiveNumber (codes "updates") 1 4294967295 rows film.updates
  pub rate : GivesOr (codes "fps") 1000 30 rows film.rate

-- what `view` is asked for then
pub record GivesFollowOptions (rows : List Row) (options : FollowOptions) : Type 0 where
  pub unrecorded : IsFlagged (codes "record") rows false
  pub whole : IsFlagged (codes "partial") rows false
  pub peer : GivesPeer rows options.peer
  pub film : GivesFilm rows options.film

-- it names no server, or a word is no format, or no list of encodings; or a recording is wanted, or a part of a
-- picture
abbrev pub HasBadFollow : List Row → Type 0
HasBadFollow rows =
    HasBadAddress rows ⊎ HasBadWants rows ⊎ IsFlagged (codes "record") rows true
    ⊎ IsFlagged (codes "partial") rows true

-- where one picture is wanted, or one after each update
pub data HasBadView (rows : List Row) : Type 0 where
  BadOnce : IsFlagged (codes "follow") rows false → HasBadLook rows → HasBadView rows
  BadAlways : IsFlagged (codes "follow") rows true → HasBadFollow rows → HasBadView rows
