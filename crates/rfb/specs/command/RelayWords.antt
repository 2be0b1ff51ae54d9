-- What the words of `relay` ask for.
use Rattle.std.specs.Prelude.{◌≡◌, ◌⊎◌, ℕ, List, [], ◌∷◌, Some, codes, option_map}
use Rattle.clap.specs.Words.{Row, Text, first_of}
use Rattle.rfb_wire.specs.declared.encoding.Encoding.TheVariants.{CopyRect, Hextile, Raw, Rre}
use Rattle.rfb.specs.declared.relaying.relay_words.RelayOptions.{RelayOptions}
use Rattle.rfb.specs.declared.script.line.Wants.{Wants}
use Rattle.rfb.specs.Address.{IsAddress}
use Rattle.rfb.specs.command.HostingWords.{GivesHosting}
use Rattle.rfb.specs.command.Values.{GivesWants, HasBadWants, IsAbsent, MayGiveNumber}

-- the server that is given, by a word alone
abbrev pub GivesServerAlone : List Row → Text → ℕ → Type 0
GivesServerAlone rows host port =
    (word : Text) × (first_of (codes "server") rows ≡ Some word) × IsAddress word host port

-- none is, or the word names none
abbrev pub HasNoServer : List Row → Type 0
HasNoServer rows =
    IsAbsent (codes "server") rows
    ⊎ ((word : Text) × (first_of (codes "server") rows ≡ Some word)
    × ((host : Text) (port : ℕ) → ¬ (IsAddress word host port)))

-- what the server is asked for, in all encodings if none are given
abbrev pub GivesAllWants : List Row → Wants → Type 0
GivesAllWants = GivesWants (CopyRect ∷ Hextile ∷ Rre ∷ Raw ∷ [])

-- what `relay` is asked for
pub record GivesRelayOptions (rows : List Row) (options : RelayOptions) : Type 0 where
  pub server : GivesServerAlone rows options.server.host.now options.server.port
  pub hosting : GivesHosting rows options.hosting
  pub name : option_map (λ name. name.now) options.name ≡ first_of (codes "name") rows
  pub retry : MayGiveNumber (codes "retry") 1 4294967295 rows options.retry
  pub wants : GivesAllWants rows options.wants

-- a word of `relay` is no format, or no list of encodings; or it names no server
abbrev pub HasBadRelay : List Row → Type 0
HasBadRelay rows = HasNoServer rows ⊎ HasBadWants rows
