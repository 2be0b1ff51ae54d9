-- What the words of `share` ask for.
use Rattle.std.specs.Prelude.{List, codes}
use Rattle.clap.specs.Words.{Row, first_of}
use Rattle.rfb.specs.declared.sharing.share_words.ShareOptions.{ShareOptions}
use Rattle.rfb.specs.command.HostingWords.{GivesHosting}
use Rattle.rfb.specs.command.Values.{GivesNumber, NamesWord}

-- what `share` is asked for
pub record GivesShareOptions (rows : List Row) (options : ShareOptions) : Type 0 where
  pub hosting : GivesHosting rows options.hosting
  pub name : NamesWord (codes "rfb") (first_of (codes "name") rows) options.name.now
  pub hold : GivesNumber (codes "hold") 1 4294967295 rows options.hold
