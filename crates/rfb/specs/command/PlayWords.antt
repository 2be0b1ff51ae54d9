-- What the words of `play` ask for.
use Rattle.std.specs.Prelude.{List, codes}
use Rattle.clap.specs.Words.{Row}
use Rattle.rfb.specs.declared.play.play_options.PlayOptions.{PlayOptions}
use Rattle.rfb.specs.command.Values.{GivesFormat, IsFlagged, MayGiveNumber}

-- what `play` is asked for
pub record GivesPlayOptions (rows : List Row) (options : PlayOptions) : Type 0 where
  pub format : GivesFormat rows options.format
  pub updates : MayGiveNumber (codes "updates") 1 4294967295 rows options.updates
  pub is_partial : IsFlagged (codes "partial") rows options.is_partial
