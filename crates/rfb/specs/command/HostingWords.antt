-- What the words that `share` and `relay` both have ask for.
use Rattle.std.specs.Prelude.{◌≤◌, List, codes}
use Rattle.clap.specs.Words.{Row, first_of}
use Rattle.rfb.specs.declared.sharing.hosting.Hosting.{Hosting}
use Rattle.rfb.specs.command.Values.{GivesNumber, IsFlagged, MayGiveNumber, NamesHost}

-- where viewers come, how many, and what they may do
pub record GivesHosting (rows : List Row) (hosting : Hosting) : Type 0 where
  pub listen : NamesHost (first_of (codes "listen") rows) hosting.listen.now
  pub port : GivesNumber (codes "port") 1 65535 rows hosting.port
  pub viewers : GivesNumber (codes "viewers") 1 8 rows hosting.viewers
  pub few : (1 ≤ hosting.viewers) × (hosting.viewers ≤ 8)
  pub until_idle : IsFlagged (codes "until-idle") rows hosting.until_idle
  pub handshake : GivesNumber (codes "handshake") 1 4294967295 rows hosting.handshake
  pub timeout : MayGiveNumber (codes "timeout") 1 4294967295 rows hosting.timeout
  pub always_shared : IsFlagged (codes "always-shared") rows hosting.is_always_shared
  pub view_only : IsFlagged (codes "view-only") rows hosting.is_view_only
  pub quiet : IsFlagged (codes "quiet") rows hosting.is_quiet
