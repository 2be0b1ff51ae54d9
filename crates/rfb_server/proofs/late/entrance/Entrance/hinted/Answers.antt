use Rattle.std.proofs.Common.{refl, rules}
use Rattle.rfb_server.proofs.EnteringLemmas.{follows_entering}
use Rattle.rfb_server.proofs.late.entrance.Entrance.hinted.Goals as goal

pub returns-in-Some : goal.returns-in-Some
returns-in-Some c =
    record { follows = follows_entering c.args.self.now _ _ refl refl; kept = search rules; hints = search rules }

pub returns-in_default : goal.returns-in_default
returns-in_default c =
    record { follows = follows_entering c.args.self.now _ _ refl refl; kept = search rules; hints = search rules }
