use Rattle.std.proofs.Common.{refl}
use Rattle.rfb_session.proofs.ConsoleLemmas.{stays_then}
use Rattle.rfb_session.proofs.relay.entrances.RelayCore.received.Goals as goal

pub returns-clause-steps : goal.returns-clause-steps
returns-clause-steps g c =
    let hears = c.hear_at-used.ensures in
    let keeps = c.spend.ensures.rooms in
    record {
      does = record {
        mid = c.hear_at-used.new.self;
        done = (c.args.bytes.now, c.hear_at-used.result, refl, hears.hears);
        keeps = record {
          server = assumption refl;
          console = keeps;
        };
      };
      stays = stays_then c.args.self.now.console c.hear_at-used.new.self.console c.spend.new.self hears.side.stays
          keeps.stays;
      given = hears.given;
    }
