use Rattle.std.proofs.Common.{take}
use Rattle.rfb_session.proofs.ConsoleLemmas.{received_then, stays_then}
use Rattle.rfb_session.proofs.console.entrances.ConsoleCore.received.Goals as goal

pub returns-clause-steps : goal.returns-clause-steps
returns-clause-steps g c =
    let hears = c.hear_at-used.ensures in
    let keeps = c.spend.ensures.rooms in
    record {
      does = received_then c.args.self.now c.hear_at-used.new.self c.spend.new.self c.args.door
          (take c.hear_at-used.result c.args.bytes.now) hears.does keeps;
      ends = rw (keeps.desk, keeps.outcome) hears.ends;
      left = tt;
      stays = stays_then c.args.self.now c.hear_at-used.new.self c.spend.new.self hears.stays keeps.stays;
    }
