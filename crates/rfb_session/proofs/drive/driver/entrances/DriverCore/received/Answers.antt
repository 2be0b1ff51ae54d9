use Rattle.rfb_session.proofs.DriverStepLemmas.{room_left}
use Rattle.rfb_session.proofs.drive.driver.entrances.DriverCore.received.Goals as goal

pub returns-clause-room : goal.returns-clause-room
returns-clause-room g c =
    room_left c.args.self.now c.hear_at-used.new.self c.spend.new.self c.args.door c.args.bytes.now
    c.hear_at-used.result c.hear_at-used.ensures.hears c.spend.ensures
