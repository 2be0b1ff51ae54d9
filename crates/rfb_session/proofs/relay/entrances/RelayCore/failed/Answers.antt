use Rattle.std.proofs.Common.{refl}
use Rattle.rfb_session.specs.doors.Events.{Failed}
use Rattle.rfb_session.proofs.RelayBesideLemmas.{lost_steps}
use Rattle.rfb_session.proofs.RelayStepLemmas.{server_same}
use Rattle.rfb_session.proofs.relay.entrances.RelayCore.failed.Goals as goal

pub returns-then-door-eq-SERVER : goal.returns-then-door-eq-SERVER
returns-then-door-eq-SERVER g c =
    lost_steps (Failed c.args.door) (λ does. does) c.if-door-eq-SERVER.true c.lose_server.ensures.loses
    c.lose_server.ensures.side.stays c.lose_server.ensures.given (server_same refl refl refl refl refl)
    c.close_room.ensures.keeps
