use Rattle.std.proofs.Common.{false}
use Rattle.rfb_session.proofs.SendingLemmas.{keyed_more}
use Rattle.rfb_session.proofs.drive.driver.sending.spell_keys.Goals as goal

pub loop-event-preserved : goal.loop-event-preserved
loop-event-preserved c =
    keyed_more _ _ _ c.args.events.now c.loop-event.event-index (record { down = false; key = 0 })
    c.loop-event-test.true
    c.loop-event.invariant c.in_ok-spell_key.ensures
