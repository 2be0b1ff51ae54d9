use Rattle.rfb_session.proofs.SendingLemmas.{clicked_more}
use Rattle.rfb_session.proofs.drive.driver.sending.spell_clicks.Goals as goal

pub loop-time-preserved : goal.loop-time-preserved
loop-time-preserved c =
    clicked_more _ _ _ _ c.args.buttons c.args.at c.loop-time._time c.loop-time.invariant
    c.in_ok-spell_pointer.ensures c.in_ok-spell_pointer-2.ensures
