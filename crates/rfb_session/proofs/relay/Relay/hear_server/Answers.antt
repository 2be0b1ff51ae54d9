use Rattle.std.proofs.Common.{◌∙◌, refl, sym}
use Rattle.rfb_session.specs.relay.Server.{Comes, Shows}
use Rattle.rfb_session.proofs.RelayStepLemmas.{viewer_taken}
use Rattle.rfb_session.proofs.relay.Relay.hear_server.Goals as goal

pub returns-in-Some-clause-hears : goal.returns-in-Some-clause-hears
returns-in-Some-clause-hears g c =
    Comes c.in-Some.viewer (sym c.take.ensures.value ∙ c.in-Some.is) _
    (viewer_taken c.take.ensures.after refl refl refl refl) c.hear_coming.ensures.hears

pub returns-in-None-clause-hears : goal.returns-in-None-clause-hears
returns-in-None-clause-hears g c =
    Shows (sym c.take.ensures.value ∙ c.in-None.is) _ (viewer_taken c.take.ensures.after refl refl refl refl)
    c.hear_shown.ensures.hears
