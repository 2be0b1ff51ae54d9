use Rattle.std.proofs.Common.{Result, IfOk, IfErr, refl, subst}
use Rattle.rfb_hello.specs.declared.fed.Fed.{Fed}
use Rattle.rfb_viewer.specs.declared.event.ViewerEvent.{ViewerEvent}
use Rattle.rfb_viewer.specs.declared.fault.ViewerFault.{ViewerFault}
use Rattle.rfb_session.specs.relay.Desk.{FeedsDesk, FailsDesk}
use Rattle.rfb_session.specs.relay.Server.{FailedOn, NoViewer}
use Rattle.rfb_session.proofs.RelayStepLemmas.{server_same, shown_so}
use Rattle.rfb_session.proofs.relay.Relay.hear_shown.Goals as goal

pub returns-in-Some-Ok-clause-hears : goal.returns-in-Some-Ok-clause-hears
returns-in-Some-Ok-clause-hears g c =
    shown_so c.args.self.now _ c.in-Some.desk c.hear_server.new.self c.args.bytes.now c.in-Some-Ok.field-0-0
    c.heed.new.self
    c.in-Some.is
    (subst (λ (r : Result (Fed ViewerEvent) ViewerFault). IfOk r (λ fed.
    FeedsDesk c.in-Some.desk c.args.bytes.now fed c.hear_server.new.self)) c.in-Some-Ok.field-0-is
    c.in-Some-Ok.ensures.feeds) refl refl
    (server_same refl refl refl refl refl)
    c.heed.ensures.heeds

pub returns-in-Some-Err-clause-hears : goal.returns-in-Some-Err-clause-hears
returns-in-Some-Err-clause-hears g c =
    FailedOn c.in-Some.desk _ c.hear_server.new.self c.in-Some-Err.fault c.in-Some.is refl
    (subst (λ (r : Result (Fed ViewerEvent) ViewerFault). IfErr r (λ fault.
    FailsDesk c.in-Some.desk c.args.bytes.now fault c.hear_server.new.self)) c.in-Some-Err.field-0-is
    c.in-Some-Err.ensures.fails) refl
    (server_same refl refl refl refl refl)
    c.lose_server.ensures.loses

pub returns-in-None-clause-hears : goal.returns-in-None-clause-hears
returns-in-None-clause-hears g c =
    NoViewer c.in-Some.desk c.hear_server.new.self c.in-Some.is (c.in-None.ensures.none.0 refl) refl
    (c.in-None.ensures.kept refl) refl refl
    (server_same refl refl refl refl refl)
