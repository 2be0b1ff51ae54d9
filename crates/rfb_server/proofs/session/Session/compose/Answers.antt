use Rattle.std.proofs.lemmas.Result.{IfOk-weaker, IfErr-weaker}
use Rattle.rfb_server.specs.update.Composed.{IsAwaited}
use Rattle.rfb_server.specs.session.Sessions.{IsSame}
use Rattle.rfb_server.proofs.UpdatingLemmas.{sends, owes, owes_none, keeps_session, appends}
use Rattle.rfb_server.proofs.session.Session.compose.Goals as goal

pub returns-clause-composed : goal.returns-clause-composed
returns-clause-composed c =
    IfOk-weaker c.send_due.result _ _ (λ did h e. sends c.args.screen.now c.args.self.now _ c.args.out.now.items
    c.send_due.new.out.items (h e)) c.send_due.ensures.composed

pub returns-clause-idle : goal.returns-clause-idle
returns-clause-idle c =
    IfOk-weaker c.send_due.result _ _ (λ did h e. owes_none c.args.screen.now c.args.self.now _ c.args.out.now.items
    c.send_due.new.out.items (h e)) c.send_due.ensures.idle

pub returns-clause-due : goal.returns-clause-due
returns-clause-due c =
    IfErr-weaker c.send_due.result (λ _. IsAwaited c.args.screen.now c.args.self.now) _
    (λ _ awaited. owes c.args.screen.now c.args.self.now awaited) c.send_due.ensures.due

pub returns-clause-same : goal.returns-clause-same
returns-clause-same c =
    IfErr-weaker c.send_due.result (λ _. IsSame c.args.self.now c.send_due.new.self) _
    (λ _ same. keeps_session c.args.self.now _ same) c.send_due.ensures.same

pub returns-clause-appended : goal.returns-clause-appended
returns-clause-appended c =
    appends c.args.screen.now c.args.self.now c.send_due.new.self c.args.out.now.items
    c.send_due.new.out.items c.send_due.result
    c.send_due.ensures.composed c.send_due.ensures.idle c.send_due.ensures.kept
