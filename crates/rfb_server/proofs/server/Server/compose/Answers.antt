use Rattle.std.proofs.Common.{refl}
use Rattle.std.proofs.lemmas.Result.{IfOk-weaker, IfErr-weaker}
use Rattle.rfb_server.specs.Model.{KeepsSession}
use Rattle.rfb_server.proofs.UpdatingLemmas.{draws}
use Rattle.rfb_server.proofs.server.Server.compose.Goals as goal

pub returns-clause-composed : goal.returns-clause-composed
returns-clause-composed c =
    IfOk-weaker c.compose.result _ _ (λ did h e. record {
      screen_is = refl;
      fault_is = (h e).fault_is;
      sent = (h e).sent;
    }) c.compose.ensures.composed

pub returns-clause-idle : goal.returns-clause-idle
returns-clause-idle c =
    IfOk-weaker c.compose.result _ _
    (λ did h e. record {
      appended = (h e).appended;
      kept = draws c.args.self.now.screen c.args.self.now _ refl (h e).kept refl;
      not_due = (h e).not_due;
    })
    c.compose.ensures.idle

pub returns-clause-same : goal.returns-clause-same
returns-clause-same c =
    IfErr-weaker c.compose.result (λ _. KeepsSession c.args.self.now.session c.compose.new.self) _
    (λ _ kept. draws c.args.self.now.screen c.args.self.now _ refl kept refl) c.compose.ensures.same
