use Rattle.std.proofs.Common.{◌∙◌}
use Rattle.rfb_hello.proofs.PendingLemmas.{server_pending_is}
use Rattle.rfb_hello.proofs.server_hello.ServerHello.pending.Goals as goal

pub returns-clause-value : goal.returns-clause-value
returns-clause-value c = λ setup point prefix stands. c.part.ensures.value
    ∙ server_pending_is c.args.self.now.progress point prefix stands.progress_is
