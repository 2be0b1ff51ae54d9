use Rattle.std.proofs.Common.{◌∙◌}
use Rattle.rfb_hello.proofs.PendingLemmas.{viewer_pending_is}
use Rattle.rfb_hello.proofs.viewer_hello.ViewerHello.pending.Goals as goal

pub returns-clause-value : goal.returns-clause-value
returns-clause-value c = λ setup point prefix stands. c.part.ensures.value
    ∙ viewer_pending_is setup.text_limit c.args.self.now.progress point prefix stands.progress_is
