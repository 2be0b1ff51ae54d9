use Rattle.std.proofs.Common.{ℕ, List, subst}
use Rattle.rfb_wire.specs.ClientMessage.{SpellsClientMessage}
use Rattle.rfb_viewer.specs.Call.{message_of}
use Rattle.rfb_viewer.proofs.call.Call.append_to.Goals as goal

pub returns-clause-spelled : goal.returns-clause-spelled
returns-clause-spelled c =
    subst (λ (b : List ℕ). SpellsClientMessage (message_of c.args.self.now) b)
    c.message-message.ensures.value c.message-message.ensures.spelled
