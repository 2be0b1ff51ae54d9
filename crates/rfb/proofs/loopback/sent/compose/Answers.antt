use Rattle.std.proofs.Common.{◌∙◌, ap, refl, List, ℕ, ◌++◌}
use Rattle.rfb.proofs.ComposingLemmas.{composes_into}
use Rattle.rfb.proofs.loopback.sent.compose.Goals as goal

pub returns : goal.returns
returns c =
    let call = c.in_ok-compose.ensures in
    composes_into c.args.server.now c.compose.new.self c.new-update.result.items
    c.compose.new.out.items c.args.to_viewer.now.items c.write_all.new.self.items
    c.in_ok-compose.field-0 _ refl c.new-update.ensures.items call.composed call.idle call.spent
    call.hints call.failed
    (c.in_ok-write_all.ensures.bytes
    ∙ ap (λ (b : List ℕ). c.args.to_viewer.now.items ++ b) c.deref.ensures.value)
