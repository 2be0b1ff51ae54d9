use Rattle.std.proofs.Common.{List, ℕ, subst}
use Rattle.rfb_session.specs.relay.Server.{Begins}
use Rattle.rfb_session.proofs.RelayBeginLemmas.{begins_named}
use Rattle.rfb_session.proofs.relay.Relay.meet.Goals as goal

pub returns-in-Some-Ready-clause-meets : goal.returns-in-Some-Ready-clause-meets
returns-in-Some-Ready-clause-meets g c =
    rw (c.in-Some-Ready.is, c.in-Some-Ready.field-0-is)
    (begins_named c.args.self.now c.take_name.new.self c.args.viewer c.in-Some-Ready.reply.items c.in-Some-Ready.width
    c.in-Some-Ready.height c.begin.new.self c.take_name.ensures.keeps
    (subst (λ (l : List ℕ). Begins c.take_name.new.self c.args.viewer l c.in-Some-Ready.width c.in-Some-Ready.height
    c.begin.new.self) c.as_slice-in-Some-Ready.ensures.value c.begin.ensures.begins))

pub returns-in-Some-UpdateDone-clause-meets : goal.returns-in-Some-UpdateDone-clause-meets
returns-in-Some-UpdateDone-clause-meets g c =
    rw (c.in-Some-UpdateDone.is, c.in-Some-UpdateDone.field-0-is) c.open.ensures.opens
