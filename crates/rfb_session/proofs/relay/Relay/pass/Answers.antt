use Rattle.std.proofs.Common.{◌∙◌, List, ℕ, ap, subst, sym, take}
use Rattle.rfb_viewer.specs.Messages.{text_message}
use Rattle.rfb_session.specs.relay.Calls.{PassesOn}
use Rattle.rfb_session.proofs.relay.Relay.pass.Goals as goal

pub returns-in-Some-Key-clause-passes : goal.returns-in-Some-Key-clause-passes
returns-in-Some-Key-clause-passes g c =
    rw (c.if-self.false, sym c.if-not-is_shown.ensures, c.in-Some-Key.is, c.in-Some-Key.field-0-is)
    c.pass_call.ensures.passes

pub returns-in-Some-Pointer-clause-passes : goal.returns-in-Some-Pointer-clause-passes
returns-in-Some-Pointer-clause-passes g c =
    rw (c.if-self.false, sym c.if-not-is_shown.ensures, c.in-Some-Pointer.is, c.in-Some-Pointer.field-0-is)
    c.pass_call-in-Some-Pointer.ensures.passes

pub returns-in-Some-CutText-clause-passes : goal.returns-in-Some-CutText-clause-passes
returns-in-Some-CutText-clause-passes g c =
    rw (c.if-self.false, sym c.if-not-is_shown.ensures, c.in-Some-CutText.is, c.in-Some-CutText.field-0-is)
    (subst (λ (text : List ℕ). PassesOn (text_message text) c.args.self.now.console.desk
    c.pass_call-in-Some-CutText.new.self.console.desk c.args.self.now.to_server
    c.pass_call-in-Some-CutText.new.self.to_server c.args.self.now.console.outcome
    c.pass_call-in-Some-CutText.new.self.console.outcome)
    (c.beginning_of.ensures.value ∙ ap (λ (l : List ℕ). take 1048576 l) c.deref.ensures.value)
    c.pass_call-in-Some-CutText.ensures.passes)
