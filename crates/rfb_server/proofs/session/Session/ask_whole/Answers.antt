use Rattle.std.proofs.Common.{true}
use Rattle.rfb_server.proofs.MarksLemmas.{alike_marked}
use Rattle.rfb_server.proofs.AskingLemmas.{alike_asked, caught_whole}
use Rattle.rfb_server.proofs.session.Session.ask_whole.Goals as goal

pub invariant_of-self-clause-alike : goal.invariant_of-self-clause-alike
invariant_of-self-clause-alike c =
    let s = c.args.self.now in
    alike_marked _ _ s.marks _ c.args.rect
    (rw (c.add.ensures.value) (alike_asked _ s.area _ c.args.rect true s.alike)) c.add-2.ensures.value

pub returns-clause-caught_up : goal.returns-clause-caught_up
returns-clause-caught_up c = λ screen size caught.
    let s = c.args.self.now in
    rw (c.add.ensures.value, c.add-2.ensures.value)
    (caught_whole screen _ s.area _ s.marks c.args.rect s.alike caught)
