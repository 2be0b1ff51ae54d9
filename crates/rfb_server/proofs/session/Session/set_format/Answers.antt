use Rattle.rfb_server.proofs.MarksLemmas.{alike_marked, caught_unseen}
use Rattle.rfb_server.proofs.AskingLemmas.{alike_forgotten, all_marked}
use Rattle.rfb_server.proofs.session.Session.set_format.Goals as goal

pub invariant_of-self-clause-alike : goal.invariant_of-self-clause-alike
invariant_of-self-clause-alike c =
    let s = c.args.self.now in
    alike_marked _ _ s.marks _ _ (alike_forgotten _ _ s.area s.marks s.alike c.forget.ensures.value) c.add.ensures.value

pub returns-clause-caught_up : goal.returns-clause-caught_up
returns-clause-caught_up c = λ screen size caught.
    let s = c.args.self.now in
    rw (c.add.ensures.value)
    (caught_unseen screen _ _ _ _
    (rw (c.width.ensures.value, c.height.ensures) (all_marked s.marks s.known.width s.known.height
    s.alike.marks_whole s.alike.marks_wide s.alike.marks_high)))
