use Rattle.std.proofs.Common.{false}
use Rattle.rfb_server.proofs.AskingLemmas.{alike_asked, caught_asked}
use Rattle.rfb_server.proofs.session.Session.ask.Goals as goal

pub invariant_of-self-clause-alike : goal.invariant_of-self-clause-alike
invariant_of-self-clause-alike c =
    let s = c.args.self.now in
    rw (c.add.ensures.value) (alike_asked _ s.area _ c.args.rect false s.alike)

pub returns-clause-caught_up : goal.returns-clause-caught_up
returns-clause-caught_up c = λ screen size caught.
    rw (c.add.ensures.value) (caught_asked screen _ c.args.self.now.area _ _ c.args.rect caught)
