use Rattle.std.proofs.Common.{rules}
use Rattle.rfb_server.proofs.MarksLemmas.{alike_marked, follows_drawn, follows_hinted}
use Rattle.rfb_server.proofs.session.Session.notified.Goals as goal

pub invariant_of-self-clause-alike : goal.invariant_of-self-clause-alike
invariant_of-self-clause-alike c =
    alike_marked _ _ c.args.self.now.marks _ c.args.notice.now.area c.args.self.now.alike c.add.ensures.value

pub returns-in-Some-clause-follows : goal.returns-in-Some-clause-follows
returns-in-Some-clause-follows c = λ before after follows told.
    follows_hinted _ c.keep_hint.new.self c.in-Some.hint after c.keep_hint.ensures
    (follows_drawn c.args.self.now _ before after c.args.notice.now.area
    (search rules) c.add.ensures.value follows told.whole told.outside
    (c.claim_after-self.ensures before after follows told))

pub returns-in_default-clause-follows : goal.returns-in_default-clause-follows
returns-in_default-clause-follows c = λ before after follows told.
    follows_drawn c.args.self.now _ before after c.args.notice.now.area
    (search rules) c.add.ensures.value follows told.whole told.outside
    (c.claim_after-self.ensures before after follows told)
