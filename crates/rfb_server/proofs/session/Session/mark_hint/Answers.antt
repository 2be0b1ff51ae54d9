use Rattle.std.proofs.Common.{◌≡◌, Some, ◌∙◌, subst}
use Rattle.rfb_server.specs.declared.hint.Hint.{Hint}
use Rattle.rfb_server.specs.update.Copies.{IsMarkedFor}
use Rattle.rfb_server.proofs.CopiedLemmas.{about_marked, keeps_marked, marked_for}
use Rattle.rfb_server.proofs.session.Session.mark_hint.Goals as goal

pub returns-then-holds-clause-about : goal.returns-then-holds-clause-about
returns-then-holds-clause-about c =
    about_marked c.args.screen.now c.args.self.now c.mark.new.self _ c.requires c.mark.ensures

pub returns-then-holds-clause-more : goal.returns-then-holds-clause-more
returns-then-holds-clause-more c = keeps_marked c.args.self.now c.mark.new.self _ c.mark.ensures

pub returns-then-holds-clause-marked : goal.returns-then-holds-clause-marked
returns-then-holds-clause-marked c = λ hint this.
    let found : Some c.in-Some.hint.now ≡ Some hint = c.in-Some.ensures ∙ this in
    let is : c.in-Some.hint.now ≡ hint = cc in
    subst (λ (h : Hint). IsMarkedFor c.args.screen.now c.mark.new.self h) is
    (marked_for c.args.screen.now c.args.self.now c.mark.new.self c.in-Some.hint.now c.requires c.mark.ensures)
