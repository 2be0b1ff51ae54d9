use Rattle.std.proofs.Common.{◌≡◌, subst, sym, ap, ◌∙◌}
use Rattle.rfb_server.specs.declared.session.Session.{Session}
use Rattle.rfb_server.specs.Late.{entered, session_of_stage}
use Rattle.rfb_server.specs.Twins.{AreTwins, HasSentTwin}
use Rattle.rfb_server.specs.UpdateCall.{SendsUpdate}
use Rattle.rfb_server.proofs.TakenOverLemmas.{enters_unsent}
use Rattle.rfb_server.proofs.late.LateSession.take_over.Goals as goal

pub unreachable-requires : goal.unreachable-requires
unreachable-requires c =
    let entrance = c.in-Entering-stage.field-0 in
    let is : c.args.sent.now ≡ entered entrance =
    sym c.sent.view_is ∙ ap session_of_stage c.in-Entering-stage.is in
    enters_unsent c.args.screen.now c.args.self.now entrance c.requires.follows
    (subst (λ (s : Session). HasSentTwin c.args.screen.now c.args.self.now s) is c.requires.sent)

pub returns-clause-sends : goal.returns-clause-sends
returns-clause-sends c = λ was before after twins sends.
    let mine : c.args.self.now ≡ c.in-Within.session = sym c.self.view_is ∙ ap session_of_stage c.in-Within.is in
    let theirs : c.args.sent.now ≡ c.in-Within-stage.sent =
    sym c.sent.view_is ∙ ap session_of_stage c.in-Within-stage.is in
    subst (λ (s : Session). SendsUpdate c.args.screen.now s c.take_over.new.self before after) (sym mine)
    (c.take_over.ensures.sends was before after (subst (λ (s : Session). AreTwins was s) mine twins)
    (subst (λ (s : Session). SendsUpdate c.args.screen.now was s before after) theirs sends))

pub returns-clause-known : goal.returns-clause-known
returns-clause-known c =
    let theirs : c.args.sent.now ≡ c.in-Within-stage.sent =
    sym c.sent.view_is ∙ ap session_of_stage c.in-Within-stage.is in
    c.take_over.ensures.known ∙ ap (λ (s : Session). s.known) (sym theirs)
