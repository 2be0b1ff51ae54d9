use Rattle.std.proofs.Common.{true, false, ◌∙◌, sym}
use Rattle.std.proofs.lemmas.Bool.{OnTrue_at, OnTrue_from}
use Rattle.rfb_server.proofs.TwinLemmas.{same_asked}
use Rattle.rfb_server.proofs.session.Session.asks_as.Goals as goal

pub returns-then-asks_all-clause-alike : goal.returns-then-asks_all-clause-alike
returns-then-asks_all-clause-alike c =
    OnTrue_from c.asks_all-then-asks_all.result _ (λ e. same_asked c.args.self.now c.args.other.now false
    (sym c.width.ensures.value ∙ (c.if-width.false ∙ c.width-2.ensures.value))
    (sym c.height.ensures ∙ (c.if-height.false ∙ c.height-else-width.ensures)) c.if-asks_all.ensures
    (OnTrue_at e c.asks_all-then-asks_all.ensures))

pub returns-then-asks_all-2-clause-alike : goal.returns-then-asks_all-2-clause-alike
returns-then-asks_all-2-clause-alike c =
    OnTrue_from c.asks_all-then-asks_all-2.result _ (λ e. same_asked c.args.self.now c.args.other.now true
    (sym c.width.ensures.value ∙ (c.if-width.false ∙ c.width-2.ensures.value))
    (sym c.height.ensures ∙ (c.if-height.false ∙ c.height-else-width.ensures)) c.if-asks_all-2.ensures
    (OnTrue_at e c.asks_all-then-asks_all-2.ensures))
