use Rattle.std.proofs.Common.{sym, ◌∙◌}
use Rattle.std.proofs.lemmas.Bool.{OnTrue_at, OnTrue_from, not-false}
use Rattle.rfb_server.proofs.TakenOverLemmas.{twins}
use Rattle.rfb_server.proofs.ComparedLemmas.{same_format}
use Rattle.rfb_server.proofs.session.Session.is_twin_of.Goals as goal

pub returns-then-asks_as : goal.returns-then-asks_as
returns-then-asks_as c =
    let s = c.args.self.now in
    let o = c.args.other.now in
    let asks = c.if-asks_as.ensures in
    OnTrue_from c.agrees.result _ (λ e screen about about_too. twins screen s o about about_too
    (sym c.is_ready.ensures ∙ c.if-not-is_ready.false) (sym c.is_idle.ensures ∙ c.if-not-is_idle.false)
    c.if-not-is_hinted_as.ensures
    (same_format s.format o.format (not-false _ (sym c.ne.ensures ∙ c.if-ne.false)))
    c.if-not-is_as.ensures asks.alike asks.all (OnTrue_at e c.agrees.ensures))
