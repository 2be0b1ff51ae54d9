use Rattle.std.proofs.Common.{sym, ◌∙◌}
use Rattle.std.proofs.lemmas.Bool.{OnTrue_at, OnTrue_from, not-false}
use Rattle.rfb_server.proofs.ComparedLemmas.{same_format}
use Rattle.rfb_server.proofs.TwinLemmas.{shown_alike}
use Rattle.rfb_server.proofs.session.Session.knows_as.Goals as goal

pub returns : goal.returns
returns c =
    let s = c.args.self.now in
    let o = c.args.other.now in
    OnTrue_from c.is_shown-2.result _ (λ e screen about about_too. shown_alike screen s o about about_too
    (same_format s.format o.format (not-false _ (sym c.ne.ensures ∙ c.if-ne.false)))
    c.if-not-is_shown.ensures (OnTrue_at e c.is_shown-2.ensures))
