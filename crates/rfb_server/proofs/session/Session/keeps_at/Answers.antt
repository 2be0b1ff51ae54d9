use Rattle.std.proofs.Common.{sym, ◌∙◌, ap, Some}
use Rattle.std.proofs.lemmas.Bool.{OnTrue_from}
use Rattle.rfb_server.specs.declared.hint.Hint.{Hint}
use Rattle.rfb_server.proofs.ComparedLemmas.{same_hint}
use Rattle.rfb_server.proofs.session.Session.keeps_at.Goals as goal

pub returns-in-Some : goal.returns-in-Some
returns-in-Some c =
    OnTrue_from c.eq.result _ (λ e. sym c.in-Some.ensures
    ∙ ap (λ (h : Hint). Some h) (same_hint c.in-Some.kept.now c.args.hint.now (sym c.eq.ensures ∙ e)))
