use Rattle.std.proofs.Common.{sym, ◌∙◌}
use Rattle.std.proofs.lemmas.Bool.{OnTrue_at, OnTrue_from}
use Rattle.rfb_server.proofs.ComparedLemmas.{same_rect}
use Rattle.rfb_server.proofs.TwinLemmas.{agree_boxed}
use Rattle.rfb_server.proofs.session.Session.agrees_in.Goals as goal

pub returns-then-eq : goal.returns-then-eq
returns-then-eq c =
    let in_both = c.in-Some-Some in
    OnTrue_from c.has_same.result _ (λ e. agree_boxed c.args.self.now c.args.other.now c.args.cell in_both.here
    in_both.there in_both.ensures in_both.ensures'
    (same_rect in_both.here in_both.there (sym c.eq.ensures ∙ c.if-eq.true))
    (OnTrue_at e c.has_same.ensures))
