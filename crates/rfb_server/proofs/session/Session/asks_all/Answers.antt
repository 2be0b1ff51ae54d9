use Rattle.std.proofs.lemmas.Bool.{OnTrue_at, OnTrue_from}
use Rattle.rfb_server.proofs.TwinLemmas.{asks_plain}
use Rattle.rfb_server.proofs.session.Session.asks_all.Goals as goal

pub returns : goal.returns
returns c =
    OnTrue_from c.is_plain.result _ (λ e. asks_plain c.args.self.now c.args.whole c.if-whole.false
    c.if-not-asks_all.ensures (OnTrue_at e c.is_plain.ensures))
