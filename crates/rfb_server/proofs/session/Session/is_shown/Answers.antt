use Rattle.std.proofs.lemmas.Bool.{OnTrue_from}
use Rattle.rfb_server.proofs.TwinLemmas.{shown_by}
use Rattle.rfb_server.proofs.session.Session.is_shown.Goals as goal

pub returns : goal.returns
returns c =
    OnTrue_from c.is_none.result _ (λ e. shown_by c.args.self.now c.next_cell.result c.is_none.result
    c.next_cell.ensures c.is_none.ensures e)
