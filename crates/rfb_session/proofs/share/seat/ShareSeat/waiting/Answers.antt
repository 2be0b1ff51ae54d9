use Rattle.rfb_session.proofs.ShareFitLemmas.{few_waiting}
use Rattle.rfb_session.proofs.share.seat.ShareSeat.waiting.Goals as goal

pub returns-clause-few : goal.returns-clause-few
returns-clause-few c = λ none.
    few_waiting c.args.self.now.waiting c.kept.result.now _ c.args.self.now.written
    c.kept.ensures c.args.self.now.few none
