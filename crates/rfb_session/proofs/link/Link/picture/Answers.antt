use Rattle.rfb_session.proofs.ShownLemmas.{shown_due}
use Rattle.rfb_session.proofs.link.Link.picture.Goals as goal

pub returns-clause-due : goal.returns-clause-due
returns-clause-due c = λ e screen l stands none.
    shown_due e screen c.args.self.now l _ stands none c.picture.ensures.shows
