use Rattle.rfb_session.proofs.ToldLemmas.{refused_nothing}
use Rattle.rfb_session.proofs.law.a_refused_event_changes_nothing.Goals as goal

pub returns : goal.returns
returns c = λ e old new event told refused steps tells some.
    refused_nothing e old new event told.refused refused steps tells.refused some
