use Rattle.rfb_session.proofs.RoundLawLemmas.{due_sent_or_left}
use Rattle.rfb_session.proofs.console.laws.an_update_that_is_due_is_composed.Goals as goal

pub returns : goal.returns
returns c = λ old new now slow stuck k seat turns shown enough within there going written due.
    due_sent_or_left old now slow stuck new turns k within seat shown enough there going written due
