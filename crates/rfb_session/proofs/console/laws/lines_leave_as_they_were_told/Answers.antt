use Rattle.rfb_session.proofs.LineHistoryLemmas.{tells_all}
use Rattle.rfb_session.proofs.console.laws.lines_leave_as_they_were_told.Goals as goal

pub returns : goal.returns
returns g c = λ old new happenings part read goes lasts. tells_all old new happenings part read goes lasts
