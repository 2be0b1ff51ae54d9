use Rattle.rfb_session.proofs.LineHistoryLemmas.{obeyed, fresh_read}
use Rattle.rfb_session.proofs.console.laws.lines_are_obeyed_however_they_come.Goals as goal

pub returns : goal.returns
returns g c = record {
  begins = λ console fresh. fresh_read console fresh;
  obeyed = λ old new happenings part read goes still lasts.
      obeyed old new happenings part read goes still lasts;
}
