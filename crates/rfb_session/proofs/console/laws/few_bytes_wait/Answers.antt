use Rattle.rfb_session.proofs.BoundLemmas.{few_answers}
use Rattle.rfb_session.proofs.console.laws.few_bytes_wait.Goals as goal

pub returns : goal.returns
returns g c = record {
  notes = λ console. console.few_notes;
  answers = λ desk k none. few_answers desk.share k none;
}
