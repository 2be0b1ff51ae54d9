use Rattle.rfb_session.proofs.WakeLemmas.{sleeps, holds_on}
use Rattle.rfb_session.proofs.console.laws.no_end_is_slept_past.Goals as goal

pub returns : goal.returns
returns c = record {
  viewers = λ old new now slow stuck k time turns within before.
      sleeps old now slow stuck new turns k within time before;
  hold = λ old new now slow stuck time turns held later before.
      holds_on old now slow stuck new turns held time later before;
}
