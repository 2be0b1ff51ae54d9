use Rattle.std.proofs.Common.{arith}
use Rattle.rfb_session.proofs.RoundKeptLemmas.{first_kept}
use Rattle.rfb_session.proofs.RoundLawLemmas.{left_first, left_few, none_put_off, one_large}
use Rattle.rfb_session.proofs.console.laws.nobody_is_left_out_for_ever.Goals as goal

pub returns : goal.returns
returns g c = record {
  first = λ old new now slow stuck j k turns low within left served.
      left_first old now slow stuck new turns k within j low left served;
  kept = λ old new happening part read goes happens none.
      first_kept old new happening part read goes happens none;
  times = λ desk k times within left. omega (arith, left_few k within times desk left);
  one = λ old new now slow stuck j k turns low within first second.
      one_large old now slow stuck new turns j k low within first second;
  later = λ old new now slow stuck since turns began over.
      none_put_off old now slow stuck since new turns began over;
}
