use Rattle.rfb_session.proofs.ShareBesideLemmas.{beside_joined, beside_left, beside_received}
use Rattle.rfb_session.proofs.ShareBesideLemmas.{beside_refused, beside_written, beside_composed}
use Rattle.rfb_session.proofs.ShareBesideLemmas.{beside_wanted}
use Rattle.rfb_session.proofs.law.viewers.a_seat_goes_on_beside_others.Goals as goal

pub returns : goal.returns
returns c = record {
  joined = λ old new joined k joins. beside_joined old new joined k joins;
  left = λ old new j k taken differ leaves. beside_left old new j k taken differ leaves;
  received = λ old new j k bytes told differ stays receives.
      beside_received old new j k bytes told differ stays receives;
  refused = λ old new j k bytes fault differ refuses.
      beside_refused old new j k bytes fault differ refuses;
  written = λ old new j k count differ writes. beside_written old new j k count differ writes;
  composed = λ old new j k told differ composes. beside_composed old new j k told differ composes;
  wanted = λ old new j k differ wants. beside_wanted old new j k differ wants;
}
