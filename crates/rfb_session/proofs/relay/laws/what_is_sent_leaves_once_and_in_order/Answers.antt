use Rattle.rfb_session.proofs.RelayGoneLemmas.{stays_gone}
use Rattle.rfb_session.proofs.RelayHistoryLemmas.{fresh_sent, again_sent, sends_all, forgets}
use Rattle.rfb_session.proofs.RelayLeaveLemmas.{leaves}
use Rattle.rfb_session.proofs.relay.laws.what_is_sent_leaves_once_and_in_order.Goals as goal

pub returns : goal.returns
returns g c = record {
  begins = λ setup relay fresh. fresh_sent setup relay fresh;
  again = λ old new from opens. again_sent old new from opens;
  sends = λ old new happenings before has kept goes there lasts.
      sends_all old new happenings before has kept goes there lasts;
  forgets = λ old new happenings before has kept goes gone lasts.
      forgets old new happenings before has kept goes gone lasts;
  leaves = λ old new happening there happens gone room. leaves old new happening there happens gone room;
  silent = λ old new happenings gone kept goes lasts. stays_gone old new happenings gone kept goes lasts;
}
