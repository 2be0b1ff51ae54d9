use Rattle.rfb_codec.proofs.TakenLaws.{not_given_up}
use Rattle.rfb_codec.proofs.law.choices.what_is_sent_shorter_is_not_given_up.Goals as goal

pub returns : goal.returns
returns c = not_given_up
