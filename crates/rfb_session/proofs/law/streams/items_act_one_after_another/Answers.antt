use Rattle.rfb_wire.proofs.stream_laws.EndLaws.{acts_append}
use Rattle.rfb_session.proofs.law.streams.items_act_one_after_another.Goals as goal

pub returns : goal.returns
returns g c = acts_append
