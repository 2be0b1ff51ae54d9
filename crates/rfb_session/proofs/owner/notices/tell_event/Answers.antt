use Rattle.std.proofs.KnownBytes.{Appends-nil}
use Rattle.rfb_session.proofs.owner.notices.tell_event.Goals as goal

pub returns-in-Ready : goal.returns-in-Ready
returns-in-Ready g c = rw c.in-Ready.is (Appends-nil _)

pub returns-in-Key : goal.returns-in-Key
returns-in-Key g c = rw c.in-Key.is c.tell_key.ensures
