use Rattle.std.proofs.Common.{None, refl}
use Rattle.rfb_session.proofs.owner.reader.OwnerReader.new.Goals as goal

pub returns : goal.returns
returns c = (c.new.ensures None, refl)
