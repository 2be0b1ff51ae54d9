use Rattle.std.proofs.Common.{refl}
use Rattle.rfb_session.proofs.owner.reader.OwnerReader.after_pixels.Goals as goal

pub returns-in-Ok : goal.returns-in-Ok
returns-in-Ok c = (c.in-Ok.ensures.rect, c.in-Ok.ensures.none, c.if-not-holds.ensures.0 refl)

pub returns-in-Err : goal.returns-in-Err
returns-in-Err c = (c.data_length-in-Err.ensures, c.if-not-holds.ensures.0 refl)
