use Rattle.rfb_session.proofs.PixmapLemmas.{colour_bytes}
use Rattle.rfb_session.proofs.engine.pixmap.bytes_of.Goals as goal

pub returns : goal.returns
returns c =
    colour_bytes c.args.colour c.to_be_bytes.result c.to_be_bytes-2.result c.to_be_bytes-3.result
    c.to_be_bytes.ensures c.to_be_bytes-2.ensures c.to_be_bytes-3.ensures
