use Rattle.rfb_session.proofs.PixmapLemmas.{components_eight}
use Rattle.rfb_session.proofs.engine.pixmap.components_of.Goals as goal

pub returns : goal.returns
returns c =
    components_eight c.args.colours.now (record { r = 0; g = 0; b = 0 }) c.bytes_of-a.result
    c.bytes_of-b.result c.bytes_of-c.result c.bytes_of-d.result c.bytes_of-e.result
    c.bytes_of-f.result c.bytes_of-g.result c.bytes_of-h.result c.requires c.bytes_of-a.ensures
    c.bytes_of-b.ensures c.bytes_of-c.ensures c.bytes_of-d.ensures c.bytes_of-e.ensures
    c.bytes_of-f.ensures c.bytes_of-g.ensures c.bytes_of-h.ensures
