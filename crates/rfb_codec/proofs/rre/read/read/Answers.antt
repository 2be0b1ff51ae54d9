use Rattle.rfb_codec.proofs.PaintRreLemmas.{subrect_read}
use Rattle.rfb_codec.proofs.rre.read.read.Goals as goal

pub returns : goal.returns
returns c =
    subrect_read c.args.format c.args.bytes.now c.size-size.result c.take.result c.read_u16.result c.read_u16-2.result
    c.read_u16-3.result c.read_u16-4.result c.size-size.ensures.value c.take.ensures c.read_u16.ensures
    c.read_u16-2.ensures c.read_u16-3.ensures c.read_u16-4.ensures
