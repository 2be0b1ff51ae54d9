use Rattle.rfb_pixel.specs.Format.{bgr233}
use Rattle.rfb_pixel.proofs.UnpackLemmas.{eight_colours}
use Rattle.rfb_pixel.proofs.Unpack233Lemmas.{shown}
use Rattle.rfb_pixel.proofs.lanes.bgr233.unpack_eight_bgr233.Goals as goal

pub returns-clause-value : goal.returns-clause-value
returns-clause-value c =
    let bytes = c.args.bytes.now in
    eight_colours bgr233 bytes c.write_eight.ensures
    (shown bytes 0 (c.type_inv.bytes 0))
    (shown bytes 1 (c.type_inv.bytes 1))
    (shown bytes 2 (c.type_inv.bytes 2))
    (shown bytes 3 (c.type_inv.bytes 3))
    (shown bytes 4 (c.type_inv.bytes 4))
    (shown bytes 5 (c.type_inv.bytes 5))
    (shown bytes 6 (c.type_inv.bytes 6))
    (shown bytes 7 (c.type_inv.bytes 7))
