use Rattle.std.proofs.Common.{arith}
use Rattle.rfb_pixel.specs.bits.Lanes.{laned}
use Rattle.rfb_pixel.proofs.UnpackLemmas.{unpacked_more}
use Rattle.rfb_pixel.proofs.format.rows.unpack_eight_at.Goals as goal

pub returns-clause-unpacked : goal.returns-clause-unpacked
returns-clause-unpacked g c =
    unpacked_more (laned g.row.NUMBER) c.args.at c.laned_size-size.result c.args.bytes.now c.args.colours.now
    c.unpack_eight.new.colours _ c.laned_size-size.ensures c.unpack_eight.ensures.len (omega arith) c.requires.front
    c.unpack_eight.ensures.value
