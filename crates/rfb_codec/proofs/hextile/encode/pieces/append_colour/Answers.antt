use Rattle.std.proofs.Common.{arith}
use Rattle.rfb_codec.proofs.PixelLemmas.{length-pixel_bytes}
use Rattle.rfb_codec.proofs.hextile.encode.pieces.append_colour.Goals as goal

pub append_pixel-requires : goal.append_pixel-requires
append_pixel-requires c =
    let room = rw c.in-Some.is at c.requires in
    let size = length-pixel_bytes c.args.format.now c.in-Some.pixel in
    omega (arith, room, size)
