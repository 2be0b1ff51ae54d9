-- Laws of Raw data that are painted: when they are all there, and what they stand for.
use Rattle.std.proofs.Common.{◌≡◌, ℕ, ◌<◌, List, length, ap}
use Rattle.rfb_pixel.specs.Format.{PixelFormat}
use Rattle.rfb_wire.specs.stream.Prefix.{More}
use Rattle.rfb_wire.specs.stream.Parts.{continue_with, done}
use Rattle.rfb_wire.proofs.stream_laws.PartLaws.{piece_short}
use Rattle.rfb_codec.specs.declared.fault.PaintFault.{PaintFault}
use Rattle.rfb_codec.specs.Pixels.{drawn}
use Rattle.rfb_codec.specs.Raw.{raw, raw_length, raw_pixel}

-- fewer bytes are waited with
pub raw_short : (f : PixelFormat) (w h : ℕ) (bytes : List ℕ) → length bytes < raw_length f w h → raw f w h bytes ≡ More
unfolding raw
raw_short f w h bytes fewer =
    ap (continue_with {F = PaintFault} (λ part. done (drawn w h (raw_pixel f w part))))
    (piece_short (raw_length f w h) bytes fewer)
