use Rattle.std.proofs.Common.{◌*◌, take}
use Rattle.rfb_pixel.specs.Format.{ArePixels}
use Rattle.rfb_codec.specs.encoder.Encode.{PacksRows}
use Rattle.rfb_codec.proofs.block.pack_each_row.Given as goal

abbrev pub invariant-loop-y : goal.invariant-loop-y
invariant-loop-y l = record {
  packed : PacksRows l.format l.picture l.rect l.y (take (l.y * l.rect.w) l.pixels);
  fits : ArePixels l.format (take (l.y * l.rect.w) l.pixels);
}
