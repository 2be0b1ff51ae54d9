use Rattle.std.proofs.Common.{◌≡◌, ◌*◌, take}
use Rattle.std.specs.List.{flat_map}
use Rattle.rfb_pixel.specs.Format.{pixel_bytes}
use Rattle.rfb_codec.proofs.raw.encode.put_each.Given as goal

abbrev pub invariant-loop-i : goal.invariant-loop-i
invariant-loop-i l = take (l.i * l.size) l.bytes ≡ flat_map (pixel_bytes l.kept) (take l.i l.pixels)
