use Rattle.std.proofs.Common.{◌≡◌, ◌+◌, ◌-◌, ◌*◌, ◌≤◌, ◌++◌, length, take, vec_len}
use Rattle.std.specs.List.{flat_map}
use Rattle.std.specs.Vec.{vec_capacity}
use Rattle.rfb_pixel.specs.Format.{pixel_bytes, size_of}
use Rattle.rfb_codec.proofs.raw.encode.RawCodec.encode.Given as goal

abbrev pub invariant-loop-start : goal.invariant-loop-start
invariant-loop-start l = record {
  items : l.out.items ≡ l.fn.out.items ++ flat_map (pixel_bytes l.format) (take l.start l.pixels);
  len : vec_len l.out ≡ vec_len l.fn.out + l.start * size_of l.format;
  within : l.start ≤ length l.pixels;
  room : vec_capacity l.out ≡ vec_capacity l.fn.out;
}

abbrev pub decreases-loop-start : goal.decreases-loop-start
decreases-loop-start l = length l.pixels - l.start
