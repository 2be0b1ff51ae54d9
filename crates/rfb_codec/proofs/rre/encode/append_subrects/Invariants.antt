use Rattle.std.proofs.Common.{◌≡◌, ◌+◌, ◌*◌, ◌++◌, take, vec_len}
use Rattle.std.specs.List.{flat_map}
use Rattle.std.specs.Vec.{vec_capacity}
use Rattle.rfb_pixel.specs.Format.{size_of}
use Rattle.rfb_codec.specs.Choice.{subrect_bytes}
use Rattle.rfb_codec.proofs.rre.encode.append_subrects.Given as goal

abbrev pub invariant-loop-s : goal.invariant-loop-s
invariant-loop-s l = record {
  items : l.out.items ≡ l.fn.out.items ++ flat_map (subrect_bytes l.format) (take l.s-index l.subs);
  len : vec_len l.out ≡ vec_len l.fn.out + l.s-index * (size_of l.format + 8);
  room : vec_capacity l.out ≡ vec_capacity l.fn.out;
}
